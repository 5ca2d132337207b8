-- A state that has read one argument more stands for the same configuration.
use Rattle.std.proofs.Common.{◌≡◌, ℕ, zero, suc, ◌≤◌, ℤ, pos, List, [], ◌∷◌, ◌++◌, length, length-append, take, slice_get, Some, refl, sym, ap, subst, ◌∙◌, arith}
use Rattle.std.proofs.lemmas.List.{map-append}
use Rattle.std.proofs.Math.Seq.{get_or-append_seam}
use Rattle.kb_heap.specs.declared.bounds.Bounds.{Bounds}
use Rattle.kb_heap.specs.declared.heap.Input.{Input}
use Rattle.kb_heap.specs.declared.heap.Value.{Value}
use Rattle.kb_heap.specs.declared.heap.Value.TheVariants.{Int as IntValue}
use Rattle.kb_classes.specs.World.{World}
use Rattle.kb_names.specs.declared.types.JType.{JType}
use Rattle.kb_semantics.specs.Config.{Config}
use Rattle.kb_semantics.specs.Step.{first_heap}
use Rattle.kb_terms.specs.declared.node.TermId.{TermId}
use Rattle.kb_terms.specs.declared.node.VarKind.{VarKind}
use Rattle.kb_terms.specs.declared.node.Node.{Node}
use Rattle.kb_terms.specs.declared.node.Node.TheVariants.{Var}
use Rattle.kb_terms.specs.Terms.{int_at, value_of, variables_of}
use Rattle.kb_terms.proofs.Entries.{slice_get-append-end}
use Rattle.kb_terms.proofs.Growth.{extends-more}
use Rattle.kb_terms.proofs.Values.{value_of-extends, value_of-variable}
use Rattle.kb_picture.specs.declared.picture.Origin.TheVariants.{Arg}
use Rattle.kb_picture.specs.declared.picture.PlaceLists.{PlaceLists}
use Rattle.kb_picture.specs.Endings.{Reading}
use Rattle.kb_picture.specs.Growth.{after_int_read}
use Rattle.kb_picture.specs.Instances.{variable_values}
use Rattle.kb_picture.specs.Queries.{kind_for}
use Rattle.kb_picture.specs.WellFormed.{variables_seen}
use Rattle.kb_frames.specs.declared.state.Stage.{Stage}
use Rattle.kb_frames.specs.declared.state.Stage.TheVariants.{Begins, Runs}
use Rattle.kb_frames.specs.declared.value.SymValue.{SymValue}
use Rattle.kb_frames.specs.declared.value.SymValue.TheVariants.{Int}
use Rattle.kb_frames.specs.Cuts.{setting_of}
use Rattle.kb_frames.specs.FirstReads.{first_int}
use Rattle.kb_frames.specs.Lent.{read_count}
use Rattle.kb_frames.specs.Next.{argument_next}
use Rattle.kb_frames.specs.StandsFor.{IsIndexNext, IsInstanceOf, StageStandsFor, StandsFor, reading_at, value_of_sym, values_of_sym}
use Rattle.kb_frames.specs.State.{State}
use Rattle.kb_frames.specs.States.{IsBeginning, IsStage, IsState}
use Rattle.kb_stepint.specs.Takes.{reads_argument}
use Rattle.kb_frames.proofs.ChosenLaws.{begins_chosen}
use Rattle.kb_ways.proofs.OneInstances.{hold_last, many_values, read_met, shape_more, value_inputs, variables_more}
use Rattle.kb_ways.proofs.OutcomeValues.{IsLater, heap_later, values_later}
use Rattle.kb_picture.specs.declared.picture.Seen.TheVariants as seens

take_more : {A : Type 0} (xs : List A) (n : ℕ) (x : A) → slice_get xs n ≡ Some x → take n xs ++ x ∷ [] ≡ take (suc n) xs
take_more [] n x e = absurd cc
take_more (y ∷ xs) zero x e = (let same : y ≡ x = cc in ap (λ (z : _). z ∷ []) (sym same))
take_more (y ∷ xs) (suc n) x e = ap (λ (l : List _). y ∷ l) (take_more xs n x e)

module _ (world : World) (bounds : Bounds) (old : State) (sound : IsState world old) (input : Input) (c : Config) (stands : StandsFor (setting_of world bounds) old input c)
    (read : List SymValue) (is : old.stage ≡ Begins read) (kind : VarKind) where
  abbrev places : PlaceLists
  places = stands.instance_of.shape.places

  abbrev variable : ℕ
  variable = variables_of old.nodes

  abbrev nodes : List Node
  nodes = old.nodes ++ Var variable kind ∷ []

  abbrev term : TermId
  term = record { 0 = length old.nodes }

  abbrev variables : List ℤ
  variables = variable_values old.picture input places.objects

  abbrev new : State
  new = record old { stage = Begins (read ++ Int term ∷ []); picture = after_int_read old.picture (Arg (length read)); nodes = nodes }

  module _ (z : ℤ) (at : slice_get input.args (length read) ≡ Some (IntValue z)) where
    variables_are : variable_values new.picture input places.objects ≡ variables ++ z ∷ []
    variables_are = variables_more old.picture input places.objects (length read) z at

    later : IsLater (reading_at world old input places) (reading_at world new input places) old.nodes
    unfolding reading_at value_of
    later = record {
      places = refl;
      inputs = refl;
      literals = refl;
      terms = λ t there.
          ap (λ (vs : List ℤ). value_of nodes t vs) variables_are
          ∙ value_of-extends old.nodes nodes t (variables ++ z ∷ []) (extends-more old.nodes (Var variable kind)) there
          ∙ value_inputs old.nodes t variables (z ∷ []) sound.pool enough;
    } where
      enough : variables_of old.nodes ≤ length variables
      enough = (let many = many_values world old input places.objects sound in omega (arith, many))

    -- the new variable has the argument's value
    argument_value : value_of_sym (reading_at world new input places) (Int term) ≡ IntValue z
    unfolding reading_at value_of
    argument_value =
        let many : variable ≡ length variables = many_values world old input places.objects sound in
        let there : slice_get nodes (length old.nodes) ≡ Some (Var variable kind) = slice_get-append-end old.nodes (Var variable kind) [] in
        ap (λ (vs : List ℤ). IntValue (value_of nodes term vs)) variables_are
        ∙ ap IntValue (value_of-variable nodes term variable kind (variables ++ z ∷ []) there ∙ ap (λ (i : ℕ). int_at (variables ++ z ∷ []) i) many ∙ get_or-append_seam variables z [] (pos 0))

    beginning : IsBeginning world old read
    beginning = subst (IsStage world old) is sound.stage

    begins : StageStandsFor (reading_at world old input places) input (Begins read) c
    begins = subst (λ (stage : Stage). StageStandsFor (reading_at world old input places) input stage c) is stands.stage

    read_values : values_of_sym (reading_at world new input places) (read ++ Int term ∷ []) ≡ take (length (read ++ Int term ∷ [])) input.args
    read_values =
        let r' : Reading = reading_at world new input places in
        let count : suc (length read) ≡ length (read ++ Int term ∷ []) = omega (arith, length-append read (Int term ∷ [])) in
        map-append (value_of_sym r') read (Int term ∷ [])
        ∙ ap (λ (l : List Value). l ++ value_of_sym r' (Int term) ∷ []) (values_later world old (reading_at world old input places) r' later read beginning.values ∙ begins.1)
        ∙ ap (λ (v : Value). take (length read) input.args ++ v ∷ []) argument_value
        ∙ take_more input.args (length read) (IntValue z) at
        ∙ ap (λ (n : ℕ). take n input.args) count

    new_stands : StandsFor (setting_of world bounds) new input c
    unfolding after_int_read reading_at
    new_stands = record {
      run = stands.run;
      instance_of = record {
        shape = shape_more old.picture input (length read) (length (variables_seen old.picture)) z at stands.instance_of.shape;
        conditions = read_met world old input kind (length read) z sound at stands.instance_of;
      };
      stage = (begins.0, read_values);
      heap = heap_later world old new (reading_at world old input places) (reading_at world new input places) (first_heap world input.heap) c.heap later sound.cells sound.made refl refl stands.heap;
      written = λ slot inside. (
        (λ has. (let k = (stands.written slot inside).0 has in record { object = k.object; place = k.place; value = k.value; cell = k.cell })),
        (λ k. (stands.written slot inside).1 (record { object = k.object; place = k.place; value = k.value; cell = k.cell })),
      );
      chosen = begins_chosen world old read is sound.chosen (IsIndexNext world (reading_at world new input places) new);
    }

  -- what an instance holds is the int
  new_is : IsInstanceOf new input → StandsFor (setting_of world bounds) new input c
  unfolding after_int_read
  new_is i = (let last = hold_last input i.shape.places.objects old.picture.seen (Arg (length read), seens.Int (length (variables_seen old.picture))) i.shape.seen in new_stands last.0 last.1)

  abbrev after : Stage → State
  after stage = first_int (Arg (read_count stage)) kind (record old { stage = stage })

  pub read_is : IsInstanceOf (after old.stage) input → StandsFor (setting_of world bounds) (after old.stage) input c
  read_is i = subst (λ (stage : Stage). IsInstanceOf (after stage) input → StandsFor (setting_of world bounds) (after stage) input c) (sym is) new_is i

-- Only a run that begins reads an argument.
pub reads_is : (world : World) (bounds : Bounds) (old : State) (input : Input) (c : Config) (type : JType) → IsState world old → StandsFor (setting_of world bounds) old input c
    → argument_next world old.method old.stage ≡ Some type → IsInstanceOf (reads_argument old type).state input → StandsFor (setting_of world bounds) (reads_argument old type).state input c
reads_is world bounds old input c type sound stands e i = go old.stage refl e where
  go : (stage : Stage) → old.stage ≡ stage → argument_next world old.method stage ≡ Some type → StandsFor (setting_of world bounds) (reads_argument old type).state input c
  go (Begins read) is e = read_is world bounds old sound input c stands read is (kind_for (Some type)) i
  go (Runs frame callers) is e = absurd cc
