-- Instances of a state that has an earlier one's picture, and of one that has read one argument more.
use Rattle.std.proofs.Common.{◌≡◌, ℕ, zero, suc, ◌≤◌, ℤ, Bool, false, List, [], ◌∷◌, ◌++◌, length, slice_get, Option, Some, refl, sym, ap, subst, ◌∙◌, arith}
use Rattle.std.specs.List.{cons_option, filter_map}
use Rattle.std.proofs.lemmas.List.Elements.{filter_map-append}
use Rattle.kb_blast.specs.Meaning.{AreMetInPool}
use Rattle.kb_blast.specs.Query.{kinds_of}
use Rattle.kb_heap.specs.declared.heap.Heap.{Heap}
use Rattle.kb_heap.specs.declared.heap.Input.{Input}
use Rattle.kb_heap.specs.declared.heap.Value.{Value}
use Rattle.kb_heap.specs.declared.heap.Value.TheVariants.{Int as IntValue}
use Rattle.kb_classes.specs.World.{World}
use Rattle.kb_names.specs.declared.types.JType.{JType}
use Rattle.kb_names.specs.declared.types.JType.TheVariants as types
use Rattle.kb_semantics.specs.Values.{IsValueOf, AreValuesOf}
use Rattle.kb_terms.specs.declared.node.TermId.{TermId}
use Rattle.kb_terms.specs.declared.node.VarKind.{VarKind}
use Rattle.kb_terms.specs.declared.node.Node.{Node}
use Rattle.kb_terms.specs.declared.node.Node.TheVariants.{Var}
use Rattle.kb_terms.specs.Terms.{Extends, IsPool, int_at, value_of, variables_of}
use Rattle.kb_terms.proofs.Growth.{extends-more}
use Rattle.kb_picture.specs.declared.picture.Origin.{Origin}
use Rattle.kb_picture.specs.declared.picture.Origin.TheVariants.{Arg}
use Rattle.kb_picture.specs.declared.picture.Seen.{Seen}
use Rattle.kb_picture.specs.declared.picture.Seen.TheVariants as seens
use Rattle.kb_picture.specs.declared.picture.Picture.{Picture}
use Rattle.kb_picture.specs.declared.picture.PlaceLists.{PlaceLists}
use Rattle.kb_picture.specs.Growth.{after_int_read}
use Rattle.kb_picture.specs.Instances.{variable_value, variable_values}
use Rattle.kb_picture.specs.Laws.{with_seen}
use Rattle.kb_picture.specs.Places.{slot_value}
use Rattle.kb_picture.specs.Queries.{kinds_seen}
use Rattle.kb_picture.specs.Shapes.{HasShape, HoldEach, HoldsSeen}
use Rattle.kb_picture.specs.WellFormed.{variable_seen, variables_seen}
use Rattle.kb_picture.proofs.PlaceLaws.{places_seen}
use Rattle.kb_picture.proofs.ShapeLaws.{same_places}
use Rattle.kb_frames.specs.FirstReads.{first_int}
use Rattle.kb_frames.specs.Lent.{read_count}
use Rattle.kb_picture.specs.WellTyped.{is_reference_type}
use Rattle.kb_frames.specs.StandsFor.{IsInstanceOf}
use Rattle.kb_frames.specs.State.{State}
use Rattle.kb_frames.specs.States.{IsState}
use Rattle.kb_frames.proofs.FormedPaths.{variables-same}
use Rattle.kb_ways.proofs.OneAsked.{AreTermsOf, conditions_there, met_later, met_earlier}
use Rattle.kb_ways.proofs.ValueLaws.{VariablesBelow, enough_below, inputs_behind, pool_below}

-- ---- with the same picture

-- the variables of a picture have the same values at each shape
pub same_variables : (old : Picture) (input : Input) (shape : HasShape old input) (picture : Picture) → picture ≡ old → (other : HasShape picture input)
    → variable_values old input shape.places.objects ≡ variable_values picture input other.places.objects
same_variables old input shape picture same =
    subst (λ (p : Picture). (other : HasShape p input) → variable_values old input shape.places.objects ≡ variable_values p input other.places.objects) (sym same)
    (λ other. ap (λ (l : PlaceLists). variable_values old input l.objects) (sym (same_places old input shape.places shape.placed other)))

-- an input is an instance exactly where it has the shape, and meets the conditions on the earlier terms
module _ (picture : Picture) (nodes : List Node) (when : List (TermId × Bool)) (terms : AreTermsOf nodes when) (new : State) (input : Input)
    (same : new.picture ≡ picture) (alike : new.when ≡ when) (more : Extends nodes new.nodes) (shape : HasShape picture input) where
  abbrev variables : List ℤ
  variables = variable_values picture input shape.places.objects

  pub met_of_instance : IsInstanceOf new input → AreMetInPool nodes variables when
  met_of_instance i =
      met_earlier nodes new.nodes variables when more terms
      (subst (AreMetInPool new.nodes variables) alike (subst (λ (vs : List ℤ). AreMetInPool new.nodes vs new.when) (sym (same_variables picture input shape new.picture same i.shape)) i.conditions))

  pub instance_of_met : AreMetInPool nodes variables when → IsInstanceOf new input
  instance_of_met met =
      let here : HasShape new.picture input = subst (λ (p : Picture). HasShape p input) (sym same) shape in
      record {
        shape = here;
        conditions = subst (λ (vs : List ℤ). AreMetInPool new.nodes vs new.when) (same_variables picture input shape new.picture same here)
            (subst (AreMetInPool new.nodes variables) (sym alike) (met_later nodes new.nodes variables when more terms met));
      }

-- ---- with one argument more

pub hold_more : (input : Input) (places : List ℕ) (seen : List (Origin × Seen)) (slot : Origin × Seen) → HoldEach input places seen → HoldsSeen input.heap places (slot_value input places slot.0) slot.1
    → HoldEach input places (seen ++ slot ∷ [])
hold_more input places [] slot each here = (here, tt)
hold_more input places (first ∷ seen) slot each here = (each.0, hold_more input places seen slot each.1 here)

pub hold_last : (input : Input) (places : List ℕ) (seen : List (Origin × Seen)) (slot : Origin × Seen) → HoldEach input places (seen ++ slot ∷ [])
    → HoldsSeen input.heap places (slot_value input places slot.0) slot.1
hold_last input places [] slot each = each.0
hold_last input places (first ∷ seen) slot each = hold_last input places seen slot each.1

-- the variables are those from before, and that of the argument
pub variables_more : (picture : Picture) (input : Input) (places : List ℕ) (argument : ℕ) (z : ℤ) → slice_get input.args argument ≡ Some (IntValue z)
    → variable_values (after_int_read picture (Arg argument)) input places ≡ variable_values picture input places ++ z ∷ []
unfolding after_int_read variable_values
variables_more picture input places argument z e =
    let how : Seen = seens.Int (length (variables_seen picture)) in
    filter_map-append (λ (slot : Origin × Seen). variable_value (slot_value input places slot.0) slot.1) picture.seen ((Arg argument, how) ∷ [])
    ∙ ap (λ (value : Option Value). filter_map (λ (slot : Origin × Seen). variable_value (slot_value input places slot.0) slot.1) picture.seen
    ++ cons_option (variable_value value how) []) e

pub value_behind : (nodes : List Node) (t : TermId) (inputs more : List ℤ) → VariablesBelow (length inputs) nodes → value_of nodes t (inputs ++ more) ≡ value_of nodes t inputs
unfolding value_of
value_behind nodes t inputs more below = ap (λ (vs : List ℤ). int_at vs t.0) (inputs_behind nodes inputs more below)

pub met_behind : (nodes : List Node) (inputs more : List ℤ) (when : List (TermId × Bool)) → VariablesBelow (length inputs) nodes → AreMetInPool nodes inputs when
    → AreMetInPool nodes (inputs ++ more) when
met_behind nodes inputs more [] below met = tt
met_behind nodes inputs more (x ∷ when) below met = (value_behind nodes x.0 inputs more below ∙ met.0, met_behind nodes inputs more when below met.1)

pub value_inputs : (nodes : List Node) (t : TermId) (inputs more : List ℤ) → IsPool nodes → variables_of nodes ≤ length inputs → value_of nodes t (inputs ++ more) ≡ value_of nodes t inputs
value_inputs nodes t inputs more pool enough = value_behind nodes t inputs more (enough_below (variables_of nodes) (length inputs) nodes enough (pool_below nodes pool))

pub met_inputs : (nodes : List Node) (inputs more : List ℤ) (when : List (TermId × Bool)) → IsPool nodes → variables_of nodes ≤ length inputs → AreMetInPool nodes inputs when
    → AreMetInPool nodes (inputs ++ more) when
met_inputs nodes inputs more when pool enough met = met_behind nodes inputs more when (enough_below (variables_of nodes) (length inputs) nodes enough (pool_below nodes pool)) met

count_values : (input : Input) (places : List ℕ) (seen : List (Origin × Seen))
    → length (filter_map (λ (slot : Origin × Seen). variable_seen slot.1) seen) ≡ length (filter_map (λ (slot : Origin × Seen). variable_value (slot_value input places slot.0) slot.1) seen)
count_values input places [] = refl
count_values input places (slot ∷ seen) = go slot.1 (count_values input places seen) where
  go : (as_seen : Seen)
      → length (filter_map (λ (slot : Origin × Seen). variable_seen slot.1) seen) ≡ length (filter_map (λ (slot : Origin × Seen). variable_value (slot_value input places slot.0) slot.1) seen)
      → length (cons_option (variable_seen as_seen) (filter_map (λ (slot : Origin × Seen). variable_seen slot.1) seen))
      ≡ length (cons_option (variable_value (slot_value input places slot.0) as_seen) (filter_map (λ (slot : Origin × Seen). variable_value (slot_value input places slot.0) slot.1) seen))
  go (seens.Int number) rest = ap suc rest
  go seens.Null rest = rest
  go (seens.Loc number) rest = rest
  go (seens.Obj number) rest = rest
  go seens.Beyond rest = rest

-- each variable of the pool has a value, and no other has
pub variables_many : (world : World) (old : State) (input : Input) (places : List ℕ) → kinds_of old.nodes ≡ kinds_seen world old.method old.picture
    → variables_of old.nodes ≡ length (variable_values old.picture input places)
unfolding variable_values
variables_many world old input places kinds = variables-same world old.method old.nodes old.picture kinds ∙ count_values input places old.picture.seen

pub many_values : (world : World) (old : State) (input : Input) (places : List ℕ) → IsState world old → variables_of old.nodes ≡ length (variable_values old.picture input places)
many_values world old input places sound = variables_many world old input places sound.kinds

pub enough_values : (world : World) (old : State) (input : Input) (places : List ℕ) → IsState world old → variables_of old.nodes ≤ length (variable_values old.picture input places)
enough_values world old input places sound = (let many = many_values world old input places sound in omega (arith, many))

abbrev pub shape_more : (picture : Picture) (input : Input) (argument variable : ℕ) (z : ℤ) → slice_get input.args argument ≡ Some (IntValue z) → HasShape picture input
    → HasShape (with_seen picture (Arg argument, seens.Int variable)) input
shape_more picture input argument variable z e shape = record {
  places = shape.places;
  placed = places_seen picture input (Arg argument, seens.Int variable) ∙ shape.placed;
  seen = hold_more input shape.places.objects picture.seen (Arg argument, seens.Int variable) shape.seen (z, e);
  apart = shape.apart;
  such = shape.such;
  stands = shape.stands;
}

-- the conditions are met as before
pub read_met : (world : World) (old : State) (input : Input) (kind : VarKind) (argument : ℕ) (z : ℤ) → IsState world old → slice_get input.args argument ≡ Some (IntValue z) → (i : IsInstanceOf old input)
    → AreMetInPool (old.nodes ++ Var (variables_of old.nodes) kind ∷ []) (variable_values (after_int_read old.picture (Arg argument)) input i.shape.places.objects) old.when
read_met world old input kind argument z sound e i =
    let nodes : List Node = old.nodes ++ Var (variables_of old.nodes) kind ∷ [] in
    let variables : List ℤ = variable_values old.picture input i.shape.places.objects in
    let met : AreMetInPool old.nodes (variables ++ z ∷ []) old.when =
    met_inputs old.nodes variables (z ∷ []) old.when sound.pool (enough_values world old input i.shape.places.objects sound) i.conditions in
    subst (λ (vs : List ℤ). AreMetInPool nodes vs old.when) (sym (variables_more old.picture input i.shape.places.objects argument z e))
    (met_later old.nodes nodes (variables ++ z ∷ []) old.when (extends-more old.nodes (Var (variables_of old.nodes) kind)) (conditions_there old.nodes old.when sound.conditions) met)

pub read_instance : (world : World) (old : State) (input : Input) (kind : VarKind) (z : ℤ) → IsState world old → slice_get input.args (read_count old.stage) ≡ Some (IntValue z)
    → IsInstanceOf old input → IsInstanceOf (first_int (Arg (read_count old.stage)) kind old) input
unfolding after_int_read
read_instance world old input kind z sound e i = record {
  shape = shape_more old.picture input (read_count old.stage) (length (variables_seen old.picture)) z e i.shape;
  conditions = read_met world old input kind (read_count old.stage) z sound e i;
}

-- ---- arguments

pub argument_is : (world : World) (heap : Heap) (kinds : List JType) (args : List Value) → AreValuesOf world heap kinds args → (i : ℕ) (type : JType) → slice_get kinds i ≡ Some type
    → (value : Value) × (slice_get args i ≡ Some value) × IsValueOf world heap type value
argument_is world heap [] [] are i type e = absurd cc
argument_is world heap [] (value ∷ args) are i type e = absurd cc
argument_is world heap (first ∷ kinds) [] are i type e = absurd are
argument_is world heap (first ∷ kinds) (value ∷ args) are zero type e = (let same : first ≡ type = cc in (value, refl, subst (λ (t : JType). IsValueOf world heap t value) same are.0))
argument_is world heap (first ∷ kinds) (value ∷ args) are (suc i) type e = argument_is world heap kinds args are.1 i type e

pub int_argument : (world : World) (heap : Heap) (type : JType) (value : Value) → is_reference_type type ≡ false → IsValueOf world heap type value → (z : ℤ) × (value ≡ IntValue z)
int_argument world heap types.Int (IntValue z) e is = (z, refl)
int_argument world heap types.Bool (IntValue z) e is = (z, refl)
int_argument world heap (types.Class name) value e is = absurd cc
int_argument world heap (types.Array component) value e is = absurd cc
int_argument world heap _ value e is = absurd is
