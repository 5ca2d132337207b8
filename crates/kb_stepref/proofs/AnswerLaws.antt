-- A state that was told what a slot holds stands for the same configuration.
use Rattle.std.proofs.Common.{◌≡◌, ℕ, suc, ◌<◌, ◌≤◌, ℤ, pos, Bool, true, false, List, [], ◌∷◌, ◌++◌, length, length-append, replicate, take, take-suc, slice_get, Option, Some, None, refl, sym, ap, subst, ◌∙◌, option_and_then, if◌then◌else◌, arith}
use Rattle.std.specs.List.{slice_index_or}
use Rattle.std.specs.Option.{option_map}
use Rattle.std.specs.Prelude.{IfSome}
use Rattle.std.proofs.lemmas.List.{append-nil, map-append}
use Rattle.std.proofs.lemmas.Option.{get_or_from_slice_get, slice_get_within}
use Rattle.std.proofs.Math.Seq.{get_or-append_seam}
use Rattle.kb_class.specs.Naming.{Has}
use Rattle.kb_heap.specs.declared.bounds.Bounds.{Bounds}
use Rattle.kb_heap.specs.declared.heap.Heap.{Heap}
use Rattle.kb_heap.specs.declared.heap.Input.{Input}
use Rattle.kb_heap.specs.declared.heap.Object.{Object}
use Rattle.kb_heap.specs.declared.heap.Value.{Value}
use Rattle.kb_heap.specs.declared.heap.Value.TheVariants.{Int as IntValue, Ref}
use Rattle.kb_heap.specs.Heap.{value_at, literal}
use Rattle.kb_classes.specs.World.{World}
use Rattle.kb_names.specs.declared.types.JType.{JType}
use Rattle.kb_semantics.specs.Config.{Config}
use Rattle.kb_semantics.specs.Step.{first_heap}
use Rattle.kb_terms.specs.declared.node.TermId.{TermId}
use Rattle.kb_terms.specs.declared.node.VarKind.{VarKind}
use Rattle.kb_terms.specs.declared.node.Node.{Node}
use Rattle.kb_terms.specs.declared.node.Node.TheVariants.{Var}
use Rattle.kb_terms.specs.Terms.{IsTerm, int_at, value_of, values, variables_of}
use Rattle.kb_terms.proofs.Entries.{slice_get-append-end, slice_get-append-left}
use Rattle.kb_terms.proofs.Growth.{extends-more}
use Rattle.kb_terms.proofs.Values.{value_of-extends, value_of-variable}
use Rattle.kb_picture.specs.declared.choice.Choice.{Choice}
use Rattle.kb_picture.specs.declared.choice.Choice.TheVariants as choices
use Rattle.kb_picture.specs.declared.picture.Origin.{Origin}
use Rattle.kb_picture.specs.declared.picture.Origin.TheVariants.{Arg, Field, Element}
use Rattle.kb_picture.specs.declared.picture.Picture.{Picture}
use Rattle.kb_picture.specs.declared.picture.PlaceLists.{PlaceLists}
use Rattle.kb_picture.specs.declared.picture.Seen.TheVariants as seens
use Rattle.kb_picture.specs.declared.picture.Standing.TheVariants as standings
use Rattle.kb_picture.specs.Endings.{Reading}
use Rattle.kb_picture.specs.Growing.{IsChoiceIn, IsUnread, is_receiver, params_of}
use Rattle.kb_picture.specs.Growth.{after_read, after_int_read, with_open_loc}
use Rattle.kb_picture.specs.Instances.{variable_values}
use Rattle.kb_picture.specs.Laws.{loc_placed_behind}
use Rattle.kb_picture.specs.Places.{place_of, places_of, slot_value, value_in}
use Rattle.kb_picture.specs.Queries.{kind_for}
use Rattle.kb_picture.specs.Shapes.{HasShape, IsObjectOfPicture}
use Rattle.kb_picture.specs.WellFormed.{variables_seen}
use Rattle.kb_picture.proofs.ChainLaws.{all_below, below_at}
use Rattle.kb_picture.proofs.GrownShapes.{as_many, int_places, locs_many}
use Rattle.kb_picture.proofs.PlaceLaws.{places_loc, places_seen}
use Rattle.kb_picture.proofs.ShapeLaws.{place_inside}
use Rattle.kb_picture.specs.WellTyped.{is_reference_type}
use Rattle.kb_frames.specs.declared.state.Stage.{Stage}
use Rattle.kb_frames.specs.declared.state.Stage.TheVariants.{Begins}
use Rattle.kb_frames.specs.declared.value.Cell.{Cell}
use Rattle.kb_frames.specs.declared.value.Cell.TheVariants.{Untouched, Read}
use Rattle.kb_frames.specs.declared.value.SymValue.{SymValue}
use Rattle.kb_frames.specs.declared.value.SymValue.TheVariants.{Int}
use Rattle.kb_frames.specs.Cuts.{setting_of}
use Rattle.kb_frames.specs.FirstReads.{cells_chosen, first_int, first_reference, found_in, value_chosen, with_read}
use Rattle.kb_frames.specs.Heaps.{find_cell, with_cell}
use Rattle.kb_frames.specs.StandsFor.{IsIndexNext, IsInstanceOf, StageStandsFor, StandsFor, reading_at, value_of_sym}
use Rattle.kb_frames.specs.State.{State, cell_at}
use Rattle.kb_frames.specs.States.{IsBeginning, IsStage}
use Rattle.kb_ways.proofs.OneInstances.{hold_last, value_behind, variables_many}
use Rattle.kb_ways.proofs.OutcomeValues.{reading_int}
use Rattle.kb_ways.proofs.SoundLaws.{Sound}
use Rattle.kb_ways.proofs.ValueLaws.{VariablesBelow, enough_below}
use Rattle.kb_lazy.proofs.FitLaws.{fitting_choice}
use Rattle.kb_lazy.specs.Choices.{read_choices_of}
use Rattle.kb_stepref.specs.Choices.{alternatives}
use Rattle.kb_ways.specs.Advancing.{only}
use Rattle.kb_lazy.specs.Laws.{AreInRange}
use Rattle.kb_ways.specs.declared.question.Question.TheVariants.{Reads}
use Rattle.kb_ways.specs.Questions.{answered, passed_by}
use Rattle.kb_frames.proofs.AlikeLaws.{AreAlike, stage_alike, values_alike}
use Rattle.kb_frames.proofs.CellLaws.{chosen_blank}
use Rattle.kb_frames.proofs.ChosenLaws.{begins_chosen, chosen_alike}
use Rattle.kb_frames.proofs.FindLaws.{Grows, grown_alike, learns_none, learns_slot, places_same, read_places}
use Rattle.kb_stepref.proofs.ReadInstances.{int_values, told_values}
use Rattle.kb_stepref.proofs.FirstReadLaws.{IsAsked, IsAskedAt, first_read}
use Rattle.kb_frames.proofs.LearnLaws.{Learns, heap_learns, written_back, written_more}

-- nothing is kept of the slot: an argument is the next one, and the cell of a slot of an object is untouched
abbrev pub IsBlank : State → Origin → Type 0
IsBlank state (Arg number) = (read : List SymValue) × (state.stage ≡ Begins read) × (number ≡ length read)
IsBlank state (Field object slot) = find_cell state.cells object slot ≡ Some Untouched
IsBlank state (Element array index) = find_cell state.cells array index ≡ Some Untouched

-- at the start an object of the input is as in the input
value_first : (world : World) (heap : Heap) (place slot : ℕ) → place < length heap.objects → value_at (first_heap world heap) place slot ≡ value_at heap place slot
value_first world heap place slot inside =
    ap (option_and_then (λ (of : Object). slice_get of.values slot)) (slice_get-append-left heap.objects (replicate (length world.literals) literal) place inside)

-- ---- what is found, whichever slot it is

-- The slot holds the value in the input, where `grown` has seen it and keeps it nowhere yet.
pub record Finds (world : World) (old grown : State) (input : Input) (r : Reading) (slot : Origin) (value : SymValue) (places : PlaceLists) : Type 0 where
  pub grows : Grows world old r (reading_at world grown input places)
  pub held : slot_value input places.objects slot ≡ Some (value_of_sym (reading_at world grown input places) value)

module _ (world : World) (bounds : Bounds) (old : State) (sound : Sound world old) (input : Input) (c : Config) (stands : StandsFor (setting_of world bounds) old input c) where
  abbrev r : Reading
  r = reading_at world old input stands.instance_of.shape.places

  -- where nothing else has changed
  told_stands : (stage : Stage) (picture : Picture) (cells : List (List Cell)) (nodes : List Node)
      → (i : IsInstanceOf (record old { stage = stage; picture = picture; cells = cells; nodes = nodes }) input)
      → Learns world old r (reading_at world (record old { stage = stage; picture = picture; cells = cells; nodes = nodes }) input i.shape.places) cells (first_heap world input.heap)
      → StageStandsFor (reading_at world (record old { stage = stage; picture = picture; cells = cells; nodes = nodes }) input i.shape.places) input stage c
      → IfSome old.chosen (IsIndexNext world (reading_at world (record old { stage = stage; picture = picture; cells = cells; nodes = nodes }) input i.shape.places) (record old { stage = stage; picture = picture; cells = cells; nodes = nodes }))
      → StandsFor (setting_of world bounds) (record old { stage = stage; picture = picture; cells = cells; nodes = nodes }) input c
  told_stands stage picture cells nodes i learns staged indexed =
      let new : State = record old { stage = stage; picture = picture; cells = cells; nodes = nodes } in
      let later : Reading = reading_at world new input i.shape.places in
      record {
        run = stands.run;
        instance_of = i;
        stage = staged;
        heap = heap_learns world old new r later (first_heap world input.heap) learns c.heap sound.cells sound.made refl stands.heap;
        written = λ slot inside. (
          (λ has. written_more world old new r later (first_heap world input.heap) learns slot ((stands.written slot inside).0 has)),
          (λ k. (stands.written slot inside).1 (written_back world old new r later (first_heap world input.heap) learns slot k)),
        );
        chosen = indexed;
      }

  -- one argument more
  argument_stands : (read : List SymValue) (value : SymValue) (later : Reading) → old.stage ≡ Begins read → AreAlike world old r later
      → slice_get input.args (length read) ≡ Some (value_of_sym later value) → StageStandsFor later input (Begins (read ++ value ∷ [])) c
  argument_stands read value later is alike at =
      let begins : StageStandsFor r input (Begins read) c = subst (λ (stage : Stage). StageStandsFor r input stage c) is stands.stage in
      let beginning : IsBeginning world old read = subst (IsStage world old) is sound.stage in
      let v : Value = value_of_sym later value in
      let count : suc (length read) ≡ length (read ++ value ∷ []) = omega (arith, length-append read (value ∷ [])) in
      let inside : length read < length input.args = slice_get_within input.args (length read) v at in (
        begins.0,
        map-append (value_of_sym later) read (value ∷ [])
            ∙ ap (λ (l : List Value). l ++ v ∷ []) (values_alike world old r later alike read beginning.values ∙ begins.1)
            ∙ ap (λ (x : Value). take (length read) input.args ++ x ∷ []) (sym (get_or_from_slice_get input.args (length read) v v at))
            ∙ sym (take-suc input.args (length read) v inside)
            ∙ ap (λ (n : ℕ). take n input.args) count,
      )

  module _ (value : SymValue) (picture : Picture) (extra : List (List Cell)) (blank : (n slot : ℕ) → cell_at extra n slot ≡ Untouched) (nodes : List Node) where
    abbrev grown : State
    grown = record old { picture = picture; cells = old.cells ++ extra; nodes = nodes }

    -- a slot of an object is told
    module _ (object slot : ℕ) (i : IsInstanceOf (record old { stage = old.stage; picture = picture; cells = with_cell (old.cells ++ extra) object slot (Read value); nodes = nodes }) input) where
      abbrev later : Reading
      later = reading_at world grown input i.shape.places

      held_first : Grows world old r later → value_in input.heap i.shape.places.objects object slot ≡ Some (value_of_sym later value)
          → (place : ℕ) → slice_get later.places.objects object ≡ Some place → value_at (first_heap world input.heap) place slot ≡ Some (value_of_sym later value)
      unfolding reading_at
      held_first grows held place at =
          value_first world input.heap place slot (grows.inside object place at)
          ∙ sym (ap (option_and_then (λ (p : ℕ). value_at input.heap p slot)) at) ∙ held

      slot_stands : find_cell old.cells object slot ≡ Some Untouched → Grows world old r later
          → value_in input.heap i.shape.places.objects object slot ≡ Some (value_of_sym later value)
          → StandsFor (setting_of world bounds) (record old { stage = old.stage; picture = picture; cells = with_cell (old.cells ++ extra) object slot (Read value); nodes = nodes }) input c
      unfolding reading_at
      slot_stands untouched grows held =
          told_stands old.stage picture (with_cell (old.cells ++ extra) object slot (Read value)) nodes i
          (learns_slot world old r later (first_heap world input.heap) grows extra blank object slot value untouched (held_first grows held))
          (stage_alike world old r later grows.alike input c old.stage sound.stage stands.stage)
          (chosen_alike world old r later grows.alike old.method old.stage old.chosen sound.stage stands.chosen)

    pub found_stands : (slot : Origin) → IsBlank old slot → ((shape : HasShape picture input) → Finds world old grown input r slot value shape.places)
        → IsInstanceOf (found_in slot value grown) input → StandsFor (setting_of world bounds) (found_in slot value grown) input c
    unfolding reading_at
    found_stands (Arg number) next finds i =
        let found = finds i.shape in
        let later : Reading = reading_at world grown input i.shape.places in
        let at : slice_get input.args (length next.0) ≡ Some (value_of_sym later value) = ap (λ (n : ℕ). slice_get input.args n) (sym next.2) ∙ found.held in
        told_stands (with_read old.stage value) picture (old.cells ++ extra) nodes i
        (learns_none world old r later (first_heap world input.heap) found.grows extra blank)
        (subst (λ (stage : Stage). StageStandsFor later input (with_read stage value) c) (sym next.1) (argument_stands next.0 value later next.1 found.grows.alike at))
        (begins_chosen world old next.0 next.1 sound.chosen (IsIndexNext world later (record old { stage = with_read old.stage value; picture = picture; cells = old.cells ++ extra; nodes = nodes })))
    found_stands (Field object slot) untouched finds i = slot_stands object slot i untouched (finds i.shape).grows (finds i.shape).held
    found_stands (Element array index) untouched finds i = slot_stands array index i untouched (finds i.shape).grows (finds i.shape).held

-- ---- references

-- a location lies where its slot leads
location_held : (picture : Picture) (slot : Origin) (input : Input) (earlier : HasShape picture input) (places : PlaceLists)
    → places_of (with_open_loc picture slot) input ≡ Some places → slot_value input places.objects slot ≡ Some (Ref (slice_index_or places.locs (length picture.locs) 0))
location_held picture slot input earlier places placed =
    go (place_of input earlier.places.objects slot) refl
    (sym (places_loc picture input earlier.places (record { origin = slot; standing = standings.Open }) earlier.placed) ∙ placed)
  where
    go : (place : Option ℕ) → place_of input earlier.places.objects slot ≡ place → option_map (loc_placed_behind earlier.places) place ≡ Some places
        → slot_value input places.objects slot ≡ Some (Ref (slice_index_or places.locs (length picture.locs) 0))
    go None at e = absurd cc
    go (Some p) at e =
        let whole : loc_placed_behind earlier.places p ≡ places = cc in
        let many : length picture.locs ≡ length earlier.places.locs = sym (locs_many picture input earlier.places earlier.placed) in
        let last : slice_index_or places.locs (length picture.locs) 0 ≡ p =
        ap (λ (l : PlaceLists). slice_index_or l.locs (length picture.locs) 0) (sym whole)
        ∙ ap (λ (n : ℕ). slice_index_or (earlier.places.locs ++ p ∷ []) n 0) many ∙ get_or-append_seam earlier.places.locs p [] 0 in
        ap (λ (l : PlaceLists). slot_value input l.objects slot) (sym whole) ∙ (place_inside input earlier.places.objects slot p at).0
        ∙ ap (λ (n : ℕ). Some (Ref n)) (sym last)

module _ (world : World) (old : State) (sound : Sound world old) (input : Input) (earlier : HasShape old.picture input) (slot : Origin) where
  abbrev reading : Reading
  reading = reading_at world old input earlier.places

  -- an object of the picture that is held
  object_held : (places : PlaceLists) (number : ℕ) → IsObjectOfPicture places.objects number (slot_value input places.objects slot)
      → slot_value input places.objects slot ≡ Some (Ref (slice_index_or places.objects number 0))
  object_held places number holds = holds.2 ∙ ap (λ (n : ℕ). Some (Ref n)) (sym (get_or_from_slice_get places.objects number holds.0 0 holds.1))

  -- what is chosen is what the slot holds; what is beyond is cut
  chosen_held : (choice : Choice) → IsChoiceIn old.picture choice → passed_by choice ≡ None → (new : State) (shape : HasShape (after_read old.picture slot choice) input)
      → slot_value input shape.places.objects slot ≡ Some (value_of_sym (reading_at world new input shape.places) (value_chosen old.picture choice))
  unfolding after_read reading_at
  chosen_held choices.Null is passed new shape = hold_last input shape.places.objects old.picture.seen (slot, seens.Null) shape.seen
  chosen_held choices.Location is passed new shape =
      location_held old.picture slot input earlier shape.places
      (sym (places_seen (with_open_loc old.picture slot) input (slot, seens.Loc (length old.picture.locs))) ∙ shape.placed)
  chosen_held (choices.Alias number) is passed new shape = object_held shape.places number (hold_last input shape.places.objects old.picture.seen (slot, seens.Obj number) shape.seen)
  chosen_held (choices.Fresh kind len) is passed new shape =
      object_held shape.places (length old.picture.objects) (hold_last input shape.places.objects old.picture.seen (slot, seens.Obj (length old.picture.objects)) shape.seen)
  chosen_held choices.Beyond is passed new shape = absurd cc
  chosen_held _ is passed new shape = absurd is

  module _ (params : ℕ) (unread : IsUnread world params old.picture slot) (choice : Choice) where
    abbrev picture : Picture
    picture = after_read old.picture slot choice

    chosen_variables : (shape : HasShape picture input) → variable_values picture input shape.places.objects ≡ variable_values old.picture input earlier.places.objects
    chosen_variables shape = told_values world params old.picture slot input unread choice earlier shape

    chosen_grows : (cells : List (List Cell)) (shape : HasShape picture input)
        → Grows world old reading (reading_at world (record old { picture = picture; cells = cells; nodes = old.nodes }) input shape.places)
    unfolding reading_at
    chosen_grows cells shape = record {
      places = read_places world params old.picture slot choice input unread earlier shape;
      inputs = refl;
      literals = refl;
      alike = grown_alike world old reading (reading_at world (record old { picture = picture; cells = cells; nodes = old.nodes }) input shape.places)
          (as_many old.picture input earlier.places earlier.placed) (locs_many old.picture input earlier.places earlier.placed)
          (read_places world params old.picture slot choice input unread earlier shape) refl refl
          (λ t is_term. ap (λ (vs : List ℤ). int_at (values vs old.nodes) t.0) (chosen_variables shape));
      apart = shape.apart;
      inside = λ number place at. below_at (length input.heap.objects) shape.places.objects number place (all_below picture input shape) at;
      count = as_many old.picture input earlier.places earlier.placed ∙ sym sound.cells.count;
    }

  -- ---- ints

  module _ (below : VariablesBelow (variables_of old.nodes) old.nodes) (kind : VarKind) where
    abbrev variable : ℕ
    variable = variables_of old.nodes

    abbrev nodes : List Node
    nodes = old.nodes ++ Var variable kind ∷ []

    abbrev term : TermId
    term = record { 0 = length old.nodes }

    abbrev int_picture : Picture
    int_picture = after_int_read old.picture slot

    abbrev variables : List ℤ
    variables = variable_values old.picture input earlier.places.objects

    module _ (cells : List (List Cell)) (shape : HasShape int_picture input) where
      abbrev int_grown : State
      int_grown = record old { picture = int_picture; cells = cells; nodes = nodes }

      abbrev now : Reading
      now = reading_at world int_grown input shape.places

      same : shape.places ≡ earlier.places
      same = int_places old.picture slot input earlier shape

      many : variable ≡ length variables
      many = variables_many world old input earlier.places.objects sound.kinds

      module _ (z : ℤ) (at : slot_value input shape.places.objects slot ≡ Some (IntValue z)) where
        variables_are : variable_values int_picture input shape.places.objects ≡ variables ++ z ∷ []
        variables_are =
            int_values old.picture input shape.places.objects slot z at
            ∙ ap (λ (l : PlaceLists). variable_values old.picture input l.objects ++ z ∷ []) same

        -- the new variable has the value of the slot
        int_value : value_of_sym now (Int term) ≡ IntValue z
        int_value =
            let there : slice_get nodes (length old.nodes) ≡ Some (Var variable kind) = slice_get-append-end old.nodes (Var variable kind) [] in
            reading_int world int_grown input shape.places term
            ∙ ap (λ (vs : List ℤ). IntValue (value_of nodes term vs)) variables_are
            ∙ ap IntValue (value_of-variable nodes term variable kind (variables ++ z ∷ []) there ∙ ap (λ (i : ℕ). int_at (variables ++ z ∷ []) i) many ∙ get_or-append_seam variables z [] (pos 0))

        int_terms : (t : TermId) → IsTerm old.nodes t → int_at now.terms t.0 ≡ int_at reading.terms t.0
        unfolding reading_at value_of
        int_terms t there =
            let enough : variables_of old.nodes ≤ length variables = (let exactly = many in omega (arith, exactly)) in
            ap (λ (vs : List ℤ). value_of nodes t vs) variables_are
            ∙ value_of-extends old.nodes nodes t (variables ++ z ∷ []) (extends-more old.nodes (Var variable kind)) there
            ∙ value_behind old.nodes t variables (z ∷ []) (enough_below variable (length variables) old.nodes enough below)

        int_grows : Grows world old reading now
        unfolding reading_at
        int_grows = record {
          places = places_same earlier.places shape.places same;
          inputs = refl;
          literals = refl;
          alike = grown_alike world old reading now
              (as_many old.picture input earlier.places earlier.placed) (locs_many old.picture input earlier.places earlier.placed)
              (places_same earlier.places shape.places same) refl refl int_terms;
          apart = shape.apart;
          inside = λ number place at. below_at (length input.heap.objects) shape.places.objects number place (all_below int_picture input shape) at;
          count = as_many old.picture input earlier.places earlier.placed ∙ sym sound.cells.count;
        }

        int_is : Finds world old int_grown input reading slot (Int term) shape.places
        int_is = record { grows = int_grows; held = at ∙ ap (λ (v : Value). Some v) (sym int_value) }

      int_held : (z : ℤ) × (slot_value input shape.places.objects slot ≡ Some (IntValue z))
      unfolding after_int_read
      int_held = hold_last input shape.places.objects old.picture.seen (slot, seens.Int (length (variables_seen old.picture))) shape.seen

      pub int_finds : Finds world old int_grown input reading slot (Int term) shape.places
      int_finds = int_is int_held.0 int_held.1

-- ---- the answer

module _ (world : World) (bounds : Bounds) (old : State) (sound : Sound world old) (input : Input) (c : Config) (stands : StandsFor (setting_of world bounds) old input c)
    (slot : Origin) (blank : IsBlank old slot) where
  abbrev shape_now : HasShape old.picture input
  shape_now = stands.instance_of.shape

  -- a reference was told
  pub reference_stands : (params : ℕ) (choice : Choice) → IsUnread world params old.picture slot → IsChoiceIn old.picture choice → passed_by choice ≡ None
      → IsInstanceOf (first_reference world slot choice old) input → StandsFor (setting_of world bounds) (first_reference world slot choice old) input c
  reference_stands params choice unread is passed =
      found_stands world bounds old sound input c stands (value_chosen old.picture choice) (after_read old.picture slot choice) (cells_chosen world choice) (chosen_blank world choice) old.nodes
      slot blank
      (λ shape. record {
        grows = chosen_grows world old sound input shape_now slot params unread choice (old.cells ++ cells_chosen world choice) shape;
        held = chosen_held world old sound input shape_now slot choice is passed
            (record old { picture = after_read old.picture slot choice; cells = old.cells ++ cells_chosen world choice; nodes = old.nodes }) shape;
      })

  module _ (below : VariablesBelow (variables_of old.nodes) old.nodes) (kind : VarKind) where
    abbrev nodes_now : List Node
    nodes_now = old.nodes ++ Var (variables_of old.nodes) kind ∷ []

    abbrev new_int : SymValue
    new_int = Int (record { 0 = length old.nodes })

    abbrev after : List (List Cell) → State
    after cells = found_in slot new_int (record old { picture = after_int_read old.picture slot; cells = cells; nodes = nodes_now })

    with_none : IsInstanceOf (after (old.cells ++ [])) input → StandsFor (setting_of world bounds) (after (old.cells ++ [])) input c
    with_none =
        found_stands world bounds old sound input c stands new_int (after_int_read old.picture slot) [] (λ n s. refl) nodes_now
        slot blank (int_finds world old sound input shape_now slot below kind (old.cells ++ []))

    -- an int or a boolean was
    pub int_stands : IsInstanceOf (first_int slot kind old) input → StandsFor (setting_of world bounds) (first_int slot kind old) input c
    int_stands = subst (λ (cells : List (List Cell)). IsInstanceOf (after cells) input → StandsFor (setting_of world bounds) (after cells) input c) (append-nil old.cells) with_none

-- What was told is what the slot holds at the input: the state stands for the same configuration.
pub answer_stands : (world : World) (bounds : Bounds) (params : ℕ) (old : State) (choice : Choice) (slot : Origin) (type : JType) (input : Input) (c : Config) → Sound world old → VariablesBelow (variables_of old.nodes) old.nodes
    → IsUnread world params old.picture slot → IsBlank old slot → (is_reference_type type ≡ true → IsChoiceIn old.picture choice) → passed_by choice ≡ None
    → StandsFor (setting_of world bounds) old input c → IsInstanceOf (answered world choice old (Reads slot type)) input
    → StandsFor (setting_of world bounds) (answered world choice old (Reads slot type)) input c
answer_stands world bounds params old choice slot type input c sound below unread blank speaks passed stands = go (is_reference_type type) refl where
  go : (b : Bool) → is_reference_type type ≡ b → IsInstanceOf (if b then first_reference world slot choice old else first_int slot (kind_for (Some type)) old) input
      → StandsFor (setting_of world bounds) (if b then first_reference world slot choice old else first_int slot (kind_for (Some type)) old) input c
  go true e = reference_stands world bounds old sound input c stands slot blank params choice unread (speaks e) passed
  go false e = int_stands world bounds old sound input c stands slot blank below (kind_for (Some type))

-- ---- what a step asks

-- nothing is kept of the slot that is asked for
pub asked_blank : (world : World) (bounds : Bounds) (state : State) (slot : Origin) (type : JType) → IsAskedAt world bounds state slot type → IsBlank state slot
asked_blank world bounds state (Arg number) type is = (is.read, is.begins, is.number_is)
asked_blank world bounds state (Field object slot) type is = is.cell
asked_blank world bounds state (Element array index) type is = is.cell

module _ (world : World) (bounds : Bounds) (state : State) (choice : Choice) (small : AreInRange bounds) (sound : Sound world state) (below : VariablesBelow (variables_of state.nodes) state.nodes) (slot : Origin) (type : JType)
    (is : IsAsked world bounds state sound.typed slot type) where
  -- an alternative of a reference speaks of what is there
  speaks : is_reference_type type ≡ true → Has (alternatives world state bounds (Reads slot type)) choice → IsChoiceIn state.picture choice
  speaks e has =
      let offered : Has (read_choices_of state.init world state.picture slot type (is_receiver world state.method slot) bounds.k bounds.array) choice =
      subst (λ (b : Bool). Has (if b then read_choices_of state.init world state.picture slot type (is_receiver world state.method slot) bounds.k bounds.array else only) choice) e has in
      (fitting_choice state.init world state.method state.picture slot type (is_receiver world state.method slot) bounds.k bounds.array offered.0 choice
      (first_read world bounds state sound.typed slot type is e) small.array offered.1).speaks

  -- The answer of an alternative that passes no bound stands for the same configuration.
  pub asked_stands : Has (alternatives world state bounds (Reads slot type)) choice → passed_by choice ≡ None → (input : Input) (c : Config) → StandsFor (setting_of world bounds) state input c
      → IsInstanceOf (answered world choice state (Reads slot type)) input → StandsFor (setting_of world bounds) (answered world choice state (Reads slot type)) input c
  asked_stands has passed input c stands =
      answer_stands world bounds (params_of world sound.typed.method) state choice slot type input c sound below is.unread
      (asked_blank world bounds state slot type is.from) (λ e. speaks e has) passed stands
