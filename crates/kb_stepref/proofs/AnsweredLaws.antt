-- What holds of a state that is reached holds of it when it was told what a slot holds.
use Rattle.std.proofs.Common.{◌≡◌, ◌≢◌, ℕ, zero, suc, ◌<◌, ◌≤◌, inl, inr, Bool, true, false, List, [], ◌∷◌, ◌++◌, length, map, filter_map, Option, Some, None, slice_get, refl, sym, ap, subst, ◌∙◌, arith, length-append, if◌then◌else◌}
use Rattle.std.specs.List.{cons_option}
use Rattle.std.specs.Option.{option_map}
use Rattle.std.proofs.lemmas.List.{append-nil, length-replicate, map-append}
use Rattle.std.proofs.lemmas.List.Elements.{filter_map-append}
use Rattle.std.proofs.lemmas.Option.{same_Some, slice_get_within}
use Rattle.kb_blast.specs.Query.{kind_from, kinds_of}
use Rattle.kb_class.proofs.Lists.{has_left, has_right}
use Rattle.kb_class.specs.Naming.{Has}
use Rattle.kb_class.specs.declared.ids.MethodId.{MethodId}
use Rattle.kb_heap.specs.declared.bounds.Bounds.{Bounds}
use Rattle.kb_classes.proofs.Places.{get_pushed}
use Rattle.kb_classes.specs.World.{World}
use Rattle.kb_names.specs.declared.types.ExactType.{ExactType}
use Rattle.kb_names.specs.declared.types.JType.{JType}
use Rattle.kb_semantics.specs.Looks.{numbers_below}
use Rattle.kb_semantics.specs.Values.{slots_of_class}
use Rattle.kb_terms.specs.declared.node.Node.{Node}
use Rattle.kb_terms.specs.declared.node.Node.TheVariants.{Var}
use Rattle.kb_terms.specs.declared.node.VarKind.{VarKind}
use Rattle.kb_terms.specs.Terms.{Extends, variables_of}
use Rattle.kb_terms.proofs.Growth.{extends-more}
use Rattle.kb_terms.proofs.Values.{Extends-refl}
use Rattle.kb_picture.specs.declared.choice.Choice.{Choice}
use Rattle.kb_picture.specs.declared.picture.Length.{Length}
use Rattle.kb_picture.specs.declared.picture.Length.TheVariants.{Plain, Is, Above}
use Rattle.kb_picture.specs.declared.picture.Origin.{Origin}
use Rattle.kb_picture.specs.declared.picture.Origin.TheVariants.{Arg, Field, Element}
use Rattle.kb_picture.specs.declared.picture.PicObject.{PicObject}
use Rattle.kb_picture.specs.declared.picture.Picture.{Picture}
use Rattle.kb_picture.specs.declared.picture.Seen.{Seen}
use Rattle.kb_picture.specs.Finding.{IsFoundFirst}
use Rattle.kb_picture.specs.Growing.{IsChoiceFor, IsChoiceIn, is_receiver, params_of}
use Rattle.kb_picture.specs.Growth.{after_int_read, after_read}
use Rattle.kb_picture.specs.Queries.{kind_for, kind_seen, kinds_seen, type_of_slot}
use Rattle.kb_picture.specs.WellFormed.{IsLengthOf, slots_seen, variable_seen, variables_seen}
use Rattle.kb_picture.specs.WellTyped.{IsReceiverSeen, IsWellTyped, SeenFitsDeclared, is_reference_type}
use Rattle.kb_picture.proofs.FoundLaws.{choice_found, int_found}
use Rattle.kb_picture.proofs.GrownPictures.{IsFrontOf, slots_grown}
use Rattle.kb_picture.proofs.GrownTypes.{choice_typed, int_typed, type_more}
use Rattle.kb_lazy.specs.Choices.{read_choices_of}
use Rattle.kb_lazy.specs.Laws.{IsFirstRead, AreInRange}
use Rattle.kb_lazy.proofs.FitLaws.{fitting_choice}
use Rattle.kb_frames.specs.declared.frame.SymFrame.{SymFrame}
use Rattle.kb_frames.specs.declared.state.Stage.{Stage}
use Rattle.kb_frames.specs.declared.state.Stage.TheVariants.{Begins, Runs}
use Rattle.kb_frames.specs.declared.value.Cell.{Cell}
use Rattle.kb_frames.specs.declared.value.Cell.TheVariants.{Untouched, Read}
use Rattle.kb_frames.specs.declared.value.SymValue.{SymValue}
use Rattle.kb_frames.specs.declared.value.SymValue.TheVariants.{Int}
use Rattle.kb_frames.specs.Arrays.{IsPlaceNext, array_next}
use Rattle.kb_frames.specs.FirstReads.{cells_chosen, first_int, first_reference, found_in, new_cells, value_chosen, with_read}
use Rattle.kb_frames.specs.Heaps.{find_cell, with_cell}
use Rattle.kb_frames.specs.State.{State, cell_at}
use Rattle.kb_frames.specs.States.{Each, HasCells, IsBeginning, IsCell, IsStage, IsSymValue, IsTouched}
use Rattle.kb_ways.specs.Reached.{HasReadReceiver}
use Rattle.kb_frames.proofs.ChosenLaws.{begins_chosen, chosen_kept, made_kept}
use Rattle.kb_frames.proofs.ItemLaws.{each_append, each_cons, each_copy, no_items}
use Rattle.kb_ways.proofs.SoundLaws.{Sound}
use Rattle.kb_stepref.specs.Choices.{alternatives}
use Rattle.kb_ways.specs.declared.question.Question.TheVariants.{Reads}
use Rattle.kb_ways.specs.Questions.{answered}
use Rattle.kb_frames.proofs.CellLaws.{front_found, front_touched, with_cell_length, with_here, with_touched}
use Rattle.kb_stepref.proofs.FieldSlots.{get_front}
use Rattle.kb_stepref.proofs.FirstReadLaws.{IsAsked, IsAskedAt, first_read, holds_int}
use Rattle.kb_frames.proofs.MoreLaws.{HaveRows, IsMore, made_more, rows_joined, rows_more, rows_with, running_more, values_more}
use Rattle.kb_stepref.proofs.MoreLaws.{changed, changed_sound}
use Rattle.kb_names.specs.declared.types.ExactType.TheVariants as exact
use Rattle.kb_picture.specs.declared.choice.Choice.TheVariants as choices
use Rattle.kb_picture.specs.declared.picture.Seen.TheVariants as seens
use Rattle.kb_picture.specs.declared.picture.Standing.TheVariants as standings

-- ---- what a choice adds

abbrev IsUntouched : Cell → Type 0
IsUntouched cell = cell ≡ Untouched

-- a new object has a row of cells that were not touched
new_row : (world : World) (kind : ExactType) (len : Length) → IsLengthOf kind len → HasCells world kind len (length (new_cells world kind len)) × Each IsUntouched (new_cells world kind len)
new_row world (exact.Class name) Plain of =
    (length-replicate (length (slots_of_class world name)) Untouched, each_copy IsUntouched (length (slots_of_class world name)) Untouched refl)
new_row world (exact.Class name) (Is n) of = absurd of
new_row world (exact.Class name) (Above n) of = absurd of
new_row world (exact.Array component) Plain of = absurd of
new_row world (exact.Array component) (Is n) of = (length-replicate n Untouched, each_copy IsUntouched n Untouched refl)
new_row world (exact.Array component) (Above n) of = (refl, no_items IsUntouched)

-- What a choice adds to a picture: the slot is seen so, and maybe an object is new, with cells that were not touched.
pub record Adds (world : World) (picture : Picture) (slot : Origin) (choice : Choice) : Type 0 where
  pub how : Seen
  pub seen : (after_read picture slot choice).seen ≡ picture.seen ++ (slot, how) ∷ []
  pub plain : variable_seen how ≡ None
  pub new : List PicObject
  pub objects : (after_read picture slot choice).objects ≡ picture.objects ++ new
  pub many : length (cells_chosen world choice) ≡ length new
  pub rows : (number : ℕ) (object : PicObject) (row : List Cell) → slice_get new number ≡ Some object → slice_get (cells_chosen world choice) number ≡ Some row
      → HasCells world object.kind object.length (length row) × Each IsUntouched row
  pub locs : length picture.locs ≤ length (after_read picture slot choice).locs
  pub value : (state : State) → state.picture ≡ after_read picture slot choice → IsSymValue world state (value_chosen picture choice)

module _ (world : World) (picture : Picture) (slot : Origin) where
  no_rows : (number : ℕ) (object : PicObject) (row : List Cell) → slice_get [] number ≡ Some object → slice_get [] number ≡ Some row
      → HasCells world object.kind object.length (length row) × Each IsUntouched row
  no_rows number object row at there = absurd cc

  one_row : (kind : ExactType) (len : Length) → IsLengthOf kind len → (number : ℕ) (object : PicObject) (row : List Cell)
      → slice_get (record { kind = kind; length = len; origin = slot } ∷ []) number ≡ Some object → slice_get (new_cells world kind len ∷ []) number ≡ Some row
      → HasCells world object.kind object.length (length row) × Each IsUntouched row
  one_row kind len of zero object row at there =
      subst (λ (o : PicObject). HasCells world o.kind o.length (length row) × Each IsUntouched row) (same_Some (record { kind = kind; length = len; origin = slot }) object at)
      (subst (λ (cells : List Cell). HasCells world kind len (length cells) × Each IsUntouched cells) (same_Some (new_cells world kind len) row there) (new_row world kind len of))
  one_row kind len of (suc number) object row at there = absurd cc

  pub adds : (choice : Choice) → IsChoiceIn picture choice → Adds world picture slot choice
  unfolding after_read
  adds choices.Null speaks = record {
    how = seens.Null;
    seen = refl;
    plain = refl;
    new = [];
    objects = sym (append-nil picture.objects);
    many = refl;
    rows = no_rows;
    locs = omega arith;
    value = λ state is. tt;
  }
  adds choices.Location speaks = record {
    how = seens.Loc (length picture.locs);
    seen = refl;
    plain = refl;
    new = [];
    objects = sym (append-nil picture.objects);
    many = refl;
    rows = no_rows;
    locs = (let longer = length-append picture.locs (record { origin = slot; standing = standings.Open } ∷ []) in omega (arith, longer));
    value = λ state is.
        subst (λ (p : Picture). length picture.locs < length p.locs) (sym is)
        (let longer = length-append picture.locs (record { origin = slot; standing = standings.Open } ∷ []) in omega (arith, longer));
  }
  adds (choices.Alias number) speaks = record {
    how = seens.Obj number;
    seen = refl;
    plain = refl;
    new = [];
    objects = sym (append-nil picture.objects);
    many = refl;
    rows = no_rows;
    locs = omega arith;
    value = λ state is. subst (λ (p : Picture). number < length p.objects) (sym is) (slice_get_within picture.objects number speaks.0 speaks.1);
  }
  adds (choices.Fresh kind len) speaks = record {
    how = seens.Obj (length picture.objects);
    seen = refl;
    plain = refl;
    new = record { kind = kind; length = len; origin = slot } ∷ [];
    objects = refl;
    many = refl;
    rows = one_row kind len speaks;
    locs = omega arith;
    value = λ state is.
        subst (λ (p : Picture). length picture.objects < length p.objects) (sym is)
        (let longer = length-append picture.objects (record { kind = kind; length = len; origin = slot } ∷ []) in omega (arith, longer));
  }
  adds choices.Beyond speaks = record {
    how = seens.Beyond;
    seen = refl;
    plain = refl;
    new = [];
    objects = sym (append-nil picture.objects);
    many = refl;
    rows = no_rows;
    locs = omega arith;
    value = λ state is. tt;
  }
  adds _ speaks = absurd speaks

-- ---- kinds of variables

same_filtered : {A B : Type 0} (f g : A → Option B) (xs : List A) → ((i : ℕ) (x : A) → slice_get xs i ≡ Some x → f x ≡ g x) → filter_map f xs ≡ filter_map g xs
same_filtered f g [] same = refl
same_filtered {A} {B} f g (x ∷ xs) same =
    ap (λ (o : Option B). cons_option o (filter_map f xs)) (same zero x refl) ∙ ap (cons_option (g x)) (same_filtered f g xs (λ i y at. same (suc i) y at))

-- a slot that is seen keeps its type, and one that is seen as no variable has no kind
pub kinds_kept : (world : World) (id : MethodId) (old new : Picture) (slot : Origin) (how : Seen) → IsWellTyped world id old → IsFrontOf old.objects new.objects
    → new.seen ≡ old.seen ++ (slot, how) ∷ [] → variable_seen how ≡ None → kinds_seen world id new ≡ kinds_seen world id old
kinds_kept world id old new slot how typed front seen plain =
    ap (filter_map (kind_seen world id new)) seen
    ∙ (filter_map-append (kind_seen world id new) old.seen ((slot, how) ∷ [])
    ∙ (ap (λ (o : Option ℕ). filter_map (kind_seen world id new) old.seen ++ cons_option (option_map (λ (n : ℕ). kind_for (type_of_slot world id new.objects slot)) o) []) plain
    ∙ (append-nil (filter_map (kind_seen world id new) old.seen) ∙ same_filtered (kind_seen world id new) (kind_seen world id old) old.seen same)))
  where
    type_kept : (x : Origin × Seen) (type : Option JType) → type_of_slot world id old.objects x.0 ≡ type → SeenFitsDeclared world old type x.1
        → type_of_slot world id new.objects x.0 ≡ type_of_slot world id old.objects x.0
    type_kept x None at fits = absurd fits
    type_kept x (Some type) at fits = type_more world id old.objects new.objects x.0 type front at ∙ sym at

    same : (i : ℕ) (x : Origin × Seen) → slice_get old.seen i ≡ Some x → kind_seen world id new x ≡ kind_seen world id old x
    same i x at =
        ap (λ (t : Option JType). option_map (λ (n : ℕ). kind_for t) (variable_seen x.1)) (type_kept x (type_of_slot world id old.objects x.0) refl (typed.seen i x at))

-- ---- what an answer is to a state

-- The picture, the cells and the terms of a state that was told that the slot holds the value.
pub record Tells (world : World) (state : State) (slot : Origin) (value : SymValue) (picture : Picture) (cells : List (List Cell)) (nodes : List Node) : Type 0 where
  pub typed : IsWellTyped world state.method picture
  pub first : IsFoundFirst picture
  pub terms : Extends state.nodes nodes
  pub kinds : kinds_of nodes ≡ kinds_seen world state.method picture
  pub slots : slots_seen picture ≡ slots_seen state.picture ++ slot ∷ []
  pub objects : length state.picture.objects ≤ length picture.objects
  pub front : IsFrontOf state.picture.objects picture.objects
  pub locs : length state.picture.locs ≤ length picture.locs
  pub count : length cells ≡ length picture.objects
  pub touched : (number place : ℕ) → cell_at state.cells number place ≢ Untouched → cell_at cells number place ≢ Untouched
  pub found : (number place : ℕ) (cell : Cell) → find_cell state.cells number place ≡ Some cell → find_cell cells number place ≡ Some cell
  pub rows : (new : State) → IsMore state new → HaveRows world new picture.objects cells
  pub value_is : (new : State) → new.picture ≡ picture → new.nodes ≡ nodes → IsSymValue world new value

module _ (world : World) (state : State) (sound : Sound world state) (slot : Origin) (value : SymValue) (picture : Picture) (cells : List (List Cell)) (nodes : List Node)
    (tells : Tells world state slot value picture cells nodes) where
  -- the receiver was read before
  receiver_more : IsReceiverSeen world state.method state.picture → IsReceiverSeen world state.method picture
  receiver_more seen = λ method is own.
      subst (λ (slots : List Origin). Has slots (Arg 0)) (sym tells.slots) (has_left (slots_seen state.picture) (slot ∷ []) (Arg 0) (seen method is own))

  -- each slot that is seen was touched, where the new one is
  seen_touched : (all : List (List Cell)) → ((number place : ℕ) → cell_at cells number place ≢ Untouched → cell_at all number place ≢ Untouched) → IsTouched all slot
      → (i : ℕ) (other : Origin) → slice_get (slots_seen picture) i ≡ Some other → IsTouched all other
  seen_touched all kept here i other at = elim (get_pushed (slots_seen state.picture) slot i other (ap (λ (slots : List Origin). slice_get slots i) (sym tells.slots) ∙ at)) [
    | inl h ↦ earlier other (sound.cells.seen i other h)
    | inr h ↦ subst (IsTouched all) h.1 here
  ]
    where
      earlier : (of : Origin) → IsTouched state.cells of → IsTouched all of
      earlier (Arg number) was = tt
      earlier (Field number place) was = kept number place (tells.touched number place was)
      earlier (Element number place) was = kept number place (tells.touched number place was)

  -- ---- an argument

  module _ (read : List SymValue) (begins : state.stage ≡ Begins read) (slot_is : slot ≡ Arg (length read)) where
    abbrev read_state : State
    read_state = changed world state (Begins (read ++ value ∷ [])) picture cells state.made nodes

    read_more : IsMore state read_state
    read_more = record { terms = tells.terms; objects = tells.objects; locs = tells.locs; made = omega arith }

    beginning : IsBeginning world state read
    beginning = subst (IsStage world state) begins sound.stage

    read_slots : slots_seen picture ≡ map Arg (numbers_below (length (read ++ value ∷ [])))
    read_slots =
        let longer : length (read ++ value ∷ []) ≡ suc (length read) = omega (arith, length-append read (value ∷ [])) in
        tells.slots ∙ (ap (λ (s : Origin). slots_seen state.picture ++ s ∷ []) slot_is
        ∙ (ap (λ (slots : List Origin). slots ++ Arg (length read) ∷ []) beginning.seen
        ∙ (sym (map-append Arg (numbers_below (length read)) (length read ∷ [])) ∙ ap (λ (m : ℕ). map Arg (numbers_below m)) (sym longer))))

    read_stage : IsBeginning world read_state (read ++ value ∷ [])
    read_stage = record {
      values = each_append (IsSymValue world read_state) read (value ∷ []) (values_more world state read_state read_more read beginning.values)
          (each_cons (IsSymValue world read_state) value [] (tells.value_is read_state refl refl) (no_items (IsSymValue world read_state)));
      seen = read_slots;
      carried = beginning.carried;
    }

    -- a receiver is the first argument
    pub argument_receiver : IsReceiverSeen world state.method picture
    argument_receiver = go read slot_is (subst (λ (stage : Stage). HasReadReceiver world state.method stage state.picture) begins sound.receiver) where
      go : (values : List SymValue) → slot ≡ Arg (length values) → HasReadReceiver world state.method (Begins values) state.picture → IsReceiverSeen world state.method picture
      go [] first h = λ method is own.
          subst (λ (slots : List Origin). Has slots (Arg 0)) (sym tells.slots)
          (has_right (slots_seen state.picture) (slot ∷ []) (Arg 0) (subst (λ (s : Origin). Has (slot ∷ []) s) first (zero, refl)))
      go (one ∷ values) later h = receiver_more h

    begun_receiver : (values : List SymValue) → HasReadReceiver world state.method (Begins (values ++ value ∷ [])) picture
    begun_receiver [] = argument_receiver
    begun_receiver (one ∷ values) = argument_receiver

    pub argument_sound : Sound world (record state { stage = with_read state.stage value; picture = picture; cells = cells; nodes = nodes })
    argument_sound =
        subst (λ (stage : Stage). Sound world (record state { stage = with_read stage value; picture = picture; cells = cells; nodes = nodes })) (sym begins)
        (changed_sound world state (Begins (read ++ value ∷ [])) picture cells state.made nodes sound tells.terms tells.typed tells.first tells.kinds read_stage
        (record {
          count = tells.count;
          each = tells.rows read_state read_more;
          seen = seen_touched cells (λ number place was. was) (subst (IsTouched cells) (sym slot_is) tt);
        })
        (made_more world state read_state read_more state.made sound.made) (begun_receiver read)
        (begins_chosen world state read begins sound.chosen (IsPlaceNext world read_state)))

  -- ---- a field, and an element

  module _ (object place : ℕ) (slot_is : (rows : List (List Cell)) → cell_at rows object place ≢ Untouched → IsTouched rows slot) (frame : SymFrame) (callers : List SymFrame) (running : state.stage ≡ Runs frame callers)
      (cell : find_cell state.cells object place ≡ Some Untouched) where
    abbrev all : List (List Cell)
    all = with_cell cells object place (Read value)

    abbrev told_state : State
    told_state = changed world state state.stage picture all state.made nodes

    told_more : IsMore state told_state
    told_more = record { terms = tells.terms; objects = tells.objects; locs = tells.locs; made = omega arith }

    here : IsTouched all slot
    here = slot_is all (λ none. read_is (sym (with_here cells object place (Read value) Untouched (tells.found object place Untouched cell)) ∙ none)) where
      read_is : Read value ≡ Untouched → ⊥
      read_is e = cc

    pub slot_receiver : IsReceiverSeen world state.method picture
    slot_receiver = receiver_more (subst (λ (stage : Stage). HasReadReceiver world state.method stage state.picture) running sound.receiver)

    pub slot_sound : Sound world (record state { picture = picture; cells = all; nodes = nodes })
    slot_sound =
        changed_sound world state state.stage picture all state.made nodes sound tells.terms tells.typed tells.first tells.kinds
        (subst (IsStage world told_state) (sym running) (running_more world state told_state told_more frame callers (subst (IsStage world state) running sound.stage)))
        (record {
          count = with_cell_length cells object place (Read value) ∙ tells.count;
          each = rows_with world told_state picture.objects cells object place (Read value) (tells.value_is told_state refl refl) (tells.rows told_state told_more);
          seen = seen_touched all (λ number at was. with_touched cells object place (Read value) number at (λ e. absurd (no_read e)) was) here;
        })
        (made_more world state told_state told_more state.made sound.made)
        (subst (λ (stage : Stage). HasReadReceiver world state.method stage picture) (sym running) slot_receiver)
        (chosen_kept state told_state (record { objects = tells.front; made = made_kept state.made }) state.chosen (array_next world state.method state.stage) sound.chosen)
      where
        no_read : Read value ≡ Untouched → ⊥
        no_read e = cc

-- ---- answers

module _ (world : World) (bounds : Bounds) (state : State) (sound : Sound world state) (slot : Origin) (type : JType) (is_asked : IsAsked world bounds state sound.typed slot type) where
  abbrev typed : IsWellTyped world state.method state.picture
  typed = sound.typed

  -- an alternative for a reference is a choice for the slot
  pub offered_fits : (choice : Choice) → AreInRange bounds → is_reference_type type ≡ true → Has (alternatives world state bounds (Reads slot type)) choice
      → IsChoiceFor world state.method state.picture slot choice
  offered_fits choice range reference has = go (is_reference_type type) refl has where
    first : IsFirstRead world state.method state.picture slot type (is_receiver world state.method slot)
    first = first_read world bounds state typed slot type is_asked reference

    go : (b : Bool) → is_reference_type type ≡ b
        → Has (if b then read_choices_of state.init world state.picture slot type (is_receiver world state.method slot) bounds.k bounds.array else choices.Only ∷ []) choice
        → IsChoiceFor world state.method state.picture slot choice
    go true is h = fitting_choice state.init world state.method state.picture slot type (is_receiver world state.method slot) bounds.k bounds.array h.0 choice first range.array h.1
    go false is h = (let never : true ≡ false = sym reference ∙ is in absurd cc)

  -- ---- a reference

  module _ (choice : Choice) (fits : IsChoiceFor world state.method state.picture slot choice) where
    abbrev picture : Picture
    picture = after_read state.picture slot choice

    abbrev cells : List (List Cell)
    cells = state.cells ++ cells_chosen world choice

    abbrev added : Adds world state.picture slot choice
    added = adds world state.picture slot choice fits.speaks

    objects_front : IsFrontOf state.picture.objects picture.objects
    objects_front i object there = ap (λ (objects : List PicObject). slice_get objects i) added.objects ∙ get_front state.picture.objects added.new i object there

    new_rows : (new : State) → HaveRows world new added.new (cells_chosen world choice)
    new_rows new number object row one other =
        let is = added.rows number object row one other in
        (is.0, λ i cell e. subst (IsCell world new) (sym (is.1 i cell e)) tt)

    many_objects : length picture.objects ≡ length (state.picture.objects ++ added.new)
    many_objects = ap (λ (objects : List PicObject). length objects) added.objects

    pub tells_reference : Tells world state slot (value_chosen state.picture choice) picture cells state.nodes
    tells_reference = record {
      typed = choice_typed world state.method state.picture slot typed is_asked.unread choice fits;
      first = choice_found world (params_of world typed.method) state.picture slot is_asked.unread sound.found choice;
      terms = Extends-refl state.nodes;
      kinds = sound.kinds ∙ sym (kinds_kept world state.method state.picture picture slot added.how typed objects_front added.seen added.plain);
      slots = slots_grown state.picture picture slot added.how added.seen;
      objects = omega (arith, many_objects, length-append state.picture.objects added.new);
      front = objects_front;
      locs = added.locs;
      count = omega (arith, many_objects, length-append state.picture.objects added.new, length-append state.cells (cells_chosen world choice), added.many, sound.cells.count);
      touched = λ number place was. front_touched state.cells (cells_chosen world choice) number place was;
      found = λ number place cell is. front_found state.cells (cells_chosen world choice) number place cell is;
      rows = λ new more.
          subst (λ (objects : List PicObject). HaveRows world new objects cells) (sym added.objects)
          (rows_joined world new state.picture.objects added.new state.cells (cells_chosen world choice) sound.cells.count
          (rows_more world state new state.picture.objects state.cells more sound.cells.each) (new_rows new));
      value_is = λ new same nodes. added.value new same;
    }

    pub reference_sound : Sound world (first_reference world slot choice state)
    reference_sound = go slot refl is_asked.from where
      go : (of : Origin) → slot ≡ of → IsAskedAt world bounds state of type → Sound world (found_in of (value_chosen state.picture choice) (record state { picture = picture; cells = cells }))
      go (Arg number) is from =
          argument_sound world state sound slot (value_chosen state.picture choice) picture cells state.nodes tells_reference from.read from.begins (is ∙ ap Arg from.number_is)
      go (Field object place) is from =
          slot_sound world state sound slot (value_chosen state.picture choice) picture cells state.nodes tells_reference object place (λ rows was. subst (IsTouched rows) (sym is) was) from.frame from.callers from.running from.cell
      go (Element object place) is from =
          slot_sound world state sound slot (value_chosen state.picture choice) picture cells state.nodes tells_reference object place (λ rows was. subst (IsTouched rows) (sym is) was) from.frame from.callers from.running from.cell

    pub reference_receiver : IsReceiverSeen world state.method picture
    reference_receiver = go slot refl is_asked.from where
      go : (of : Origin) → slot ≡ of → IsAskedAt world bounds state of type → IsReceiverSeen world state.method picture
      go (Arg number) is from =
          argument_receiver world state sound slot (value_chosen state.picture choice) picture cells state.nodes tells_reference from.read from.begins (is ∙ ap Arg from.number_is)
      go (Field object place) is from =
          slot_receiver world state sound slot (value_chosen state.picture choice) picture cells state.nodes tells_reference object place (λ rows was. subst (IsTouched rows) (sym is) was) from.frame from.callers from.running from.cell
      go (Element object place) is from =
          slot_receiver world state sound slot (value_chosen state.picture choice) picture cells state.nodes tells_reference object place (λ rows was. subst (IsTouched rows) (sym is) was) from.frame from.callers from.running from.cell

  -- ---- an int

  module _ (int : is_reference_type type ≡ false) where
    abbrev v : ℕ
    v = variables_of state.nodes

    abbrev kind : VarKind
    kind = kind_for (Some type)

    abbrev nodes : List Node
    nodes = state.nodes ++ Var v kind ∷ []

    abbrev value : SymValue
    value = Int (record { 0 = length state.nodes })

    abbrev seen : Picture
    seen = after_int_read state.picture slot

    one_kind : kinds_of nodes ≡ kinds_seen world state.method seen
    unfolding after_int_read
    one_kind =
        filter_map-append kind_from state.nodes (Var v kind ∷ [])
        ∙ (ap (λ (kinds : List VarKind). kinds ++ kind ∷ []) sound.kinds
        ∙ (ap (λ (o : Option JType). kinds_seen world state.method state.picture ++ kind_for o ∷ []) (sym is_asked.declared)
        ∙ sym (filter_map-append (kind_seen world state.method state.picture) state.picture.seen ((slot, seens.Int (length (variables_seen state.picture))) ∷ []))))

    tells_int : Tells world state slot value seen state.cells nodes
    unfolding after_int_read
    tells_int = record {
      typed = int_typed world state.method state.picture slot typed is_asked.unread (holds_int world bounds state typed slot type is_asked int);
      first = int_found world (params_of world typed.method) state.picture slot is_asked.unread sound.found;
      terms = extends-more state.nodes (Var v kind);
      kinds = one_kind;
      slots = slots_grown state.picture seen slot (seens.Int (length (variables_seen state.picture))) refl;
      objects = omega arith;
      front = λ i object at. at;
      locs = omega arith;
      count = sound.cells.count;
      touched = λ number place was. was;
      found = λ number place cell is. is;
      rows = λ new more. rows_more world state new state.picture.objects state.cells more sound.cells.each;
      value_is = λ new same is. subst (λ (all : List Node). length state.nodes < length all) (sym is) (let longer = length-append state.nodes (Var v kind ∷ []) in omega (arith, longer));
    }

    pub int_sound : Sound world (first_int slot kind state)
    int_sound = go slot refl is_asked.from where
      go : (of : Origin) → slot ≡ of → IsAskedAt world bounds state of type → Sound world (found_in of value (record state { picture = seen; nodes = nodes }))
      go (Arg number) is from = (let never : true ≡ false = sym from.reference ∙ int in absurd cc)
      go (Field object place) is from =
          slot_sound world state sound slot value seen state.cells nodes tells_int object place (λ rows was. subst (IsTouched rows) (sym is) was) from.frame from.callers from.running from.cell
      go (Element object place) is from =
          slot_sound world state sound slot value seen state.cells nodes tells_int object place (λ rows was. subst (IsTouched rows) (sym is) was) from.frame from.callers from.running from.cell

    pub int_receiver : IsReceiverSeen world state.method seen
    int_receiver = go slot refl is_asked.from where
      go : (of : Origin) → slot ≡ of → IsAskedAt world bounds state of type → IsReceiverSeen world state.method seen
      go (Arg number) is from = (let never : true ≡ false = sym from.reference ∙ int in absurd cc)
      go (Field object place) is from =
          slot_receiver world state sound slot value seen state.cells nodes tells_int object place (λ rows was. subst (IsTouched rows) (sym is) was) from.frame from.callers from.running from.cell
      go (Element object place) is from =
          slot_receiver world state sound slot value seen state.cells nodes tells_int object place (λ rows was. subst (IsTouched rows) (sym is) was) from.frame from.callers from.running from.cell

  -- ---- both

  pub answered_sound : (choice : Choice) → AreInRange bounds → Has (alternatives world state bounds (Reads slot type)) choice → Sound world (answered world choice state (Reads slot type))
  answered_sound choice range has = go (is_reference_type type) refl where
    go : (b : Bool) → is_reference_type type ≡ b → Sound world (if b then first_reference world slot choice state else first_int slot (kind_for (Some type)) state)
    go true is = reference_sound choice (offered_fits choice range is has)
    go false is = int_sound is

  pub answered_receiver : (choice : Choice) → AreInRange bounds → Has (alternatives world state bounds (Reads slot type)) choice
      → IsReceiverSeen world state.method (answered world choice state (Reads slot type)).picture
  answered_receiver choice range has = go (is_reference_type type) refl where
    found_picture : (of : Origin) (it : SymValue) (s : State) → (found_in of it s).picture ≡ s.picture
    found_picture (Arg number) it s = refl
    found_picture (Field object place) it s = refl
    found_picture (Element array index) it s = refl

    go : (b : Bool) → is_reference_type type ≡ b → IsReceiverSeen world state.method (if b then first_reference world slot choice state else first_int slot (kind_for (Some type)) state).picture
    go true is =
        subst (IsReceiverSeen world state.method) (sym (found_picture slot (value_chosen state.picture choice) (record state { picture = after_read state.picture slot choice; cells = state.cells ++ cells_chosen world choice })))
        (reference_receiver choice (offered_fits choice range is has))
    go false is =
        subst (IsReceiverSeen world state.method) (sym (found_picture slot (Int (record { 0 = length state.nodes })) (record state { picture = after_int_read state.picture slot; nodes = state.nodes ++ Var (variables_of state.nodes) (kind_for (Some type)) ∷ [] })))
        (int_receiver is)
