-- A way leads a state where it leads the machine: one lemma for each way.
use Rattle.std.proofs.Common.{◌≡◌, ◌↔◌, ℕ, zero, suc, ◌+◌, ◌<◌, ◌≤◌, ℤ, pos, Bool, true, false, List, [], ◌∷◌, ◌++◌, length, length-append, map, drop, nat_lt, replicate, slice_get, Option, Some, None, refl, sym, ap, subst, ◌∙◌, if◌then◌else◌, arith}
use Rattle.std.specs.Option.{option_map, option_map_or, option_and_then}
use Rattle.std.proofs.lemmas.List.{append-nil, drop-append-le, length-drop, length-map, length-replicate, map-append}
use Rattle.std.proofs.lemmas.Bool.{ltb-true, ltb-false}
use Rattle.std.proofs.lemmas.Option.{slice_get_within}
use Rattle.kb_blast.specs.Meaning.{AreMetInPool}
use Rattle.kb_class.specs.declared.ids.MethodId.{MethodId}
use Rattle.kb_class.specs.Naming.{Has}
use Rattle.kb_heap.specs.declared.bounds.Bound.TheVariants.{Loops, Depth}
use Rattle.kb_heap.specs.declared.bounds.Bounds.{Bounds}
use Rattle.kb_heap.specs.declared.ending.Ending.TheVariants.{Returned as RunReturned, Threw as RunThrew, IllTyped as RunIllTyped}
use Rattle.kb_heap.specs.declared.heap.Heap.{Heap}
use Rattle.kb_heap.specs.declared.heap.Input.{Input}
use Rattle.kb_heap.specs.declared.heap.Object.{Object}
use Rattle.kb_heap.specs.declared.heap.Value.{Value}
use Rattle.kb_heap.specs.declared.heap.Value.TheVariants.{Int as IntValue, Ref}
use Rattle.kb_heap.specs.Heap.{object_at, value_at, with_object, literal}
use Rattle.kb_classes.specs.World.{World}
use Rattle.kb_classes.specs.declared.slots.FieldSlot.{FieldSlot}
use Rattle.kb_names.specs.declared.types.ExactType.{ExactType}
use Rattle.kb_names.specs.declared.types.ExactType.TheVariants as exact
use Rattle.kb_names.specs.declared.types.JType.{JType}
use Rattle.kb_names.specs.declared.types.JType.TheVariants as types
use Rattle.kb_semantics.specs.Config.{Setting, Config, Frame, Outcome, behind, first_frame, has_room, max_locals_of, place_in_code, Goes as StepGoes, Ends as StepEnds}
use Rattle.kb_semantics.specs.Looks.{Slot, stores}
use Rattle.kb_semantics.specs.Step.{config_at, first_heap, next_config, step}
use Rattle.kb_semantics.specs.Instructions.{new_array}
use Rattle.kb_semantics.specs.Values.{default_of, new_object, slots_of_class}
use Rattle.kb_semantics.specs.Ways.{Standpoint, counted, enters, goes_on, goes_to, hands_over, hands_to, lands as lands_step, nearest_handler, past, pushed, standpoint, throws, throws_in, throws_object, ill_typed as ill_typed_step, carries_out as carries_out_step}
use Rattle.kb_terms.specs.declared.node.TermId.{TermId}
use Rattle.kb_terms.specs.declared.node.Node.{Node}
use Rattle.kb_terms.specs.declared.node.Node.TheVariants.{Const}
use Rattle.kb_terms.specs.Terms.{Extends, interned}
use Rattle.kb_terms.proofs.Entries.{slice_get-append-left}
use Rattle.kb_terms.proofs.Values.{Extends-trans}
use Rattle.kb_picture.specs.declared.path.SymEnding.{SymEnding}
use Rattle.kb_picture.specs.declared.path.SymEnding.TheVariants.{Returned, Threw, IllTyped}
use Rattle.kb_picture.specs.declared.picture.PlaceLists.{PlaceLists}
use Rattle.kb_picture.specs.Endings.{Reading, ending_at, number_of, out_value}
use Rattle.kb_picture.specs.Instances.{variable_values}
use Rattle.kb_picture.specs.Places.{places_of}
use Rattle.kb_picture.specs.Shapes.{IsNoPlace}
use Rattle.kb_picture.proofs.ChainLaws.{all_below, below_at}
use Rattle.kb_picture.proofs.ShapeLaws.{same_places}
use Rattle.kb_picture.proofs.TableLaws.{AreBelow}
use Rattle.kb_frames.specs.declared.frame.SymFrame.{SymFrame}
use Rattle.kb_frames.specs.declared.state.Stage.TheVariants.{Runs}
use Rattle.kb_frames.specs.declared.state.SymObject.{SymObject}
use Rattle.kb_frames.specs.declared.value.Cell.{Cell}
use Rattle.kb_frames.specs.declared.value.Outcome.TheVariants.{Goes as OutcomeGoes, Ends, Cut}
use Rattle.kb_frames.specs.declared.value.SymValue.{SymValue}
use Rattle.kb_frames.specs.declared.value.SymValue.TheVariants.{Int}
use Rattle.kb_frames.specs.Calls.{back_to, called, landed, left}
use Rattle.kb_frames.specs.Cuts.{setting_of}
use Rattle.kb_frames.specs.Lent.{begun_frame, carried_on, on_frame}
use Rattle.kb_frames.specs.Making.{default_sym, new_sym_array, new_sym_object, with_array, with_made, with_new}
use Rattle.kb_frames.specs.StandsFor.{FrameStandsFor, FramesStandFor, HeapStandsFor, IsInstanceOf, IsKept, IsLike, StandsFor, beginning_of, made_at, out_of, reading_at, value_of_sym, values_of_sym, written_by}
use Rattle.kb_frames.specs.State.{State, cell_at}
use Rattle.kb_frames.specs.States.{Each, IsFrame, IsStage}
use Rattle.kb_ways.specs.Simulation.{IsOutcome}
use Rattle.kb_ways.specs.Ways.{ObjectThere, OfClass, OfPicture, OfRun, Take, There, Thrown, Way, Goes, Jumps, Enters, Leaves, Throws, ThrowsThere, Fails, carries_out, caught, ends, entered, ill_typed, kind_thrown, lands, object_value, resumes, returned, returned_to, stands_at, thrown, uncaught, value_thrown, went, with_result, with_thrown}
use Rattle.kb_ways.proofs.GrowLaws.{interned_extends}
use Rattle.kb_ways.proofs.OneInstances.{same_variables}
use Rattle.kb_ways.proofs.LocalLaws.{led_to, object_place}
use Rattle.kb_frames.proofs.ItemLaws.{each_cons, each_drop, each_rest}
use Rattle.kb_frames.proofs.MoreLaws.{cells_sound}
use Rattle.kb_ways.proofs.OutcomeStands.{first_ones}
use Rattle.kb_ways.proofs.OutcomeValues.{IsLater, cell_later, frame_later, frames_later, heap_later, objects_later, reading_int, reading_later}
use Rattle.kb_ways.proofs.PastLaws.{runs_past}
use Rattle.kb_ways.proofs.SoundLaws.{Sound}
use Rattle.kb_ways.proofs.ValueLaws.{constant_made}

-- ---- runs

-- one step more
config_more : (n : ℕ) (s : Setting) (a c d : Config) → config_at s n a ≡ Some c → step s c ≡ StepGoes d → config_at s (suc n) a ≡ Some d
config_more zero s a c d at e =
    let same : a ≡ c = cc in
    ap (λ (x : Config). option_and_then (config_at s zero) (next_config (step s x))) same ∙ ap (λ (o : Outcome). option_and_then (config_at s zero) (next_config o)) e
config_more (suc n) s a c d at e = go (λ b at. config_more n s b c d at e) (step s a) at where
  go : ((b : Config) → config_at s n b ≡ Some c → config_at s (suc n) b ≡ Some d) → (o : Outcome) → option_and_then (config_at s n) (next_config o) ≡ Some c
      → option_and_then (config_at s (suc n)) (next_config o) ≡ Some d
  go later (StepGoes b) h = later b h
  go later (StepEnds e) h = absurd cc

-- ---- heaps

-- where each place below a number is inside, the list is as long
long_enough : {A : Type 0} (n : ℕ) (xs : List A) → ((i : ℕ) → i < n → i < length xs) → n ≤ length xs
long_enough zero xs each = omega arith
long_enough (suc n) xs each = each n (omega arith)

pub no_place : (n : ℕ) (places : List ℕ) (object : ℕ) → AreBelow n places → n ≤ object → IsNoPlace places object
no_place n [] object below le = tt
no_place n (first ∷ places) object below le = (apart below.0, no_place n places object below.1 le) where
  apart : first < n → object ≡ first → ⊥
  apart less same = omega (arith, less, same, le)

inside_like : (xs ys : List Object) (i : ℕ) → i < length ys → IsLike (slice_get xs i) (slice_get ys i) → i < length xs
inside_like xs ys i inside like = go (slice_get xs i) refl (slice_get ys i) refl like where
  go : (x : Option Object) → slice_get xs i ≡ x → (y : Option Object) → slice_get ys i ≡ y → IsLike x y → i < length xs
  go (Some x) e y f l = slice_get_within xs i x e
  go None e None f l = absurd (none_inside ys i inside f)
    where
      none_inside : (zs : List Object) (j : ℕ) → j < length zs → slice_get zs j ≡ None → ⊥
      none_inside [] j h n = omega (arith, h)
      none_inside (z ∷ zs) zero h n = absurd cc
      none_inside (z ∷ zs) (suc j) h n = none_inside zs j (omega (arith, h)) n
  go None e (Some y) f l = absurd l

like_itself : (object : Option Object) → IsLike object object
like_itself None = tt
like_itself (Some object) = (refl, refl)

-- ---- a default value

default_is : (r : Reading) (term : TermId) (kind : JType) → value_of_sym r (Int term) ≡ IntValue (pos 0) → default_of kind ≡ value_of_sym r (default_sym term kind)
default_is r term (types.Class name) e = refl
default_is r term (types.Array component) e = refl
default_is r term _ e = sym e

defaults_are : (r : Reading) (term : TermId) (slots : List FieldSlot) → value_of_sym r (Int term) ≡ IntValue (pos 0)
    → map (λ (slot : FieldSlot). default_of slot.kind) slots ≡ values_of_sym r (map (λ (slot : FieldSlot). default_sym term slot.kind) slots)
defaults_are r term [] e = refl
defaults_are r term (slot ∷ slots) e =
    ap (λ (v : Value). v ∷ map (λ (slot : FieldSlot). default_of slot.kind) slots) (default_is r term slot.kind e)
    ∙ ap (λ (l : List Value). value_of_sym r (default_sym term slot.kind) ∷ l) (defaults_are r term slots e)

-- so many of a component
elements_are : (r : Reading) (term : TermId) (component : JType) (count : ℕ) → value_of_sym r (Int term) ≡ IntValue (pos 0)
    → replicate count (default_of component) ≡ values_of_sym r (replicate count (default_sym term component))
elements_are r term component zero e = refl
elements_are r term component (suc count) e =
    ap (λ (v : Value). v ∷ replicate count (default_of component)) (default_is r term component e)
    ∙ ap (λ (l : List Value). value_of_sym r (default_sym term component) ∷ l) (elements_are r term component count e)

-- ---- frames

-- the frames that stand for others are as many
as_many_frames : (r : Reading) (symbolic : List SymFrame) (frames : List Frame) → FramesStandFor r symbolic frames → length frames ≡ length symbolic
as_many_frames r [] [] stand = refl
as_many_frames r [] (frame ∷ frames) stand = absurd stand
as_many_frames r (symbolic ∷ others) [] stand = absurd stand
as_many_frames r (symbolic ∷ others) (frame ∷ frames) stand = ap suc (as_many_frames r others frames stand.1)

-- they stand at the same places
same_points : (r : Reading) (symbolic : List SymFrame) (frames : List Frame) → FramesStandFor r symbolic frames → map standpoint frames ≡ map stands_at symbolic
same_points r [] [] stand = refl
same_points r [] (frame ∷ frames) stand = absurd stand
same_points r (symbolic ∷ others) [] stand = absurd stand
same_points r (symbolic ∷ others) (frame ∷ frames) stand =
    ap (λ (m : MethodId). (m, frame.at) ∷ map standpoint frames) stand.0.method ∙ ap (λ (at : ℕ). (symbolic.method, at) ∷ map standpoint frames) stand.0.at
    ∙ ap (λ (l : List Standpoint). (symbolic.method, symbolic.at) ∷ l) (same_points r others frames stand.1)

-- and so do those that are left behind the first ones
stand_dropped : (r : Reading) (n : ℕ) (symbolic : List SymFrame) (frames : List Frame) → FramesStandFor r symbolic frames → FramesStandFor r (drop n symbolic) (drop n frames)
stand_dropped r zero symbolic frames stand = stand
stand_dropped r (suc n) [] [] stand = tt
stand_dropped r (suc n) [] (frame ∷ frames) stand = absurd stand
stand_dropped r (suc n) (symbolic ∷ others) [] stand = absurd stand
stand_dropped r (suc n) (symbolic ∷ others) (frame ∷ frames) stand = stand_dropped r n others frames stand.1

-- ---- ways

-- the state behind an instruction that was carried out, which may have written cells and objects
module _ (world : World) (bounds : Bounds) (old : State) (input : Input) (c : Config) (stands : StandsFor (setting_of world bounds) old input c)
    (nodes : List Node) (when : List (TermId × Bool)) (symbolic : SymFrame) (others : List SymFrame) (behind : Frame) (callers : List Frame) (cells : List (List Cell)) (made : List SymObject) (heap : Heap) where
  abbrev s' : Setting
  s' = setting_of world bounds

  abbrev start : Config
  start = beginning_of world old input

  abbrev written_state : State
  written_state = record old { stage = Runs symbolic others; nodes = nodes; when = when; carried = old.carried + 1; cells = cells; made = made; chosen = None }

  abbrev behind_r : Reading
  behind_r = reading_at world written_state input stands.instance_of.shape.places

  abbrev next_one : Config
  next_one = record { frame = behind; callers = callers; heap = heap; inputs = c.inputs; carried = c.carried + 1 }

  written_more : written_by s' (old.carried + 1) start ≡ written_by s' old.carried start ++ stores s' c
  written_more =
      let count : old.carried + 1 ≡ suc old.carried = omega arith in
      ap (λ (n : ℕ). written_by s' n start) count ∙ ap (λ (at : Option Config). written_by s' old.carried start ++ option_map_or (stores s') at []) stands.run

  run_more : step s' c ≡ StepGoes next_one → config_at s' (old.carried + 1) start ≡ Some next_one
  run_more e =
      let count : old.carried + 1 ≡ suc old.carried = omega arith in
      ap (λ (n : ℕ). config_at s' n start) count ∙ config_more old.carried s' start c next_one stands.run e

  pub writes_stand : FrameStandsFor behind_r symbolic behind → FramesStandFor behind_r others callers → HeapStandsFor behind_r written_state (first_heap world input.heap) heap
      → ((slot : Slot) → slot.object < length input.heap.objects → Has (written_by s' old.carried start ++ stores s' c) slot ↔ IsKept behind_r written_state slot)
      → step s' c ≡ StepGoes next_one → (i : IsInstanceOf written_state input) → IsOutcome world bounds c written_state input i OutcomeGoes
  writes_stand framed waiting stood kept e i = (
    next_one,
    e,
    record {
      run = run_more e;
      instance_of = record {
        shape = stands.instance_of.shape;
        conditions = subst (λ (vs : List ℤ). AreMetInPool nodes vs when) (sym (same_variables old.picture input stands.instance_of.shape old.picture refl i.shape)) i.conditions;
      };
      stage = (framed, waiting);
      heap = stood;
      written = λ slot inside. (
        (λ has. (kept slot inside).0 (subst (λ (l : List Slot). Has l slot) written_more has)),
        (λ k. subst (λ (l : List Slot). Has l slot) (sym written_more) ((kept slot inside).1 k)),
      );
      chosen = tt;
    },
  )

module _ (world : World) (bounds : Bounds) (old : State) (sound : Sound world old) (input : Input) (c : Config) (stands : StandsFor (setting_of world bounds) old input c)
    (frame : SymFrame) (callers : List SymFrame) (named : IsStage world old (Runs frame callers)) (next : ℕ)
    (nodes : List Node) (more : Extends old.nodes nodes) (when : List (TermId × Bool))
    (framed : FrameStandsFor (reading_at world (record old { stage = Runs frame callers; nodes = nodes; when = when }) input stands.instance_of.shape.places) frame c.frame)
    (waiting : FramesStandFor (reading_at world (record old { stage = Runs frame callers; nodes = nodes; when = when }) input stands.instance_of.shape.places) callers c.callers) where
  abbrev s : Setting
  s = setting_of world bounds

  abbrev places : PlaceLists
  places = stands.instance_of.shape.places

  abbrev state : State
  state = record old { stage = Runs frame callers; nodes = nodes; when = when }

  abbrev first : Heap
  first = first_heap world input.heap

  abbrev r : Reading
  r = reading_at world state input places

  later : IsLater (reading_at world old input places) r old.nodes
  later = reading_later world old state input places refl more

  -- ---- it ends

  -- at the places of the instance that is told
  ends_stands : (new : State) (ending : SymEnding) (heap : Heap) → new.picture ≡ old.picture → (i : IsInstanceOf new input)
      → step s c ≡ StepEnds (record { ending = ending_at (reading_at world new input places) ending; heap = heap })
      → HeapStandsFor (reading_at world new input places) new first heap → IsOutcome world bounds c new input i (Ends ending)
  ends_stands new ending heap same i e h =
      subst (λ (p : PlaceLists). (heap : Heap) × (step s c ≡ StepEnds (record { ending = ending_at (reading_at world new input p) ending; heap = heap })) × HeapStandsFor (reading_at world new input p) new first heap)
      (sym (same_places new.picture input places (ap (λ p. places_of p input) same ∙ stands.instance_of.shape.placed) i.shape)) (heap, e, h)

  -- the heap is left as it was
  ends_so : (ending : SymEnding) → (i : IsInstanceOf state input) → step s c ≡ StepEnds (record { ending = ending_at r ending; heap = c.heap }) → IsOutcome world bounds c state input i (Ends ending)
  ends_so ending i e =
      ends_stands state ending c.heap refl i e
      (heap_later world old state (reading_at world old input places) r first c.heap later sound.cells sound.made refl refl stands.heap)

  abbrev ill_typed_at : MethodId → ℕ → Outcome
  ill_typed_at m at = StepEnds (record { ending = RunIllTyped (place_in_code world m at); heap = c.heap })

  pub ill_typed_is : step s c ≡ ill_typed_step s c → (i : IsInstanceOf (ill_typed world state).state input)
      → IsOutcome world bounds c (ill_typed world state).state input i (ill_typed world state).outcome
  ill_typed_is e i =
      ends_so (IllTyped (place_in_code world frame.method frame.at)) i
      (e ∙ ap (λ (m : MethodId). ill_typed_at m c.frame.at) framed.method ∙ ap (λ (at : ℕ). ill_typed_at frame.method at) framed.at)

  -- ---- an object is made

  abbrev inputs : ℕ
  inputs = length input.heap.objects

  abbrev literals : ℕ
  literals = length world.literals

  first_length : length first.objects ≡ inputs + literals
  first_length = length-append input.heap.objects (replicate literals literal) ∙ ap (λ (n : ℕ). inputs + n) (length-replicate literals literal)

  heap_there : inputs + literals ≤ length c.heap.objects
  unfolding reading_at
  heap_there = long_enough (inputs + literals) c.heap.objects each where
    by_order : (i : ℕ) → i < inputs + literals → (b : Bool) → nat_lt i inputs ≡ b → IsLike (object_at c.heap i) (object_at first i)
    by_order i below true e = stands.heap.like i (ltb-true i inputs e)
    by_order i below false e =
        subst (λ (o : Option Object). IsLike o (object_at first i)) (sym (stands.heap.others i below (no_place inputs places.objects i (all_below old.picture input stands.instance_of.shape) (ltb-false i inputs e))))
        (like_itself (object_at first i))

    each : (i : ℕ) → i < inputs + literals → i < length c.heap.objects
    each i below = inside_like c.heap.objects first.objects i (omega (arith, below, first_length)) (by_order i below (nat_lt i inputs) refl)

  pub heap_length : length c.heap.objects ≡ inputs + literals + length old.made
  unfolding reading_at
  heap_length =
      let many = ap length stands.heap.made in
      omega (arith, many, heap_there, length-drop (inputs + literals) c.heap.objects, length-map old.made (made_at (reading_at world old input places)))

  abbrev nought : List Node × TermId
  nought = interned nodes (Const (pos 0))

  module _ (symbolic : TermId → SymObject) (real : Object) where
    abbrev with_it : State
    with_it = with_new symbolic state

    abbrev pub r' : Reading
    r' = reading_at world with_it input places

    abbrev pub new_heap : Heap
    new_heap = with_object c.heap real

    made_later : IsLater (reading_at world old input places) r' old.nodes
    made_later = reading_later world old with_it input places refl (Extends-trans old.nodes nodes nought.0 more (interned_extends nodes (Const (pos 0))))

    zero_value : value_of_sym r' (Int nought.1) ≡ IntValue (pos 0)
    zero_value = reading_int world with_it input places nought.1 ∙ ap IntValue (constant_made nodes (pos 0) (variable_values old.picture input places.objects))

    pub same_object : (object : ℕ) → object < inputs + literals → object_at new_heap object ≡ object_at c.heap object
    same_object object below = slice_get-append-left c.heap.objects (real ∷ []) object (omega (arith, below, heap_there))

    -- where the object is the one that is made
    object_heap : real ≡ made_at r' (symbolic nought.1) → HeapStandsFor r' with_it first new_heap
    unfolding reading_at
    object_heap is = record {
      made =
          drop-append-le (inputs + literals) c.heap.objects (real ∷ []) heap_there
          ∙ ap (λ (l : List Object). l ++ real ∷ []) (stands.heap.made ∙ sym (objects_later world old (reading_at world old input places) r' made_later old.made sound.made))
          ∙ ap (λ (o : Object). map (made_at r') old.made ++ o ∷ []) is
          ∙ sym (map-append (made_at r') old.made (symbolic nought.1 ∷ []));
      like = λ object inside. subst (λ (o : Option Object). IsLike o (object_at first object)) (sym (same_object object (omega (arith, inside)))) (stands.heap.like object inside);
      cells = λ object slot place at.
          ap (option_and_then (λ (of : Object). slice_get of.values slot)) (same_object place (omega (arith, below_at inputs places.objects object place (all_below old.picture input stands.instance_of.shape) at)))
          ∙ stands.heap.cells object slot place at
          ∙ sym (cell_later world old (reading_at world old input places) r' made_later (value_at first place slot) (cell_at old.cells object slot) (cells_sound world old object slot sound.cells));
      kept = λ object slot place value at read.
          ap (option_and_then (λ (of : Object). slice_get of.values slot)) (same_object place (omega (arith, below_at inputs places.objects object place (all_below old.picture input stands.instance_of.shape) at)))
          ∙ stands.heap.kept object slot place value at read;
      others = λ object inside none. same_object object inside ∙ stands.heap.others object inside none;
    }

  -- one of a class
  pub made_heap : (class : List ℕ) → HeapStandsFor (r' (new_sym_object world class) (new_object world class)) (with_made world state class) first (with_object c.heap (new_object world class))
  made_heap class =
      object_heap (new_sym_object world class) (new_object world class)
      (ap (λ (vs : List Value). record { kind = exact.Class class; values = vs })
      (defaults_are (r' (new_sym_object world class) (new_object world class)) nought.1 (slots_of_class world class) (zero_value (new_sym_object world class) (new_object world class))))

  -- an array of so many elements
  pub array_heap : (component : JType) (count : ℕ)
      → HeapStandsFor (r' (new_sym_array component count) (new_array component count)) (with_array state component count) first (with_object c.heap (new_array component count))
  array_heap component count =
      object_heap (new_sym_array component count) (new_array component count)
      (ap (λ (vs : List Value). record { kind = exact.Array component; values = vs })
      (elements_are (r' (new_sym_array component count) (new_array component count)) nought.1 component count (zero_value (new_sym_array component count) (new_array component count))))

  -- ---- it goes on

  abbrev Follows : Take → Type 0
  Follows take = (i : IsInstanceOf take.state input) → IsOutcome world bounds c take.state input i take.outcome

  pub room_same : (stack : List SymValue) → has_room world c.frame.method (length (values_of_sym r stack)) ≡ has_room world frame.method (length stack)
  room_same stack = ap (λ (m : MethodId). has_room world m (length (values_of_sym r stack))) framed.method ∙ ap (has_room world frame.method) (length-map stack (value_of_sym r))

  -- where nothing is written
  module _ (plain : stores s c ≡ []) where
    abbrev after : SymFrame → List SymFrame → State
    after symbolic others = record old { stage = Runs symbolic others; nodes = nodes; when = when; carried = old.carried + 1; chosen = None }

    goes_stands : (symbolic : SymFrame) (others : List SymFrame) (behind : Frame) (frames : List Frame) → FrameStandsFor r symbolic behind → FramesStandFor r others frames
        → step s c ≡ StepGoes (record { frame = behind; callers = frames; heap = c.heap; inputs = c.inputs; carried = c.carried + 1 })
        → (i : IsInstanceOf (after symbolic others) input) → IsOutcome world bounds c (after symbolic others) input i OutcomeGoes
    unfolding reading_at
    goes_stands symbolic others behind frames framed waiting e i =
        writes_stand world bounds old input c stands nodes when symbolic others behind frames old.cells old.made c.heap framed waiting
        (heap_later world old (after symbolic others) (reading_at world old input places) r first c.heap later sound.cells sound.made refl refl stands.heap)
        (λ slot inside. (
          (λ has. (let k = (stands.written slot inside).0 (subst (λ (l : List Slot). Has l slot) same has) in
              record { object = k.object; place = k.place; value = k.value; cell = k.cell })),
          (λ k. subst (λ (l : List Slot). Has l slot) (sym same) ((stands.written slot inside).1 (record { object = k.object; place = k.place; value = k.value; cell = k.cell }))),
        ))
        e i
      where
        before : List Slot
        before = written_by s old.carried (beginning_of world old input)

        same : before ++ stores s c ≡ before
        same = ap (λ (l : List Slot). before ++ l) plain ∙ append-nil before

    goes_is : (locals : List (Option SymValue)) (stack : List SymValue) → step s c ≡ led_to s c next r (Goes locals stack) → Follows (went world bounds next state (Goes locals stack))
    unfolding goes_on
    goes_is locals stack e =
        go (has_room world frame.method (length stack))
        (e ∙ ap (λ (b : Bool). if b then carries_out_step c (record c.frame { at = next; locals = map (option_map (value_of_sym r)) locals; stack = values_of_sym r stack }) c.callers c.heap else ill_typed_step s c) (room_same stack))
      where
        go : (b : Bool) → step s c ≡ (if b then carries_out_step c (record c.frame { at = next; locals = map (option_map (value_of_sym r)) locals; stack = values_of_sym r stack }) c.callers c.heap else ill_typed_step s c)
            → Follows (if b then carries_out state (λ (f : SymFrame). record f { at = next; locals = locals; stack = stack }) else ill_typed world state)
        go true e =
            goes_stands (record frame { at = next; locals = locals; stack = stack }) callers (record c.frame { at = next; locals = map (option_map (value_of_sym r)) locals; stack = values_of_sym r stack }) c.callers
            (record { method = framed.method; at = refl; locals = refl; stack = refl; transfers = framed.transfers }) waiting e
        go false e = ill_typed_is e

    -- where the transfers are counted
    counted_is : (target : ℕ) (stack : List SymValue) (n : Option ℕ)
        → step s c ≡ option_map_or (λ transfers. carries_out_step c (record c.frame { at = target; stack = values_of_sym r stack; transfers = transfers }) c.callers c.heap) n (past c Loops)
        → Follows (option_map_or (λ transfers. carries_out state (λ (f : SymFrame). record f { at = target; stack = stack; transfers = transfers })) n (record { state = state; outcome = Cut Loops }))
    counted_is target stack None e = λ i. runs_past s old input c Loops stands e
    counted_is target stack (Some n) e =
        goes_stands (record frame { at = target; stack = stack; transfers = n }) callers (record c.frame { at = target; stack = values_of_sym r stack; transfers = n }) c.callers
        (record { method = framed.method; at = refl; locals = framed.locals; stack = refl; transfers = refl }) waiting e

    counted_same : (target : ℕ) → counted bounds.run c.frame.at target c.frame.transfers ≡ counted bounds.run frame.at target frame.transfers
    counted_same target = ap (λ (at : ℕ). counted bounds.run at target c.frame.transfers) framed.at ∙ ap (λ (n : ℕ). counted bounds.run frame.at target n) framed.transfers

    jumps_is : (target : ℕ) (stack : List SymValue) → step s c ≡ led_to s c next r (Jumps target stack) → Follows (went world bounds next state (Jumps target stack))
    unfolding goes_to
    jumps_is target stack e =
        go (has_room world frame.method (length stack))
        (e ∙ ap (λ (b : Bool). if b then option_map_or (λ transfers. carries_out_step c (record c.frame { at = target; stack = values_of_sym r stack; transfers = transfers }) c.callers c.heap) (counted bounds.run c.frame.at target c.frame.transfers) (past c Loops) else ill_typed_step s c) (room_same stack))
      where
        go : (b : Bool) → step s c ≡ (if b then option_map_or (λ transfers. carries_out_step c (record c.frame { at = target; stack = values_of_sym r stack; transfers = transfers }) c.callers c.heap) (counted bounds.run c.frame.at target c.frame.transfers) (past c Loops) else ill_typed_step s c)
            → Follows (if b then option_map_or (λ transfers. carries_out state (λ (f : SymFrame). record f { at = target; stack = stack; transfers = transfers })) (counted bounds.run frame.at target frame.transfers) (record { state = state; outcome = Cut Loops }) else ill_typed world state)
        go true e =
            counted_is target stack (counted bounds.run frame.at target frame.transfers)
            (e ∙ ap (λ (n : Option ℕ). option_map_or (λ transfers. carries_out_step c (record c.frame { at = target; stack = values_of_sym r stack; transfers = transfers }) c.callers c.heap) n (past c Loops)) (counted_same target))
        go false e = ill_typed_is e

    -- ---- a method is entered

    as_deep : length c.callers ≡ length callers
    as_deep = as_many_frames r callers c.callers waiting

    -- Where the state stands for c, a method is entered as the machine enters it.
    pub entered_is : (method : MethodId) (arguments rest : List SymValue) → step s c ≡ enters s c method (values_of_sym r arguments) (values_of_sym r rest)
        → Follows (entered world bounds state method arguments rest)
    unfolding enters entered
    entered_is method arguments rest e =
        go (nat_lt (suc (length callers)) bounds.run.depth) (e ∙ ap (λ (n : ℕ). if nat_lt (suc n) bounds.run.depth then begins else past c Depth) as_deep)
      where
        begins : Outcome
        begins = carries_out_step c (first_frame world method (values_of_sym r arguments)) (record c.frame { stack = values_of_sym r rest } ∷ c.callers) c.heap

        go : (b : Bool) → step s c ≡ (if b then begins else past c Depth)
            → Follows (if b then record { state = carried_on (called world method arguments rest state); outcome = OutcomeGoes } else record { state = state; outcome = Cut Depth })
        go true e =
            goes_stands (begun_frame world method arguments) (record frame { stack = rest } ∷ callers)
            (first_frame world method (values_of_sym r arguments)) (record c.frame { stack = values_of_sym r rest } ∷ c.callers)
            (record { method = refl; at = refl; locals = first_ones (value_of_sym r) arguments (values_of_sym r arguments) (max_locals_of world method) refl; stack = refl; transfers = refl })
            (record { method = framed.method; at = framed.at; locals = framed.locals; stack = refl; transfers = framed.transfers }, waiting) e
        go false e = λ i. runs_past s old input c Depth stands e

    -- ---- the method returns

    result_same : (value : Option SymValue) (stack : List SymValue) → pushed (option_map (value_of_sym r) value) (values_of_sym r stack) ≡ values_of_sym r (with_result value stack)
    result_same None stack = refl
    result_same (Some value) stack = refl

    out_same : (value : Option SymValue) → option_map (value_of_sym r) value ≡ option_map (out_value r) (option_map out_of value)
    out_same None = refl
    out_same (Some value) = refl

    abbrev resumed : Frame → Option SymValue → Frame
    resumed to value = record to { at = behind world to.method to.at; stack = pushed (option_map (value_of_sym r) value) to.stack }

    resumed_stands : (value : Option SymValue) (caller : SymFrame) (to : Frame) → FrameStandsFor r caller to → FrameStandsFor r (resumes world value caller) (resumed to value)
    resumed_stands value caller to stand = record {
      method = stand.method;
      at = ap (λ (m : MethodId). behind world m to.at) stand.method ∙ ap (behind world caller.method) stand.at;
      locals = stand.locals;
      stack = ap (pushed (option_map (value_of_sym r) value)) stand.stack ∙ result_same value caller.stack;
      transfers = stand.transfers;
    }

    room_there : (value : Option SymValue) (caller : SymFrame) (to : Frame) → FrameStandsFor r caller to
        → has_room world to.method (length (pushed (option_map (value_of_sym r) value) to.stack)) ≡ has_room world caller.method (length (with_result value caller.stack))
    room_there value caller to stand =
        ap (λ (m : MethodId). has_room world m (length (pushed (option_map (value_of_sym r) value) to.stack))) stand.method
        ∙ ap (λ (vs : List Value). has_room world caller.method (length vs)) (ap (pushed (option_map (value_of_sym r) value)) stand.stack ∙ result_same value caller.stack)
        ∙ ap (has_room world caller.method) (length-map (with_result value caller.stack) (value_of_sym r))

    -- Where the state stands for c, a method returns as the machine returns from it.
    pub returned_is : (value : Option SymValue) → step s c ≡ hands_over s c (option_map (value_of_sym r) value) → Follows (returned world state value)
    unfolding hands_over returned
    returned_is value e = go callers refl c.callers refl waiting e where
      go : (symbolic : List SymFrame) → callers ≡ symbolic → (frames : List Frame) → c.callers ≡ frames → FramesStandFor r symbolic frames
          → step s c ≡ hands_to s c frames (option_map (value_of_sym r) value) → Follows (returned_to world state symbolic value)
      go [] is [] are stand e = λ i. ends_so (Returned (option_map out_of value)) i (e ∙ ap (λ (v : Option Value). StepEnds (record { ending = RunReturned v; heap = c.heap })) (out_same value))
      go [] is (to ∷ frames) are stand e = absurd stand
      go (caller ∷ more) is [] are stand e = absurd stand
      go (caller ∷ more) is (to ∷ frames) are stand e =
          by_room (has_room world caller.method (length (with_result value caller.stack)))
          (e ∙ ap (λ (b : Bool). if b then carries_out_step c (resumed to value) frames c.heap else ill_typed_step s c) (room_there value caller to stand.0))
        where
          by_room : (b : Bool) → step s c ≡ (if b then carries_out_step c (resumed to value) frames c.heap else ill_typed_step s c)
              → Follows (if b then carries_out (left 1 state) (resumes world value) else ill_typed world state)
          by_room true e =
              subst (λ (cs : List SymFrame). Follows (carries_out (record state { stage = back_to (Runs frame callers) cs }) (resumes world value))) (sym is)
              (goes_stands (resumes world value caller) more (resumed to value) frames (resumed_stands value caller to stand.0) stand.1 e)
          by_room false e = ill_typed_is e

    -- ---- it throws

    -- what is thrown is the object o of the heap, and the state that has it has more terms and objects at most
    module _ (it : Thrown) (heap : Heap) (o : ℕ) (more_nodes : List Node) (more_made : List SymObject) (grown : Extends old.nodes more_nodes)
        (is : with_thrown world state it ≡ record state { nodes = more_nodes; made = more_made })
        (value_is : value_of_sym (reading_at world (record state { nodes = more_nodes; made = more_made }) input places) (value_thrown state it) ≡ Ref o)
        (stood : HeapStandsFor (reading_at world (record state { nodes = more_nodes; made = more_made }) input places) (record state { nodes = more_nodes; made = more_made }) first heap) where
      abbrev has_it : State
      has_it = record state { nodes = more_nodes; made = more_made }

      abbrev r'' : Reading
      r'' = reading_at world has_it input places

      -- from the terms that are there to those of the object
      on_later : IsLater r r'' old.nodes
      unfolding reading_at
      on_later = record {
        places = refl;
        inputs = refl;
        literals = refl;
        terms = λ t there. (reading_later world old has_it input places refl grown).terms t there ∙ sym (later.terms t there);
      }

      abbrev value : SymValue
      value = value_thrown state it

      abbrev lands_in : ℕ → ℕ → SymFrame → SymFrame
      lands_in target n symbolic = record symbolic { at = target; stack = value ∷ []; transfers = n }

      abbrev behind_landing : ℕ → ℕ → SymFrame → List SymFrame → State
      behind_landing target n symbolic others = record has_it { stage = Runs (lands_in target n symbolic) others; carried = old.carried + 1; chosen = None }

      abbrev behind_frame : ℕ → ℕ → Frame → Frame
      behind_frame target n to = record to { at = target; stack = Ref o ∷ []; transfers = n }

      landing_stands : (target n : ℕ) (symbolic : SymFrame) (others : List SymFrame) (to : Frame) (frames : List Frame) → FrameStandsFor r'' symbolic to → FramesStandFor r'' others frames
          → step s c ≡ carries_out_step c (behind_frame target n to) frames heap
          → (i : IsInstanceOf (behind_landing target n symbolic others) input) → IsOutcome world bounds c (behind_landing target n symbolic others) input i OutcomeGoes
      unfolding reading_at
      landing_stands target n symbolic others to frames stand waits e i =
          writes_stand world bounds old input c stands more_nodes when (lands_in target n symbolic) others (behind_frame target n to) frames old.cells more_made heap
          (record { method = stand.method; at = refl; locals = stand.locals; stack = ap (λ (v : Value). v ∷ []) (sym value_is); transfers = refl }) waits
          (record { made = stood.made; like = stood.like; cells = stood.cells; kept = stood.kept; others = stood.others })
          (λ slot inside. (
            (λ has. (let k = (stands.written slot inside).0 (subst (λ (l : List Slot). Has l slot) same has) in
                record { object = k.object; place = k.place; value = k.value; cell = k.cell })),
            (λ k. subst (λ (l : List Slot). Has l slot) (sym same) ((stands.written slot inside).1 (record { object = k.object; place = k.place; value = k.value; cell = k.cell }))),
          ))
          e i
        where
          before : List Slot
          before = written_by s old.carried (beginning_of world old input)

          same : before ++ stores s c ≡ before
          same = ap (λ (l : List Slot). before ++ l) plain ∙ append-nil before

      -- a frame takes it
      caught_is : (count target n : ℕ) (symbolic : SymFrame) (others : List SymFrame) (to : Frame) (frames : List Frame) → drop count (frame ∷ callers) ≡ symbolic ∷ others
          → FrameStandsFor r'' symbolic to → FramesStandFor r'' others frames → step s c ≡ carries_out_step c (behind_frame target n to) frames heap
          → Follows (caught world state it count target n)
      caught_is count target n symbolic others to frames dropped stand waits e =
          subst (λ (st : State). Follows (carries_out (landed count value n st) (λ (f : SymFrame). record f { at = target }))) (sym is)
          (subst (λ (fs : List SymFrame). Follows (carries_out (on_frame (λ (f : SymFrame). record f { stack = value ∷ []; transfers = n }) (record has_it { stage = back_to (Runs frame callers) fs }))
          (λ (f : SymFrame). record f { at = target }))) (sym dropped)
          (landing_stands target n symbolic others to frames stand waits e))

      -- where it may
      lands_is : (count target : ℕ) (symbolic : List SymFrame) (frames : List Frame) → drop count (frame ∷ callers) ≡ symbolic → FramesStandFor r symbolic frames → Each (IsFrame world old) symbolic
          → step s c ≡ lands_step s c heap o target frames → Follows (lands world bounds state it count target symbolic)
      unfolding goes_to
      lands_is count target [] [] dropped stand each e = ill_typed_is e
      lands_is count target [] (to ∷ frames) dropped stand each e = absurd stand
      lands_is count target (symbolic ∷ others) [] dropped stand each e = absurd stand
      lands_is count target (symbolic ∷ others) (to ∷ frames) dropped stand each e =
          by_room (has_room world symbolic.method 1) (e ∙ ap (λ (m : MethodId). if has_room world m 1 then takes (counted bounds.run to.at target to.transfers) else ill_typed_step s c) stand.0.method)
        where
          takes : Option ℕ → Outcome
          takes n = option_map_or (λ transfers. carries_out_step c (behind_frame target transfers to) frames heap) n (past c Loops)

          same_count : counted bounds.run to.at target to.transfers ≡ counted bounds.run symbolic.at target symbolic.transfers
          same_count = ap (λ (at : ℕ). counted bounds.run at target to.transfers) stand.0.at ∙ ap (λ (n : ℕ). counted bounds.run symbolic.at target n) stand.0.transfers

          by_count : (n : Option ℕ) → step s c ≡ takes n → Follows (option_map_or (caught world state it count target) n (record { state = state; outcome = Cut Loops }))
          by_count None e = λ i. runs_past s old input c Loops stands e
          by_count (Some n) e =
              caught_is count target n symbolic others to frames dropped (frame_later world old r r'' on_later symbolic to (each 0 symbolic refl) stand.0)
              (frames_later world old r r'' on_later others frames (each_rest (IsFrame world old) symbolic others each) stand.1) e

          by_room : (b : Bool) → step s c ≡ (if b then takes (counted bounds.run to.at target to.transfers) else ill_typed_step s c)
              → Follows (if b then option_map_or (caught world state it count target) (counted bounds.run symbolic.at target symbolic.transfers) (record { state = state; outcome = Cut Loops }) else ill_typed world state)
          by_room true e = by_count (counted bounds.run symbolic.at target symbolic.transfers) (e ∙ ap takes same_count)
          by_room false e = ill_typed_is e

      uncaught_is : step s c ≡ StepEnds (record { ending = RunThrew o; heap = heap }) → Follows (uncaught world state it)
      uncaught_is e =
          subst (λ (st : State). Follows (ends st (Threw (out_of value)))) (sym is)
          (λ i. ends_stands has_it (Threw (out_of value)) heap refl i (e ∙ ap (λ (v : Value). StepEnds (record { ending = RunThrew (number_of v); heap = heap })) (sym value_is)) stood)

      -- Where the state stands for c, it goes where the machine's way goes.
      thrown_is : step s c ≡ throws_in s c heap o (kind_thrown it) → Follows (thrown world bounds state it)
      unfolding throws_in thrown
      thrown_is e =
          go (nearest_handler world (kind_thrown it) (map stands_at (frame ∷ callers)))
          (e ∙ ap (λ (points : List Standpoint). leads (nearest_handler world (kind_thrown it) points)) (same_points r (frame ∷ callers) (c.frame ∷ c.callers) (framed, waiting)))
        where
          leads : Option (ℕ × ℕ) → Outcome
          leads found = option_map_or (λ (f : ℕ × ℕ). lands_step s c heap o f.1 (drop f.0 (c.frame ∷ c.callers))) found (StepEnds (record { ending = RunThrew o; heap = heap }))

          go : (found : Option (ℕ × ℕ)) → step s c ≡ leads found
              → Follows (option_map_or (λ (f : ℕ × ℕ). lands world bounds state it f.0 f.1 (drop f.0 (frame ∷ callers))) found (uncaught world state it))
          go None e = uncaught_is e
          go (Some f) e =
              lands_is f.0 f.1 (drop f.0 (frame ∷ callers)) (drop f.0 (c.frame ∷ c.callers)) refl (stand_dropped r f.0 (frame ∷ callers) (c.frame ∷ c.callers) (framed, waiting))
              (each_drop (IsFrame world old) f.0 (frame ∷ callers) (each_cons (IsFrame world old) frame callers named.0 named.1)) e

    -- a new object
    pub throws_is : (class : List ℕ) → step s c ≡ throws s c class → Follows (thrown world bounds state (OfClass class))
    unfolding throws reading_at
    throws_is class e =
        thrown_is (OfClass class) (with_object c.heap (new_object world class)) (length c.heap.objects) nought.0 (old.made ++ new_sym_object world class nought.1 ∷ [])
        (Extends-trans old.nodes nodes nought.0 more (interned_extends nodes (Const (pos 0)))) refl (ap Ref (sym heap_length)) (made_heap class) e

    -- one that is there
    object_named : (object : ObjectThere) → value_of_sym r (object_value object) ≡ Ref (object_place r object)
    object_named (OfPicture number) = refl
    object_named (OfRun number) = refl

    pub throws_there_is : (object : ObjectThere) (kind : ExactType) → step s c ≡ throws_object s c (object_place r object) kind → Follows (thrown world bounds state (There object kind))
    throws_there_is object kind e =
        thrown_is (There object kind) c.heap (object_place r object) nodes old.made more refl (object_named object)
        (heap_later world old state (reading_at world old input places) r first c.heap later sound.cells sound.made refl refl stands.heap) e

    -- ---- all of them

    pub went_is : (way : Way) → step s c ≡ led_to s c next r way → Follows (went world bounds next state way)
    went_is (Goes locals stack) e = goes_is locals stack e
    went_is (Jumps target stack) e = jumps_is target stack e
    went_is (Enters method arguments rest) e = entered_is method arguments rest e
    went_is (Leaves value) e = returned_is value e
    went_is (Throws class) e = throws_is class e
    went_is (ThrowsThere object kind) e = throws_there_is object kind e
    went_is Fails e = ill_typed_is e
