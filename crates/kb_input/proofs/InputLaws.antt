-- The emitted input is type-correct, has the picture's shape, and has the given values in its variables.
use Rattle.std.proofs.Common.{◌≡◌, ℕ, zero, suc, ◌+◌, ◌<◌, ◌≤◌, ◌^◌, inl, inr, ℤ, pos, Bool, true, false, true≢false, ◌||◌, cond, if◌then◌else◌, List, [], ◌∷◌, ◌++◌, length, map, filter_map, find, replicate, fold, take, Option, Some, None, slice_get, refl, sym, ap, subst, ◌∙◌, arith, length-append, option_map, option_and_then}
use Rattle.std.proofs.lemmas.List.{length-map, length-replicate, map-append, take_all}
use Rattle.std.proofs.lemmas.Option.{same_Some, slice_get_within, slice_get-map, get_or_from_slice_get}
use Rattle.std.specs.List.{AllByRecursion, cons_option, list_any}
use Rattle.std.specs.Option.{option_map_or}
use Rattle.kb_blast.specs.Meaning.{AreMet, listed_values}
use Rattle.kb_class.specs.Naming.{Has}
use Rattle.kb_class.specs.declared.ids.MethodId.{MethodId}
use Rattle.kb_class.specs.declared.members.MethodInfo.{MethodInfo}
use Rattle.kb_class.specs.Members.{is_static}
use Rattle.kb_heap.specs.declared.heap.Value.{Value}
use Rattle.kb_heap.specs.declared.heap.Value.TheVariants.{Int as IntValue, Null as NullValue, Ref}
use Rattle.kb_heap.specs.declared.heap.Object.{Object}
use Rattle.kb_heap.specs.declared.heap.Heap.{Heap}
use Rattle.kb_heap.specs.declared.heap.Input.{Input}
use Rattle.kb_heap.specs.Heap.{object_at, value_at}
use Rattle.kb_classes.proofs.Walks.{taken_next}
use Rattle.kb_classes.specs.World.{World}
use Rattle.kb_classes.specs.declared.slots.FieldSlot.{FieldSlot}
use Rattle.kb_names.specs.declared.types.ExactType.{ExactType}
use Rattle.kb_names.specs.declared.types.ExactType.TheVariants as exact
use Rattle.kb_names.specs.declared.types.JType.{JType}
use Rattle.kb_names.specs.declared.types.JType.TheVariants as types
use Rattle.kb_semantics.specs.Config.{info_of, class_name}
use Rattle.kb_semantics.specs.Inputs.{IsTypeCorrect, IsInputObject, HasValuesOf, HasReceiver, argument_types}
use Rattle.kb_semantics.specs.Looks.{numbers_below}
use Rattle.kb_semantics.specs.Values.{IsValueOf, AreValuesOf, IsObjectOf, default_of, slots_of_class}
use Rattle.kb_terms.specs.Terms.{int_at}
use Rattle.kb_picture.proofs.ChainLaws.{loc_at}
use Rattle.kb_picture.proofs.GrownPictures.{item_there}
use Rattle.kb_picture.proofs.GrownShapes.{no_place, placed_from}
use Rattle.kb_picture.proofs.ShapeLaws.{named_exactly}
use Rattle.kb_picture.specs.declared.path.Path.{Path}
use Rattle.kb_picture.specs.declared.picture.Length.{Length}
use Rattle.kb_picture.specs.declared.picture.Length.TheVariants.{Plain, Is, Above}
use Rattle.kb_picture.specs.declared.picture.Origin.{Origin}
use Rattle.kb_picture.specs.declared.picture.Origin.TheVariants.{Arg, Field, Element}
use Rattle.kb_picture.specs.declared.picture.PicLoc.{PicLoc}
use Rattle.kb_picture.specs.declared.picture.PicObject.{PicObject}
use Rattle.kb_picture.specs.declared.picture.Picture.{Picture}
use Rattle.kb_picture.specs.declared.picture.Seen.{Seen}
use Rattle.kb_picture.specs.declared.picture.Seen.TheVariants.{Int, Null, Loc, Obj, Beyond}
use Rattle.kb_picture.specs.declared.picture.Standing.{Standing}
use Rattle.kb_picture.specs.declared.picture.Standing.TheVariants as standings
use Rattle.kb_picture.specs.Instances.{IsInstance, variable_value, variable_values, term_values}
use Rattle.kb_picture.specs.Laws.{form_of}
use Rattle.kb_picture.specs.Places.{slot_value, place_of, objects_placed, locs_placed}
use Rattle.kb_picture.specs.Queries.{type_of_slot, slot_of_class, component_of, kind_for, kind_seen}
use Rattle.kb_picture.specs.Shapes.{HasShape, HoldEach, HoldsSeen, IsNoPlace, AreApart, AreSuch, IsSuch, HasLength, EachStands, Stands}
use Rattle.kb_picture.specs.WellFormed.{IsSlot, HasSlot, HasElement, IsLengthOf, IsStanding, variable_seen, variables_seen, slots_seen}
use Rattle.kb_picture.specs.WellTyped.{SeenFits, SeenFitsDeclared, LocFits, StandingFits, SomeFits, IsIntLength, is_int_type}
use Rattle.kb_classes.specs.Subtypes.{fits}
use Rattle.kb_classes.specs.declared.refusal.What.TheVariants as whats
use Rattle.kb_picture.proofs.HeldLaws.{all_at}
use Rattle.kb_universe.specs.Faults.{Fault, Outside}
use Rattle.kb_resolution.specs.LeftOut.{is_left_out, has_left_out}
use Rattle.kb_resolution.specs.Lookup.{or_else, only_where}
use Rattle.kb_world.specs.Reach.{static_fault, target_fault}
use Rattle.kb_input.proofs.Filling.{AreTwo, SlotTakes, FieldTakes, ElementTakes, HeldTakes, IsFilled, KeepsTypes, AreAllTwo, IsNone, IsThere, cell_value, all_filled, all_held}
use Rattle.kb_input.proofs.KindLaws.{kind_of, SameKinds, values_like, object_values_like}
use Rattle.kb_input.proofs.SeenValues.{own_at, held_at, held_back, own_there, find_there, object_there, seen_typed, length_below, below_at, at_below}
use Rattle.kb_input.proofs.Unread.{HasSlots, HasTypedSlots, universe_typed, unread_typed, unread_kind, defaults_typed, params_typed}
use Rattle.kb_input.specs.Emitted.{arguments_of, count_of, unread_of, unread_object, has_own, is_apart, own_kind, own_object, own_objects, first_fitting, unread_objects, unread_input, location_number, location_number_at, seen_value, held_from, with_held, emitted_input}
use Rattle.kb_input.specs.Laws.{HasInput, IsOfPicture}

-- ---- lists

mapped_at : {A B : Type 0} (f : A → B) (xs : List A) (i : ℕ) (y : B) → slice_get (map f xs) i ≡ Some y → (x : A) × (slice_get xs i ≡ Some x) × (f x ≡ y)
mapped_at f [] i y at = absurd cc
mapped_at f (x ∷ xs) zero y at = (x, refl, same_Some (f x) y at)
mapped_at f (x ∷ xs) (suc i) y at = mapped_at f xs i y at

found_inside : {A : Type 0} (test : A → Bool) (xs : List A) (y : A) → find test xs ≡ Some y → Has xs y
found_inside test [] y e = absurd cc
found_inside test (x ∷ xs) y e = go (λ (g : find test xs ≡ Some y). found_inside test xs y g) (test x) e
  where
    go : (find test xs ≡ Some y → Has xs y) → (b : Bool) → cond b (Some x) (find test xs) ≡ Some y → Has (x ∷ xs) y
    go again true f = (0, f)
    go again false f = (let later = again f in (suc later.0, later.1))

all_joined : {A : Type 0} (P : A → Type 0) (xs ys : List A) → AllByRecursion P xs → AllByRecursion P ys → AllByRecursion P (xs ++ ys)
all_joined P [] ys one other = other
all_joined P (x ∷ xs) ys one other = (one.0, all_joined P xs ys one.1 other)

kinds_of_forms : (objects : List Object) → map (λ (f : ExactType × ℕ). f.0) (map form_of objects) ≡ map kind_of objects
kinds_of_forms [] = refl
kinds_of_forms (object ∷ objects) = ap (λ (ks : List ExactType). object.kind ∷ ks) (kinds_of_forms objects)

-- what the first so many items have is among them
front_inside : (count : ℕ) (objects : List PicObject) (i : ℕ) (object : PicObject) → slice_get (take count objects) i ≡ Some object → i < count
front_inside zero objects i object at = absurd cc
front_inside (suc count) [] i object at = absurd cc
front_inside (suc count) (o ∷ objects) zero object at = omega arith
front_inside (suc count) (o ∷ objects) (suc i) object at = let later = front_inside count objects i object at in omega (arith, later)

some_there : (world : World) (heap : Heap) (type : JType) (o : Option Object) → IsObjectOf world type o → (x : Object) × (o ≡ Some x)
some_there world heap type None h = absurd h
some_there world heap type (Some x) h = (x, refl)

-- a reference of a type is to an object that there is
ref_there : (world : World) (heap : Heap) (type : JType) (o : ℕ) → IsValueOf world heap type (Ref o) → (x : Object) × (object_at heap o ≡ Some x)
ref_there world heap (types.Class name) o h = some_there world heap (types.Class name) (object_at heap o) h
ref_there world heap (types.Array component) o h = some_there world heap (types.Array component) (object_at heap o) h
ref_there world heap _ o h = absurd h

-- ---- slots that were read

-- the declared type of a slot that was read, which allows what is seen
pub record SlotTyped (world : World) (id : MethodId) (picture : Picture) (slot : Origin) (how : Seen) : Type 0 where
  pub type : JType
  pub declared : type_of_slot world id picture.objects slot ≡ Some type
  pub allows : SeenFits world picture type how

module _ (world : World) (id : MethodId) (picture : Picture) (values : List ℤ) (h : HasInput world id picture values) where
  abbrev base : Heap
  base = (unread_input world id picture).heap

  abbrev own_of : ℕ → ℕ
  own_of i = own_at picture (length picture.objects) picture.seen i

  abbrev held : List (Origin × Value)
  held = held_from picture values (length picture.objects) picture.seen

  slot_typed : (i : ℕ) (slot : Origin) (how : Seen) → slice_get picture.seen i ≡ Some (slot, how) → SlotTyped world id picture slot how
  slot_typed i slot how at = go (type_of_slot world id picture.objects slot) refl (h.typed.seen i (slot, how) at)
    where
      go : (t : Option JType) → type_of_slot world id picture.objects slot ≡ t → SeenFitsDeclared world picture t how → SlotTyped world id picture slot how
      go None e f = absurd f
      go (Some type) e f = record { type = type; declared = e; allows = f }

  -- ---- what the slots take

  arg_type : (number : ℕ) (type : JType) → type_of_slot world id picture.objects (Arg number) ≡ Some type → slice_get (arguments_of world id) number ≡ Some type
  arg_type number type e = go (info_of world id) e
    where
      go : (method : Option MethodInfo) → option_and_then (λ (m : MethodInfo). slice_get (argument_types world m) number) method ≡ Some type
          → slice_get (option_map_or (argument_types world) method []) number ≡ Some type
      go None f = absurd cc
      go (Some m) f = f

  field_takes : (kind : ExactType) (slot : ℕ) (type : JType) (v : Value) → slot_of_class world slot kind ≡ Some type → IsValueOf world base type v → FieldTakes world base kind slot v
  field_takes (exact.Class name) slot type v e is =
      (type, slice_get-map (λ (field : FieldSlot). field.kind) (slots_of_class world name) slot ∙ e, is)
  field_takes (exact.Array component) slot type v e is = absurd cc

  element_takes : (kind : ExactType) (type : JType) (v : Value) → component_of kind ≡ Some type → IsValueOf world base type v → ElementTakes world base kind v
  element_takes (exact.Class name) type v e is = absurd cc
  element_takes (exact.Array component) type v e is = subst (λ (t : JType). IsValueOf world base t v) (sym (same_Some component type e)) is

  slot_takes : (slot : Origin) (type : JType) (v : Value) → IsSlot world (length (argument_types world h.typed.method)) picture.objects slot → type_of_slot world id picture.objects slot ≡ Some type
      → IsValueOf world base type v → SlotTakes world (arguments_of world id) base slot v
  slot_takes (Arg number) type v there e is = (type, arg_type number type e, is)
  slot_takes (Field o slot) type v there e is = (
    unread_of world there.0,
    object_there world id picture values h.typed h.values_are o there.0 there.1,
    subst (λ (kind : ExactType). FieldTakes world base kind slot v) (sym (unread_kind world there.0.kind (count_of there.0.length)))
        (field_takes there.0.kind slot type v (sym (ap (option_and_then (λ (x : PicObject). slot_of_class world slot x.kind)) there.1) ∙ e) is),
  )
  slot_takes (Element o index) type v there e is = (
    unread_of world there.0,
    object_there world id picture values h.typed h.values_are o there.0 there.1,
    subst (λ (kind : ExactType). ElementTakes world base kind v) (sym (unread_kind world there.0.kind (count_of there.0.length)))
        (element_takes there.0.kind type v (sym (ap (option_and_then (λ (x : PicObject). component_of x.kind)) there.1) ∙ e) is),
  )

  -- the slot that was read
  read_there : (i : ℕ) (slot : Origin) (how : Seen) → slice_get picture.seen i ≡ Some (slot, how) → IsSlot world (length (argument_types world h.typed.method)) picture.objects slot
  read_there i slot how at =
      h.typed.formed.slots i slot (slice_get-map (λ (x : Origin × Seen). x.0) picture.seen i ∙ ap (option_map (λ (x : Origin × Seen). x.0)) at)

  held_takes : (i : ℕ) (x : Origin × Value) → slice_get held i ≡ Some x → HeldTakes world (arguments_of world id) base x
  held_takes i x at =
      let back = held_back picture values (length picture.objects) picture.seen i x at in
      let typed = slot_typed i back.read.0 back.read.1 back.at in
      subst (HeldTakes world (arguments_of world id) base) back.is
      (slot_takes back.read.0 typed.type (seen_value picture values (own_of i) back.read.1) (read_there i back.read.0 back.read.1 back.at) typed.declared
      (seen_typed world id picture values h.typed h.values_are i back.read.0 back.read.1 typed.type back.at typed.declared typed.allows))

  all_by_place : {A : Type 0} (P : A → Type 0) (xs : List A) → ((i : ℕ) (x : A) → slice_get xs i ≡ Some x → P x) → AllByRecursion P xs
  all_by_place P [] each = tt
  all_by_place P (x ∷ xs) each = (each 0 x refl, all_by_place P xs (λ i y at. each (suc i) y at))

  -- ---- the input in which nothing was read

  short_count : (len : Length) → IsIntLength len → count_of len < 2 ^ 31
  short_count Plain short = omega arith
  short_count (Is n) short = short
  short_count (Above n) short = short

  kept : (kind : ExactType) (count : ℕ) → HasTypedSlots kind → count < 2 ^ 31 → KeepsTypes world base (unread_object world kind count)
  kept kind count has short =
      subst (λ (k : ExactType). HasValuesOf world base k (unread_object world kind count).values) (sym (unread_kind world kind count)) (unread_typed world base kind count has short)

  picture_kept : AllByRecursion (KeepsTypes world base) (map (unread_of world) picture.objects)
  picture_kept = all_by_place (KeepsTypes world base) (map (unread_of world) picture.objects) each
    where
      one : (i : ℕ) (object : PicObject) → slice_get picture.objects i ≡ Some object → KeepsTypes world base (unread_of world object)
      one i object at =
          kept object.kind (count_of object.length) (universe_typed world h.linked.universe object.kind (h.typed.universe i object at)) (short_count object.length (h.typed.lengths i object at))

      each : (i : ℕ) (x : Object) → slice_get (map (unread_of world) picture.objects) i ≡ Some x → KeepsTypes world base x
      each i x at =
          let found = mapped_at (unread_of world) picture.objects i x at in
          subst (KeepsTypes world base) found.2 (one i found.0 found.1)

  own_kind_typed : (type : Option JType) → HasTypedSlots (own_kind (option_and_then (first_fitting world) type))
  own_kind_typed None = refl
  own_kind_typed (Some type) = go (first_fitting world type) refl
    where
      go : (kind : Option ExactType) → find (λ (k : ExactType). fits world k type) world.universe ≡ kind → HasTypedSlots (own_kind kind)
      go None e = refl
      go (Some kind) e = universe_typed world h.linked.universe kind (found_inside (λ (k : ExactType). fits world k type) world.universe kind e)

  own_kept : (seen : List (Origin × Seen)) → AllByRecursion (KeepsTypes world base) (own_objects world id picture seen)
  own_kept [] = tt
  own_kept (x ∷ seen) = go (has_own picture x.1) (own_kept seen)
    where
      go : (b : Bool) → AllByRecursion (KeepsTypes world base) (own_objects world id picture seen)
          → AllByRecursion (KeepsTypes world base) ((if b then own_object world id picture x.0 ∷ [] else []) ++ own_objects world id picture seen)
      go false later = later
      go true later = (
        kept (own_kind (option_and_then (first_fitting world) (type_of_slot world id picture.objects x.0))) 0 (own_kind_typed (type_of_slot world id picture.objects x.0)) (omega arith),
        later,
      )

  unread_kept : AllByRecursion (KeepsTypes world base) (unread_objects world id picture)
  unread_kept = all_joined (KeepsTypes world base) (map (unread_of world) picture.objects) (own_objects world id picture picture.seen) picture_kept (own_kept picture.seen)

  -- ---- arguments

  params_left_in : AllByRecursion HasSlots h.accepted.method.kind.params
  params_left_in = params_typed h.accepted.method.kind.params (first_false (list_any is_left_out h.accepted.method.kind.params) (option_map_or is_left_out h.accepted.method.kind.result false) none)
    where
      first_false : (a b : Bool) → (a || b) ≡ false → a ≡ false
      first_false true b e = e
      first_false false b e = refl

      second_none : (a b : Option Fault) → or_else a b ≡ None → b ≡ None
      second_none None b e = e
      second_none (Some x) b e = absurd cc

      not_left : (b : Bool) (x : Fault) → only_where b x ≡ None → b ≡ false
      not_left true x e = absurd cc
      not_left false x e = refl

      fault : target_fault world h.accepted.method ≡ None
      fault = sym (ap (option_and_then (target_fault world)) h.accepted.method_is) ∙ h.accepted.faultless.itself

      none : has_left_out h.accepted.method.kind ≡ false
      none = not_left (has_left_out h.accepted.method.kind) (Outside whats.Kind)
          (second_none (static_fault world h.accepted.method) (only_where (has_left_out h.accepted.method.kind) (Outside whats.Kind)) fault)

  argument_types_typed : AllByRecursion HasSlots (argument_types world h.accepted.method)
  argument_types_typed = go (is_static h.accepted.method.access)
    where
      go : (b : Bool) → AllByRecursion HasSlots (if b then h.accepted.method.kind.params else types.Class (class_name world h.accepted.method.class.0) ∷ h.accepted.method.kind.params)
      go true = params_left_in
      go false = (refl, params_left_in)

  arguments_are : (method : MethodInfo) → info_of world id ≡ Some method → arguments_of world id ≡ argument_types world method
  arguments_are method is = ap (λ (m : Option MethodInfo). option_map_or (argument_types world) m []) is

  arguments_typed : AllByRecursion HasSlots (arguments_of world id)
  arguments_typed = subst (AllByRecursion HasSlots) (sym (arguments_are h.accepted.method h.accepted.method_is)) argument_types_typed

  unread_filled : IsFilled world (arguments_of world id) base (unread_input world id picture)
  unread_filled = record { forms = refl; objects = unread_kept; args = defaults_typed world base (arguments_of world id) arguments_typed }

  abbrev emitted : Input
  emitted = fold with_held (unread_input world id picture) held

  pub filled : IsFilled world (arguments_of world id) base emitted
  filled = all_filled world (arguments_of world id) base (unread_input world id picture) held unread_filled (all_by_place (HeldTakes world (arguments_of world id) base) held held_takes)

  -- ---- type-correct

  abbrev InUniverse : Object → Type 0
  InUniverse object = Has world.universe object.kind

  picture_in_universe : AllByRecursion InUniverse (map (unread_of world) picture.objects)
  picture_in_universe = all_by_place InUniverse (map (unread_of world) picture.objects) each
    where
      each : (i : ℕ) (x : Object) → slice_get (map (unread_of world) picture.objects) i ≡ Some x → InUniverse x
      each i x at =
          let found = mapped_at (unread_of world) picture.objects i x at in
          subst InUniverse found.2 (subst (Has world.universe) (sym (unread_kind world found.0.kind (count_of found.0.length))) (h.typed.universe i found.0 found.1))

  some_of_loc : (type : JType) (loc : Option PicLoc) → option_map_or (λ (l : PicLoc). is_apart l.standing) loc false ≡ true → LocFits world type loc → SomeFits world type
  some_of_loc type None e f = absurd f
  some_of_loc type (Some loc) e f = go loc.standing e f
    where
      go : (standing : Standing) → is_apart standing ≡ true → StandingFits world type standing → SomeFits world type
      go standings.Open a g = g
      go standings.Beyond a g = g
      go (standings.Obj o) a g = absurd (true≢false (sym a))

  some_of : (type : JType) (how : Seen) → has_own picture how ≡ true → SeenFits world picture type how → SomeFits world type
  some_of type (Int number) e f = absurd (true≢false (sym e))
  some_of type Null e f = absurd (true≢false (sym e))
  some_of type (Loc number) e f = some_of_loc type (slice_get picture.locs number) e f.1
  some_of type (Obj o) e f = absurd (true≢false (sym e))
  some_of type Beyond e f = f.1

  own_in_universe : (i : ℕ) (x : Origin × Seen) → slice_get picture.seen i ≡ Some x → has_own picture x.1 ≡ true → InUniverse (own_object world id picture x.0)
  own_in_universe i x at e =
      let typed = slot_typed i x.0 x.1 at in
      let some = some_of typed.type x.1 e typed.allows in
      let found = find_there (λ (k : ExactType). fits world k typed.type) world.universe some.0 some.1 some.2 in
      let kind : own_kind (option_and_then (first_fitting world) (type_of_slot world id picture.objects x.0)) ≡ found.0 =
      ap (λ (t : Option JType). own_kind (option_and_then (first_fitting world) t)) typed.declared ∙ ap own_kind found.1 in
      subst (Has world.universe) (sym (unread_kind world (own_kind (option_and_then (first_fitting world) (type_of_slot world id picture.objects x.0))) 0 ∙ kind)) found.2

  own_all_in : (seen : List (Origin × Seen)) → ((i : ℕ) (x : Origin × Seen) → slice_get seen i ≡ Some x → has_own picture x.1 ≡ true → InUniverse (own_object world id picture x.0))
      → AllByRecursion InUniverse (own_objects world id picture seen)
  own_all_in [] each = tt
  own_all_in (x ∷ seen) each = go (has_own picture x.1) refl (own_all_in seen (λ i y at. each (suc i) y at))
    where
      go : (b : Bool) → has_own picture x.1 ≡ b → AllByRecursion InUniverse (own_objects world id picture seen)
          → AllByRecursion InUniverse ((if b then own_object world id picture x.0 ∷ [] else []) ++ own_objects world id picture seen)
      go false e later = later
      go true e later = (each 0 x refl e, later)

  base_in_universe : AllByRecursion InUniverse base.objects
  base_in_universe =
      all_joined InUniverse (map (unread_of world) picture.objects) (own_objects world id picture picture.seen) picture_in_universe (own_all_in picture.seen own_in_universe)

  same_kinds : SameKinds base emitted.heap
  same_kinds = sym (kinds_of_forms base.objects) ∙ (ap (map (λ (f : ExactType × ℕ). f.0)) (sym filled.forms) ∙ kinds_of_forms emitted.heap.objects)

  is_object : (i : ℕ) (object : Object) → slice_get emitted.heap.objects i ≡ Some object → IsInputObject world emitted.heap object
  is_object i object at =
      let kinds : option_map kind_of (slice_get base.objects i) ≡ Some object.kind =
      sym (slice_get-map kind_of base.objects i) ∙ (ap (λ (ks : List ExactType). slice_get ks i) same_kinds ∙ (slice_get-map kind_of emitted.heap.objects i ∙ ap (option_map kind_of) at)) in
      record {
        universe = universe_at (slice_get base.objects i) refl kinds;
        values = object_values_like world base emitted.heap same_kinds object.kind object.values (all_at (KeepsTypes world base) emitted.heap.objects i object filled.objects at);
      }
    where
      universe_at : (o : Option Object) → slice_get base.objects i ≡ o → option_map kind_of o ≡ Some object.kind → Has world.universe object.kind
      universe_at None there e = absurd cc
      universe_at (Some x) there e = subst (Has world.universe) (same_Some x.kind object.kind e) (all_at InUniverse base.objects i x base_in_universe there)

  -- ---- what the slots hold

  abbrev params : ℕ
  params = length (argument_types world h.typed.method)

  -- a class has no elements, and an array no fields
  not_both : (object : PicObject) (slot index : ℕ) → IsLengthOf object.kind object.length → HasSlot world object.kind slot → HasElement object.length index → ⊥
  not_both object slot index lengths has element = go object.kind object.length lengths has element
    where
      go : (kind : ExactType) (len : Length) → IsLengthOf kind len → HasSlot world kind slot → HasElement len index → ⊥
      go (exact.Class name) Plain l a b = b
      go (exact.Class name) (Is n) l a b = l
      go (exact.Class name) (Above n) l a b = l
      go (exact.Array component) len l a b = a

  two_kinds : (o p slot index : ℕ) → IsSlot world params picture.objects (Field o slot) → IsSlot world params picture.objects (Element p index) → o ≡ p → ⊥
  two_kinds o p slot index one other same =
      let at : slice_get picture.objects o ≡ Some other.0 = ap (slice_get picture.objects) same ∙ other.1 in
      let object : one.0 ≡ other.0 = same_Some one.0 other.0 (sym one.1 ∙ at) in
      not_both other.0 slot index (h.typed.formed.lengths o other.0 at) (subst (λ (x : PicObject). HasSlot world x.kind slot) object one.2) other.2

  two_slots : (one other : Origin) → (one ≡ other → ⊥) → IsSlot world params picture.objects one → IsSlot world params picture.objects other → AreTwo one other
  two_slots (Arg a) (Arg b) apart one other = λ e. apart (ap Arg e)
  two_slots (Arg a) (Field p t) apart one other = tt
  two_slots (Arg a) (Element p t) apart one other = tt
  two_slots (Field o s) (Arg b) apart one other = tt
  two_slots (Field o s) (Field p t) apart one other = λ e f. apart (ap (λ (x : ℕ). Field x s) e ∙ ap (Field p) f)
  two_slots (Field o s) (Element p t) apart one other = λ e f. two_kinds o p s t one other e
  two_slots (Element o s) (Arg b) apart one other = tt
  two_slots (Element o s) (Field p t) apart one other = λ e f. two_kinds p o t s other one (sym e)
  two_slots (Element o s) (Element p t) apart one other = λ e f. apart (ap (λ (x : ℕ). Element x s) e ∙ ap (Element p) f)

  read_slot : (i : ℕ) (slot : Origin) (how : Seen) → slice_get picture.seen i ≡ Some (slot, how) → slice_get (slots_seen picture) i ≡ Some slot
  read_slot i slot how at = slice_get-map (λ (x : Origin × Seen). x.0) picture.seen i ∙ ap (option_map (λ (x : Origin × Seen). x.0)) at

  two_read : (i j : ℕ) (one other : Origin × Seen) → slice_get picture.seen i ≡ Some one → slice_get picture.seen j ≡ Some other → (i ≡ j → ⊥) → AreTwo one.0 other.0
  two_read i j one other a b apart =
      two_slots one.0 other.0 (λ same. apart (h.typed.formed.once i j other.0 (read_slot i one.0 one.1 a ∙ ap (λ (o : Origin). Some o) same) (read_slot j other.0 other.1 b)))
      (read_there i one.0 one.1 a) (read_there j other.0 other.1 b)

  two_held : (i j : ℕ) (one other : Origin × Value) → slice_get held i ≡ Some one → slice_get held j ≡ Some other → (i ≡ j → ⊥) → AreTwo one.0 other.0
  two_held i j one other a b apart =
      let first = held_back picture values (length picture.objects) picture.seen i one a in
      let second = held_back picture values (length picture.objects) picture.seen j other b in
      subst (λ (s : Origin). AreTwo s other.0) (ap (λ (x : Origin × Value). x.0) first.is)
      (subst (λ (s : Origin). AreTwo first.read.0 s) (ap (λ (x : Origin × Value). x.0) second.is) (two_read i j first.read second.read first.at second.at apart))

  -- no two of the slots are one
  all_two : (xs : List (Origin × Value)) → ((i j : ℕ) (one other : Origin × Value) → slice_get xs i ≡ Some one → slice_get xs j ≡ Some other → (i ≡ j → ⊥) → AreTwo one.0 other.0) → AreAllTwo xs
  all_two [] apart = tt
  all_two (x ∷ xs) apart = (
    (λ i y at. apart 0 (suc i) x y refl at (λ e. absurd cc)),
    none xs (λ i y at. apart (suc i) 0 y x at refl (λ e. absurd cc)),
    all_two xs (λ i j one other a b d. apart (suc i) (suc j) one other a b (λ e. d (let f : suc i ≡ suc j = e in cc))),
  )
    where
      none : (ys : List (Origin × Value)) → ((i : ℕ) (y : Origin × Value) → slice_get ys i ≡ Some y → AreTwo y.0 x.0) → IsNone x.0 ys
      none [] each = tt
      none (y ∷ ys) each = (each 0 y refl, none ys (λ i z at. each (suc i) z at))

  -- each slot is there
  value_inside : (o slot : ℕ) (object : PicObject) (v : Value) → slice_get picture.objects o ≡ Some object → slice_get (unread_of world object).values slot ≡ Some v
      → value_at base o slot ≡ Some v
  value_inside o slot object v at there =
      ap (option_and_then (λ (x : Object). slice_get x.values slot)) (object_there world id picture values h.typed h.values_are o object at) ∙ there

  field_inside : (kind : ExactType) (count slot : ℕ) → HasSlot world kind slot → (v : Value) × (slice_get (unread_object world kind count).values slot ≡ Some v)
  field_inside (exact.Class name) count slot has =
      item_there (map (λ (field : FieldSlot). default_of field.kind) (slots_of_class world name)) slot
      (let len = length-map (slots_of_class world name) (λ (field : FieldSlot). default_of field.kind) in omega (arith, has, len))
  field_inside (exact.Array component) count slot has = absurd has

  element_inside : (kind : ExactType) (len : Length) (index : ℕ) → IsLengthOf kind len → HasElement len index → (v : Value) × (slice_get (unread_object world kind (count_of len)).values index ≡ Some v)
  element_inside (exact.Class name) Plain index lengths has = absurd has
  element_inside (exact.Class name) (Is n) index lengths has = absurd lengths
  element_inside (exact.Class name) (Above n) index lengths has = absurd lengths
  element_inside (exact.Array component) Plain index lengths has = absurd has
  element_inside (exact.Array component) (Is n) index lengths has =
      item_there (replicate n (default_of component)) index (let len = length-replicate n (default_of component) in omega (arith, has, len))
  element_inside (exact.Array component) (Above n) index lengths has =
      item_there (replicate (suc n) (default_of component)) index (let len = length-replicate (suc n) (default_of component) in omega (arith, has, len))

  cell_there : (slot : Origin) → IsSlot world params picture.objects slot → (old : Value) × (cell_value (unread_input world id picture) slot ≡ Some old)
  cell_there (Arg number) there =
      item_there (map default_of (arguments_of world id)) number
      (let len = length-map (arguments_of world id) default_of in let many = ap length (arguments_are h.typed.method h.typed.method_is) in omega (arith, there, len, many))
  cell_there (Field o slot) there =
      let found = field_inside there.0.kind (count_of there.0.length) slot there.2 in
      (found.0, value_inside o slot there.0 found.0 there.1 found.1)
  cell_there (Element o index) there =
      let found = element_inside there.0.kind there.0.length index (h.typed.formed.lengths o there.0 there.1) there.2 in
      (found.0, value_inside o index there.0 found.0 there.1 found.1)

  held_there : (i : ℕ) (x : Origin × Value) → slice_get held i ≡ Some x → IsThere (unread_input world id picture) x
  held_there i x at =
      let back = held_back picture values (length picture.objects) picture.seen i x at in
      subst (IsThere (unread_input world id picture)) back.is (cell_there back.read.0 (read_there i back.read.0 back.read.1 back.at))

  -- a slot that was read holds what is seen
  pub read_holds : (i : ℕ) (slot : Origin) (how : Seen) → slice_get picture.seen i ≡ Some (slot, how) → cell_value emitted slot ≡ Some (seen_value picture values (own_of i) how)
  read_holds i slot how at =
      all_held (unread_input world id picture) held i (slot, seen_value picture values (own_of i) how) (all_two held two_held)
      (all_by_place (IsThere (unread_input world id picture)) held held_there) (held_at picture values (length picture.objects) picture.seen i (slot, how) at)

  -- ---- the receiver

  receiver_there : (args : List Value) (o : ℕ) → slice_get args 0 ≡ Some (Ref o) → HasReceiver false args
  receiver_there [] o at = absurd cc
  receiver_there (Ref p ∷ args) o at = tt
  receiver_there (NullValue ∷ args) o at = absurd cc
  receiver_there (IntValue z ∷ args) o at = absurd cc

  receiver_holds : is_static h.typed.method.access ≡ false → HasReceiver false emitted.args
  receiver_holds dynamic = from (h.receiver h.typed.method h.typed.method_is dynamic)
    where
      from : Has (slots_seen picture) (Arg 0) → HasReceiver false emitted.args
      from has = (let found = mapped_at (λ (x : Origin × Seen). x.0) picture.seen has.0 (Arg 0) has.1 in
          at_slot found.0.1 (found.1 ∙ ap (λ (o : Origin). Some (o, found.0.1)) found.2))
        where
          of_class : type_of_slot world id picture.objects (Arg 0) ≡ Some (types.Class (class_name world h.typed.method.class.0))
          of_class =
              ap (option_and_then (λ (m : MethodInfo). slice_get (argument_types world m) 0)) h.typed.method_is
              ∙ ap (λ (b : Bool). slice_get (if b then h.typed.method.kind.params else types.Class (class_name world h.typed.method.class.0) ∷ h.typed.method.kind.params) 0) dynamic

          at_slot : (how : Seen) → slice_get picture.seen has.0 ≡ Some (Arg 0, how) → HasReceiver false emitted.args
          at_slot how at = go how at (read_holds has.0 (Arg 0) how at)
            where
              go : (seen : Seen) → slice_get picture.seen has.0 ≡ Some (Arg 0, seen) → slice_get emitted.args 0 ≡ Some (seen_value picture values (own_of has.0) seen) → HasReceiver false emitted.args
              go (Int number) there holds = absurd (no_int (slot_typed has.0 (Arg 0) (Int number) there))
                where
                  no_int : SlotTyped world id picture (Arg 0) (Int number) → ⊥
                  no_int typed =
                      let same : typed.type ≡ types.Class (class_name world h.typed.method.class.0) = same_Some typed.type (types.Class (class_name world h.typed.method.class.0)) (sym typed.declared ∙ of_class) in
                      true≢false (sym typed.allows ∙ ap is_int_type same)
              go Null there holds = absurd (h.typed.receiver dynamic (has.0, there))
              go (Loc number) there holds = receiver_there emitted.args (location_number_at picture.locs (own_of has.0) number) holds
              go (Obj o) there holds = receiver_there emitted.args o holds
              go Beyond there holds = receiver_there emitted.args (own_of has.0) holds

  correct : IsTypeCorrect world id emitted
  correct = record {
    method = h.typed.method;
    method_is = h.typed.method_is;
    objects = all_by_place (IsInputObject world emitted.heap) emitted.heap.objects is_object;
    arguments = subst (λ (kinds : List JType). AreValuesOf world emitted.heap kinds emitted.args) (arguments_are h.typed.method h.typed.method_is)
        (values_like world base emitted.heap same_kinds (arguments_of world id) emitted.args filled.args);
    receiver = go (is_static h.typed.method.access) refl;
  }
    where
      go : (b : Bool) → is_static h.typed.method.access ≡ b → HasReceiver b emitted.args
      go true e = tt
      go false e = receiver_holds e

  -- ---- the shape

  -- where the picture's objects have their own numbers, a slot holds what its cell holds
  slot_is : (count : ℕ) (slot : Origin) → IsSlot world params (take count picture.objects) slot → slot_value emitted (numbers_below count) slot ≡ cell_value emitted slot
  slot_is count (Arg number) there = refl
  slot_is count (Field o s) there = ap (option_and_then (λ (p : ℕ). value_at emitted.heap p s)) (at_below count o (front_inside count picture.objects o there.0 there.1))
  slot_is count (Element o s) there = ap (option_and_then (λ (p : ℕ). value_at emitted.heap p s)) (at_below count o (front_inside count picture.objects o there.0 there.1))

  -- how many objects there are
  many_objects : length picture.objects ≤ length emitted.heap.objects
  many_objects =
      let forms = ap length filled.forms in
      let one = length-map emitted.heap.objects form_of in
      let other = length-map base.objects form_of in
      let joined = length-append (map (unread_of world) picture.objects) (own_objects world id picture picture.seen) in
      let mapped = length-map picture.objects (unread_of world) in
      omega (arith, forms, one, other, joined, mapped)

  -- a reference that is held is to one of the input's objects
  object_inside : (o : ℕ) (x : Object) → object_at base o ≡ Some x → o < length emitted.heap.objects
  object_inside o x at =
      let inside : o < length base.objects = slice_get_within base.objects o x at in
      let forms = ap length filled.forms in
      let one = length-map emitted.heap.objects form_of in
      let other = length-map base.objects form_of in
      omega (arith, inside, forms, one, other)

  -- an object's origin leads to it
  origin_holds : (number : ℕ) (object : PicObject) → slice_get picture.objects number ≡ Some object → cell_value emitted object.origin ≡ Some (Ref number)
  origin_holds number object at = elim (h.typed.formed.origins number object at).1 [
    | inl a ↦ read_holds a.0 object.origin (Obj number) a.1
    | inr b ↦ read_holds b.seen.0 object.origin (Loc b.loc) b.seen.1
        ∙ ap (λ (l : Option PicLoc). Some (Ref (option_map_or (λ (x : PicLoc). location_number (own_of b.seen.0) x.standing) l (own_of b.seen.0)))) b.standing
  ]

  place_is : (number : ℕ) (object : PicObject) → slice_get picture.objects number ≡ Some object → place_of emitted (numbers_below number) object.origin ≡ Some number
  unfolding place_of
  place_is number object at =
      (named_exactly emitted.heap (slot_value emitted (numbers_below number) object.origin) number).1 (
        slot_is number object.origin (h.typed.formed.origins number object at).0 ∙ origin_holds number object at,
        (let inside = slice_get_within picture.objects number object at in let many = many_objects in omega (arith, inside, many)),
      )

  objects_are_placed : (count : ℕ) (rest : List PicObject) → ((i : ℕ) (object : PicObject) → slice_get rest i ≡ Some object → slice_get picture.objects (count + i) ≡ Some object)
      → objects_placed emitted (numbers_below count) rest ≡ Some (numbers_below (count + length rest))
  objects_are_placed count [] there = ap (λ (n : ℕ). Some (numbers_below n)) (let e : count ≡ count + 0 = omega arith in e)
  objects_are_placed count (object ∷ rest) there =
      let here : slice_get picture.objects count ≡ Some object = (let e : count ≡ count + 0 = omega arith in ap (slice_get picture.objects) e) ∙ there 0 object refl in
      ap (option_and_then (λ (place : ℕ). objects_placed emitted (numbers_below count ++ place ∷ []) rest)) (place_is count object here)
      ∙ (objects_are_placed (suc count) rest (λ i o at. (let e : suc count + i ≡ count + suc i = omega arith in ap (slice_get picture.objects) e) ∙ there (suc i) o at)
      ∙ ap (λ (n : ℕ). Some (numbers_below n)) (let e : suc count + length rest ≡ count + suc (length rest) = omega arith in e))

  abbrev places : List ℕ
  places = numbers_below (length picture.objects)

  all_objects_placed : objects_placed emitted [] picture.objects ≡ Some places
  all_objects_placed =
      objects_are_placed 0 picture.objects (λ i object at. (let e : 0 + i ≡ i = omega arith in ap (slice_get picture.objects) e) ∙ at)
      ∙ ap (λ (n : ℕ). Some (numbers_below n)) (let e : 0 + length picture.objects ≡ length picture.objects = omega arith in e)

  -- a slot that was read, by the places
  slot_read : (i : ℕ) (slot : Origin) (how : Seen) → slice_get picture.seen i ≡ Some (slot, how) → slot_value emitted places slot ≡ Some (seen_value picture values (own_of i) how)
  slot_read i slot how at =
      slot_is (length picture.objects) slot
      (subst (λ (objects : List PicObject). IsSlot world params objects slot) (sym (take_all (length picture.objects) picture.objects (omega arith))) (read_there i slot how at))
      ∙ read_holds i slot how at

  -- an object of its own is none of the picture's
  own_is_no_place : (i : ℕ) (x : Origin × Seen) → slice_get picture.seen i ≡ Some x → has_own picture x.1 ≡ true → IsNoPlace places (own_of i)
  own_is_no_place i x at e =
      let found = own_there world id picture (length picture.objects) picture.seen i x at e in
      no_place places (own_of i) (λ n there. (let same = below_at (length picture.objects) n (own_of i) there in let inside = slice_get_within places n (own_of i) there in
      let len = length_below (length picture.objects) in let number = found.number in absurd (omega (arith, same, inside, len, number))))

  -- the object that a slot holds which is seen as a reference
  number_inside : (i : ℕ) (slot : Origin) (how : Seen) (o : ℕ) → slice_get picture.seen i ≡ Some (slot, how) → seen_value picture values (own_of i) how ≡ Ref o → o < length emitted.heap.objects
  number_inside i slot how o at is =
      let typed = slot_typed i slot how at in
      let of : IsValueOf world base typed.type (Ref o) =
      subst (IsValueOf world base typed.type) is (seen_typed world id picture values h.typed h.values_are i slot how typed.type at typed.declared typed.allows) in
      let there = ref_there world base typed.type o of in
      object_inside o there.0 there.1

  abbrev loc_number : ℕ → ℕ → ℕ
  loc_number i number = location_number_at picture.locs (own_of i) number

  -- the place of a location
  record LocPlace (number : ℕ) (loc : PicLoc) : Type 0 where
    read : ℕ
    at : slice_get picture.seen read ≡ Some (loc.origin, Loc number)
    placed : place_of emitted places loc.origin ≡ Some (loc_number read number)

  loc_place : (number : ℕ) (loc : PicLoc) → slice_get picture.locs number ≡ Some loc → LocPlace number loc
  unfolding place_of
  loc_place number loc at =
      let read = (h.typed.formed.locs number loc at).0 in
      record {
        read = read.0;
        at = read.1;
        placed = (named_exactly emitted.heap (slot_value emitted places loc.origin) (loc_number read.0 number)).1
            (slot_read read.0 loc.origin (Loc number) read.1, number_inside read.0 loc.origin (Loc number) (loc_number read.0 number) read.1 refl);
      }

  locs_are_placed : (locs : List PicLoc) → ((n : ℕ) (loc : PicLoc) → slice_get locs n ≡ Some loc → (p : ℕ) × (place_of emitted places loc.origin ≡ Some p))
      → (found : List ℕ) × (locs_placed emitted places locs ≡ Some found)
  locs_are_placed [] there = ([], refl)
  locs_are_placed (loc ∷ locs) there =
      let one = there 0 loc refl in
      let later = locs_are_placed locs (λ n l at. there (suc n) l at) in (
        one.0 ∷ later.0,
        ap (option_and_then (λ (p : ℕ). option_map (λ (m : List ℕ). p ∷ m) (locs_placed emitted places locs))) one.1 ∙ ap (option_map (λ (m : List ℕ). one.0 ∷ m)) later.1,
      )

  all_locs_placed : (found : List ℕ) × (locs_placed emitted places picture.locs ≡ Some found)
  all_locs_placed = locs_are_placed picture.locs (λ n loc at. (let place = loc_place n loc at in (loc_number place.read n, place.placed)))

  -- what is seen in a slot
  holds : (i : ℕ) (slot : Origin) (how : Seen) → slice_get picture.seen i ≡ Some (slot, how) → HoldsSeen emitted.heap places (slot_value emitted places slot) how
  holds i slot (Int number) at = (int_at values number, slot_read i slot (Int number) at)
  holds i slot Null at = slot_read i slot Null at
  holds i slot (Loc number) at = (loc_number i number, slot_read i slot (Loc number) at, number_inside i slot (Loc number) (loc_number i number) at refl)
  holds i slot (Obj o) at = (o, at_below (length picture.objects) o (h.typed.formed.seen i (slot, Obj o) at), slot_read i slot (Obj o) at)
  holds i slot Beyond at = (own_of i, slot_read i slot Beyond at, number_inside i slot Beyond (own_of i) at refl, own_is_no_place i (slot, Beyond) at refl)

  hold_each : (seen : List (Origin × Seen)) → ((i : ℕ) (x : Origin × Seen) → slice_get seen i ≡ Some x → HoldsSeen emitted.heap places (slot_value emitted places x.0) x.1) → HoldEach emitted places seen
  hold_each [] each = tt
  hold_each (x ∷ seen) each = (each 0 x refl, hold_each seen (λ i y at. each (suc i) y at))

  apart : AreApart places
  apart one other place a b = sym (below_at (length picture.objects) one place a) ∙ below_at (length picture.objects) other place b

  such : AreSuch emitted.heap picture.objects places
  such number place expected there at =
      let same : place ≡ number = below_at (length picture.objects) number place at in
      let forms : option_map form_of (slice_get emitted.heap.objects number) ≡ Some (form_of (unread_of world expected)) =
      sym (slice_get-map form_of emitted.heap.objects number) ∙ (ap (λ (fs : List (ExactType × ℕ)). slice_get fs number) filled.forms
      ∙ (slice_get-map form_of base.objects number ∙ ap (option_map form_of) (object_there world id picture values h.typed h.values_are number expected there))) in
      from (slice_get emitted.heap.objects number) refl forms same
    where
      has_length : (kind : ExactType) (len : Length) (vs : List Value) → IsLengthOf kind len → length vs ≡ length (unread_object world kind (count_of len)).values → HasLength len vs
      has_length kind Plain vs lengths e = tt
      has_length (exact.Class name) (Is n) vs lengths e = absurd lengths
      has_length (exact.Class name) (Above n) vs lengths e = absurd lengths
      has_length (exact.Array component) (Is n) vs lengths e = e ∙ length-replicate n (default_of component)
      has_length (exact.Array component) (Above n) vs lengths e = (let len = length-replicate (suc n) (default_of component) in omega (arith, e, len))

      from : (x : Option Object) → slice_get emitted.heap.objects number ≡ x → option_map form_of x ≡ Some (form_of (unread_of world expected)) → place ≡ number → IsSuch emitted.heap expected place
      from None there_ e same = absurd cc
      from (Some x) there_ e same =
          let form : form_of x ≡ form_of (unread_of world expected) = same_Some (form_of x) (form_of (unread_of world expected)) e in
          record {
            object = x;
            object_is = ap (object_at emitted.heap) same ∙ there_;
            kind = ap (λ (f : ExactType × ℕ). f.0) form ∙ unread_kind world expected.kind (count_of expected.length);
            length = has_length expected.kind expected.length x.values (h.typed.formed.lengths number expected there) (ap (λ (f : ExactType × ℕ). f.1) form);
          }

  loc_place_is : (number place : ℕ) (loc : PicLoc) → slice_get picture.locs number ≡ Some loc → slice_get all_locs_placed.0 number ≡ Some place → (it : LocPlace number loc) → place ≡ loc_number it.read number
  loc_place_is number place loc there at it =
      let found = loc_at emitted places picture.locs all_locs_placed.0 number loc all_locs_placed.1 there in
      same_Some place found.0 (sym at ∙ found.1) ∙ same_Some found.0 (loc_number it.read number) (sym found.2 ∙ it.placed)

  stands : EachStands (record { objects = places; locs = all_locs_placed.0 }) picture.locs
  stands number place loc there at =
      let it = loc_place number loc there in
      let same : place ≡ loc_number it.read number = loc_place_is number place loc there at it in
      subst (Stands places loc.standing) (sym same) (go loc.standing refl it)
    where
      number_of : (standing : Standing) (read : ℕ) → loc.standing ≡ standing → loc_number read number ≡ location_number (own_of read) standing
      number_of standing read is =
          ap (λ (l : Option PicLoc). option_map_or (λ (x : PicLoc). location_number (own_of read) x.standing) l (own_of read)) there ∙ ap (location_number (own_of read)) is

      own : (standing : Standing) → loc.standing ≡ standing → has_own picture (Loc number) ≡ is_apart standing
      own standing is = ap (λ (l : Option PicLoc). option_map_or (λ (x : PicLoc). is_apart x.standing) l false) there ∙ ap is_apart is

      go : (standing : Standing) → loc.standing ≡ standing → (it : LocPlace number loc) → Stands places loc.standing (loc_number it.read number)
      go standings.Open is it = subst (λ (s : Standing). Stands places s (loc_number it.read number)) (sym is) tt
      go standings.Beyond is it =
          subst (λ (s : Standing). Stands places s (loc_number it.read number)) (sym is)
          (subst (IsNoPlace places) (sym (number_of standings.Beyond it.read is)) (own_is_no_place it.read (loc.origin, Loc number) it.at (own standings.Beyond is)))
      go (standings.Obj o) is it =
          subst (λ (s : Standing). Stands places s (loc_number it.read number)) (sym is)
          (at_below (length picture.objects) o (subst (IsStanding picture) is (h.typed.formed.locs number loc there).1)
          ∙ ap (λ (n : ℕ). Some n) (sym (number_of (standings.Obj o) it.read is)))

  shape : HasShape picture emitted
  shape = record {
    places = record { objects = places; locs = all_locs_placed.0 };
    placed = placed_from picture emitted places all_locs_placed.0 all_objects_placed all_locs_placed.1;
    seen = hold_each picture.seen (λ i x at. holds i x.0 x.1 at);
    apart = apart;
    such = such;
    stands = stands;
  }

  -- ---- the variables

  variables_are : variable_values picture emitted places ≡ values
  unfolding variable_values
  variables_are = by_variables picture.seen (λ i x at. one i x.0 x.1 at) ∙ (ap (map (int_at values)) h.typed.formed.variables ∙ (first_values values (length (variables_seen picture)) (omega (arith, many)) ∙ take_all (length (variables_seen picture)) values (omega (arith, many))))
    where
      joined : (o : Option ℕ) (rest : List ℕ) → cons_option (option_map (int_at values) o) (map (int_at values) rest) ≡ map (int_at values) (cons_option o rest)
      joined None rest = refl
      joined (Some n) rest = refl

      kinds_long : (seen : List (Origin × Seen)) → length (filter_map (kind_seen world id picture) seen) ≡ length (filter_map (λ (x : Origin × Seen). variable_seen x.1) seen)
      kinds_long [] = refl
      kinds_long (x ∷ seen) = longer (variable_seen x.1) (kinds_long seen)
        where
          longer : (o : Option ℕ) → length (filter_map (kind_seen world id picture) seen) ≡ length (filter_map (λ (y : Origin × Seen). variable_seen y.1) seen)
              → length (cons_option (option_map (λ (n : ℕ). kind_for (type_of_slot world id picture.objects x.0)) o) (filter_map (kind_seen world id picture) seen))
              ≡ length (cons_option o (filter_map (λ (y : Origin × Seen). variable_seen y.1) seen))
          longer None e = e
          longer (Some n) e = ap suc e

      first_values : (xs : List ℤ) (n : ℕ) → n ≤ length xs → map (int_at xs) (numbers_below n) ≡ take n xs
      first_values xs zero inside = refl
      first_values xs (suc n) inside =
          let found = item_there xs n (omega (arith, inside)) in
          let next : n + 1 ≡ suc n = omega arith in
          map-append (int_at xs) (numbers_below n) (n ∷ [])
          ∙ (ap (λ (ys : List ℤ). ys ++ int_at xs n ∷ []) (first_values xs n (omega (arith, inside)))
          ∙ (ap (λ (v : ℤ). take n xs ++ v ∷ []) (get_or_from_slice_get xs n found.0 (pos 0) found.1)
          ∙ (sym (taken_next xs n found.0 found.1) ∙ ap (λ (m : ℕ). take m xs) next)))

      many : length values ≡ length (variables_seen picture)
      many = h.values_are.count ∙ kinds_long picture.seen

      one : (i : ℕ) (slot : Origin) (how : Seen) → slice_get picture.seen i ≡ Some (slot, how) → variable_value (slot_value emitted places slot) how ≡ option_map (int_at values) (variable_seen how)
      one i slot (Int number) at = ap (λ (v : Option Value). variable_value v (Int number)) (slot_read i slot (Int number) at)
      one i slot Null at = refl
      one i slot (Loc number) at = refl
      one i slot (Obj o) at = refl
      one i slot Beyond at = refl

      by_variables : (seen : List (Origin × Seen)) → ((i : ℕ) (x : Origin × Seen) → slice_get seen i ≡ Some x → variable_value (slot_value emitted places x.0) x.1 ≡ option_map (int_at values) (variable_seen x.1))
          → filter_map (λ (x : Origin × Seen). variable_value (slot_value emitted places x.0) x.1) seen ≡ map (int_at values) (filter_map (λ (x : Origin × Seen). variable_seen x.1) seen)
      by_variables [] each = refl
      by_variables (x ∷ seen) each =
          ap (λ (o : Option ℤ). cons_option o (filter_map (λ (y : Origin × Seen). variable_value (slot_value emitted places y.0) y.1) seen)) (each 0 x refl)
          ∙ (ap (cons_option (option_map (int_at values) (variable_seen x.1))) (by_variables seen (λ i y at. each (suc i) y at)) ∙ joined (variable_seen x.1) (filter_map (λ (y : Origin × Seen). variable_seen y.1) seen))

  variables_there : variable_values picture emitted shape.places.objects ≡ values
  unfolding shape
  variables_there = variables_are

  pub input_of_picture : IsOfPicture world id picture values emitted
  input_of_picture = record { correct = correct; shape = shape; variables = variables_there }

-- ---- the laws

pub emitted_of_picture : (world : World) (id : MethodId) (picture : Picture) (values : List ℤ) → HasInput world id picture values → IsOfPicture world id picture values (emitted_input world id picture values)
unfolding emitted_input
emitted_of_picture world id picture values h = input_of_picture world id picture values h

pub emitted_instance : (world : World) (id : MethodId) (path : Path) (values : List ℤ) → HasInput world id path.picture values → AreMet (listed_values values path.terms) path.when
    → IsInstance path (emitted_input world id path.picture values)
unfolding term_values
emitted_instance world id path values h met =
    let of = emitted_of_picture world id path.picture values h in
    record {
      shape = of.shape;
      conditions = subst (λ (vs : List ℤ). AreMet (listed_values vs path.terms) path.when) (sym of.variables) met;
    }
