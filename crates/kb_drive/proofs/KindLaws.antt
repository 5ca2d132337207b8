-- What a type-correct input gives to the variables of a state is what they can be.
use Rattle.std.proofs.Common.{◌≡◌, ℕ, zero, suc, true, false, List, [], ◌∷◌, Option, Some, None, slice_get, inl, inr, ℤ, refl, sym, ap, ◌∙◌, subst, map, option_and_then}
use Rattle.std.specs.Int.{w32}
use Rattle.std.specs.List.{AllByRecursion, filter_map}
use Rattle.std.specs.Prelude.{FitsSigned}
use Rattle.std.proofs.lemmas.Option.{slice_get-map}
use Rattle.kb_arith.proofs.Laws.{truth-fits}
use Rattle.kb_blast.specs.Conditions.{kind_at}
use Rattle.kb_blast.specs.Meaning.{KindFits}
use Rattle.kb_blast.specs.Query.{kinds_of}
use Rattle.kb_heap.specs.Heap.{object_at, value_at}
use Rattle.kb_heap.specs.declared.heap.Heap.{Heap}
use Rattle.kb_heap.specs.declared.heap.Input.{Input}
use Rattle.kb_heap.specs.declared.heap.Object.{Object}
use Rattle.kb_heap.specs.declared.heap.Value.{Value}
use Rattle.kb_heap.specs.declared.heap.Value.TheVariants.{Int as IntValue}
use Rattle.kb_classes.specs.World.{World}
use Rattle.kb_classes.specs.declared.slots.FieldSlot.{FieldSlot}
use Rattle.kb_names.specs.declared.types.ExactType.{ExactType}
use Rattle.kb_names.specs.declared.types.ExactType.TheVariants as exact
use Rattle.kb_names.specs.declared.types.JType.{JType}
use Rattle.kb_names.specs.declared.types.JType.TheVariants as types
use Rattle.kb_semantics.specs.Inputs.{HasValuesOf, IsInputObject, IsTypeCorrect, argument_types}
use Rattle.kb_semantics.specs.Values.{AreValuesOf, IsValueOf, slots_of_class}
use Rattle.kb_terms.specs.Terms.{int_at}
use Rattle.kb_terms.specs.declared.node.VarKind.TheVariants.{Int as IntKind}
use Rattle.kb_picture.specs.declared.picture.Origin.{Origin}
use Rattle.kb_picture.specs.declared.picture.Origin.TheVariants.{Arg, Field, Element}
use Rattle.kb_picture.specs.declared.picture.PicObject.{PicObject}
use Rattle.kb_picture.specs.declared.picture.Seen.{Seen}
use Rattle.kb_picture.specs.declared.picture.Seen.TheVariants as seens
use Rattle.kb_picture.specs.Instances.{variable_value, variable_values}
use Rattle.kb_picture.specs.Places.{slot_value, value_in}
use Rattle.kb_picture.specs.Queries.{component_of, kind_for, kind_seen, slot_of_class, type_of_slot}
use Rattle.kb_picture.specs.Shapes.{AreSuch, HasShape, HoldEach}
use Rattle.kb_frames.specs.State.{State}
use Rattle.kb_frames.specs.States.{IsState}
use Rattle.kb_drive.proofs.FrontLaws.{zero_fits}

-- ---- what an input gives to the variables

-- an int that is a value of a type is one that a variable of its kind can be
int_fits : (world : World) (heap : Heap) (type : JType) (z : ℤ) → IsValueOf world heap type (IntValue z) → KindFits (kind_for (Some type)) z
int_fits world heap types.Int z is = is
int_fits world heap types.Bool z is = is
int_fits world heap (types.Class name) z is = absurd is
int_fits world heap (types.Array component) z is = absurd is
int_fits world heap types.Byte z is = absurd is
int_fits world heap types.Char z is = absurd is
int_fits world heap types.Short z is = absurd is
int_fits world heap types.Long z is = absurd is
int_fits world heap types.Float z is = absurd is
int_fits world heap types.Double z is = absurd is

-- a value has the type of its place
pub typed_at : (world : World) (heap : Heap) (kinds : List JType) (values : List Value) (i : ℕ) (value : Value) → AreValuesOf world heap kinds values → slice_get values i ≡ Some value
    → (type : JType) × (slice_get kinds i ≡ Some type) × IsValueOf world heap type value
typed_at world heap [] [] i value are e = absurd cc
typed_at world heap [] (first ∷ others) i value are e = absurd are
typed_at world heap (type ∷ kinds) [] i value are e = absurd are
typed_at world heap (type ∷ kinds) (first ∷ others) zero value are e = let same : first ≡ value = cc in (type, refl, subst (IsValueOf world heap type) same are.0)
typed_at world heap (type ∷ kinds) (first ∷ others) (suc i) value are e = typed_at world heap kinds others i value are.1 e

-- and one of 32 bits in any case
int_any : (world : World) (heap : Heap) (type : JType) (z : ℤ) → IsValueOf world heap type (IntValue z) → KindFits IntKind z
int_any world heap types.Int z is = is
int_any world heap types.Bool z (inl zero_is) = subst (FitsSigned w32) (sym zero_is) (truth-fits false)
int_any world heap types.Bool z (inr one_is) = subst (FitsSigned w32) (sym one_is) (truth-fits true)
int_any world heap (types.Class name) z is = absurd is
int_any world heap (types.Array component) z is = absurd is
int_any world heap types.Byte z is = absurd is
int_any world heap types.Char z is = absurd is
int_any world heap types.Short z is = absurd is
int_any world heap types.Long z is = absurd is
int_any world heap types.Float z is = absurd is
int_any world heap types.Double z is = absurd is

pub each_at : {A : Type 0} (P : A → Type 0) (xs : List A) (i : ℕ) (x : A) → AllByRecursion P xs → slice_get xs i ≡ Some x → P x
each_at P [] i x all e = absurd cc
each_at P (first ∷ others) zero x all e = let same : first ≡ x = cc in subst P same all.0
each_at P (first ∷ others) (suc i) x all e = each_at P others i x all.1 e

-- An int in an object of the exact type fits the type of its slot, or its component: a class has no component, and an array no
-- slots.
record IntFitsIn (world : World) (kind : ExactType) (slot : ℕ) (z : ℤ) : Type 0 where
  as_slot : KindFits (kind_for (slot_of_class world slot kind)) z
  as_element : KindFits (kind_for (component_of kind)) z
  any : KindFits IntKind z

int_fits_in : (world : World) (heap : Heap) (kind : ExactType) (values : List Value) (slot : ℕ) (z : ℤ) → HasValuesOf world heap kind values
    → slice_get values slot ≡ Some (IntValue z) → IntFitsIn world kind slot z
int_fits_in world heap (exact.Class name) values slot z are e =
    let typed = typed_at world heap (map (λ (field : FieldSlot). field.kind) (slots_of_class world name)) values slot (IntValue z) are e in
    let any : KindFits IntKind z = int_any world heap typed.0 z typed.2 in
    record {
      as_slot = subst (λ (type : Option JType). KindFits (kind_for type) z)
          (sym typed.1 ∙ slice_get-map (λ (field : FieldSlot). field.kind) (slots_of_class world name) slot) (int_fits world heap typed.0 z typed.2);
      as_element = any;
      any = any;
    }
int_fits_in world heap (exact.Array component) values slot z are e =
    let is : IsValueOf world heap component (IntValue z) = each_at (IsValueOf world heap component) values slot (IntValue z) are.1 e in
    let any : KindFits IntKind z = int_any world heap component z is in
    record { as_slot = any; as_element = int_fits world heap component z is; any = any }

-- where a slot of a picture's object holds a value, the object's place has an object of the heap, which has that value
record IsHeldIn (heap : Heap) (places : List ℕ) (object slot : ℕ) (value : Value) : Type 0 where
  place : ℕ
  placed : slice_get places object ≡ Some place
  of : Object
  of_is : object_at heap place ≡ Some of
  at : slice_get of.values slot ≡ Some value

held_in : (heap : Heap) (places : List ℕ) (object slot : ℕ) (value : Value) → value_in heap places object slot ≡ Some value → IsHeldIn heap places object slot value
held_in heap places object slot value e = at_place (slice_get places object) refl e
  where
    at_object : (place : ℕ) → slice_get places object ≡ Some place → (of : Option Object) → object_at heap place ≡ of
        → option_and_then (λ (o : Object). slice_get o.values slot) of ≡ Some value → IsHeldIn heap places object slot value
    at_object place placed None of_is h = absurd cc
    at_object place placed (Some of) of_is h = record { place = place; placed = placed; of = of; of_is = of_is; at = h }

    at_place : (place : Option ℕ) → slice_get places object ≡ place → option_and_then (λ (p : ℕ). value_at heap p slot) place ≡ Some value
        → IsHeldIn heap places object slot value
    at_place None placed h = absurd cc
    at_place (Some place) placed h = at_object place placed (object_at heap place) refl h

module _ (world : World) (state : State) (input : Input) (correct : IsTypeCorrect world state.method input) (places : List ℕ)
    (such : AreSuch input.heap state.picture.objects places) where
  -- the int of a slot is one that its variable can be
  abbrev SlotFits : Origin → Type 0
  SlotFits slot = (z : ℤ) → slot_value input places slot ≡ Some (IntValue z) → KindFits (kind_for (type_of_slot world state.method state.picture.objects slot)) z

  -- the object at the place is one that an input may have
  held_fits : (object slot : ℕ) (z : ℤ) (held : IsHeldIn input.heap places object slot (IntValue z)) → IntFitsIn world held.of.kind slot z
  held_fits object slot z held =
      let is = each_at (IsInputObject world input.heap) input.heap.objects held.place held.of correct.objects held.of_is in
      int_fits_in world input.heap held.of.kind held.of.values slot z is.values held.at

  -- and has the exact type of the picture's
  same_kind : (object slot : ℕ) (z : ℤ) (held : IsHeldIn input.heap places object slot (IntValue z)) (expected : PicObject)
      → slice_get state.picture.objects object ≡ Some expected → held.of.kind ≡ expected.kind
  same_kind object slot z held expected e =
      let is = such object held.place expected e held.placed in
      let both : Some is.object ≡ Some held.of = sym is.object_is ∙ held.of_is in
      let one : is.object ≡ held.of = cc in
      ap (λ (o : Object). o.kind) (sym one) ∙ is.kind

  field_fits : (object slot : ℕ) (z : ℤ) (held : IsHeldIn input.heap places object slot (IntValue z)) (expected : Option PicObject)
      → slice_get state.picture.objects object ≡ expected
      → KindFits (kind_for (option_and_then (λ (o : PicObject). slot_of_class world slot o.kind) expected)) z
  field_fits object slot z held None e = (held_fits object slot z held).any
  field_fits object slot z held (Some expected) e =
      subst (λ (kind : ExactType). KindFits (kind_for (slot_of_class world slot kind)) z) (same_kind object slot z held expected e) (held_fits object slot z held).as_slot

  element_fits : (object slot : ℕ) (z : ℤ) (held : IsHeldIn input.heap places object slot (IntValue z)) (expected : Option PicObject)
      → slice_get state.picture.objects object ≡ expected
      → KindFits (kind_for (option_and_then (λ (o : PicObject). component_of o.kind) expected)) z
  element_fits object slot z held None e = (held_fits object slot z held).any
  element_fits object slot z held (Some expected) e =
      subst (λ (kind : ExactType). KindFits (kind_for (component_of kind)) z) (same_kind object slot z held expected e) (held_fits object slot z held).as_element

  slot_fits : (slot : Origin) → SlotFits slot
  slot_fits (Arg number) z e =
      let typed = typed_at world input.heap (argument_types world correct.method) input.args number (IntValue z) correct.arguments e in
      rw (correct.method_is, typed.1) (int_fits world input.heap typed.0 z typed.2)
  slot_fits (Field object slot) z e =
      field_fits object slot z (held_in input.heap places object slot (IntValue z) e) (slice_get state.picture.objects object) refl
  slot_fits (Element array index) z e =
      element_fits array index z (held_in input.heap places array index (IntValue z) e) (slice_get state.picture.objects array) refl

  all_fit : (seen : List (Origin × Seen)) → HoldEach input places seen → (v : ℕ)
      → KindFits (kind_at (filter_map (kind_seen world state.method state.picture) seen) v)
      (int_at (filter_map (λ (slot : Origin × Seen). variable_value (slot_value input places slot.0) slot.1) seen) v)
  all_fit [] each v = zero_fits IntKind
  all_fit ((slot, seens.Int number) ∷ seen) each zero = let holds = each.0 in let fits = slot_fits slot holds.0 holds.1 in rw holds.1 fits
  all_fit ((slot, seens.Int number) ∷ seen) each (suc v) = all_fit seen each.1 v
  all_fit ((slot, seens.Null) ∷ seen) each v = all_fit seen each.1 v
  all_fit ((slot, seens.Loc number) ∷ seen) each v = all_fit seen each.1 v
  all_fit ((slot, seens.Obj number) ∷ seen) each v = all_fit seen each.1 v
  all_fit ((slot, seens.Beyond) ∷ seen) each v = all_fit seen each.1 v

-- The variable of each number has the value of a slot whose type tells its kind, and a type-correct input keeps the types of
-- its slots: 0 or 1 where it is a boolean, else 32 bits. Behind the last variable the value is 0.
pub kinds_fit : (world : World) (state : State) (input : Input) → IsState world state → IsTypeCorrect world state.method input → (shape : HasShape state.picture input)
    → (v : ℕ) → KindFits (kind_at (kinds_of state.nodes) v) (int_at (variable_values state.picture input shape.places.objects) v)
unfolding variable_values
kinds_fit world state input formed correct shape v = rw formed.kinds (all_fit world state input correct shape.places.objects shape.such state.picture.seen shape.seen v)
