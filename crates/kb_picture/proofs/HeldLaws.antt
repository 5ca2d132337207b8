-- What a slot of a type-correct input holds: a value of its declared type.
use Rattle.std.proofs.Common.{◌≡◌, ℕ, zero, suc, ◌<◌, List, [], ◌∷◌, length, map, Some, slice_get, refl, sym, ap, subst, ◌∙◌, arith, option_and_then}
use Rattle.std.proofs.lemmas.Option.{same_Some, slice_get_within, slice_get-map}
use Rattle.std.specs.List.{AllByRecursion}
use Rattle.kb_class.specs.declared.ids.MethodId.{MethodId}
use Rattle.kb_class.specs.declared.members.MethodInfo.{MethodInfo}
use Rattle.kb_heap.specs.declared.heap.Value.{Value}
use Rattle.kb_heap.specs.declared.heap.Object.{Object}
use Rattle.kb_heap.specs.declared.heap.Heap.{Heap}
use Rattle.kb_heap.specs.declared.heap.Input.{Input}
use Rattle.kb_heap.specs.Heap.{value_at}
use Rattle.kb_classes.specs.World.{World}
use Rattle.kb_classes.specs.declared.slots.FieldSlot.{FieldSlot}
use Rattle.kb_names.specs.declared.types.ExactType.{ExactType}
use Rattle.kb_names.specs.declared.types.ExactType.TheVariants as exact
use Rattle.kb_names.specs.declared.types.JType.{JType}
use Rattle.kb_semantics.specs.Inputs.{IsTypeCorrect, IsInputObject, HasValuesOf, argument_types}
use Rattle.kb_semantics.specs.Values.{IsValueOf, AreValuesOf, slots_of_class}
use Rattle.kb_picture.proofs.GrownPictures.{item_there}
use Rattle.kb_picture.proofs.GrownShapes.{as_many}
use Rattle.kb_picture.specs.declared.picture.Length.{Length}
use Rattle.kb_picture.specs.declared.picture.Length.TheVariants.{Plain, Is, Above}
use Rattle.kb_picture.specs.declared.picture.Origin.{Origin}
use Rattle.kb_picture.specs.declared.picture.Origin.TheVariants.{Arg, Field, Element}
use Rattle.kb_picture.specs.declared.picture.PicObject.{PicObject}
use Rattle.kb_picture.specs.declared.picture.Picture.{Picture}
use Rattle.kb_picture.specs.Places.{slot_value, value_in}
use Rattle.kb_picture.specs.Queries.{type_of_slot, slot_of_class, component_of}
use Rattle.kb_picture.specs.Shapes.{HasShape, IsSuch, HasLength}
use Rattle.kb_picture.specs.WellFormed.{IsSlot, HasElement}

pub values_at : (world : World) (heap : Heap) (types : List JType) (values : List Value) (i : ℕ) (type : JType) → AreValuesOf world heap types values → slice_get types i ≡ Some type
    → (value : Value) × (slice_get values i ≡ Some value) × IsValueOf world heap type value
values_at world heap [] [] i type are at = absurd cc
values_at world heap [] (v ∷ values) i type are at = absurd are
values_at world heap (t ∷ types) [] i type are at = absurd are
values_at world heap (t ∷ types) (v ∷ values) zero type are at = (v, refl, subst (λ (u : JType). IsValueOf world heap u v) (same_Some t type at) are.0)
values_at world heap (t ∷ types) (v ∷ values) (suc i) type are at = values_at world heap types values i type are.1 at

elements_at : (world : World) (heap : Heap) (component : JType) (values : List Value) (i : ℕ) → AllByRecursion (IsValueOf world heap component) values → i < length values
    → (value : Value) × (slice_get values i ≡ Some value) × IsValueOf world heap component value
elements_at world heap component [] i all inside = absurd (omega (arith, inside))
elements_at world heap component (v ∷ values) zero all inside = (v, refl, all.0)
elements_at world heap component (v ∷ values) (suc i) all inside = elements_at world heap component values i all.1 (omega (arith, inside))

pub all_at : {A : Type 0} (P : A → Type 0) (xs : List A) (i : ℕ) (x : A) → AllByRecursion P xs → slice_get xs i ≡ Some x → P x
all_at P [] i x all at = absurd cc
all_at P (y ∷ xs) zero x all at = subst P (same_Some y x at) all.0
all_at P (y ∷ xs) (suc i) x all at = all_at P xs i x all.1 at

-- the value in a slot, which is one of the type
pub record HeldValue (world : World) (input : Input) (places : List ℕ) (slot : Origin) (type : JType) : Type 0 where
  pub value : Value
  pub there : slot_value input places slot ≡ Some value
  pub of_type : IsValueOf world input.heap type value

module _ (world : World) (id : MethodId) (picture : Picture) (input : Input) (correct : IsTypeCorrect world id input) (shape : HasShape picture input) where
  -- the object of the input at the place of one of the picture
  record ObjectHeld (number : ℕ) (object : PicObject) : Type 0 where
    place : ℕ
    at : slice_get shape.places.objects number ≡ Some place
    such : IsSuch input.heap object place
    values : HasValuesOf world input.heap object.kind such.object.values

  object_held : (number : ℕ) (object : PicObject) → slice_get picture.objects number ≡ Some object → ObjectHeld number object
  object_held number object there =
      let within : number < length picture.objects = slice_get_within picture.objects number object there in
      from (item_there shape.places.objects number (omega (arith, within, as_many picture input shape.places shape.placed)))
    where
      from : ((place : ℕ) × (slice_get shape.places.objects number ≡ Some place)) → ObjectHeld number object
      from found =
          let such : IsSuch input.heap object found.0 = shape.such number found.0 object there found.1 in
          let is : IsInputObject world input.heap such.object = all_at (IsInputObject world input.heap) input.heap.objects found.0 such.object correct.objects such.object_is in
          record {
            place = found.0;
            at = found.1;
            such = such;
            values = subst (λ (kind : ExactType). HasValuesOf world input.heap kind such.object.values) such.kind is.values;
          }

  -- the value of a slot or an element there
  value_there : (number slot : ℕ) (object : PicObject) (held : ObjectHeld number object) (value : Value) → slice_get held.such.object.values slot ≡ Some value
      → value_in input.heap shape.places.objects number slot ≡ Some value
  value_there number slot object held value at =
      ap (option_and_then (λ (place : ℕ). value_at input.heap place slot)) held.at
      ∙ (ap (option_and_then (λ (of : Object). slice_get of.values slot)) held.such.object_is ∙ at)

  field_value : (number slot : ℕ) (object : PicObject) (type : JType) (held : ObjectHeld number object) (kind : ExactType) → object.kind ≡ kind
      → slot_of_class world slot kind ≡ Some type → HasValuesOf world input.heap kind held.such.object.values
      → HeldValue world input shape.places.objects (Field number slot) type
  field_value number slot object type held (exact.Array component) is declared values = absurd cc
  field_value number slot object type held (exact.Class name) is declared values =
      let at : slice_get (map (λ (field : FieldSlot). field.kind) (slots_of_class world name)) slot ≡ Some type =
      slice_get-map (λ (field : FieldSlot). field.kind) (slots_of_class world name) slot ∙ declared in
      let found = values_at world input.heap (map (λ (field : FieldSlot). field.kind) (slots_of_class world name)) held.such.object.values slot type values at in
      record { value = found.0; there = value_there number slot object held found.0 found.1; of_type = found.2 }

  long_enough : (len : Length) (values : List Value) (index : ℕ) → HasElement len index → HasLength len values → index < length values
  long_enough Plain values index there has = absurd there
  long_enough (Is n) values index there has = omega (arith, there, has)
  long_enough (Above n) values index there has = omega (arith, there, has)

  element_value : (number index : ℕ) (object : PicObject) (type : JType) (held : ObjectHeld number object) (kind : ExactType) → object.kind ≡ kind
      → component_of kind ≡ Some type → HasElement object.length index → HasValuesOf world input.heap kind held.such.object.values
      → HeldValue world input shape.places.objects (Element number index) type
  element_value number index object type held (exact.Class name) is declared there values = absurd cc
  element_value number index object type held (exact.Array component) is declared there values =
      let found = elements_at world input.heap component held.such.object.values index values.1 (long_enough object.length held.such.object.values index there held.such.length) in
      record {
        value = found.0;
        there = value_there number index object held found.0 found.1;
        of_type = subst (λ (t : JType). IsValueOf world input.heap t found.0) (same_Some component type declared) found.2;
      }

  pub held_value : (params : ℕ) (slot : Origin) (type : JType) → IsSlot world params picture.objects slot → type_of_slot world id picture.objects slot ≡ Some type
      → HeldValue world input shape.places.objects slot type
  held_value params (Arg number) type there declared =
      let at : slice_get (argument_types world correct.method) number ≡ Some type =
      sym (ap (option_and_then (λ (method : MethodInfo). slice_get (argument_types world method) number)) correct.method_is) ∙ declared in
      let found = values_at world input.heap (argument_types world correct.method) input.args number type correct.arguments at in
      record { value = found.0; there = found.1; of_type = found.2 }
  held_value params (Field number slot) type there declared =
      let held = object_held number there.0 there.1 in
      let of : slot_of_class world slot there.0.kind ≡ Some type =
      sym (ap (option_and_then (λ (o : PicObject). slot_of_class world slot o.kind)) there.1) ∙ declared in
      field_value number slot there.0 type held there.0.kind refl of held.values
  held_value params (Element number index) type there declared =
      let held = object_held number there.0 there.1 in
      let of : component_of there.0.kind ≡ Some type =
      sym (ap (option_and_then (λ (o : PicObject). component_of o.kind)) there.1) ∙ declared in
      element_value number index there.0 type held there.0.kind refl of there.2 held.values
