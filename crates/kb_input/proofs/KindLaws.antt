-- Values of a type in heaps whose objects have the same exact types.
use Rattle.std.proofs.Common.{◌≡◌, ℕ, List, [], ◌∷◌, map, Option, Some, None, slice_get, refl, sym, ap, subst, ◌∙◌, true, option_map}
use Rattle.std.proofs.lemmas.Option.{same_Some, slice_get-map}
use Rattle.std.specs.List.{AllByRecursion}
use Rattle.kb_heap.specs.declared.heap.Value.{Value}
use Rattle.kb_heap.specs.declared.heap.Value.TheVariants.{Int as IntValue, Null as NullValue, Ref}
use Rattle.kb_heap.specs.declared.heap.Object.{Object}
use Rattle.kb_heap.specs.declared.heap.Heap.{Heap}
use Rattle.kb_heap.specs.Heap.{object_at}
use Rattle.kb_classes.specs.Subtypes.{fits}
use Rattle.kb_classes.specs.World.{World}
use Rattle.kb_classes.specs.declared.slots.FieldSlot.{FieldSlot}
use Rattle.kb_names.specs.declared.types.ExactType.{ExactType}
use Rattle.kb_names.specs.declared.types.ExactType.TheVariants as exact
use Rattle.kb_names.specs.declared.types.JType.{JType}
use Rattle.kb_names.specs.declared.types.JType.TheVariants as types
use Rattle.kb_semantics.specs.Inputs.{HasValuesOf}
use Rattle.kb_semantics.specs.Values.{IsValueOf, AreValuesOf, IsObjectOf, slots_of_class}

abbrev pub kind_of : Object → ExactType
kind_of object = object.kind

abbrev pub SameKinds : Heap → Heap → Type 0
SameKinds one other = map kind_of one.objects ≡ map kind_of other.objects

pub object_like : (world : World) (type : JType) (one other : Heap) (o : ℕ) → SameKinds one other → IsObjectOf world type (object_at one o) → IsObjectOf world type (object_at other o)
object_like world type one other o same h = go (object_at one o) refl (object_at other o) refl h
  where
    kinds : option_map kind_of (object_at one o) ≡ option_map kind_of (object_at other o)
    kinds = sym (slice_get-map kind_of one.objects o) ∙ (ap (λ (ks : List ExactType). slice_get ks o) same ∙ slice_get-map kind_of other.objects o)

    go : (a : Option Object) → object_at one o ≡ a → (b : Option Object) → object_at other o ≡ b → IsObjectOf world type a → IsObjectOf world type b
    go None at b there h = absurd h
    go (Some x) at None there h =
        let k : Some x.kind ≡ None = ap (option_map kind_of) (sym at) ∙ (kinds ∙ ap (option_map kind_of) there) in
        absurd cc
    go (Some x) at (Some y) there h =
        let k : Some x.kind ≡ Some y.kind = ap (option_map kind_of) (sym at) ∙ (kinds ∙ ap (option_map kind_of) there) in
        subst (λ (kind : ExactType). fits world kind type ≡ true) (same_Some x.kind y.kind k) h

module _ (world : World) (one other : Heap) (same : SameKinds one other) where
  pub value_like : (type : JType) (value : Value) → IsValueOf world one type value → IsValueOf world other type value
  value_like (types.Class name) (Ref o) h = object_like world (types.Class name) one other o same h
  value_like (types.Array component) (Ref o) h = object_like world (types.Array component) one other o same h
  value_like (types.Class name) NullValue h = tt
  value_like (types.Array component) NullValue h = tt
  value_like (types.Class name) (IntValue z) h = absurd h
  value_like (types.Array component) (IntValue z) h = absurd h
  value_like types.Int (IntValue z) h = h
  value_like types.Bool (IntValue z) h = h
  value_like _ _ h = absurd h

  pub values_like : (kinds : List JType) (values : List Value) → AreValuesOf world one kinds values → AreValuesOf world other kinds values
  values_like [] [] h = tt
  values_like [] (v ∷ values) h = absurd h
  values_like (t ∷ kinds) [] h = absurd h
  values_like (t ∷ kinds) (v ∷ values) h = (value_like t v h.0, values_like kinds values h.1)

  pub elements_like : (component : JType) (values : List Value) → AllByRecursion (IsValueOf world one component) values → AllByRecursion (IsValueOf world other component) values
  elements_like component [] h = tt
  elements_like component (v ∷ values) h = (value_like component v h.0, elements_like component values h.1)

  pub object_values_like : (kind : ExactType) (values : List Value) → HasValuesOf world one kind values → HasValuesOf world other kind values
  object_values_like (exact.Class name) values h = values_like (map (λ (slot : FieldSlot). slot.kind) (slots_of_class world name)) values h
  object_values_like (exact.Array component) values h = (h.0, elements_like component values h.1)
