-- The ints of an input are ints of 32 bits, and so are the values of the variables of a picture.
use Rattle.std.proofs.Common.{◌≡◌, ℕ, zero, suc, ℤ, pos, w32, FitsSigned, true, false, inl, inr, List, [], ◌∷◌, map, filter_map, Option, Some, None, slice_get, refl, sym, subst}
use Rattle.std.specs.List.{AllByRecursion, cons_option}
use Rattle.std.specs.Option.{option_and_then, option_map_or}
use Rattle.std.proofs.lemmas.Option.{same_Some}
use Rattle.kb_arith.specs.Word.{AreInts}
use Rattle.kb_arith.proofs.Laws.{truth-fits}
use Rattle.kb_class.proofs.Lists.{all_has}
use Rattle.kb_class.specs.declared.ids.MethodId.{MethodId}
use Rattle.kb_heap.specs.declared.heap.Heap.{Heap}
use Rattle.kb_heap.specs.declared.heap.Input.{Input}
use Rattle.kb_heap.specs.declared.heap.Object.{Object}
use Rattle.kb_heap.specs.declared.heap.Value.{Value}
use Rattle.kb_heap.specs.declared.heap.Value.TheVariants.{Int as IntValue, Null as NullValue, Ref}
use Rattle.kb_heap.specs.Heap.{object_at, value_at}
use Rattle.kb_classes.specs.World.{World}
use Rattle.kb_classes.specs.declared.slots.FieldSlot.{FieldSlot}
use Rattle.kb_names.specs.declared.types.ExactType.{ExactType}
use Rattle.kb_names.specs.declared.types.ExactType.TheVariants as exact
use Rattle.kb_names.specs.declared.types.JType.{JType}
use Rattle.kb_names.specs.declared.types.JType.TheVariants as types
use Rattle.kb_semantics.specs.Inputs.{HasValuesOf, IsInputObject, IsTypeCorrect, argument_types}
use Rattle.kb_semantics.specs.Operands.{int_of}
use Rattle.kb_semantics.specs.Values.{AreValuesOf, IsValueOf, slots_of_class}
use Rattle.kb_picture.specs.declared.picture.Origin.{Origin}
use Rattle.kb_picture.specs.declared.picture.Origin.TheVariants.{Arg, Field, Element}
use Rattle.kb_picture.specs.declared.picture.Picture.{Picture}
use Rattle.kb_picture.specs.declared.picture.Seen.{Seen}
use Rattle.kb_picture.specs.declared.picture.Seen.TheVariants as seens
use Rattle.kb_picture.specs.Instances.{variable_value, variable_values}
use Rattle.kb_picture.specs.Places.{slot_value, value_in}

-- ---- values of types

module _ (world : World) (heap : Heap) where
  int_fits : (type : JType) (z : ℤ) → IsValueOf world heap type (IntValue z) → FitsSigned w32 z
  int_fits types.Int z is = is
  int_fits types.Bool z (inl e) = subst (FitsSigned w32) (sym e) (truth-fits false)
  int_fits types.Bool z (inr e) = subst (FitsSigned w32) (sym e) (truth-fits true)
  int_fits (types.Class name) z is = absurd is
  int_fits (types.Array component) z is = absurd is
  int_fits _ z is = absurd is

  values_fit : (kinds : List JType) (values : List Value) → AreValuesOf world heap kinds values → (i : ℕ) (z : ℤ) → slice_get values i ≡ Some (IntValue z) → FitsSigned w32 z
  values_fit [] [] are i z e = absurd cc
  values_fit [] (value ∷ values) are i z e = absurd are
  values_fit (type ∷ kinds) [] are i z e = absurd are
  values_fit (type ∷ kinds) (value ∷ values) are zero z e = int_fits type z (subst (IsValueOf world heap type) (same_Some value (IntValue z) e) are.0)
  values_fit (type ∷ kinds) (value ∷ values) are (suc i) z e = values_fit kinds values are.1 i z e

  elements_fit : (component : JType) (values : List Value) → AllByRecursion (IsValueOf world heap component) values → (i : ℕ) (z : ℤ) → slice_get values i ≡ Some (IntValue z) → FitsSigned w32 z
  elements_fit component [] are i z e = absurd cc
  elements_fit component (value ∷ values) are zero z e = int_fits component z (subst (IsValueOf world heap component) (same_Some value (IntValue z) e) are.0)
  elements_fit component (value ∷ values) are (suc i) z e = elements_fit component values are.1 i z e

  object_fits : (kind : ExactType) (values : List Value) → HasValuesOf world heap kind values → (i : ℕ) (z : ℤ) → slice_get values i ≡ Some (IntValue z) → FitsSigned w32 z
  object_fits (exact.Class name) values has = values_fit (map (λ (slot : FieldSlot). slot.kind) (slots_of_class world name)) values has
  object_fits (exact.Array component) values has = elements_fit component values has.1

-- ---- slots of an input

module _ (world : World) (id : MethodId) (input : Input) (correct : IsTypeCorrect world id input) where
  stored_fits : (object slot : ℕ) (z : ℤ) → value_at input.heap object slot ≡ Some (IntValue z) → FitsSigned w32 z
  stored_fits object slot z e = go (object_at input.heap object) refl e where
    go : (it : Option Object) → object_at input.heap object ≡ it → option_and_then (λ (of : Object). slice_get of.values slot) it ≡ Some (IntValue z) → FitsSigned w32 z
    go None at e = absurd cc
    go (Some of) at e =
        object_fits world input.heap of.kind of.values (all_has (IsInputObject world input.heap) input.heap.objects of correct.objects (object, at)).values slot z e

  placed_fits : (places : List ℕ) (object slot : ℕ) (z : ℤ) → value_in input.heap places object slot ≡ Some (IntValue z) → FitsSigned w32 z
  placed_fits places object slot z e = go (slice_get places object) e where
    go : (it : Option ℕ) → option_and_then (λ (place : ℕ). value_at input.heap place slot) it ≡ Some (IntValue z) → FitsSigned w32 z
    go None e = absurd cc
    go (Some place) e = stored_fits place slot z e

  slot_fits : (places : List ℕ) (slot : Origin) (z : ℤ) → slot_value input places slot ≡ Some (IntValue z) → FitsSigned w32 z
  slot_fits places (Arg number) z e = values_fit world input.heap (argument_types world correct.method) input.args correct.arguments number z e
  slot_fits places (Field object slot) z e = placed_fits places object slot z e
  slot_fits places (Element array index) z e = placed_fits places array index z e

  -- a slot that holds no int counts as 0
  int_or_0 : (it : Option Value) → ((z : ℤ) → it ≡ Some (IntValue z) → FitsSigned w32 z) → FitsSigned w32 (option_map_or (λ (z : ℤ). z) (int_of it) (pos 0))
  int_or_0 None fits = truth-fits false
  int_or_0 (Some (IntValue z)) fits = fits z refl
  int_or_0 (Some NullValue) fits = truth-fits false
  int_or_0 (Some (Ref o)) fits = truth-fits false

  seen_fit : (places : List ℕ) (seen : List (Origin × Seen)) → AreInts (filter_map (λ (slot : Origin × Seen). variable_value (slot_value input places slot.0) slot.1) seen)
  seen_fit places [] = tt
  seen_fit places (slot ∷ seen) = go slot.1 (seen_fit places seen) where
    go : (how : Seen) → AreInts (filter_map (λ (s : Origin × Seen). variable_value (slot_value input places s.0) s.1) seen)
        → AreInts (cons_option (variable_value (slot_value input places slot.0) how) (filter_map (λ (s : Origin × Seen). variable_value (slot_value input places s.0) s.1) seen))
    go (seens.Int number) rest = (int_or_0 (slot_value input places slot.0) (slot_fits places slot.0), rest)
    go seens.Null rest = rest
    go (seens.Loc number) rest = rest
    go (seens.Obj number) rest = rest
    go seens.Beyond rest = rest

  pub variables_fit : (picture : Picture) (places : List ℕ) → AreInts (variable_values picture input places)
  unfolding variable_values
  variables_fit picture places = seen_fit places picture.seen
