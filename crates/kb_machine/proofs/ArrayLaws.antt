-- What the machine finds in an array is what the instruction comes to.
use Rattle.std.proofs.Common.{◌≡◌, ℕ, ℤ, pos, negsuc, nat_lt, ltb→lt, Bool, true, false, List, ◌∷◌, length, Option, Some, None, IsSome, slice_get, if◌then◌else◌, refl, sym, ap, subst, ◌∙◌}
use Rattle.std.proofs.lemmas.Option.{slice_get-get_or}
use Rattle.kb_resolution.specs.Lookup.{only_where}
use Rattle.std.specs.Option.{option_and_then, option_map_or}
use Rattle.kb_names.specs.declared.types.ExactType.{ExactType}
use Rattle.kb_names.specs.declared.types.ExactType.TheVariants as exact
use Rattle.kb_names.specs.declared.types.JType.{JType}
use Rattle.kb_heap.specs.declared.heap.Heap.{Heap}
use Rattle.kb_heap.specs.declared.heap.Object.{Object}
use Rattle.kb_heap.specs.declared.heap.Value.{Value}
use Rattle.kb_heap.specs.Heap.{IsPlace, object_at, with_value}
use Rattle.kb_classes.specs.World.{World}
use Rattle.kb_semantics.specs.Config.{Setting, Config, Outcome}
use Rattle.kb_semantics.specs.Instructions.{Elements, array_at, elements_of, on_array, on_place, place_in_array, takes_object, with}
use Rattle.kb_semantics.specs.Values.{kept}
use Rattle.kb_semantics.specs.Ways.{array_store, goes, goes_with, ill_typed, index_outside, throws}
use Rattle.kb_values.specs.Arrays.{loaded_at, loaded_from, loaded_value, stored_at, stored_from, stored_in, stored_value}
use Rattle.kb_values.specs.declared.arrays.Loaded.{Loaded}
use Rattle.kb_values.specs.declared.arrays.Loaded.TheVariants as loaded
use Rattle.kb_values.specs.declared.arrays.Stored.{Stored}
use Rattle.kb_values.specs.declared.arrays.Stored.TheVariants as stored

module _ (s : Setting) (c : Config) (next : ℕ) (rest : List Value) (o : ℕ) (such : JType → Bool) (index : ℤ) where
  -- ---- loads

  abbrev load_comes : Loaded → Outcome
  load_comes (loaded.Value value) = goes s c next (value ∷ rest)
  load_comes loaded.Outside = throws s c index_outside
  load_comes loaded.IllTyped = ill_typed s c

  abbrev loads : Elements → Outcome
  loads array = on_place s c array index (λ place. with s c (slice_get array.values place) (λ v. goes s c next (v ∷ rest)))

  loads_from : (array : Elements) → loads array ≡ load_comes (loaded_from index array)
  loads_from array = go (place_in_array index (length array.values)) where
    there : (value : Option Value) → with s c value (λ v. goes s c next (v ∷ rest)) ≡ load_comes (loaded_value value)
    there None = refl
    there (Some v) = refl

    go : (place : Option ℕ) →
        option_map_or (λ place. with s c (slice_get array.values place) (λ v. goes s c next (v ∷ rest))) place (throws s c index_outside)
        ≡ load_comes (option_map_or (λ place. loaded_value (slice_get array.values place)) place loaded.Outside)
    go None = refl
    go (Some place) = there (slice_get array.values place)

  -- what was found there is what the load comes to
  pub load_is : (found : Loaded) → loaded_at c.heap o such index ≡ found → on_array s c (Some o) such (λ o array. loads array) ≡ load_comes found
  load_is found is = go (array_at c.heap o such) ∙ ap load_comes is where
    go : (array : Option Elements) → with s c array loads ≡ load_comes (option_map_or (loaded_from index) array loaded.IllTyped)
    go None = refl
    go (Some array) = loads_from array

  -- ---- stores

  module _ (value : Value) where
    abbrev store_comes : Stored → Outcome
    store_comes (stored.Kept place v) = goes_with s c next rest (with_value c.heap o place v)
    store_comes stored.Outside = throws s c index_outside
    store_comes stored.Refused = throws s c array_store
    store_comes stored.IllTyped = ill_typed s c

    abbrev stores : Elements → Outcome
    stores array =
        on_place s c array index (λ place.
        if takes_object s.world c.heap array.component value
        then with s c (kept array.component value) (λ v. goes_with s c next rest (with_value c.heap o place v))
        else throws s c array_store)

    stores_from : (array : Elements) → stores array ≡ store_comes (stored_from s.world c.heap index value array)
    stores_from array = go (place_in_array index (length array.values)) where
      there : (place : ℕ) (takes : Bool) (v : Option Value) →
          (if takes then with s c v (λ v. goes_with s c next rest (with_value c.heap o place v)) else throws s c array_store)
          ≡ store_comes (if takes then stored_value place v else stored.Refused)
      there place true None = refl
      there place true (Some v) = refl
      there place false v = refl

      go : (place : Option ℕ) →
          option_map_or (λ place.
          if takes_object s.world c.heap array.component value
          then with s c (kept array.component value) (λ v. goes_with s c next rest (with_value c.heap o place v))
          else throws s c array_store) place (throws s c index_outside)
          ≡ store_comes (option_map_or (stored_in s.world c.heap value array) place stored.Outside)
      go None = refl
      go (Some place) = there place (takes_object s.world c.heap array.component value) (kept array.component value)

    -- what becomes of the value is what the store comes to
    pub store_is : (found : Stored) → stored_at s.world c.heap o such index value ≡ found → on_array s c (Some o) such (λ o array. stores array) ≡ store_comes found
    store_is found is = go (array_at c.heap o such) ∙ ap store_comes is where
      go : (array : Option Elements) → with s c array stores ≡ store_comes (option_map_or (stored_from s.world c.heap index value) array stored.IllTyped)
      go None = refl
      go (Some array) = stores_from array

-- a value that is kept has a place
pub is_place : (world : World) (heap : Heap) (o : ℕ) (such : JType → Bool) (index : ℤ) (value : Value) (place : ℕ) (v : Value) →
    stored_at world heap o such index value ≡ stored.Kept place v → IsPlace heap o place
is_place world heap o such index value place v there = of_found (object_at heap o) there where
  inside : (values : List Value) (i : ℕ) → nat_lt i (length values) ≡ true → i ≡ place → IsSome (slice_get values place)
  inside values i below e =
      subst (λ (n : ℕ). IsSome (slice_get values n)) e (subst IsSome (sym (slice_get-get_or values i value (ltb→lt i (length values) (rw below tt)))) refl)

  of_value : (i : ℕ) (k : Option Value) → stored_value i k ≡ stored.Kept place v → i ≡ place
  of_value i None h = absurd cc
  of_value i (Some x) h = cc

  of_taken : (i : ℕ) (takes : Bool) (k : Option Value) → (if takes then stored_value i k else stored.Refused) ≡ stored.Kept place v → i ≡ place
  of_taken i false k h = absurd cc
  of_taken i true k h = of_value i k h

  of_place : (component : JType) (values : List Value) (i : ℕ) (below : Bool) → nat_lt i (length values) ≡ below →
      option_map_or (stored_in world heap value (record { component = component; values = values })) (only_where below i) stored.Outside ≡ stored.Kept place v → IsSome (slice_get values place)
  of_place component values i false e h = absurd cc
  of_place component values i true e h = inside values i e (of_taken i (takes_object world heap component value) (kept component value) h)

  of_index : (component : JType) (values : List Value) (index : ℤ) → stored_from world heap index value (record { component = component; values = values }) ≡ stored.Kept place v → IsSome (slice_get values place)
  of_index component values (pos i) h = of_place component values i (nat_lt i (length values)) refl h
  of_index component values (negsuc i) h = absurd cc

  of_array : (component : JType) (values : List Value) (is : Bool) →
      option_map_or (stored_from world heap index value) (only_where is (record { component = component; values = values })) stored.IllTyped ≡ stored.Kept place v → IsSome (slice_get values place)
  of_array component values false h = absurd cc
  of_array component values true h = of_index component values index h

  of_kind : (kind : ExactType) (values : List Value) → option_map_or (stored_from world heap index value) (elements_of kind values such) stored.IllTyped ≡ stored.Kept place v → IsSome (slice_get values place)
  of_kind (exact.Class name) values h = absurd cc
  of_kind (exact.Array component) values h = of_array component values (such component) h

  of_found : (found : Option Object) →
      option_map_or (stored_from world heap index value) (option_and_then (λ (object : Object). elements_of object.kind object.values such) found) stored.IllTyped ≡ stored.Kept place v →
      IsSome (option_and_then (λ (of : Object). slice_get of.values place) found)
  of_found None h = absurd cc
  of_found (Some object) h = of_kind object.kind object.values h
