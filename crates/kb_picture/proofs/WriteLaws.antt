-- A write to a slot that is not there changes nothing, and what an input gives to the values of a path is read part by part.
use Rattle.std.proofs.Common.{◌≡◌, ℕ, zero, suc, ℤ, List, [], ◌∷◌, length, Option, Some, None, slice_get, slice_set, refl, sym, ap, ◌∙◌, option_and_then}
use Rattle.std.specs.Option.{option_map_or}
use Rattle.kb_blast.specs.Meaning.{listed_values}
use Rattle.kb_heap.specs.declared.heap.Value.{Value}
use Rattle.kb_heap.specs.declared.heap.Object.{Object}
use Rattle.kb_heap.specs.declared.heap.Heap.{Heap}
use Rattle.kb_heap.specs.declared.heap.Input.{Input}
use Rattle.kb_heap.specs.Heap.{object_at, value_at, object_with, with_object_at, with_value}
use Rattle.kb_classes.specs.World.{World}
use Rattle.kb_picture.specs.declared.picture.PlaceLists.{PlaceLists}
use Rattle.kb_picture.specs.declared.path.Path.{Path}
use Rattle.kb_picture.specs.Endings.{Reading, reading_of}
use Rattle.kb_picture.specs.Instances.{variable_values, term_values}
use Rattle.kb_picture.specs.Places.{places_of, no_places, places_found}

set_past : {A : Type 0} (xs : List A) (i : ℕ) (y : A) → slice_get xs i ≡ None → slice_set xs i y ≡ xs
set_past [] i y e = refl
set_past (x ∷ xs) zero y e = absurd cc
set_past (x ∷ xs) (suc i) y e = ap (λ zs. x ∷ zs) (set_past xs i y e)

set_back : {A : Type 0} (xs : List A) (i : ℕ) (x : A) → slice_get xs i ≡ Some x → slice_set xs i x ≡ xs
set_back [] i x e = refl
set_back (w ∷ xs) zero x e = ap (λ z. z ∷ xs) (sym (let same : w ≡ x = cc in same))
set_back (w ∷ xs) (suc i) x e = ap (λ zs. w ∷ zs) (set_back xs i x e)

abbrev with_values : Object → List Value → Object
with_values of values = record { kind = of.kind; values = values }

abbrev with_objects : List Object → Heap
with_objects objects = record { objects = objects }

pub nothing_written : (heap : Heap) (object slot : ℕ) (value : Value) → value_at heap object slot ≡ None → with_value heap object slot value ≡ heap
nothing_written heap object slot value e = go (object_at heap object) refl e
  where
    go : (of : Option Object) → object_at heap object ≡ of → option_and_then (λ (o : Object). slice_get o.values slot) of ≡ None → with_object_at heap object slot value of ≡ heap
    go None at e = refl
    go (Some of) at e =
        let same : object_with of slot value ≡ of = ap (with_values of) (set_past of.values slot value e) in
        ap with_objects (ap (slice_set heap.objects object) same ∙ set_back heap.objects object of at)

abbrev pub reading : PlaceLists → List ℤ → List ℤ → ℕ → ℕ → Reading
reading places variables terms inputs literals = record { places = places; variables = variables; terms = terms; inputs = inputs; literals = literals }

pub read_by : (world : World) (path : Path) (input : Input) (places : PlaceLists) (variables terms : List ℤ) (inputs literals : ℕ)
    → places_of path.picture input ≡ Some places → variables ≡ variable_values path.picture input places.objects → terms ≡ listed_values variables path.terms
    → inputs ≡ length input.heap.objects → literals ≡ length world.literals
    → reading places variables terms inputs literals ≡ reading_of world path input
unfolding reading_of term_values
read_by world path input places variables terms inputs literals placed vs ts is ls =
    ap (λ (v : List ℤ). reading places v terms inputs literals) vs
    ∙ ap (λ (t : List ℤ). reading places (variable_values path.picture input places.objects) t inputs literals) (ts ∙ ap (λ (v : List ℤ). listed_values v path.terms) vs)
    ∙ ap (λ (n : ℕ). reading places (variable_values path.picture input places.objects) (listed_values (variable_values path.picture input places.objects) path.terms) n literals) is
    ∙ ap (λ (n : ℕ). reading places (variable_values path.picture input places.objects) (listed_values (variable_values path.picture input places.objects) path.terms) (length input.heap.objects) n) ls
    ∙ ap (λ (p : PlaceLists). reading p (variable_values path.picture input p.objects) (listed_values (variable_values path.picture input p.objects) path.terms) (length input.heap.objects) (length world.literals)) (sym found)
  where
    found : places_found path.picture input ≡ places
    found = ap (λ (o : Option PlaceLists). option_map_or (λ (p : PlaceLists). p) o no_places) placed
