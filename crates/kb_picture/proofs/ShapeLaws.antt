-- Laws of shapes: of which parts a shape consists, at places that are known.
use Rattle.std.proofs.Common.{◌≡◌, ◌↔◌, ℕ, zero, suc, ◌<◌, nat_lt, Bool, true, false, List, [], ◌∷◌, ◌++◌, length, Option, Some, None, slice_get, refl, sym, ap, subst, ◌∙◌, option_and_then}
use Rattle.std.proofs.lemmas.Bool.{ltb-true, lt-ltb}
use Rattle.kb_heap.specs.declared.heap.Value.{Value}
use Rattle.kb_heap.specs.declared.heap.Value.TheVariants.{Int, Null, Ref}
use Rattle.kb_heap.specs.declared.heap.Heap.{Heap}
use Rattle.kb_heap.specs.declared.heap.Input.{Input}
use Rattle.kb_semantics.specs.Looks.{only_where}
use Rattle.kb_picture.specs.declared.picture.Origin.{Origin}
use Rattle.kb_picture.specs.declared.picture.PicObject.{PicObject}
use Rattle.kb_picture.specs.declared.picture.Picture.{Picture}
use Rattle.kb_picture.specs.declared.picture.PlaceLists.{PlaceLists}
use Rattle.kb_picture.specs.Places.{object_named, slot_value, place_of, objects_placed, places_of}
use Rattle.kb_picture.specs.Shapes.{HoldEach, IsSuch, AreApart, HasShape}
use Rattle.kb_picture.specs.Tables.{marks_of, EachPair, StandsAt}
use Rattle.kb_picture.proofs.PlaceLaws.{placed_parts}
use Rattle.kb_picture.proofs.TableLaws.{AreBelow, no_marks}

-- ---- values

-- the object that a value names, and no other
pub named_exactly : (heap : Heap) (value : Option Value) (object : ℕ) → (object_named heap value ≡ Some object) ↔ ((value ≡ Some (Ref object)) × (object < length heap.objects))
named_exactly heap (Some (Int z)) object = ((λ h. absurd cc), (λ h. (let e : Some (Int z) ≡ Some (Ref object) = h.0 in absurd cc)))
named_exactly heap (Some Null) object = ((λ h. absurd cc), (λ h. (let e : Some Null ≡ Some (Ref object) = h.0 in absurd cc)))
named_exactly heap None object = ((λ h. absurd cc), (λ h. (let e : None ≡ Some (Ref object) = h.0 in absurd cc)))
named_exactly heap (Some (Ref o)) object = go (nat_lt o (length heap.objects)) refl
  where
    go : (b : Bool) → nat_lt o (length heap.objects) ≡ b
        → (only_where b o ≡ Some object) ↔ ((Some (Ref o) ≡ Some (Ref object)) × (object < length heap.objects))
    go true e =
        let below : o < length heap.objects = ltb-true o (length heap.objects) e in
        ((λ h. (let same : o ≡ object = cc in (ap (λ (n : ℕ). Some (Ref n)) same, subst (λ (n : ℕ). n < length heap.objects) same below))), (λ h. (let same : o ≡ object = (let whole : Some (Ref o) ≡ Some (Ref object) = h.0 in cc) in ap Some same)))
    go false e = (
      (λ h. absurd cc),
      (λ h. (let same : o ≡ object = (let whole : Some (Ref o) ≡ Some (Ref object) = h.0 in cc) in
          let below : o < length heap.objects = subst (λ (n : ℕ). n < length heap.objects) (sym same) h.1 in
          let test : nat_lt o (length heap.objects) ≡ true = lt-ltb o (length heap.objects) below in
          absurd cc)),
    )

-- ---- lists by pairs

pub pairs_by : {A : Type 0} (Fits : A → ℕ → Type 0) (items : List A) (places : List ℕ)
    → ((number place : ℕ) (item : A) → slice_get items number ≡ Some item → slice_get places number ≡ Some place → Fits item place) → EachPair Fits items places
pairs_by Fits [] places each = tt
pairs_by Fits (item ∷ items) [] each = tt
pairs_by Fits (item ∷ items) (place ∷ places) each = (each 0 place item refl refl, pairs_by Fits items places (λ n p i at there. each (suc n) p i at there))

pub by_pairs : {A : Type 0} (Fits : A → ℕ → Type 0) (items : List A) (places : List ℕ) → EachPair Fits items places
    → (number place : ℕ) (item : A) → slice_get items number ≡ Some item → slice_get places number ≡ Some place → Fits item place
by_pairs Fits [] places each number place item at there = absurd cc
by_pairs Fits (first ∷ items) [] each number place item at there = absurd cc
by_pairs Fits (first ∷ items) (here ∷ places) each zero place item at there =
    let one : first ≡ item = cc in
    let other : here ≡ place = cc in
    subst (λ i. Fits i place) one (subst (λ (p : ℕ). Fits first p) other each.0)
by_pairs Fits (first ∷ items) (here ∷ places) each (suc number) place item at there = by_pairs Fits items places each.1 number place item at there

-- ---- places are objects of the input

pub place_inside : (input : Input) (places : List ℕ) (slot : Origin) (place : ℕ) → place_of input places slot ≡ Some place
    → (slot_value input places slot ≡ Some (Ref place)) × (place < length input.heap.objects)
unfolding place_of
place_inside input places slot place e = (named_exactly input.heap (slot_value input places slot) place).0 e

below_pushed : (n : ℕ) (places : List ℕ) (place : ℕ) → AreBelow n places → place < n → AreBelow n (places ++ place ∷ [])
below_pushed n [] place below one = (one, tt)
below_pushed n (first ∷ places) place below one = (below.0, below_pushed n places place below.1 one)

pub objects_inside : (input : Input) (before : List ℕ) (objects : List PicObject) (places : List ℕ) → objects_placed input before objects ≡ Some places
    → AreBelow (length input.heap.objects) before → AreBelow (length input.heap.objects) places
objects_inside input before [] places e below = subst (AreBelow (length input.heap.objects)) (let same : before ≡ places = cc in same) below
objects_inside input before (object ∷ objects) places e below =
    go (place_of input before object.origin) refl e (λ (place : ℕ). objects_inside input (before ++ place ∷ []) objects places)
  where
    go : (place : Option ℕ) → place_of input before object.origin ≡ place
        → option_and_then (λ (p : ℕ). objects_placed input (before ++ p ∷ []) objects) place ≡ Some places
        → ((p : ℕ) → objects_placed input (before ++ p ∷ []) objects ≡ Some places → AreBelow (length input.heap.objects) (before ++ p ∷ []) → AreBelow (length input.heap.objects) places)
        → AreBelow (length input.heap.objects) places
    go None at e again = absurd cc
    go (Some p) at e again = again p e (below_pushed (length input.heap.objects) before p below (place_inside input before object.origin p at).1)

-- ---- shapes

-- the parts of a shape at places that are known
pub record HasShapeAt (picture : Picture) (input : Input) (places : PlaceLists) : Type 0 where
  pub seen : HoldEach input places.objects picture.seen
  pub apart : AreApart places.objects
  pub such : EachPair (IsSuch input.heap) picture.objects places.objects
  pub stands : EachPair (StandsAt places.objects) picture.locs places.locs

pub shape_of_parts : (picture : Picture) (input : Input) (places : PlaceLists) → places_of picture input ≡ Some places → HasShapeAt picture input places → HasShape picture input
shape_of_parts picture input places placed parts = record {
  places = places;
  placed = placed;
  seen = parts.seen;
  apart = parts.apart;
  such = λ number place expected at there. by_pairs (IsSuch input.heap) picture.objects places.objects parts.such number place expected at there;
  stands = λ number place loc at there. by_pairs (StandsAt places.objects) picture.locs places.locs parts.stands number place loc at there;
}

parts_of : (picture : Picture) (input : Input) (shape : HasShape picture input) → HasShapeAt picture input shape.places
parts_of picture input shape = record {
  seen = shape.seen;
  apart = shape.apart;
  such = pairs_by (IsSuch input.heap) picture.objects shape.places.objects shape.such;
  stands = pairs_by (StandsAt shape.places.objects) picture.locs shape.places.locs (λ number place loc at there. shape.stands number place loc at there);
}

-- a shape is at the places of the picture
pub same_places : (picture : Picture) (input : Input) (places : PlaceLists) → places_of picture input ≡ Some places → (shape : HasShape picture input) → shape.places ≡ places
same_places picture input places placed shape =
    let both : Some shape.places ≡ Some places = sym shape.placed ∙ placed in
    cc

pub parts_of_shape : (picture : Picture) (input : Input) (places : PlaceLists) → places_of picture input ≡ Some places → HasShape picture input → HasShapeAt picture input places
parts_of_shape picture input places placed shape = subst (HasShapeAt picture input) (same_places picture input places placed shape) (parts_of picture input shape)

-- an input in which two objects of the picture would have one place has not its shape
pub not_apart : (picture : Picture) (input : Input) (places : PlaceLists) → places_of picture input ≡ Some places → marks_of (length input.heap.objects) places.objects ≡ None
    → HasShape picture input → ⊥
not_apart picture input places placed none shape =
    let parts = parts_of_shape picture input places placed shape in
    let found = placed_parts picture input places placed in
    no_marks (length input.heap.objects) places.objects none (objects_inside input [] picture.objects places.objects found.objects tt) parts.apart
