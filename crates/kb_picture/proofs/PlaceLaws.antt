-- Laws of places: those of a picture that grows stay, and a picture has one pair of lists of places in an input.
use Rattle.std.proofs.Common.{◌≡◌, ℕ, List, [], ◌∷◌, ◌++◌, Option, Some, None, slice_get, refl, ap, subst, ◌∙◌, option_map, option_and_then}
use Rattle.kb_heap.specs.declared.heap.Value.{Value}
use Rattle.kb_heap.specs.declared.heap.Heap.{Heap}
use Rattle.kb_heap.specs.declared.heap.Input.{Input}
use Rattle.kb_heap.specs.Heap.{value_at}
use Rattle.kb_classes.proofs.MethodNumbers.{get_before}
use Rattle.kb_picture.specs.declared.picture.Origin.{Origin}
use Rattle.kb_picture.specs.declared.picture.Origin.TheVariants.{Arg, Field, Element}
use Rattle.kb_picture.specs.declared.picture.Seen.{Seen}
use Rattle.kb_picture.specs.declared.picture.PicLoc.{PicLoc}
use Rattle.kb_picture.specs.declared.picture.PicObject.{PicObject}
use Rattle.kb_picture.specs.declared.picture.Picture.{Picture}
use Rattle.kb_picture.specs.declared.picture.PlaceLists.{PlaceLists}
use Rattle.kb_picture.specs.Laws.{with_seen, with_object, with_loc, loc_origins, object_placed_behind, loc_placed_behind}
use Rattle.kb_picture.specs.Places.{value_in, slot_value, object_named, place_of, objects_placed, locs_placed, with_locs_placed, places_of}

-- objects behind others are placed from the places of those before them, which stay
pub placed_behind : (input : Input) (places : List ℕ) (objects more : List PicObject)
    → objects_placed input places (objects ++ more) ≡ option_and_then (λ (before : List ℕ). objects_placed input before more) (objects_placed input places objects)
placed_behind input places [] more = refl
placed_behind input places (object ∷ objects) more = go (λ (before : List ℕ). placed_behind input before objects more) (place_of input places object.origin)
  where
    go : ((before : List ℕ) → objects_placed input before (objects ++ more) ≡ option_and_then (λ (b : List ℕ). objects_placed input b more) (objects_placed input before objects))
        → (place : Option ℕ)
        → option_and_then (λ (p : ℕ). objects_placed input (places ++ p ∷ []) (objects ++ more)) place
        ≡ option_and_then (λ (b : List ℕ). objects_placed input b more) (option_and_then (λ (p : ℕ). objects_placed input (places ++ p ∷ []) objects) place)
    go later None = refl
    go later (Some p) = later (places ++ p ∷ [])

-- ---- places that are found are found with more objects too

value_stays : (heap : Heap) (places more : List ℕ) (object slot : ℕ) (value : Value) → value_in heap places object slot ≡ Some value → value_in heap (places ++ more) object slot ≡ Some value
value_stays heap places more object slot value e = go (slice_get places object) refl e
  where
    go : (place : Option ℕ) → slice_get places object ≡ place → option_and_then (λ p. value_at heap p slot) place ≡ Some value → value_in heap (places ++ more) object slot ≡ Some value
    go None at e = absurd cc
    go (Some p) at e = ap (option_and_then (λ p. value_at heap p slot)) (get_before places more object p at) ∙ e

slot_stays : (input : Input) (places more : List ℕ) (slot : Origin) (value : Value) → slot_value input places slot ≡ Some value → slot_value input (places ++ more) slot ≡ Some value
slot_stays input places more (Arg number) value e = e
slot_stays input places more (Field object slot) value e = value_stays input.heap places more object slot value e
slot_stays input places more (Element array index) value e = value_stays input.heap places more array index value e

pub place_stays : (input : Input) (places more : List ℕ) (slot : Origin) (place : ℕ) → place_of input places slot ≡ Some place → place_of input (places ++ more) slot ≡ Some place
unfolding place_of
place_stays input places more slot place e = go (slot_value input places slot) refl e
  where
    go : (value : Option Value) → slot_value input places slot ≡ value → object_named input.heap value ≡ Some place → object_named input.heap (slot_value input (places ++ more) slot) ≡ Some place
    go None at e = absurd cc
    go (Some v) at e = ap (object_named input.heap) (slot_stays input places more slot v at) ∙ e

locs_stay : (input : Input) (places more : List ℕ) (locs : List PicLoc) (found : List ℕ) → locs_placed input places locs ≡ Some found → locs_placed input (places ++ more) locs ≡ Some found
locs_stay input places more [] found e = e
locs_stay input places more (loc ∷ locs) found e =
    go (λ (ls : List ℕ) (after : locs_placed input places locs ≡ Some ls). locs_stay input places more locs ls after) (place_of input places loc.origin) refl (locs_placed input places locs) refl e
  where
    go : ((ls : List ℕ) → locs_placed input places locs ≡ Some ls → locs_placed input (places ++ more) locs ≡ Some ls)
        → (place : Option ℕ) → place_of input places loc.origin ≡ place → (later : Option (List ℕ)) → locs_placed input places locs ≡ later
        → option_and_then (λ (p : ℕ). option_map (λ (more : List ℕ). p ∷ more) later) place ≡ Some found
        → locs_placed input (places ++ more) (loc ∷ locs) ≡ Some found
    go again None at later after e = absurd cc
    go again (Some p) at None after e = absurd cc
    go again (Some p) at (Some ls) after e =
        let one : place_of input (places ++ more) loc.origin ≡ Some p = place_stays input places more loc.origin p at in
        let other : locs_placed input (places ++ more) locs ≡ Some ls = again ls after in
        ap (option_and_then (λ (p : ℕ). option_map (λ (m : List ℕ). p ∷ m) (locs_placed input (places ++ more) locs))) one
        ∙ ap (option_map (λ (m : List ℕ). p ∷ m)) other ∙ e

-- the places of a picture are those of its objects, and of its locations by these
pub record ArePlaced (picture : Picture) (input : Input) (places : PlaceLists) : Type 0 where
  pub objects : objects_placed input [] picture.objects ≡ Some places.objects
  pub locs : locs_placed input places.objects picture.locs ≡ Some places.locs

pub placed_parts : (picture : Picture) (input : Input) (places : PlaceLists) → places_of picture input ≡ Some places → ArePlaced picture input places
unfolding places_of
placed_parts picture input places e = go (objects_placed input [] picture.objects) refl e
  where
    go : (found : Option (List ℕ)) → objects_placed input [] picture.objects ≡ found → option_and_then (with_locs_placed input picture.locs) found ≡ Some places → ArePlaced picture input places
    go None at e = absurd cc
    go (Some objects) at e =
        split (locs_placed input objects picture.locs) refl e
      where
        split : (locs : Option (List ℕ)) → locs_placed input objects picture.locs ≡ locs → option_map (λ (l : List ℕ). record { objects = objects; locs = l }) locs ≡ Some places
            → ArePlaced picture input places
        split None there e = absurd cc
        split (Some l) there e =
            let whole : record { objects = objects; locs = l } ≡ places = cc in
            subst (ArePlaced picture input) whole (record { objects = at; locs = there })

-- ---- pictures that grow

pub places_seen : (picture : Picture) (input : Input) (slot : Origin × Seen) → places_of (with_seen picture slot) input ≡ places_of picture input
unfolding places_of
places_seen picture input slot = refl

same_locs : (input : Input) (objects : List ℕ) (one other : List PicLoc) → loc_origins one ≡ loc_origins other → locs_placed input objects one ≡ locs_placed input objects other
same_locs input objects [] [] e = refl
same_locs input objects [] (loc ∷ other) e = absurd cc
same_locs input objects (loc ∷ one) [] e = absurd cc
same_locs input objects (l ∷ one) (m ∷ other) e =
    let origin : l.origin ≡ m.origin = cc in
    let later : loc_origins one ≡ loc_origins other = cc in
    ap (λ (o : Option ℕ). option_and_then (λ (p : ℕ). option_map (λ (more : List ℕ). p ∷ more) (locs_placed input objects one)) o) (ap (place_of input objects) origin)
    ∙ ap (λ (ls : Option (List ℕ)). option_and_then (λ (p : ℕ). option_map (λ (more : List ℕ). p ∷ more) ls) (place_of input objects m.origin)) (same_locs input objects one other later)

pub places_standing : (picture : Picture) (input : Input) (locs : List PicLoc) → loc_origins locs ≡ loc_origins picture.locs
    → places_of (record picture { locs = locs }) input ≡ places_of picture input
unfolding places_of
places_standing picture input locs e = go (objects_placed input [] picture.objects)
  where
    go : (objects : Option (List ℕ)) → option_and_then (with_locs_placed input locs) objects ≡ option_and_then (with_locs_placed input picture.locs) objects
    go None = refl
    go (Some objects) = ap (option_map (λ (ls : List ℕ). record { objects = objects; locs = ls })) (same_locs input objects locs picture.locs e)

pub places_object : (picture : Picture) (input : Input) (places : PlaceLists) (object : PicObject) → places_of picture input ≡ Some places
    → places_of (with_object picture object) input ≡ option_map (object_placed_behind places) (place_of input places.objects object.origin)
unfolding places_of
places_object picture input places object e =
    ap (option_and_then (with_locs_placed input picture.locs)) (placed_behind input [] picture.objects (object ∷ []) ∙ ap (option_and_then (λ (b : List ℕ). objects_placed input b (object ∷ []))) parts.objects)
    ∙ go (place_of input places.objects object.origin)
  where
    parts : ArePlaced picture input places
    parts = placed_parts picture input places e

    go : (place : Option ℕ)
        → option_and_then (with_locs_placed input picture.locs) (option_and_then (λ (p : ℕ). Some (places.objects ++ p ∷ [])) place)
        ≡ option_map (object_placed_behind places) place
    go None = refl
    go (Some p) = ap (option_map (λ (ls : List ℕ). record { objects = places.objects ++ p ∷ []; locs = ls }))
        (locs_stay input places.objects (p ∷ []) picture.locs places.locs parts.locs)

locs_behind : (input : Input) (objects : List ℕ) (locs : List PicLoc) (loc : PicLoc) (found : List ℕ) → locs_placed input objects locs ≡ Some found
    → locs_placed input objects (locs ++ loc ∷ []) ≡ option_map (λ (p : ℕ). found ++ p ∷ []) (place_of input objects loc.origin)
locs_behind input objects [] loc found e = go (place_of input objects loc.origin) (let none : [] ≡ found = cc in none)
  where
    go : (place : Option ℕ) → [] ≡ found → option_and_then (λ (p : ℕ). Some (p ∷ [])) place ≡ option_map (λ (p : ℕ). found ++ p ∷ []) place
    go None none = refl
    go (Some p) none = ap (λ (f : List ℕ). Some (f ++ p ∷ [])) none
locs_behind input objects (first ∷ locs) loc found e =
    go (λ (ls : List ℕ) (after : locs_placed input objects locs ≡ Some ls). locs_behind input objects locs loc ls after) (place_of input objects first.origin) refl (locs_placed input objects locs) refl e
  where
    go : ((ls : List ℕ) → locs_placed input objects locs ≡ Some ls → locs_placed input objects (locs ++ loc ∷ []) ≡ option_map (λ (p : ℕ). ls ++ p ∷ []) (place_of input objects loc.origin))
        → (place : Option ℕ) → place_of input objects first.origin ≡ place → (later : Option (List ℕ)) → locs_placed input objects locs ≡ later
        → option_and_then (λ (p : ℕ). option_map (λ (more : List ℕ). p ∷ more) later) place ≡ Some found
        → locs_placed input objects (first ∷ (locs ++ loc ∷ [])) ≡ option_map (λ (p : ℕ). found ++ p ∷ []) (place_of input objects loc.origin)
    go again None at later after e = absurd cc
    go again (Some p) at None after e = absurd cc
    go again (Some p) at (Some ls) after e =
        let whole : p ∷ ls ≡ found = cc in
        ap (option_and_then (λ (p : ℕ). option_map (λ (m : List ℕ). p ∷ m) (locs_placed input objects (locs ++ loc ∷ [])))) at
        ∙ ap (option_map (λ (m : List ℕ). p ∷ m)) (again ls after)
        ∙ last (place_of input objects loc.origin) whole
      where
        last : (place : Option ℕ) → p ∷ ls ≡ found → option_map (λ (m : List ℕ). p ∷ m) (option_map (λ (q : ℕ). ls ++ q ∷ []) place) ≡ option_map (λ (q : ℕ). found ++ q ∷ []) place
        last None whole = refl
        last (Some q) whole = ap (λ (f : List ℕ). Some (f ++ q ∷ [])) whole

pub places_loc : (picture : Picture) (input : Input) (places : PlaceLists) (loc : PicLoc) → places_of picture input ≡ Some places
    → places_of (with_loc picture loc) input ≡ option_map (loc_placed_behind places) (place_of input places.objects loc.origin)
unfolding places_of
places_loc picture input places loc e =
    ap (option_and_then (with_locs_placed input (picture.locs ++ loc ∷ []))) parts.objects
    ∙ ap (option_map (λ (ls : List ℕ). record { objects = places.objects; locs = ls })) (locs_behind input places.objects picture.locs loc places.locs parts.locs)
    ∙ go (place_of input places.objects loc.origin)
  where
    parts : ArePlaced picture input places
    parts = placed_parts picture input places e

    go : (place : Option ℕ) → option_map (λ (ls : List ℕ). record { objects = places.objects; locs = ls }) (option_map (λ (p : ℕ). places.locs ++ p ∷ []) place) ≡ option_map (loc_placed_behind places) place
    go None = refl
    go (Some p) = refl
