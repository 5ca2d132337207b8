-- Which inputs take a choice: it is told by what the slot holds in the first heap.
use Rattle.std.proofs.Common.{◌≡◌, ℕ, suc, ◌<◌, ◌⊎◌, inl, inr, List, [], ◌∷◌, ◌++◌, length, take, drop, Option, Some, slice_get, refl, sym, ap, subst, ◌∙◌, arith, option_map}
use Rattle.std.proofs.lemmas.List.{take-append-drop, take_all}
use Rattle.std.proofs.lemmas.Option.{same_Some, slice_get_within}
use Rattle.kb_heap.specs.declared.heap.Value.{Value}
use Rattle.kb_heap.specs.declared.heap.Value.TheVariants.{Ref}
use Rattle.kb_heap.specs.declared.heap.Heap.{Heap}
use Rattle.kb_heap.specs.declared.heap.Input.{Input}
use Rattle.kb_classes.proofs.Places.{get_kept, get_last, get_pushed}
use Rattle.kb_classes.specs.World.{World}
use Rattle.kb_names.specs.declared.types.ExactType.{ExactType}
use Rattle.kb_terms.proofs.Entries.{slice_get-append-left}
use Rattle.kb_picture.proofs.GrownShapes.{at_no_place, as_many, locs_many, slot_same, seen_places, choice_places, new_place, seen_there}
use Rattle.kb_picture.proofs.PlaceLaws.{places_seen, places_object, places_loc}
use Rattle.kb_picture.proofs.ShapeLaws.{named_exactly}
use Rattle.kb_picture.specs.declared.choice.Choice.TheVariants as choices
use Rattle.kb_picture.specs.declared.picture.Length.{Length}
use Rattle.kb_picture.specs.declared.picture.Origin.{Origin}
use Rattle.kb_picture.specs.declared.picture.PicLoc.{PicLoc}
use Rattle.kb_picture.specs.declared.picture.PicObject.{PicObject}
use Rattle.kb_picture.specs.declared.picture.Picture.{Picture}
use Rattle.kb_picture.specs.declared.picture.PlaceLists.{PlaceLists}
use Rattle.kb_picture.specs.declared.picture.Seen.{Seen}
use Rattle.kb_picture.specs.declared.picture.Seen.TheVariants as seens
use Rattle.kb_picture.specs.declared.picture.Standing.{Standing}
use Rattle.kb_picture.specs.declared.picture.Standing.TheVariants as standings
use Rattle.kb_picture.specs.Depths.{IsBeyond}
use Rattle.kb_picture.specs.Growing.{IsUnread}
use Rattle.kb_picture.specs.Growth.{after_read, with_open_loc, with_fresh}
use Rattle.kb_picture.specs.Laws.{with_seen, object_placed_behind, loc_placed_behind}
use Rattle.kb_picture.specs.Places.{slot_value, place_of}
use Rattle.kb_picture.specs.Shapes.{HasShape, HoldEach, HoldsSeen, IsNoPlace, AreApart, IsSuch, Stands}
use Rattle.kb_picture.specs.WellFormed.{IsPicture, IsSlot, IsSeenAs}

-- ---- what is seen behind the others

pub hold_last : (input : Input) (places : List ℕ) (seen : List (Origin × Seen)) (slot : Origin) (how : Seen) → HoldEach input places (seen ++ (slot, how) ∷ [])
    → HoldsSeen input.heap places (slot_value input places slot) how
hold_last input places [] slot how hold = hold.0
hold_last input places (x ∷ seen) slot how hold = hold_last input places seen slot how hold.1

pub hold_behind : (input : Input) (places : List ℕ) (seen : List (Origin × Seen)) (slot : Origin) (how : Seen) → HoldEach input places seen
    → HoldsSeen input.heap places (slot_value input places slot) how → HoldEach input places (seen ++ (slot, how) ∷ [])
hold_behind input places [] slot how hold one = (one, tt)
hold_behind input places (x ∷ seen) slot how hold one = (hold.0, hold_behind input places seen slot how hold.1 one)

-- ---- one more place

holds_more : (heap : Heap) (places : List ℕ) (p : ℕ) (value : Option Value) (seen : Seen) → (seen ≡ seens.Beyond → ⊥) → HoldsSeen heap places value seen → HoldsSeen heap (places ++ p ∷ []) value seen
holds_more heap places p value (seens.Int number) inside h = h
holds_more heap places p value seens.Null inside h = h
holds_more heap places p value (seens.Loc number) inside h = h
holds_more heap places p value (seens.Obj number) inside h = (h.0, get_kept places p number h.0 h.1, h.2)
holds_more heap places p value seens.Beyond inside h = absurd (inside refl)

hold_more : (world : World) (params : ℕ) (picture : Picture) (input : Input) (places : List ℕ) (p : ℕ) (seen : List (Origin × Seen)) → length places ≡ length picture.objects
    → ((n : ℕ) (x : Origin × Seen) → slice_get seen n ≡ Some x → IsSlot world params picture.objects x.0 × IsSeenAs picture x.1)
    → ((n : ℕ) (x : Origin × Seen) → slice_get seen n ≡ Some x → x.1 ≡ seens.Beyond → ⊥)
    → HoldEach input places seen → HoldEach input (places ++ p ∷ []) seen
hold_more world params picture input places p [] len each inside hold = tt
hold_more world params picture input places p (x ∷ seen) len each inside hold = (
  subst (λ (v : Option Value). HoldsSeen input.heap (places ++ p ∷ []) v x.1)
      (sym (slot_same world params picture.objects input places (p ∷ []) x.0 len (each 0 x refl).0))
      (holds_more input.heap places p (slot_value input places x.0) x.1 (inside 0 x refl) hold.0),
  hold_more world params picture input places p seen len (λ n y at. each (suc n) y at) (λ n y at. inside (suc n) y at) hold.1,
)

apart_more : (places : List ℕ) (p : ℕ) → AreApart places → IsNoPlace places p → AreApart (places ++ p ∷ [])
apart_more places p apart elsewhere one other place a b = go (get_pushed places p one place a) (get_pushed places p other place b)
  where
    alone : (n : ℕ) → slice_get places n ≡ Some place → p ≡ place → ⊥
    alone n at same = at_no_place places p n elsewhere (at ∙ ap (λ (q : ℕ). Some q) (sym same))

    go : (slice_get places one ≡ Some place) ⊎ ((one ≡ length places) × (p ≡ place)) → (slice_get places other ≡ Some place) ⊎ ((other ≡ length places) × (p ≡ place)) → one ≡ other
    go (inl x) (inl y) = apart one other place x y
    go (inl x) (inr y) = absurd (alone one x y.1)
    go (inr x) (inl y) = absurd (alone other y x.1)
    go (inr x) (inr y) = x.0 ∙ sym y.0

stands_more : (places : List ℕ) (p : ℕ) (standing : Standing) (place : ℕ) → (standing ≡ standings.Beyond → ⊥) → Stands places standing place → Stands (places ++ p ∷ []) standing place
stands_more places p standings.Open place inside s = tt
stands_more places p (standings.Obj number) place inside s = get_kept places p number place s
stands_more places p standings.Beyond place inside s = absurd (inside refl)

-- ---- choices

-- the slot holds an object that is none of the picture's, of that exact type and length
pub record HoldsNew (input : Input) (places : List ℕ) (slot : Origin) (kind : ExactType) (len : Length) : Type 0 where
  pub place : ℕ
  pub value : slot_value input places slot ≡ Some (Ref place)
  pub no_place : IsNoPlace places place
  pub such : IsSuch input.heap (record { kind = kind; length = len; origin = slot }) place

-- the picture with the new object has its shape too
module _ (world : World) (params : ℕ) (picture : Picture) (slot : Origin) (input : Input) (formed : IsPicture world params picture) (shape : HasShape picture input) where
  many_placed : length shape.places.objects ≡ length picture.objects
  many_placed = as_many picture input shape.places shape.placed

  pub last_place : (place : ℕ) → slice_get (shape.places.objects ++ place ∷ []) (length picture.objects) ≡ Some place
  last_place place = ap (slice_get (shape.places.objects ++ place ∷ [])) (sym many_placed) ∙ get_last shape.places.objects place

  pub object_forth : (kind : ExactType) (len : Length) → ((of : Origin) → IsBeyond picture of → ⊥) → HoldsNew input shape.places.objects slot kind len → HasShape (with_fresh picture slot kind len) input
  unfolding place_of
  object_forth kind len inside new = record {
    places = record { objects = shape.places.objects ++ new.place ∷ []; locs = shape.places.locs };
    placed = places_object picture input shape.places object shape.placed ∙ ap (option_map (object_placed_behind shape.places)) place_is;
    seen = hold_more world params picture input shape.places.objects new.place picture.seen many_placed (seen_there world params picture formed)
        (λ n x at e. inside x.0 (inl (n, at ∙ ap (λ (s : Seen). Some (x.0, s)) e))) shape.seen;
    apart = apart_more shape.places.objects new.place shape.apart new.no_place;
    such = λ number place expected there at. such number place expected (get_pushed picture.objects object number expected there) at;
    stands = λ number place loc there at. stands_more shape.places.objects new.place loc.standing place
        (λ e. inside loc.origin (inr (number, there ∙ ap (λ (s : Standing). Some (record { origin = loc.origin; standing = s })) e)))
        (shape.stands number place loc there at);
  }
    where
      object : PicObject
      object = record { kind = kind; length = len; origin = slot }

      place_is : place_of input shape.places.objects slot ≡ Some new.place
      place_is = (named_exactly input.heap (slot_value input shape.places.objects slot) new.place).1 (new.value, slice_get_within input.heap.objects new.place new.such.object new.such.object_is)

      such : (number place : ℕ) (expected : PicObject) → (slice_get picture.objects number ≡ Some expected) ⊎ ((number ≡ length picture.objects) × (object ≡ expected))
          → slice_get (shape.places.objects ++ new.place ∷ []) number ≡ Some place → IsSuch input.heap expected place
      such number place expected (inl h) at =
          let within : number < length picture.objects = slice_get_within picture.objects number expected h in
          shape.such number place expected h (sym (slice_get-append-left shape.places.objects (new.place ∷ []) number (omega (arith, within, many_placed))) ∙ at)
      such number place expected (inr h) at =
          let same : Some new.place ≡ Some place = sym (last_place new.place) ∙ (ap (slice_get (shape.places.objects ++ new.place ∷ [])) (sym h.0) ∙ at) in
          subst (λ (p : ℕ). IsSuch input.heap expected p) (same_Some new.place place same) (subst (λ (o : PicObject). IsSuch input.heap o new.place) h.1 new.such)

  -- at these places
  pub object_places : (kind : ExactType) (len : Length) (inside : (of : Origin) → IsBeyond picture of → ⊥) (new : HoldsNew input shape.places.objects slot kind len)
      → (object_forth kind len inside new).places ≡ record { objects = shape.places.objects ++ new.place ∷ []; locs = shape.places.locs }
  unfolding object_forth
  object_places kind len inside new = refl

module _ (world : World) (params : ℕ) (picture : Picture) (slot : Origin) (input : Input) (unread : IsUnread world params picture slot) (shape : HasShape picture input) where
  abbrev held : Option Value
  held = slot_value input shape.places.objects slot

  -- a slot that is seen as nothing new
  pub seen_back : (how : Seen) → HasShape (with_seen picture (slot, how)) input → HoldsSeen input.heap shape.places.objects held how
  seen_back how after =
      let same : after.places ≡ shape.places = seen_places picture (slot, how) input shape after in
      subst (λ (places : PlaceLists). HoldsSeen input.heap places.objects (slot_value input places.objects slot) how) same (hold_last input after.places.objects picture.seen slot how after.seen)

  pub seen_forth : (how : Seen) → HoldsSeen input.heap shape.places.objects held how → HasShape (with_seen picture (slot, how)) input
  seen_forth how holds = record {
    places = shape.places;
    placed = places_seen picture input (slot, how) ∙ shape.placed;
    seen = hold_behind input shape.places.objects picture.seen slot how shape.seen holds;
    apart = shape.apart;
    such = shape.such;
    stands = shape.stands;
  }

  many : length shape.places.objects ≡ length picture.objects
  many = as_many picture input shape.places shape.placed

  -- a new object
  pub fresh_back : (kind : ExactType) (len : Length) → HasShape (after_read picture slot (choices.Fresh kind len)) input → HoldsNew input shape.places.objects slot kind len
  unfolding after_read
  fresh_back kind len after =
      let last = hold_last input after.places.objects picture.seen slot (seens.Obj (length picture.objects)) after.seen in
      let kept : take (length picture.objects) after.places.objects ≡ shape.places.objects =
      (choice_places world params picture slot (choices.Fresh kind len) input unread shape after).objects in
      let whole : after.places.objects ≡ shape.places.objects ++ drop (length picture.objects) after.places.objects =
      sym (take-append-drop (length picture.objects) after.places.objects) ∙ ap (λ (ps : List ℕ). ps ++ drop (length picture.objects) after.places.objects) kept in
      let same : slot_value input after.places.objects slot ≡ held =
      ap (λ (ps : List ℕ). slot_value input ps slot) whole
      ∙ slot_same world params picture.objects input shape.places.objects (drop (length picture.objects) after.places.objects) slot many unread.there in
      record {
        place = last.0;
        value = sym same ∙ last.2;
        no_place = new_place world params picture slot kind len input last.0 unread shape after last.1;
        such = after.such (length picture.objects) last.0 (record { kind = kind; length = len; origin = slot })
            (get_last picture.objects (record { kind = kind; length = len; origin = slot })) last.1;
      }

  pub fresh_forth : (kind : ExactType) (len : Length) → ((of : Origin) → IsBeyond picture of → ⊥) → HoldsNew input shape.places.objects slot kind len → HasShape (after_read picture slot (choices.Fresh kind len)) input
  unfolding after_read object_forth
  fresh_forth kind len inside new =
      let base : HasShape (with_fresh picture slot kind len) input = object_forth world params picture slot input unread.formed shape kind len inside new in
      record {
        places = base.places;
        placed = places_seen (with_fresh picture slot kind len) input (slot, seens.Obj (length picture.objects)) ∙ base.placed;
        seen = hold_behind input base.places.objects picture.seen slot (seens.Obj (length picture.objects)) base.seen
            (new.place, last_place world params picture slot input unread.formed shape new.place, slot_same world params picture.objects input shape.places.objects (new.place ∷ []) slot many unread.there ∙ new.value);
        apart = base.apart;
        such = base.such;
        stands = base.stands;
      }

  -- a location
  pub location_forth : (place : ℕ) → held ≡ Some (Ref place) → place < length input.heap.objects → HasShape (after_read picture slot choices.Location) input
  unfolding after_read place_of
  location_forth place value inside = record {
    places = record { objects = shape.places.objects; locs = shape.places.locs ++ place ∷ [] };
    placed = places_seen (with_open_loc picture slot) input (slot, how) ∙ (places_loc picture input shape.places loc shape.placed ∙ ap (option_map (loc_placed_behind shape.places)) place_is);
    seen = hold_behind input shape.places.objects picture.seen slot how shape.seen (place, value, inside);
    apart = shape.apart;
    such = shape.such;
    stands = λ number p l there at. stands number p l (get_pushed picture.locs loc number l there) at;
  }
    where
      how : Seen
      how = seens.Loc (length picture.locs)

      loc : PicLoc
      loc = record { origin = slot; standing = standings.Open }

      place_is : place_of input shape.places.objects slot ≡ Some place
      place_is = (named_exactly input.heap held place).1 (value, inside)

      stands : (number p : ℕ) (l : PicLoc) → (slice_get picture.locs number ≡ Some l) ⊎ ((number ≡ length picture.locs) × (loc ≡ l))
          → slice_get (shape.places.locs ++ place ∷ []) number ≡ Some p → Stands shape.places.objects l.standing p
      stands number p l (inl h) at =
          let within : number < length picture.locs = slice_get_within picture.locs number l h in
          let long : length shape.places.locs ≡ length picture.locs = locs_many picture input shape.places shape.placed in
          shape.stands number p l h (sym (slice_get-append-left shape.places.locs (place ∷ []) number (omega (arith, within, long))) ∙ at)
      stands number p l (inr h) at = subst (λ (x : PicLoc). Stands shape.places.objects x.standing p) h.1 tt

  pub location_back : HasShape (after_read picture slot choices.Location) input → (place : ℕ) × (held ≡ Some (Ref place))
  unfolding after_read
  location_back after =
      let last = hold_last input after.places.objects picture.seen slot (seens.Loc (length picture.locs)) after.seen in
      let kept : take (length picture.objects) after.places.objects ≡ shape.places.objects = (choice_places world params picture slot choices.Location input unread shape after).objects in
      let long : length after.places.objects ≡ length picture.objects = as_many (with_open_loc picture slot) input after.places (sym (places_seen (with_open_loc picture slot) input (slot, seens.Loc (length picture.locs))) ∙ after.placed) in
      let same : after.places.objects ≡ shape.places.objects = sym (take_all (length picture.objects) after.places.objects (omega (arith, long))) ∙ kept in
      (last.0, ap (λ (ps : List ℕ). slot_value input ps slot) (sym same) ∙ last.1)
