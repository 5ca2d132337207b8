-- Who has the shape of a picture that grew had the shape before, with the same places.
use Rattle.std.proofs.Common.{◌≡◌, ℕ, zero, suc, ◌+◌, ◌<◌, List, [], ◌∷◌, ◌++◌, length, map, take, Option, Some, None, slice_get, refl, sym, ap, subst, ◌∙◌, arith, length-append, option_map, option_and_then}
use Rattle.std.proofs.lemmas.List.{take-append-le, take_all}
use Rattle.std.proofs.lemmas.Option.{slice_get_within, slice_get-map}
use Rattle.kb_heap.specs.declared.heap.Value.{Value}
use Rattle.kb_heap.specs.declared.heap.Heap.{Heap}
use Rattle.kb_heap.specs.declared.heap.Input.{Input}
use Rattle.kb_heap.specs.Heap.{value_at}
use Rattle.kb_classes.proofs.Places.{get_kept}
use Rattle.kb_classes.specs.World.{World}
use Rattle.kb_names.specs.declared.types.ExactType.{ExactType}
use Rattle.kb_terms.proofs.Entries.{slice_get-append-left, slice_get-take}
use Rattle.kb_picture.proofs.PlaceLaws.{ArePlaced, placed_parts, placed_behind, places_seen}
use Rattle.kb_picture.proofs.ShapeLaws.{same_places}
use Rattle.kb_picture.specs.declared.choice.Choice.{Choice}
use Rattle.kb_picture.specs.declared.choice.Choice.TheVariants as choices
use Rattle.kb_picture.specs.declared.picture.Length.{Length}
use Rattle.kb_picture.specs.declared.picture.Origin.{Origin}
use Rattle.kb_picture.specs.declared.picture.Origin.TheVariants.{Arg, Field, Element}
use Rattle.kb_picture.specs.declared.picture.PicLoc.{PicLoc}
use Rattle.kb_picture.specs.declared.picture.PicObject.{PicObject}
use Rattle.kb_picture.specs.declared.picture.Picture.{Picture}
use Rattle.kb_picture.specs.declared.picture.PlaceLists.{PlaceLists}
use Rattle.kb_picture.specs.declared.picture.Seen.{Seen}
use Rattle.kb_picture.specs.declared.picture.Seen.TheVariants as seens
use Rattle.kb_picture.specs.declared.picture.Standing.{Standing}
use Rattle.kb_picture.specs.declared.picture.Standing.TheVariants as standings
use Rattle.kb_picture.specs.Growing.{IsUnread, PlacesKept}
use Rattle.kb_picture.specs.Growth.{after_read, after_int_read, with_open_loc, with_fresh}
use Rattle.kb_picture.specs.Laws.{with_seen}
use Rattle.kb_picture.specs.Places.{value_in, slot_value, object_named, place_of, objects_placed, locs_placed, with_locs_placed, places_of}
use Rattle.kb_picture.specs.Shapes.{HasShape, HoldEach, HoldsSeen, IsNoPlace, AreApart, Stands}
use Rattle.kb_picture.specs.WellFormed.{IsPicture, IsSlot, IsSeenAs, IsStanding, variables_seen}

-- ---- lists of places

pub no_place_front : (places more : List ℕ) (place : ℕ) → IsNoPlace (places ++ more) place → IsNoPlace places place
no_place_front [] more place elsewhere = tt
no_place_front (first ∷ places) more place elsewhere = (elsewhere.0, no_place_front places more place elsewhere.1)

-- what stands at no number is no place
pub no_place : (places : List ℕ) (place : ℕ) → ((n : ℕ) → slice_get places n ≡ Some place → ⊥) → IsNoPlace places place
no_place [] place none = tt
no_place (first ∷ places) place none =
    ((λ same. none zero (ap (λ (p : ℕ). Some p) (sym same))), no_place places place (λ n at. none (suc n) at))

-- and no place stands at no number
pub at_no_place : (places : List ℕ) (place n : ℕ) → IsNoPlace places place → slice_get places n ≡ Some place → ⊥
at_no_place [] place n elsewhere at = absurd cc
at_no_place (first ∷ places) place zero elsewhere at = elsewhere.0 (let same : place ≡ first = cc in same)
at_no_place (first ∷ places) place (suc n) elsewhere at = at_no_place places place n elsewhere.1 at

-- as many places as objects
placed_length : (input : Input) (places : List ℕ) (objects : List PicObject) (found : List ℕ) → objects_placed input places objects ≡ Some found
    → length found ≡ length places + length objects
placed_length input places [] found e =
    let same : places ≡ found = cc in
    omega (arith, ap length same)
placed_length input places (object ∷ objects) found e = go (λ (p : ℕ). placed_length input (places ++ p ∷ []) objects found) (place_of input places object.origin) e
  where
    go : ((p : ℕ) → objects_placed input (places ++ p ∷ []) objects ≡ Some found → length found ≡ length (places ++ p ∷ []) + length objects)
        → (place : Option ℕ) → option_and_then (λ (p : ℕ). objects_placed input (places ++ p ∷ []) objects) place ≡ Some found
        → length found ≡ length places + suc (length objects)
    go later None at = absurd cc
    go later (Some p) at = omega (arith, later p at, length-append places (p ∷ []))

pub as_many : (picture : Picture) (input : Input) (places : PlaceLists) → places_of picture input ≡ Some places → length places.objects ≡ length picture.objects
as_many picture input places e =
    let len : length places.objects ≡ 0 + length picture.objects = placed_length input [] picture.objects places.objects (placed_parts picture input places e).objects in
    omega (arith, len)

-- ---- more places change nothing of the slots that are there

value_same : (heap : Heap) (places more : List ℕ) (object slot : ℕ) → object < length places → value_in heap (places ++ more) object slot ≡ value_in heap places object slot
value_same heap places more object slot inside = ap (option_and_then (λ (place : ℕ). value_at heap place slot)) (slice_get-append-left places more object inside)

pub slot_same : (world : World) (params : ℕ) (objects : List PicObject) (input : Input) (places more : List ℕ) (slot : Origin) → length places ≡ length objects
    → IsSlot world params objects slot → slot_value input (places ++ more) slot ≡ slot_value input places slot
slot_same world params objects input places more (Arg number) len there = refl
slot_same world params objects input places more (Field object slot) len there =
    value_same input.heap places more object slot (omega (arith, len, slice_get_within objects object there.0 there.1))
slot_same world params objects input places more (Element array index) len there =
    value_same input.heap places more array index (omega (arith, len, slice_get_within objects array there.0 there.1))

place_same : (world : World) (params : ℕ) (objects : List PicObject) (input : Input) (places more : List ℕ) (slot : Origin) → length places ≡ length objects
    → IsSlot world params objects slot → place_of input (places ++ more) slot ≡ place_of input places slot
unfolding place_of
place_same world params objects input places more slot len there = ap (object_named input.heap) (slot_same world params objects input places more slot len there)

locs_same : (world : World) (params : ℕ) (objects : List PicObject) (input : Input) (places more : List ℕ) (locs : List PicLoc) → length places ≡ length objects
    → ((n : ℕ) (loc : PicLoc) → slice_get locs n ≡ Some loc → IsSlot world params objects loc.origin)
    → locs_placed input (places ++ more) locs ≡ locs_placed input places locs
locs_same world params objects input places more [] len there = refl
locs_same world params objects input places more (loc ∷ locs) len there =
    ap (option_and_then (λ (p : ℕ). option_map (λ (m : List ℕ). p ∷ m) (locs_placed input (places ++ more) locs)))
    (place_same world params objects input places more loc.origin len (there zero loc refl))
    ∙ ap (λ (ls : Option (List ℕ)). option_and_then (λ (p : ℕ). option_map (λ (m : List ℕ). p ∷ m) ls) (place_of input places loc.origin))
    (locs_same world params objects input places more locs len (λ n l at. there (suc n) l at))

-- ---- what is seen

pub hold_front : (input : Input) (places : List ℕ) (seen more : List (Origin × Seen)) → HoldEach input places (seen ++ more) → HoldEach input places seen
hold_front input places [] more hold = tt
hold_front input places (slot ∷ seen) more hold = (hold.0, hold_front input places seen more hold.1)

holds_fewer : (picture : Picture) (heap : Heap) (places more : List ℕ) (value : Option Value) (seen : Seen) → length places ≡ length picture.objects
    → IsSeenAs picture seen → HoldsSeen heap (places ++ more) value seen → HoldsSeen heap places value seen
holds_fewer picture heap places more value (seens.Int number) len seen_ok holds = holds
holds_fewer picture heap places more value seens.Null len seen_ok holds = holds
holds_fewer picture heap places more value (seens.Loc number) len seen_ok holds = holds
holds_fewer picture heap places more value (seens.Obj number) len seen_ok holds =
    (holds.0, sym (slice_get-append-left places more number (omega (arith, len, seen_ok))) ∙ holds.1, holds.2)
holds_fewer picture heap places more value seens.Beyond len seen_ok holds = (holds.0, holds.1, holds.2, no_place_front places more holds.0 holds.3)

hold_fewer : (world : World) (params : ℕ) (picture : Picture) (input : Input) (places more : List ℕ) (seen : List (Origin × Seen)) → length places ≡ length picture.objects
    → ((n : ℕ) (x : Origin × Seen) → slice_get seen n ≡ Some x → IsSlot world params picture.objects x.0 × IsSeenAs picture x.1)
    → HoldEach input (places ++ more) seen → HoldEach input places seen
hold_fewer world params picture input places more [] len each hold = tt
hold_fewer world params picture input places more (x ∷ seen) len each hold =
    let at = each zero x refl in (
      holds_fewer picture input.heap places more (slot_value input places x.0) x.1 len at.1
          (subst (λ (v : Option Value). HoldsSeen input.heap (places ++ more) v x.1) (slot_same world params picture.objects input places more x.0 len at.0) hold.0),
      hold_fewer world params picture input places more seen len (λ n y there. each (suc n) y there) hold.1,
    )

apart_front : (places : List ℕ) (p : ℕ) → AreApart (places ++ p ∷ []) → AreApart places
apart_front places p apart one other place a b = apart one other place (get_kept places p one place a) (get_kept places p other place b)

stands_fewer : (picture : Picture) (places more : List ℕ) (standing : Standing) (place : ℕ) → length places ≡ length picture.objects
    → IsStanding picture standing → Stands (places ++ more) standing place → Stands places standing place
stands_fewer picture places more standings.Open place len is stands = tt
stands_fewer picture places more (standings.Obj number) place len is stands = sym (slice_get-append-left places more number (omega (arith, len, is))) ∙ stands
stands_fewer picture places more standings.Beyond place len is stands = no_place_front places more place stands

-- ---- the shape before

pub record ShapeBefore (old : Picture) (input : Input) (after : PlaceLists) : Type 0 where
  pub shape : HasShape old input
  pub kept : PlacesKept old shape.places after

locs_length : (input : Input) (objects : List ℕ) (locs : List PicLoc) (found : List ℕ) → locs_placed input objects locs ≡ Some found → length found ≡ length locs
locs_length input objects [] found e =
    let same : [] ≡ found = cc in
    sym (ap length same)
locs_length input objects (loc ∷ locs) found e =
    go (λ (ls : List ℕ) (after : locs_placed input objects locs ≡ Some ls). locs_length input objects locs ls after) (place_of input objects loc.origin) (locs_placed input objects locs) refl e
  where
    go : ((ls : List ℕ) → locs_placed input objects locs ≡ Some ls → length ls ≡ length locs) → (place : Option ℕ) (later : Option (List ℕ)) → locs_placed input objects locs ≡ later
        → option_and_then (λ (p : ℕ). option_map (λ (m : List ℕ). p ∷ m) later) place ≡ Some found → length found ≡ suc (length locs)
    go again None later after at = absurd cc
    go again (Some p) None after at = absurd cc
    go again (Some p) (Some ls) after at =
        let same : p ∷ ls ≡ found = cc in
        sym (ap length same) ∙ ap suc (again ls after)

pub locs_many : (picture : Picture) (input : Input) (places : PlaceLists) → places_of picture input ≡ Some places → length places.locs ≡ length picture.locs
locs_many picture input places e = locs_length input places.objects picture.locs places.locs (placed_parts picture input places e).locs

pub kept_same : (old : Picture) (input : Input) (places : PlaceLists) → places_of old input ≡ Some places → PlacesKept old places places
kept_same old input places e = record {
  objects = take_all (length old.objects) places.objects (omega (arith, as_many old input places e));
  locs = take_all (length old.locs) places.locs (omega (arith, locs_length input places.objects old.locs places.locs (placed_parts old input places e).locs));
}

-- one more slot that is seen
pub before_seen : (old : Picture) (x : Origin × Seen) (input : Input) (after : HasShape (with_seen old x) input) → ShapeBefore old input after.places
before_seen old x input after =
    let placed : places_of old input ≡ Some after.places = sym (places_seen old input x) ∙ after.placed in
    record {
      shape = record {
        places = after.places;
        placed = placed;
        seen = hold_front input after.places.objects old.seen (x ∷ []) after.seen;
        apart = after.apart;
        such = after.such;
        stands = after.stands;
      };
      kept = kept_same old input after.places placed;
    }

-- it changes no place
pub seen_places : (old : Picture) (x : Origin × Seen) (input : Input) (before : HasShape old input) (after : HasShape (with_seen old x) input) → after.places ≡ before.places
unfolding before_seen
seen_places old x input before after = same_places old input before.places before.placed (before_seen old x input after).shape

-- the same shape before and after
pub before_same : (old : Picture) (input : Input) (after : HasShape old input) → ShapeBefore old input after.places
before_same old input after = record { shape = after; kept = kept_same old input after.places after.placed }

-- one more object, which is placed behind the others
record ObjectPlaced (old : Picture) (object : PicObject) (input : Input) (after : PlaceLists) : Type 0 where
  before : List ℕ
  place : ℕ
  objects : objects_placed input [] old.objects ≡ Some before
  after_is : before ++ place ∷ [] ≡ after.objects
  locs : locs_placed input (before ++ place ∷ []) old.locs ≡ Some after.locs

object_placed : (old : Picture) (object : PicObject) (input : Input) (after : PlaceLists)
    → ArePlaced (record { seen = old.seen; locs = old.locs; objects = old.objects ++ object ∷ [] }) input after → ObjectPlaced old object input after
object_placed old object input after parts =
    go (objects_placed input [] old.objects) refl (sym (placed_behind input [] old.objects (object ∷ [])) ∙ parts.objects)
  where
    go : (found : Option (List ℕ)) → objects_placed input [] old.objects ≡ found
        → option_and_then (λ (b : List ℕ). objects_placed input b (object ∷ [])) found ≡ Some after.objects → ObjectPlaced old object input after
    go None at e = absurd cc
    go (Some before) at e = last (place_of input before object.origin) e
      where
        last : (place : Option ℕ) → option_and_then (λ (p : ℕ). Some (before ++ p ∷ [])) place ≡ Some after.objects → ObjectPlaced old object input after
        last None f = absurd cc
        last (Some p) f =
            let same : before ++ p ∷ [] ≡ after.objects = cc in
            record {
              before = before;
              place = p;
              objects = at;
              after_is = same;
              locs = ap (λ (os : List ℕ). locs_placed input os old.locs) same ∙ parts.locs;
            }

pub placed_from : (picture : Picture) (input : Input) (objects locs : List ℕ) → objects_placed input [] picture.objects ≡ Some objects → locs_placed input objects picture.locs ≡ Some locs
    → places_of picture input ≡ Some (record { objects = objects; locs = locs })
unfolding places_of
placed_from picture input objects locs a b =
    ap (option_and_then (with_locs_placed input picture.locs)) a ∙ ap (option_map (λ (ls : List ℕ). record { objects = objects; locs = ls })) b

-- the locations before the last one are placed before its place
record LocsSplit (input : Input) (objects : List ℕ) (locs : List PicLoc) (found : List ℕ) : Type 0 where
  before : List ℕ
  place : ℕ
  placed : locs_placed input objects locs ≡ Some before
  after_is : before ++ place ∷ [] ≡ found

locs_split : (input : Input) (objects : List ℕ) (locs : List PicLoc) (loc : PicLoc) (found : List ℕ) → locs_placed input objects (locs ++ loc ∷ []) ≡ Some found
    → LocsSplit input objects locs found
locs_split input objects [] loc found e = go (place_of input objects loc.origin) e
  where
    go : (place : Option ℕ) → option_and_then (λ (p : ℕ). Some (p ∷ [])) place ≡ Some found → LocsSplit input objects [] found
    go None at = absurd cc
    go (Some p) at = record { before = []; place = p; placed = refl; after_is = cc }
locs_split input objects (first ∷ locs) loc found e =
    go (λ (ls : List ℕ) (after : locs_placed input objects (locs ++ loc ∷ []) ≡ Some ls). locs_split input objects locs loc ls after)
    (place_of input objects first.origin) refl (locs_placed input objects (locs ++ loc ∷ [])) refl e
  where
    go : ((ls : List ℕ) → locs_placed input objects (locs ++ loc ∷ []) ≡ Some ls → LocsSplit input objects locs ls)
        → (place : Option ℕ) → place_of input objects first.origin ≡ place → (later : Option (List ℕ)) → locs_placed input objects (locs ++ loc ∷ []) ≡ later
        → option_and_then (λ (p : ℕ). option_map (λ (m : List ℕ). p ∷ m) later) place ≡ Some found → LocsSplit input objects (first ∷ locs) found
    go again None at later after e = absurd cc
    go again (Some p) at None after e = absurd cc
    go again (Some p) at (Some ls) after e =
        let split = again ls after in
        let whole : p ∷ ls ≡ found = cc in
        record {
          before = p ∷ split.before;
          place = split.place;
          placed = ap (option_and_then (λ (q : ℕ). option_map (λ (m : List ℕ). q ∷ m) (locs_placed input objects locs))) at ∙ ap (option_map (λ (m : List ℕ). p ∷ m)) split.placed;
          after_is = ap (λ (m : List ℕ). p ∷ m) split.after_is ∙ whole;
        }

-- what a picture sees is there, and was found in slots that are there
module _ (world : World) (params : ℕ) (old : Picture) (formed : IsPicture world params old) where
  pub seen_there : (n : ℕ) (x : Origin × Seen) → slice_get old.seen n ≡ Some x → IsSlot world params old.objects x.0 × IsSeenAs old x.1
  seen_there n x at = (formed.slots n x.0 (seen_slot old.seen n x at), formed.seen n x at)
    where
      seen_slot : (seen : List (Origin × Seen)) (i : ℕ) (y : Origin × Seen) → slice_get seen i ≡ Some y → slice_get (map (λ (s : Origin × Seen). s.0) seen) i ≡ Some y.0
      seen_slot seen i y there = slice_get-map (λ (s : Origin × Seen). s.0) seen i ∙ ap (option_map (λ (s : Origin × Seen). s.0)) there

  pub loc_there : (n : ℕ) (loc : PicLoc) → slice_get old.locs n ≡ Some loc → IsSlot world params old.objects loc.origin
  loc_there n loc at =
      let read = (formed.locs n loc at).0 in
      (seen_there read.0 (loc.origin, seens.Loc n) read.1).0

  -- one more object
  pub before_object : (slot : Origin) (input : Input) (kind : ExactType) (len : Length) (after : HasShape (with_fresh old slot kind len) input) → ShapeBefore old input after.places
  before_object slot input kind len after = from (object_placed old object input after.places (placed_parts (with_fresh old slot kind len) input after.places after.placed))
    where
      object : PicObject
      object = record { kind = kind; length = len; origin = slot }

      from : ObjectPlaced old object input after.places → ShapeBefore old input after.places
      from placed =
          let many : length placed.before ≡ 0 + length old.objects = placed_length input [] old.objects placed.before placed.objects in
          let len : length placed.before ≡ length old.objects = omega (arith, many) in
          let back : after.places.objects ≡ placed.before ++ placed.place ∷ [] = sym placed.after_is in
          let locs : locs_placed input placed.before old.locs ≡ Some after.places.locs =
          sym (locs_same world params old.objects input placed.before (placed.place ∷ []) old.locs len loc_there) ∙ placed.locs in
          let kept : PlacesKept old (record { objects = placed.before; locs = after.places.locs }) after.places = record {
            objects = rw back (take-append-le (length old.objects) placed.before (placed.place ∷ []) (omega (arith, len)) ∙ take_all (length old.objects) placed.before (omega (arith, len)));
            locs = take_all (length old.locs) after.places.locs (omega (arith, locs_length input placed.before old.locs after.places.locs locs));
          } in
          record {
            shape = record {
              places = record { objects = placed.before; locs = after.places.locs };
              placed = placed_from old input placed.before after.places.locs placed.objects locs;
              seen = hold_fewer world params old input placed.before (placed.place ∷ []) old.seen len seen_there
                  (subst (λ (os : List ℕ). HoldEach input os old.seen) back after.seen);
              apart = apart_front placed.before placed.place (subst AreApart back after.apart);
              such = λ number place expected there at. after.such number place expected (get_kept old.objects object number expected there)
                  (ap (λ (os : List ℕ). slice_get os number) back ∙ get_kept placed.before placed.place number place at);
              stands = λ number place loc there at. stands_fewer old placed.before (placed.place ∷ []) loc.standing place len (formed.locs number loc there).1
                  (subst (λ (os : List ℕ). Stands os loc.standing place) back (after.stands number place loc there at));
            };
            kept = kept;
          }

module _ (world : World) (params : ℕ) (old : Picture) (slot : Origin) (input : Input) (unread : IsUnread world params old slot) where
  pub seen_each : (n : ℕ) (x : Origin × Seen) → slice_get old.seen n ≡ Some x → IsSlot world params old.objects x.0 × IsSeenAs old x.1
  seen_each n x at = seen_there world params old unread.formed n x at

  pub before_fresh : (kind : ExactType) (len : Length) (how : Seen) (after : HasShape (with_seen (with_fresh old slot kind len) (slot, how)) input) → ShapeBefore old input after.places
  before_fresh kind len how after =
      let base : ShapeBefore new input after.places = before_seen new (slot, how) input after in
      let same : base.shape.places ≡ after.places =
      same_places new input after.places (sym (places_seen new input (slot, how)) ∙ after.placed) base.shape in
      subst (ShapeBefore old input) same (before_object world params old unread.formed slot input kind len base.shape)
    where
      new : Picture
      new = with_fresh old slot kind len

  -- one more location, which is placed behind the others
  pub before_location : (how : Seen) (after : HasShape (with_seen (with_open_loc old slot) (slot, how)) input) → ShapeBefore old input after.places
  before_location how after = from (placed_parts (with_open_loc old slot) input after.places (sym (places_seen (with_open_loc old slot) input (slot, how)) ∙ after.placed))
    where
      loc : PicLoc
      loc = record { origin = slot; standing = standings.Open }

      from : ArePlaced (with_open_loc old slot) input after.places → ShapeBefore old input after.places
      from parts =
          let split = locs_split input after.places.objects old.locs loc after.places.locs parts.locs in
          let placed : places_of old input ≡ Some (record { objects = after.places.objects; locs = split.before }) =
          placed_from old input after.places.objects split.before parts.objects split.placed in
          let as_long : length split.before ≡ length old.locs = locs_length input after.places.objects old.locs split.before split.placed in
          record {
            shape = record {
              places = record { objects = after.places.objects; locs = split.before };
              placed = placed;
              seen = hold_front input after.places.objects old.seen ((slot, how) ∷ []) after.seen;
              apart = after.apart;
              such = after.such;
              stands = λ number place l there at. after.stands number place l (get_kept old.locs loc number l there)
                  (ap (λ (ls : List ℕ). slice_get ls number) (sym split.after_is) ∙ get_kept split.before split.place number place at);
            };
            kept = record {
              objects = take_all (length old.objects) after.places.objects (omega (arith, as_many old input (record { objects = after.places.objects; locs = split.before }) placed));
              locs = ap (take (length old.locs)) (sym split.after_is)
                  ∙ (take-append-le (length old.locs) split.before (split.place ∷ []) (omega (arith, as_long)) ∙ take_all (length old.locs) split.before (omega (arith, as_long)));
            };
          }

  pub before_choice : (choice : Choice) (after : HasShape (after_read old slot choice) input) → ShapeBefore old input after.places
  unfolding after_read
  before_choice choices.Null after = before_seen old (slot, seens.Null) input after
  before_choice choices.Location after = before_location (seens.Loc (length old.locs)) after
  before_choice (choices.Alias number) after = before_seen old (slot, seens.Obj number) input after
  before_choice (choices.Fresh kind len) after = before_fresh kind len (seens.Obj (length old.objects)) after
  before_choice choices.Beyond after = before_seen old (slot, seens.Beyond) input after
  before_choice _ after = before_same old input after

-- ---- the laws

pub choice_shape : (world : World) (params : ℕ) (picture : Picture) (slot : Origin) (choice : Choice) (input : Input) → IsUnread world params picture slot
    → HasShape (after_read picture slot choice) input → HasShape picture input
choice_shape world params picture slot choice input unread after = (before_choice world params picture slot input unread choice after).shape

pub choice_places : (world : World) (params : ℕ) (picture : Picture) (slot : Origin) (choice : Choice) (input : Input) → IsUnread world params picture slot
    → (before : HasShape picture input) (after : HasShape (after_read picture slot choice) input) → PlacesKept picture before.places after.places
choice_places world params picture slot choice input unread before after =
    let found = before_choice world params picture slot input unread choice after in
    subst (λ (places : PlaceLists). PlacesKept picture places after.places) (same_places picture input before.places before.placed found.shape) found.kept

-- the place of a new object is none of the earlier ones
pub new_elsewhere : (picture : Picture) (input : Input) (after : PlaceLists) (place : ℕ) → AreApart after.objects → (before : HasShape picture input) → PlacesKept picture before.places after
    → slice_get after.objects (length picture.objects) ≡ Some place → IsNoPlace before.places.objects place
new_elsewhere picture input after place two before kept at =
    no_place before.places.objects place (λ n there. apart n there)
  where
    apart : (n : ℕ) → slice_get before.places.objects n ≡ Some place → ⊥
    apart n there =
        let within : n < length before.places.objects = slice_get_within before.places.objects n place there in
        let many : length before.places.objects ≡ length picture.objects = as_many picture input before.places before.placed in
        let front : slice_get (take (length picture.objects) after.objects) n ≡ Some place = ap (λ (ps : List ℕ). slice_get ps n) kept.objects ∙ there in
        let same : n ≡ length picture.objects = two n (length picture.objects) place (sym (slice_get-take (length picture.objects) after.objects n (omega (arith, within, many))) ∙ front) at in
        absurd (omega (arith, within, many, same))

pub new_place : (world : World) (params : ℕ) (picture : Picture) (slot : Origin) (kind : ExactType) (len : Length) (input : Input) (place : ℕ) → IsUnread world params picture slot
    → (before : HasShape picture input) (after : HasShape (after_read picture slot (choices.Fresh kind len)) input) → slice_get after.places.objects (length picture.objects) ≡ Some place
    → IsNoPlace before.places.objects place
new_place world params picture slot kind len input place unread before after at =
    new_elsewhere picture input after.places place after.apart before (choice_places world params picture slot (choices.Fresh kind len) input unread before after) at

pub int_shape : (picture : Picture) (slot : Origin) (input : Input) → HasShape (after_int_read picture slot) input → HasShape picture input
unfolding after_int_read
int_shape picture slot input after = (before_seen picture (slot, seens.Int (length (variables_seen picture))) input after).shape

pub int_places : (picture : Picture) (slot : Origin) (input : Input) → (before : HasShape picture input) (after : HasShape (after_int_read picture slot) input) → after.places ≡ before.places
unfolding after_int_read
int_places picture slot input before after = seen_places picture (slot, seens.Int (length (variables_seen picture))) input before after
