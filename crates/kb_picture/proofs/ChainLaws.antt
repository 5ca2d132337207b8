-- The objects of a picture lie at the ends of chains: an object of depth d is the last one of d different objects of the input,
-- of which an argument holds the first and each the next.
use Rattle.std.proofs.Common.{◌≡◌, ◌≢◌, inl, inr, ℕ, zero, suc, ◌+◌, ◌<◌, List, [], ◌∷◌, ◌++◌, length, fold, Option, Some, None, slice_get, slice_index_or, refl, sym, ap, subst, ◌∙◌, option_and_then, option_map, arith, length-append}
use Rattle.std.proofs.lemmas.Option.{get_or_from_slice_get}
use Rattle.kb_names.specs.declared.types.JType.{JType}
use Rattle.kb_names.specs.declared.types.ExactType.{ExactType}
use Rattle.kb_names.specs.declared.types.ExactType.TheVariants as exact
use Rattle.kb_class.proofs.Lists.{get_inside}
use Rattle.kb_heap.specs.declared.heap.Value.TheVariants.{Ref}
use Rattle.kb_heap.specs.declared.heap.Object.{Object}
use Rattle.kb_heap.specs.declared.heap.Heap.{Heap}
use Rattle.kb_heap.specs.declared.heap.Input.{Input}
use Rattle.kb_heap.specs.Heap.{object_at, value_at}
use Rattle.kb_classes.proofs.Places.{get_kept, get_pushed}
use Rattle.kb_semantics.specs.Past.{Holds, AreLinked, BeginsAtArgument, IsPastK, IsPastArray}
use Rattle.kb_picture.specs.declared.picture.Origin.{Origin}
use Rattle.kb_picture.specs.declared.picture.Origin.TheVariants.{Arg, Field, Element}
use Rattle.kb_picture.specs.declared.picture.Seen.{Seen}
use Rattle.kb_picture.specs.declared.picture.Seen.TheVariants as seens
use Rattle.kb_picture.specs.declared.picture.Standing.TheVariants as standings
use Rattle.kb_picture.specs.declared.picture.Length.{Length}
use Rattle.kb_picture.specs.declared.picture.Length.TheVariants.{Above}
use Rattle.kb_picture.specs.declared.picture.PicLoc.{PicLoc}
use Rattle.kb_picture.specs.declared.picture.PicObject.{PicObject}
use Rattle.kb_picture.specs.declared.picture.Picture.{Picture}
use Rattle.kb_picture.specs.Depths.{depth_in, depths_of, depth_at, IsBeyond, IsBeyondK}
use Rattle.kb_picture.specs.Laws.{IsChainTo}
use Rattle.kb_picture.specs.Places.{value_in, slot_value, place_of, objects_placed, locs_placed}
use Rattle.kb_picture.specs.Shapes.{IsNoPlace, HoldsSeen, HoldEach, HasLength, AreApart, HasShape}
use Rattle.kb_picture.specs.WellFormed.{IsLengthOf}
use Rattle.kb_picture.proofs.PlaceLaws.{placed_parts}
use Rattle.kb_picture.proofs.ShapeLaws.{place_inside, objects_inside}
use Rattle.kb_picture.proofs.TableLaws.{AreBelow, no_place_at}

-- ---- chains that grow

linked_more : (heap : Heap) (from : ℕ) (xs : List ℕ) (a b : ℕ) → AreLinked heap from (xs ++ a ∷ []) → Holds heap a b → AreLinked heap from ((xs ++ a ∷ []) ++ b ∷ [])
linked_more heap from [] a b linked holds = (linked.0, (holds, tt))
linked_more heap from (x ∷ xs) a b linked holds = (linked.0, linked_more heap x xs a b linked.1 holds)

begins_more : (input : Input) (xs : List ℕ) (a b : ℕ) → BeginsAtArgument input (xs ++ a ∷ []) → Holds input.heap a b → BeginsAtArgument input ((xs ++ a ∷ []) ++ b ∷ [])
begins_more input [] a b begins holds = (begins.0, (holds, tt))
begins_more input (x ∷ xs) a b begins holds = (begins.0, linked_more input.heap x xs a b begins.1 holds)

abbrev AreDifferent : List ℕ → Type 0
AreDifferent xs = (i j o : ℕ) → slice_get xs i ≡ Some o → slice_get xs j ≡ Some o → i ≡ j

different_more : (xs : List ℕ) (b : ℕ) → AreDifferent xs → ((i o : ℕ) → slice_get xs i ≡ Some o → b ≢ o) → AreDifferent (xs ++ b ∷ [])
different_more xs b different fresh = λ i j o here there.
    elim (get_pushed xs b i o here) [
      | inl old ↦ elim (get_pushed xs b j o there) [ inl older ↦ different i j o old older | inr last ↦ absurd (fresh i o old last.1) ]
      | inr last ↦ elim (get_pushed xs b j o there) [ inl older ↦ absurd (fresh j o older last.1) | inr also ↦ last.0 ∙ sym also.0 ]
    ]

-- ---- the chain before an object

-- A chain of the picture's objects with numbers below a bound, of which the last one holds an object: as many as its depth,
-- with it.
record Front (input : Input) (all : List ℕ) (bound depth place : ℕ) : Type 0 where
  before : List ℕ
  linked : BeginsAtArgument input (before ++ place ∷ [])
  long : suc (length before) ≡ depth
  among : (i o : ℕ) → slice_get before i ≡ Some o → (j : ℕ) × (j < bound) × (slice_get all j ≡ Some o)
  different : AreDifferent before

-- each object so far has such a chain
abbrev EachFront : Input → List ℕ → List ℕ → List ℕ → Type 0
EachFront input all places depths =
    (number place depth : ℕ) → slice_get places number ≡ Some place → slice_get depths number ≡ Some depth → Front input all number depth place

-- a front with its object
whole : (input : Input) (all : List ℕ) (number depth place : ℕ) → AreApart all → slice_get all number ≡ Some place → (front : Front input all number depth place)
    → AreDifferent (front.before ++ place ∷ []) × ((i o : ℕ) → slice_get (front.before ++ place ∷ []) i ≡ Some o → (j : ℕ) × (j < suc number) × (slice_get all j ≡ Some o))
whole input all number depth place apart at front = (
  different_more front.before place front.different (λ i o there e. (let found = front.among i o there in
      let same : number ≡ found.0 = apart number found.0 place at (found.2 ∙ ap Some (sym e)) in
      omega (arith, same, found.1))),
  λ i o there. elim (get_pushed front.before place i o there) [
    | inl old ↦ (let found = front.among i o old in (found.0, (let below : found.0 < suc number = omega (arith, found.1) in below), found.2))
    | inr last ↦ (number, (let below : number < suc number = omega arith in below), at ∙ ap Some last.1)
  ],
)

there_too : (places depths : List ℕ) (number place : ℕ) → length places ≡ length depths → slice_get places number ≡ Some place → (depth : ℕ) × (slice_get depths number ≡ Some depth)
there_too [] depths number place size at = absurd cc
there_too (p ∷ places) [] number place size at = absurd (omega (arith, size))
there_too (p ∷ places) (d ∷ depths) zero place size at = (d, refl)
there_too (p ∷ places) (d ∷ depths) (suc number) place size at = there_too places depths number place (let less : length places ≡ length depths = omega (arith, size) in less) at

-- what a slot of an object holds is held by the object's place
held_there : (heap : Heap) (places : List ℕ) (object slot place : ℕ) → value_in heap places object slot ≡ Some (Ref place)
    → (holder : ℕ) × (slice_get places object ≡ Some holder) × Holds heap holder place
held_there heap places object slot place e = go (slice_get places object) refl e
  where
    go : (found : Option ℕ) → slice_get places object ≡ found → option_and_then (λ p. value_at heap p slot) found ≡ Some (Ref place)
        → (holder : ℕ) × (slice_get places object ≡ Some holder) × Holds heap holder place
    go None at e = absurd cc
    go (Some holder) at e = (holder, at, holds (object_at heap holder) refl e)
      where
        holds : (of : Option Object) → object_at heap holder ≡ of → option_and_then (λ (o : Object). slice_get o.values slot) of ≡ Some (Ref place) → Holds heap holder place
        holds None is e = absurd cc
        holds (Some o) is e = record { object = o; object_is = is; held_there = (slot, e) }

-- the chain before an object that a slot of another one holds
inner : (input : Input) (all places depths : List ℕ) (object slot place : ℕ) → AreApart all → length places ≡ length depths
    → ((number place : ℕ) → slice_get places number ≡ Some place → slice_get all number ≡ Some place)
    → EachFront input all places depths → value_in input.heap places object slot ≡ Some (Ref place)
    → Front input all (length places) (suc (slice_index_or depths object 0)) place
inner input all places depths object slot place apart size kept each e =
    let held = held_there input.heap places object slot place e in
    let deep = there_too places depths object held.0 size held.1 in
    let front = each object held.0 deep.0 held.1 deep.1 in
    let parts = whole input all object deep.0 held.0 apart (kept object held.0 held.1) front in
    let depth : slice_index_or depths object 0 ≡ deep.0 = get_or_from_slice_get depths object deep.0 0 deep.1 in
    let many : length (front.before ++ held.0 ∷ []) ≡ length front.before + 1 = length-append front.before (held.0 ∷ []) in
    let inside : object < length places = get_inside places object held.0 held.1 in
    record {
      before = front.before ++ held.0 ∷ [];
      linked = begins_more input front.before held.0 place front.linked held.2;
      long = (let sum : suc (length (front.before ++ held.0 ∷ [])) ≡ suc (slice_index_or depths object 0) = omega (arith, many, depth, front.long) in sum);
      among = λ i o at. (let found = parts.1 i o at in (found.0, (let below : found.0 < length places = omega (arith, found.1, inside) in below), found.2));
      different = parts.0;
    }

-- the chain before an object that any slot holds
front_of : (input : Input) (all places depths : List ℕ) (slot : Origin) (place : ℕ) → AreApart all → length places ≡ length depths
    → ((number place : ℕ) → slice_get places number ≡ Some place → slice_get all number ≡ Some place)
    → EachFront input all places depths → slot_value input places slot ≡ Some (Ref place) → Front input all (length places) (depth_in depths slot) place
front_of input all places depths (Arg number) place apart size kept each e = record {
  before = [];
  linked = ((number, e), tt);
  long = refl;
  among = λ i o at. absurd cc;
  different = λ i j o at there. absurd cc;
}
front_of input all places depths (Field object slot) place apart size kept each e = inner input all places depths object slot place apart size kept each e
front_of input all places depths (Element object slot) place apart size kept each e = inner input all places depths object slot place apart size kept each e

-- ---- all objects of a picture

abbrev with_depth : List ℕ → PicObject → List ℕ
with_depth depths object = depths ++ depth_in depths object.origin ∷ []

front_pushed : (input : Input) (all places depths : List ℕ) (place depth : ℕ) → length places ≡ length depths → EachFront input all places depths
    → Front input all (length places) depth place → EachFront input all (places ++ place ∷ []) (depths ++ depth ∷ [])
front_pushed input all places depths place depth size each front = λ number p d at deep.
    elim (get_pushed places place number p at) [
      | inl old ↦ elim (get_pushed depths depth number d deep) [
        | inl older ↦ each number p d old older
        | inr last ↦ (let inside : number < length places = get_inside places number p old in absurd (omega (arith, inside, last.0, size)))
      ]
      | inr last ↦ elim (get_pushed depths depth number d deep) [
        | inl older ↦ (let inside : number < length depths = get_inside depths number d older in absurd (omega (arith, inside, last.0, size)))
        | inr also ↦
            subst (λ (n : ℕ). Front input all n d p) (sym last.0)
            (subst (λ (k : ℕ). Front input all (length places) k p) also.1 (subst (λ (q : ℕ). Front input all (length places) depth q) last.1 front))
      ]
    ]

extends : (input : Input) (before : List ℕ) (rest : List PicObject) (all : List ℕ) → objects_placed input before rest ≡ Some all
    → (i x : ℕ) → slice_get before i ≡ Some x → slice_get all i ≡ Some x
extends input before [] all e i x at = ap (λ (xs : List ℕ). slice_get xs i) (let same : all ≡ before = cc in same) ∙ at
extends input before (object ∷ rest) all e i x at =
    go (λ (p : ℕ) (placed : objects_placed input (before ++ p ∷ []) rest ≡ Some all). extends input (before ++ p ∷ []) rest all placed i x (get_kept before p i x at)) (place_of input before object.origin) e
  where
    go : ((p : ℕ) → objects_placed input (before ++ p ∷ []) rest ≡ Some all → slice_get all i ≡ Some x) → (place : Option ℕ) → option_and_then (λ (p : ℕ). objects_placed input (before ++ p ∷ []) rest) place ≡ Some all → slice_get all i ≡ Some x
    go again None e = absurd cc
    go again (Some p) e = again p e

-- as many depths as places, and a chain before each
abbrev Fronts : Input → List ℕ → List ℕ → List ℕ → Type 0
Fronts input all places depths = (length places ≡ length depths) × EachFront input all places depths

all_fronts : (input : Input) (all before depths : List ℕ) (rest : List PicObject) → AreApart all → objects_placed input before rest ≡ Some all
    → Fronts input all before depths → Fronts input all all (fold with_depth depths rest)
all_fronts input all before depths [] apart e fronts = subst (λ (xs : List ℕ). Fronts input all xs depths) (let same : before ≡ all = cc in same) fronts
all_fronts input all before depths (object ∷ rest) apart e fronts =
    go (λ (p : ℕ) (placed : objects_placed input (before ++ p ∷ []) rest ≡ Some all) (more : Fronts input all (before ++ p ∷ []) (with_depth depths object)).
    all_fronts input all (before ++ p ∷ []) (with_depth depths object) rest apart placed more)
    (place_of input before object.origin) refl e
  where
    go : ((p : ℕ) → objects_placed input (before ++ p ∷ []) rest ≡ Some all → Fronts input all (before ++ p ∷ []) (with_depth depths object)
        → Fronts input all all (fold with_depth (with_depth depths object) rest))
        → (place : Option ℕ) → place_of input before object.origin ≡ place → option_and_then (λ (p : ℕ). objects_placed input (before ++ p ∷ []) rest) place ≡ Some all
        → Fronts input all all (fold with_depth (with_depth depths object) rest)
    go again None at e = absurd cc
    go again (Some p) at e =
        let kept = (λ (i x : ℕ) (there : slice_get before i ≡ Some x). extends input (before ++ p ∷ []) rest all e i x (get_kept before p i x there)) in
        let front = front_of input all before depths object.origin p apart fronts.0 kept fronts.1 (place_inside input before object.origin p at).0 in
        let one : length (before ++ p ∷ []) ≡ length before + 1 = length-append before (p ∷ []) in
        let other : length (depths ++ depth_in depths object.origin ∷ []) ≡ length depths + 1 = length-append depths (depth_in depths object.origin ∷ []) in
        let size : length (before ++ p ∷ []) ≡ length (depths ++ depth_in depths object.origin ∷ []) = omega (arith, one, other, fronts.0) in
        again p e
        (size, front_pushed input all before depths p (depth_in depths object.origin) fronts.0 fronts.1 front)

fronts_of : (picture : Picture) (input : Input) (shape : HasShape picture input) → Fronts input shape.places.objects shape.places.objects (depths_of picture.objects)
unfolding depths_of
fronts_of picture input shape =
    all_fronts input shape.places.objects [] [] picture.objects shape.apart (placed_parts picture input shape.places shape.placed).objects (refl, λ number place depth at deep. absurd cc)

-- ---- chains

pub below_at : (n : ℕ) (places : List ℕ) (i x : ℕ) → AreBelow n places → slice_get places i ≡ Some x → x < n
below_at n [] i x below at = absurd cc
below_at n (place ∷ places) zero x below at = subst (λ (p : ℕ). p < n) (let same : place ≡ x = cc in same) below.0
below_at n (place ∷ places) (suc i) x below at = below_at n places i x below.1 at

pub all_below : (picture : Picture) (input : Input) (shape : HasShape picture input) → AreBelow (length input.heap.objects) shape.places.objects
all_below picture input shape = objects_inside input [] picture.objects shape.places.objects (placed_parts picture input shape.places shape.placed).objects tt

object_chain : (picture : Picture) (input : Input) (shape : HasShape picture input) (number place depth : ℕ) → slice_get shape.places.objects number ≡ Some place
    → slice_get (depths_of picture.objects) number ≡ Some depth → IsChainTo input depth place
object_chain picture input shape number place depth at deep =
    let front = (fronts_of picture input shape).1 number place depth at deep in
    let parts = whole input shape.places.objects number depth place shape.apart at front in
    let many : length (front.before ++ place ∷ []) ≡ length front.before + 1 = length-append front.before (place ∷ []) in
    record {
      before = front.before;
      is_chain = record {
        inside = λ i o there. (let found = parts.1 i o there in below_at (length input.heap.objects) shape.places.objects found.0 o (all_below picture input shape) found.2);
        linked = front.linked;
        different = parts.0;
      };
      long = omega (arith, many, front.long);
    }

-- a chain that ends at an object that is none of the picture's
further_chain : (picture : Picture) (input : Input) (k : ℕ) (shape : HasShape picture input) (slot : Origin) (place : ℕ) → k < depth_at picture slot
    → slot_value input shape.places.objects slot ≡ Some (Ref place) → place < length input.heap.objects → IsNoPlace shape.places.objects place → IsPastK input k
further_chain picture input k shape slot place deeper e below apart =
    let fronts = fronts_of picture input shape in
    let front = front_of input shape.places.objects shape.places.objects (depths_of picture.objects) slot place shape.apart fronts.0 (λ number p at. at) fronts.1 e in
    let many : length (front.before ++ place ∷ []) ≡ length front.before + 1 = length-append front.before (place ∷ []) in
    record {
      chain = front.before ++ place ∷ [];
      is_chain = record {
        inside = λ i o there. elim (get_pushed front.before place i o there) [
          | inl old ↦ (let found = front.among i o old in below_at (length input.heap.objects) shape.places.objects found.0 o (all_below picture input shape) found.2)
          | inr last ↦ subst (λ (p : ℕ). p < length input.heap.objects) last.1 below
        ];
        linked = front.linked;
        different = different_more front.before place front.different (λ i o there. (let found = front.among i o there in no_place_at shape.places.objects place found.0 o apart found.2));
      };
      longer = omega (arith, many, front.long, deeper);
    }

hold_at : (input : Input) (places : List ℕ) (seen : List (Origin × Seen)) (i : ℕ) (slot : Origin × Seen) → HoldEach input places seen → slice_get seen i ≡ Some slot
    → HoldsSeen input.heap places (slot_value input places slot.0) slot.1
hold_at input places [] i slot each at = absurd cc
hold_at input places (first ∷ seen) zero slot each at =
    subst (λ (s : Origin × Seen). HoldsSeen input.heap places (slot_value input places s.0) s.1) (let same : first ≡ slot = cc in same) each.0
hold_at input places (first ∷ seen) (suc i) slot each at = hold_at input places seen i slot each.1 at

pub loc_at : (input : Input) (objects : List ℕ) (locs : List PicLoc) (found : List ℕ) (i : ℕ) (loc : PicLoc) → locs_placed input objects locs ≡ Some found → slice_get locs i ≡ Some loc
    → (place : ℕ) × (slice_get found i ≡ Some place) × (place_of input objects loc.origin ≡ Some place)
loc_at input objects [] found i loc e at = absurd cc
loc_at input objects (first ∷ locs) found i loc e at =
    go (λ (ls : List ℕ) (n : ℕ) (placed : locs_placed input objects locs ≡ Some ls) (there : slice_get locs n ≡ Some loc). loc_at input objects locs ls n loc placed there)
    (place_of input objects first.origin) refl (locs_placed input objects locs) refl e i at
  where
    go : ((ls : List ℕ) (n : ℕ) → locs_placed input objects locs ≡ Some ls → slice_get locs n ≡ Some loc
        → (p : ℕ) × (slice_get ls n ≡ Some p) × (place_of input objects loc.origin ≡ Some p))
        → (place : Option ℕ) → place_of input objects first.origin ≡ place → (later : Option (List ℕ)) → locs_placed input objects locs ≡ later
        → option_and_then (λ (p : ℕ). option_map (λ (more : List ℕ). p ∷ more) later) place ≡ Some found
        → (n : ℕ) → slice_get (first ∷ locs) n ≡ Some loc → (p : ℕ) × (slice_get found n ≡ Some p) × (place_of input objects loc.origin ≡ Some p)
    go again None one later other e n at = absurd cc
    go again (Some p) one None other e n at = absurd cc
    go again (Some p) one (Some ls) other e zero at =
        let list : p ∷ ls ≡ found = cc in
        let same : first ≡ loc = cc in
        (p, ap (λ (xs : List ℕ). slice_get xs 0) (sym list), ap (λ (l : PicLoc). place_of input objects l.origin) (sym same) ∙ one)
    go again (Some p) one (Some ls) other e (suc n) at =
        let list : p ∷ ls ≡ found = cc in
        let later = again ls n other at in
        (later.0, ap (λ (xs : List ℕ). slice_get xs (suc n)) (sym list) ∙ later.1, later.2)

pub past_k : (picture : Picture) (input : Input) (k : ℕ) → HasShape picture input → IsBeyondK picture k → IsPastK input k
past_k picture input k shape beyond = go beyond.beyond
  where
    go : IsBeyond picture beyond.slot → IsPastK input k
    go (inl seen) =
        let holds = hold_at input shape.places.objects picture.seen seen.0 (beyond.slot, seens.Beyond) shape.seen seen.1 in
        further_chain picture input k shape beyond.slot holds.0 beyond.deeper holds.1 holds.2 holds.3
    go (inr there) =
        let loc : PicLoc = record { origin = beyond.slot; standing = standings.Beyond } in
        let parts = placed_parts picture input shape.places shape.placed in
        let found = loc_at input shape.places.objects picture.locs shape.places.locs there.0 loc parts.locs there.1 in
        let inside = place_inside input shape.places.objects beyond.slot found.0 found.2 in
        further_chain picture input k shape beyond.slot found.0 beyond.deeper inside.0 inside.1 (shape.stands there.0 found.0 loc there.1 found.1)

pub chain_to : (picture : Picture) (input : Input) (shape : HasShape picture input) (number place depth : ℕ) → slice_get shape.places.objects number ≡ Some place
    → slice_get (depths_of picture.objects) number ≡ Some depth → IsChainTo input depth place
chain_to = object_chain

-- an object has a place
pub has_place : (input : Input) (before : List ℕ) (rest : List PicObject) (all : List ℕ) → objects_placed input before rest ≡ Some all → length all ≡ length before + length rest
has_place input before [] all e =
    let same : length before ≡ length all = ap length (let one : before ≡ all = cc in one) in
    omega (arith, same)
has_place input before (object ∷ rest) all e =
    go (λ (p : ℕ) (placed : objects_placed input (before ++ p ∷ []) rest ≡ Some all). has_place input (before ++ p ∷ []) rest all placed) (place_of input before object.origin) e
  where
    go : ((p : ℕ) → objects_placed input (before ++ p ∷ []) rest ≡ Some all → length all ≡ length (before ++ p ∷ []) + length rest) → (place : Option ℕ) → option_and_then (λ (p : ℕ). objects_placed input (before ++ p ∷ []) rest) place ≡ Some all → length all ≡ length before + suc (length rest)
    go again None e = absurd cc
    go again (Some p) e =
        let more : length all ≡ length (before ++ p ∷ []) + length rest = again p e in
        let one : length (before ++ p ∷ []) ≡ length before + 1 = length-append before (p ∷ []) in
        omega (arith, more, one)

pub inside_there : (xs : List ℕ) (i : ℕ) → i < length xs → (x : ℕ) × (slice_get xs i ≡ Some x)
inside_there [] i below = absurd (omega (arith, below))
inside_there (x ∷ xs) zero below = (x, refl)
inside_there (x ∷ xs) (suc i) below = inside_there xs i (let less : i < length xs = omega (arith, below) in less)

component : (kind : ExactType) (length : Length) (n : ℕ) → IsLengthOf kind length → length ≡ Above n → (of : JType) × (kind ≡ exact.Array of)
component (exact.Class name) length n fits e = absurd (subst (IsLengthOf (exact.Class name)) e fits)
component (exact.Array of) length n fits e = (of, refl)

pub past_array : (picture : Picture) (input : Input) (number n : ℕ) (object : PicObject) → HasShape picture input → slice_get picture.objects number ≡ Some object
    → IsLengthOf object.kind object.length → object.length ≡ Above n → IsPastArray input n
past_array picture input number n object shape at fits long =
    let size : length shape.places.objects ≡ 0 + length picture.objects = has_place input [] picture.objects shape.places.objects (placed_parts picture input shape.places shape.placed).objects in
    let inside : number < length picture.objects = get_inside picture.objects number object at in
    let placed = inside_there shape.places.objects number (let less : number < length shape.places.objects = omega (arith, size, inside) in less) in
    let deep = there_too shape.places.objects (depths_of picture.objects) number placed.0 (fronts_of picture input shape).0 placed.1 in
    let chain = object_chain picture input shape number placed.0 deep.0 placed.1 deep.1 in
    let such = shape.such number placed.0 object at placed.1 in
    let of = component object.kind object.length n fits long in
    record {
      before = chain.before;
      last = placed.0;
      is_chain = chain.is_chain;
      array = such.object;
      array_is = such.object_is;
      component = of.0;
      kind = such.kind ∙ of.1;
      longer = subst (λ (l : Length). HasLength l such.object.values) long such.length;
    }
