-- The table of places by offset, as it is filled.
use Rattle.std.proofs.Common.{◌≡◌, ◌≢◌, ℕ, zero, suc, ◌+◌, ◌<◌, ◌≤◌, Bool, true, false, ◌==◌, eqb, List, [], ◌∷◌, length, replicate, slice_set, get_or, take, drop, ◌-◌, Option, Some, None, refl, sym, ap, subst, ◌∙◌, arith, if◌then◌else◌}
use Rattle.std.proofs.lemmas.Bool.{eqb-true, eqb-false}
use Rattle.std.specs.Option.{option_map}
use Rattle.kb_code.specs.declared.instruction.Instr.{Instr}
use Rattle.kb_code.specs.Listing.{IsRising, IsLaidOut}
use Rattle.kb_classes.specs.Placing.{place_of_offset, placed_at}

-- the first of the two that is there
abbrev pub first_of : Option ℕ → Option ℕ → Option ℕ
first_of None other = other
first_of (Some place) other = Some place

-- What is in the table, and what is still to be put into it, are the places of the items.
pub record IsPlacedSoFar (items : List (ℕ × Instr)) (size : ℕ) (rest : List (ℕ × Instr)) (place : ℕ) (table : List (Option ℕ)) : Type 0 where
  pub len : length table ≡ size
  pub low : ℕ
  pub few : place ≤ low
  pub rising : IsRising low rest size
  pub blank : (at : ℕ) → low ≤ at → placed_at table at ≡ None
  pub each : (at : ℕ) → first_of (placed_at table at) (option_map (λ n. place + n) (place_of_offset rest at)) ≡ place_of_offset items at

none_placed : (n at : ℕ) → placed_at (replicate n None) at ≡ None
none_placed zero at = refl
none_placed (suc n) zero = refl
none_placed (suc n) (suc at) = none_placed n at

length-replicated : {A : Type 0} (n : ℕ) (x : A) → length (replicate n x) ≡ n
length-replicated zero x = refl
length-replicated (suc n) x = ap (λ k. suc k) (length-replicated n x)

from_none : (o : Option ℕ) → option_map (λ n. 0 + n) o ≡ o
from_none None = refl
from_none (Some n) = ap Some (omega arith)

pub at_first : (items : List (ℕ × Instr)) (size : ℕ) → IsLaidOut items size → IsPlacedSoFar items size items 0 (replicate size None)
at_first items size laid =
    record {
      len = length-replicated size None;
      low = 0;
      few = omega arith;
      rising = laid.rising;
      blank = λ at low. none_placed size at;
      each = λ at. rw (none_placed size at) (from_none (place_of_offset items at));
    }

pub placed_here : (table : List (Option ℕ)) (i : ℕ) (place : ℕ) → i < length table → placed_at (slice_set table i (Some place)) i ≡ Some place
placed_here [] i place inside = absurd (omega (arith, inside))
placed_here (w ∷ table) zero place inside = refl
placed_here (w ∷ table) (suc i) place inside = placed_here table i place (omega (arith, inside))

pub placed_elsewhere : (table : List (Option ℕ)) (i at : ℕ) (place : ℕ) → i ≢ at → placed_at (slice_set table i (Some place)) at ≡ placed_at table at
placed_elsewhere [] i at place apart = refl
placed_elsewhere (w ∷ table) zero zero place apart = absurd (apart refl)
placed_elsewhere (w ∷ table) zero (suc at) place apart = refl
placed_elsewhere (w ∷ table) (suc i) zero place apart = refl
placed_elsewhere (w ∷ table) (suc i) (suc at) place apart = placed_elsewhere table i at place (λ e. apart (ap (λ k. suc k) e))

length-set_is : (table : List (Option ℕ)) (i : ℕ) (b : Option ℕ) → length (slice_set table i b) ≡ length table
length-set_is [] i b = refl
length-set_is (c ∷ table) zero b = refl
length-set_is (c ∷ table) (suc i) b = ap (λ k. suc k) (length-set_is table i b)

pub rises_within : (low : ℕ) (rest : List (ℕ × Instr)) (size : ℕ) → IsRising low rest size → low ≤ size
rises_within low [] size rising = rising
rises_within low (item ∷ rest) size rising =
    let above : item.0 + 1 ≤ size = rises_within (item.0 + 1) rest size rising.1 in
    omega (arith, above, rising.0)

-- the item that comes next has an offset and a place inside the table
pub is_inside : (items : List (ℕ × Instr)) (size place : ℕ) (item : ℕ × Instr) (others : List (ℕ × Instr)) (table : List (Option ℕ))
    → IsPlacedSoFar items size (item ∷ others) place table → (item.0 < length table) × (place < size)
is_inside items size place item others table so_far =
    let above : item.0 + 1 ≤ size = rises_within (item.0 + 1) others size so_far.rising.1 in
    (omega (arith, above, so_far.len), omega (arith, above, so_far.few, so_far.rising.0))

-- ---- one place more

one_further : (place : ℕ) (o : Option ℕ) → option_map (λ n. suc place + n) o ≡ option_map (λ n. place + n) (option_map suc o)
one_further place None = refl
one_further place (Some n) = ap Some (omega arith)

some_more : (place : ℕ) (t : Bool) (rest : Option ℕ) (found : Option ℕ) → t ≡ true → option_map (λ n. place + n) (if t then Some 0 else rest) ≡ found → Some place ≡ found
some_more place true rest found e told = (let same : place ≡ place + 0 = omega arith in ap Some same) ∙ told
some_more place false rest found e told = absurd cc

none_more : (place : ℕ) (t : Bool) (rest before : Option ℕ) (found : Option ℕ) → t ≡ false → first_of before (option_map (λ n. place + n) (if t then Some 0 else option_map suc rest)) ≡ found
    → first_of before (option_map (λ n. suc place + n) rest) ≡ found
none_more place true rest before found e told = absurd cc
none_more place false rest before found e told = ap (first_of before) (one_further place rest) ∙ told

each_more : (items : List (ℕ × Instr)) (size place : ℕ) (item : ℕ × Instr) (others : List (ℕ × Instr)) (table : List (Option ℕ))
    → IsPlacedSoFar items size (item ∷ others) place table → (at : ℕ)
    → first_of (placed_at (slice_set table item.0 (Some place)) at) (option_map (λ n. suc place + n) (place_of_offset others at)) ≡ place_of_offset items at
each_more items size place item others table so_far at = go (item.0 == at) refl
  where
    Goal : Type 0
    Goal = first_of (placed_at (slice_set table item.0 (Some place)) at) (option_map (λ n. suc place + n) (place_of_offset others at)) ≡ place_of_offset items at

    told_before : (before : Option ℕ) → placed_at table at ≡ before → first_of before (option_map (λ n. place + n) (place_of_offset (item ∷ others) at)) ≡ place_of_offset items at
    told_before before is = subst (λ (o : Option ℕ). first_of o (option_map (λ n. place + n) (place_of_offset (item ∷ others) at)) ≡ place_of_offset items at) is (so_far.each at)

    here : item.0 ≡ at → placed_at (slice_set table item.0 (Some place)) at ≡ Some place
    here same = subst (λ (k : ℕ). placed_at (slice_set table item.0 (Some place)) k ≡ Some place) same (placed_here table item.0 place (is_inside items size place item others table so_far).0)

    blank : item.0 ≡ at → placed_at table at ≡ None
    blank same = (let low : so_far.low ≤ at = omega (arith, same, so_far.rising.0) in so_far.blank at low)

    go : (t : Bool) → (item.0 == at) ≡ t → Goal
    go true e =
        let same : item.0 ≡ at = eqb-true item.0 at e in
        ap (λ (o : Option ℕ). first_of o (option_map (λ n. suc place + n) (place_of_offset others at))) (here same)
        ∙ some_more place (item.0 == at) (option_map suc (place_of_offset others at)) (place_of_offset items at) e (told_before None (blank same))
    go false e =
        ap (λ (o : Option ℕ). first_of o (option_map (λ n. suc place + n) (place_of_offset others at))) (placed_elsewhere table item.0 at place (eqb-false item.0 at e))
        ∙ none_more place (item.0 == at) (place_of_offset others at) (placed_at table at) (place_of_offset items at) e (so_far.each at)

pub one_more : (items : List (ℕ × Instr)) (size place : ℕ) (item : ℕ × Instr) (others : List (ℕ × Instr)) (table : List (Option ℕ))
    → IsPlacedSoFar items size (item ∷ others) place table → IsPlacedSoFar items size others (suc place) (slice_set table item.0 (Some place))
one_more items size place item others table so_far =
    record {
      len = length-set_is table item.0 (Some place) ∙ so_far.len;
      low = item.0 + 1;
      few = omega (arith, so_far.few, so_far.rising.0);
      rising = so_far.rising.1;
      blank = blank;
      each = each_more items size place item others table so_far;
    }
  where
    blank : (at : ℕ) → item.0 + 1 ≤ at → placed_at (slice_set table item.0 (Some place)) at ≡ None
    blank at low =
        let apart : item.0 ≢ at = (λ same. let no : ⊥ = omega (arith, same, low) in no) in
        let above : so_far.low ≤ at = omega (arith, low, so_far.rising.0) in
        placed_elsewhere table item.0 at place apart ∙ so_far.blank at above

nothing_more : (o : Option ℕ) → first_of o None ≡ o
nothing_more None = refl
nothing_more (Some place) = refl

pub at_last : (items : List (ℕ × Instr)) (size : ℕ) (rest : List (ℕ × Instr)) (place : ℕ) (table : List (Option ℕ)) → IsPlacedSoFar items size rest place table → length rest ≡ 0
    → (at : ℕ) → placed_at table at ≡ place_of_offset items at
at_last items size [] place table so_far none at = sym (nothing_more (placed_at table at)) ∙ so_far.each at
at_last items size (x ∷ rest) place table so_far none at = absurd (omega (arith, none))

-- ---- one turn of the loop

pub next_inside : (items : List (ℕ × Instr)) (size place : ℕ) (rest : List (ℕ × Instr)) (item : ℕ × Instr) (table : List (Option ℕ)) → 1 ≤ length rest → item ≡ get_or rest 0 item
    → IsPlacedSoFar items size rest place table → (item.0 < length table) × (place < size)
next_inside items size place [] item table some is so_far = absurd (let no : ⊥ = omega (arith, some) in no)
next_inside items size place (x ∷ others) item table some is so_far =
    let both : (x.0 < length table) × (place < size) = is_inside items size place x others table so_far in
    (subst (λ (y : ℕ × Instr). y.0 < length table) (sym is) both.0, both.1)

rest_is : (others : List (ℕ × Instr)) (n : ℕ) → n ≡ length others → take n others ≡ others
rest_is [] n is = rw is refl
rest_is (x ∷ others) n is = rw is (ap (λ (ys : List (ℕ × Instr)). x ∷ ys) (rest_is others (length others) refl))

pub next_placed : (items : List (ℕ × Instr)) (size place : ℕ) (rest : List (ℕ × Instr)) (item : ℕ × Instr) (table : List (Option ℕ)) → 1 ≤ length rest → item ≡ get_or rest 0 item
    → IsPlacedSoFar items size rest place table → IsPlacedSoFar items size (take (length rest - 1) (drop 1 rest)) (place + 1) (slice_set table item.0 (Some place))
next_placed items size place [] item table some is so_far = absurd (let no : ⊥ = omega (arith, some) in no)
next_placed items size place (x ∷ others) item table some is so_far =
    let count : length (x ∷ others) - 1 ≡ length others = omega arith in
    let next : suc place ≡ place + 1 = omega arith in
    let more : IsPlacedSoFar items size others (suc place) (slice_set table x.0 (Some place)) = one_more items size place x others table so_far in
    let with_item : IsPlacedSoFar items size others (suc place) (slice_set table item.0 (Some place)) =
    subst (λ (y : ℕ × Instr). IsPlacedSoFar items size others (suc place) (slice_set table y.0 (Some place))) (sym is) more in
    let with_place : IsPlacedSoFar items size others (place + 1) (slice_set table item.0 (Some place)) =
    subst (λ (n : ℕ). IsPlacedSoFar items size others n (slice_set table item.0 (Some place))) next with_item in
    subst (λ (ys : List (ℕ × Instr)). IsPlacedSoFar items size ys (place + 1) (slice_set table item.0 (Some place))) (sym (rest_is others (length (x ∷ others) - 1) count)) with_place
