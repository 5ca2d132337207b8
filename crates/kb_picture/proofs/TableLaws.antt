-- Laws of tables of marks: a table tells which objects are places, and is made exactly where no two places are one.
use Rattle.std.proofs.Common.{◌≡◌, ◌≢◌, ◌↔◌, inl, inr, ℕ, zero, suc, ◌<◌, Bool, true, false, List, [], ◌∷◌, replicate, Option, Some, None, slice_get, slice_set, refl, sym, ap, ◌∙◌, arith}
use Rattle.std.proofs.lemmas.Bool.{true≢false}
use Rattle.std.proofs.lemmas.Bool.Decides.{eqb_tells}
use Rattle.kb_class.proofs.Lists.{set_here, set_other, get_inside}
use Rattle.kb_picture.specs.Shapes.{IsNoPlace, AreApart}
use Rattle.kb_picture.specs.Tables.{mark_at, is_marked, marked_at, marked, marks_of, Tells}

-- ---- one place

set_marks : (table : List Bool) (place o : ℕ) → slice_get table place ≡ Some false
    → (is_marked (slice_set table place true) o ≡ false) ↔ ((is_marked table o ≡ false) × (o ≢ place))
set_marks table place o at =
    elim (eqb_tells place o) [
      | inl same ↦
          (let here : slice_get (slice_set table place true) place ≡ Some true = set_here table place true (get_inside table place false at) in
          let mark : is_marked (slice_set table place true) o ≡ true = ap (λ (n : ℕ). is_marked (slice_set table place true) n) (sym same.1) ∙ ap mark_at here in
          ((λ h. absurd (true≢false (sym mark ∙ h))), (λ h. absurd (h.1 (sym same.1)))))
      | inr apart ↦
          (let other : is_marked (slice_set table place true) o ≡ is_marked table o = ap mark_at (set_other table place o true apart.1) in
          ((λ h. (sym other ∙ h, λ e. apart.1 (sym e))), (λ h. other ∙ h.0)))
    ]

-- ---- all places

-- each place is none of those behind it
abbrev AreApartBy : List ℕ → Type 0
AreApartBy [] = Unit {0}
AreApartBy (place ∷ others) = IsNoPlace others place × AreApartBy others

-- each place is marked as false
abbrev AreFree : List Bool → List ℕ → Type 0
AreFree table [] = Unit {0}
AreFree table (place ∷ others) = (slice_get table place ≡ Some false) × AreFree table others

marked_tells : (table : List Bool) (places : List ℕ) (after : List Bool) → marked table places ≡ Some after
    → (o : ℕ) → (is_marked after o ≡ false) ↔ ((is_marked table o ≡ false) × IsNoPlace places o)
marked_tells table [] after e o =
    let same : table ≡ after = cc in
    let mark : is_marked table o ≡ is_marked after o = ap (λ (t : List Bool). is_marked t o) same in
    ((λ h. (mark ∙ h, tt)), (λ h. sym mark ∙ h.0))
marked_tells table (place ∷ others) after e o =
    go (slice_get table place) refl e (λ (later : marked (slice_set table place true) others ≡ Some after). marked_tells (slice_set table place true) others after later o)
  where
    go : (mark : Option Bool) → slice_get table place ≡ mark → marked_at mark (marked (slice_set table place true) others) ≡ Some after
        → (marked (slice_set table place true) others ≡ Some after → (is_marked after o ≡ false) ↔ ((is_marked (slice_set table place true) o ≡ false) × IsNoPlace others o))
        → (is_marked after o ≡ false) ↔ ((is_marked table o ≡ false) × IsNoPlace (place ∷ others) o)
    go None at e again = absurd cc
    go (Some true) at e again = absurd cc
    go (Some false) at e again =
        let later = again e in
        let one = set_marks table place o at in
        ((λ h. ((one.0 (later.0 h).0).0, ((one.0 (later.0 h).0).1, (later.0 h).1))), (λ h. later.1 (one.1 (h.0, h.1.0), h.1.1)))

-- a place that is still free is another one
free_other : (table : List Bool) (place : ℕ) (others : List ℕ) → slice_get table place ≡ Some false → AreFree (slice_set table place true) others
    → IsNoPlace others place × AreFree table others
free_other table place [] at free = (tt, tt)
free_other table place (first ∷ others) at free =
    let later = free_other table place others at free.1 in
    elim (eqb_tells place first) [
      | inl same ↦
          (let here : slice_get (slice_set table place true) place ≡ Some true = set_here table place true (get_inside table place false at) in
          let there : slice_get (slice_set table place true) place ≡ Some false = ap (λ (n : ℕ). slice_get (slice_set table place true) n) same.1 ∙ free.0 in
          absurd cc)
      | inr apart ↦
          (let other : slice_get (slice_set table place true) first ≡ slice_get table first = set_other table place first true apart.1 in
          ((apart.1, later.0), (sym other ∙ free.0, later.1)))
    ]

free_still : (table : List Bool) (place : ℕ) (others : List ℕ) → IsNoPlace others place → AreFree table others → AreFree (slice_set table place true) others
free_still table place [] apart free = tt
free_still table place (first ∷ others) apart free = (set_other table place first true apart.0 ∙ free.0, free_still table place others apart.1 free.1)

marked_apart : (table : List Bool) (places : List ℕ) (after : List Bool) → marked table places ≡ Some after → AreApartBy places × AreFree table places
marked_apart table [] after e = (tt, tt)
marked_apart table (place ∷ others) after e =
    go (slice_get table place) refl e (λ (later : marked (slice_set table place true) others ≡ Some after). marked_apart (slice_set table place true) others after later)
  where
    go : (mark : Option Bool) → slice_get table place ≡ mark → marked_at mark (marked (slice_set table place true) others) ≡ Some after
        → (marked (slice_set table place true) others ≡ Some after → AreApartBy others × AreFree (slice_set table place true) others)
        → AreApartBy (place ∷ others) × AreFree table (place ∷ others)
    go None at e again = absurd cc
    go (Some true) at e again = absurd cc
    go (Some false) at e again =
        let later = again e in
        let other = free_other table place others at later.1 in
        ((other.0, later.0), (at, other.1))

marked_there : (table : List Bool) (places : List ℕ) → AreApartBy places → AreFree table places → marked table places ≡ None → ⊥
marked_there table [] apart free e = absurd cc
marked_there table (place ∷ others) apart free e =
    let more : marked (slice_set table place true) others ≡ None = ap (λ (mark : Option Bool). marked_at mark (marked (slice_set table place true) others)) (sym free.0) ∙ e in
    marked_there (slice_set table place true) others apart.1 (free_still table place others apart.0 free.1) more

-- ---- places that are apart

no_place : (places : List ℕ) (place : ℕ) → ((i x : ℕ) → slice_get places i ≡ Some x → place ≢ x) → IsNoPlace places place
no_place [] place other = tt
no_place (first ∷ others) place other = (other 0 first refl, no_place others place (λ i x at. other (suc i) x at))

pub no_place_at : (places : List ℕ) (place i x : ℕ) → IsNoPlace places place → slice_get places i ≡ Some x → place ≢ x
no_place_at [] place i x apart at = absurd cc
no_place_at (first ∷ others) place zero x apart at = λ e. apart.0 cc
no_place_at (first ∷ others) place (suc i) x apart at = no_place_at others place i x apart.1 at

apart_by : (places : List ℕ) → AreApart places → AreApartBy places
apart_by [] apart = tt
apart_by (first ∷ others) apart = (
  no_place others first (λ i x at e. (let same : 0 ≡ suc i = apart 0 (suc i) first refl (at ∙ ap Some (sym e)) in absurd (omega (arith, same)))),
  apart_by others (λ one other place here there. (let same : suc one ≡ suc other = apart (suc one) (suc other) place here there in omega (arith, same))),
)

by_apart : (places : List ℕ) → AreApartBy places → AreApart places
by_apart [] apart = λ one other place here there. absurd cc
by_apart (first ∷ others) apart = λ one other place here there. at (by_apart others apart.1) one other place here there
  where
    at : AreApart others → (one other place : ℕ) → slice_get (first ∷ others) one ≡ Some place → slice_get (first ∷ others) other ≡ Some place → one ≡ other
    at later zero zero place here there = refl
    at later zero (suc other) place here there =
        let same : first ≡ place = cc in
        absurd (no_place_at others first other place apart.0 there same)
    at later (suc one) zero place here there =
        let same : first ≡ place = cc in
        absurd (no_place_at others first one place apart.0 here same)
    at later (suc one) (suc other) place here there = ap suc (later one other place here there)

-- ---- the whole table

nothing_marked : (n o : ℕ) → is_marked (replicate n false) o ≡ false
nothing_marked zero o = refl
nothing_marked (suc n) zero = refl
nothing_marked (suc n) (suc o) = nothing_marked n o

free_at_first : (n o : ℕ) → o < n → slice_get (replicate n false) o ≡ Some false
free_at_first zero o below = absurd (omega (arith, below))
free_at_first (suc n) zero below = refl
free_at_first (suc n) (suc o) below = free_at_first n o (omega (arith, below))

-- each of the places is below n
abbrev pub AreBelow : ℕ → List ℕ → Type 0
AreBelow n [] = Unit {0}
AreBelow n (place ∷ others) = (place < n) × AreBelow n others

all_free : (n : ℕ) (places : List ℕ) → AreBelow n places → AreFree (replicate n false) places
all_free n [] below = tt
all_free n (place ∷ others) below = (free_at_first n place below.0, all_free n others below.1)

-- a table tells which objects are places, and no two places are one
pub marks_tell : (n : ℕ) (places : List ℕ) (table : List Bool) → marks_of n places ≡ Some table → Tells table places × AreApart places
marks_tell n places table e = (
  record { elsewhere = λ o. ((λ h. ((marked_tells (replicate n false) places table e o).0 h).1), (λ h. (marked_tells (replicate n false) places table e o).1 (nothing_marked n o, h))) },
  by_apart places (marked_apart (replicate n false) places table e).0,
)

-- where there is none, two places are one
pub no_marks : (n : ℕ) (places : List ℕ) → marks_of n places ≡ None → AreBelow n places → AreApart places → ⊥
no_marks n places e below apart = marked_there (replicate n false) places (apart_by places apart) (all_free n places below) e
