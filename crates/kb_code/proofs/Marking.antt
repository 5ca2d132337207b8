-- Marking, in a table, the offsets at which instructions begin.
use Rattle.std.proofs.Common.{◌≡◌, ℕ, zero, suc, ◌<◌, Bool, true, false, ◌||◌, eqb, List, [], ◌∷◌, length, replicate, set, refl, sym, ap, ◌∙◌, arith}
use Rattle.std.proofs.lemmas.Bool.{eqb-true, eqb-false, eq-eqb, ne_eqb}
use Rattle.kb_code.specs.Listing.{begins}
use Rattle.kb_code.specs.Starts.{AreWithin, marked, IsTableOf}

-- What is marked, and what is still to be marked, is where the items begin.
pub record IsMarkedSoFar {A : Type 0} (items : List (ℕ × A)) (size : ℕ) (rest : List (ℕ × A)) (table : List Bool) : Type 0 where
  pub len : length table ≡ size
  pub within : AreWithin size rest
  pub each : (at : ℕ) → (marked table at || begins rest at) ≡ begins items at

none_marked : (n at : ℕ) → marked (replicate n false) at ≡ false
none_marked zero at = refl
none_marked (suc n) zero = refl
none_marked (suc n) (suc at) = none_marked n at

length-replicated : (n : ℕ) → length (replicate n false) ≡ n
length-replicated zero = refl
length-replicated (suc n) = ap (λ k. suc k) (length-replicated n)

pub at_first : {A : Type 0} (items : List (ℕ × A)) (size : ℕ) → AreWithin size items → IsMarkedSoFar items size items (replicate size false)
at_first items size within = record { len = length-replicated size; within = within; each = λ at. rw (none_marked size at) refl }

-- one mark more
marked_set : (table : List Bool) (i at : ℕ) → i < length table → marked (set table i true) at ≡ (eqb i at || marked table at)
marked_set [] i at lt = absurd (omega (arith, lt))
marked_set (b ∷ table) zero zero lt = refl
marked_set (b ∷ table) zero (suc at) lt = let apart : eqb 0 (suc at) ≡ false = ne_eqb 0 (suc at) (λ same. omega (arith, same)) in rw apart refl
marked_set (b ∷ table) (suc i) zero lt = let apart : eqb (suc i) 0 ≡ false = ne_eqb (suc i) 0 (λ same. omega (arith, same)) in rw apart refl
marked_set (b ∷ table) (suc i) (suc at) lt = let shorter : i < length table = omega (arith, lt) in marked_set table i at shorter ∙ ap (λ (e : Bool). e || marked table at) (same_test i at) where
  same_test : (i at : ℕ) → eqb i at ≡ eqb (suc i) (suc at)
  same_test i at = go (eqb i at) refl where
    go : (t : Bool) → eqb i at ≡ t → eqb i at ≡ eqb (suc i) (suc at)
    go true e = e ∙ sym (eq-eqb (suc i) (suc at) (ap (λ k. suc k) (eqb-true i at e)))
    go false e = e ∙ sym (ne_eqb (suc i) (suc at) (λ same. eqb-false i at e (omega (arith, same))))

length-set_is : (table : List Bool) (i : ℕ) (b : Bool) → length (set table i b) ≡ length table
length-set_is [] i b = refl
length-set_is (c ∷ table) zero b = refl
length-set_is (c ∷ table) (suc i) b = ap (λ k. suc k) (length-set_is table i b)

regrouped : (e m b : Bool) → ((e || m) || b) ≡ (m || (e || b))
regrouped true true b = refl
regrouped true false b = refl
regrouped false true b = refl
regrouped false false b = refl

pub one_more : {A : Type 0} (items : List (ℕ × A)) (size : ℕ) (item : ℕ × A) (others : List (ℕ × A)) (table : List Bool)
    → IsMarkedSoFar items size (item ∷ others) table → IsMarkedSoFar items size others (set table item.0 true)
one_more items size item others table so_far =
    let inside : item.0 < length table = omega (arith, so_far.len, so_far.within.0) in
    record {
      len = length-set_is table item.0 true ∙ so_far.len;
      within = so_far.within.1;
      each = λ at. ap (λ (m : Bool). m || begins others at) (marked_set table item.0 at inside) ∙ regrouped (eqb item.0 at) (marked table at) (begins others at) ∙ so_far.each at;
    }

nothing_more : (m : Bool) → (m || false) ≡ m
nothing_more true = refl
nothing_more false = refl

pub at_last : {A : Type 0} (items : List (ℕ × A)) (size : ℕ) (rest : List (ℕ × A)) (table : List Bool) → IsMarkedSoFar items size rest table → length rest ≡ 0 → IsTableOf items size table
at_last items size [] table so_far none = record { len = so_far.len; each = λ at. sym (nothing_more (marked table at)) ∙ so_far.each at }
at_last items size (x ∷ rest) table so_far none = absurd (omega (arith, none))
