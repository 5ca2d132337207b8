-- Elements of lists by their places.
use Rattle.std.proofs.Common.{◌≡◌, ℕ, ◌+◌, ◌*◌, drop, ◌<◌, ◌≤◌, List, [], ◌∷◌, ◌++◌, Bool, true, false, arith, refl, ap, sym, ◌∙◌, inl, inr, ◌⊎◌, length, map, get_or, set, take, zero, suc, Some, slice_get}
use Rattle.std.proofs.lemmas.Bool.{false≢true, or_cases, or_left, or_right}
use Rattle.kb_chain.specs.Literal.{Literal, literal, same, has, place_of}
use Rattle.kb_chain.proofs.LiteralLaws.{same-true, same_refl}

pub at_pushed : {X : Type 0} (xs : List X) (x : X) (k : ℕ) (y : X) → slice_get (xs ++ x ∷ []) k ≡ Some y
    → (slice_get xs k ≡ Some y) ⊎ ((k ≡ length xs) × (x ≡ y))
at_pushed [] x zero y e = inr (refl, cc)
at_pushed [] x (suc k) y e = cc
at_pushed (z ∷ zs) x zero y e = inl e
at_pushed (z ∷ zs) x (suc k) y e =
    elim (at_pushed zs x k y e) [ inl h ↦ inl h | inr h ↦ inr (ap suc h.0, h.1) ]

pub at_kept : {X : Type 0} (xs ys : List X) (k : ℕ) (y : X) → slice_get xs k ≡ Some y → slice_get (xs ++ ys) k ≡ Some y
at_kept [] ys k y e = cc
at_kept (z ∷ zs) ys zero y e = e
at_kept (z ∷ zs) ys (suc k) y e = at_kept zs ys k y e

pub at_last : {X : Type 0} (xs : List X) (x : X) → slice_get (xs ++ x ∷ []) (length xs) ≡ Some x
at_last [] x = refl
at_last (z ∷ zs) x = at_last zs x

pub at_set : {X : Type 0} (xs : List X) (i : ℕ) (v : X) (k : ℕ) (y : X) → slice_get (set xs i v) k ≡ Some y
    → ((slice_get xs k ≡ Some y) × (k ≡ i → ⊥)) ⊎ ((k ≡ i) × (v ≡ y))
at_set [] i v k y e = cc
at_set (z ∷ zs) zero v zero y e = inr (refl, cc)
at_set (z ∷ zs) zero v (suc k) y e = inl (e, λ n. absurd (omega arith))
at_set (z ∷ zs) (suc i) v zero y e = inl (e, λ n. absurd (omega arith))
at_set (z ∷ zs) (suc i) v (suc k) y e =
    elim (at_set zs i v k y e) [ inl h ↦ inl (h.0, λ n. h.1 (omega arith)) | inr h ↦ inr (ap suc h.0, h.1) ]

pub at_set_same : {X : Type 0} (xs : List X) (i : ℕ) (v : X) → i < length xs → slice_get (set xs i v) i ≡ Some v
at_set_same [] i v h = absurd (omega arith)
at_set_same (z ∷ zs) zero v h = refl
at_set_same (z ∷ zs) (suc i) v h = at_set_same zs i v (omega arith)

pub at_set_other : {X : Type 0} (xs : List X) (i : ℕ) (v : X) (k : ℕ) → (k ≡ i → ⊥) → slice_get (set xs i v) k ≡ slice_get xs k
at_set_other [] i v k n = refl
at_set_other (z ∷ zs) zero v zero n = absurd (n refl)
at_set_other (z ∷ zs) zero v (suc k) n = refl
at_set_other (z ∷ zs) (suc i) v zero n = refl
at_set_other (z ∷ zs) (suc i) v (suc k) n = at_set_other zs i v k (λ e. n (ap suc e))

pub at_inside : {X : Type 0} (xs : List X) (k : ℕ) (y : X) → slice_get xs k ≡ Some y → k < length xs
at_inside [] k y e = cc
at_inside (z ∷ zs) zero y e = omega arith
at_inside (z ∷ zs) (suc k) y e = let h : k < length zs = at_inside zs k y e in omega arith

pub at_within : {X : Type 0} (xs : List X) (k : ℕ) → k < length xs → (y : X) × (slice_get xs k ≡ Some y)
at_within [] k h = absurd (omega arith)
at_within (z ∷ zs) zero h = (z, refl)
at_within (z ∷ zs) (suc k) h = at_within zs k (omega arith)

pub at_taken : {X : Type 0} (n : ℕ) (xs : List X) (k : ℕ) (y : X) → slice_get (take n xs) k ≡ Some y → (slice_get xs k ≡ Some y) × (k < n)
at_taken zero xs k y e = cc
at_taken (suc n) [] k y e = cc
at_taken (suc n) (z ∷ zs) zero y e = (e, omega arith)
at_taken (suc n) (z ∷ zs) (suc k) y e = let h = at_taken n zs k y e in (h.0, (let l : k < n = h.1 in omega arith))

pub at_take : {X : Type 0} (n : ℕ) (xs : List X) (k : ℕ) (y : X) → slice_get xs k ≡ Some y → k < n → slice_get (take n xs) k ≡ Some y
at_take zero xs k y e h = absurd (omega arith)
at_take (suc n) [] k y e h = e
at_take (suc n) (z ∷ zs) zero y e h = e
at_take (suc n) (z ∷ zs) (suc k) y e h = at_take n zs k y e (omega arith)

pub at_get_or : {X : Type 0} (xs : List X) (k : ℕ) (y d : X) → slice_get xs k ≡ Some y → get_or xs k d ≡ y
at_get_or [] k y d e = cc
at_get_or (z ∷ zs) zero y d e = cc
at_get_or (z ∷ zs) (suc k) y d e = at_get_or zs k y d e

pub get_or_at_place : {X : Type 0} (xs : List X) (k : ℕ) (d : X) → k < length xs → slice_get xs k ≡ Some (get_or xs k d)
get_or_at_place [] k d h = absurd (omega arith)
get_or_at_place (z ∷ zs) zero d h = refl
get_or_at_place (z ∷ zs) (suc k) d h = get_or_at_place zs k d (omega arith)

pub at_same : {X : Type 0} (xs : List X) (k : ℕ) (y z : X) → slice_get xs k ≡ Some y → slice_get xs k ≡ Some z → y ≡ z
at_same xs k y z e f = let g : Some y ≡ Some z = sym e ∙ f in cc

pub at_mapped : {X Y : Type 0} (f : X → Y) (xs : List X) (k : ℕ) (x : X) → slice_get xs k ≡ Some x → slice_get (map f xs) k ≡ Some (f x)
at_mapped f [] k x e = cc
at_mapped f (z ∷ zs) zero x e = let s : z ≡ x = cc in ap (λ w. Some (f w)) s
at_mapped f (z ∷ zs) (suc k) x e = at_mapped f zs k x e

pub mapped_at : {X Y : Type 0} (f : X → Y) (xs : List X) (k : ℕ) (y : Y) → slice_get (map f xs) k ≡ Some y → (x : X) × (slice_get xs k ≡ Some x) × (f x ≡ y)
mapped_at f [] k y e = cc
mapped_at f (z ∷ zs) zero y e = let s : f z ≡ y = cc in (z, refl, s)
mapped_at f (z ∷ zs) (suc k) y e = mapped_at f zs k y e

-- a list has what stands at its places, and the other way round
pub has_at : (xs : List Literal) (l : Literal) → has xs l ≡ true → (i : ℕ) × (slice_get xs i ≡ Some l)
has_at [] l e = absurd (false≢true e)
has_at (x ∷ xs) l e = elim (or_cases (same l x) (has xs l) e) [
  | inl s ↦ (0, ap Some (sym (same-true l x s)))
  | inr s ↦ (let r = has_at xs l s in (suc r.0, r.1))
]

pub at_has : (xs : List Literal) (i : ℕ) (l : Literal) → slice_get xs i ≡ Some l → has xs l ≡ true
at_has [] i l e = cc
at_has (x ∷ xs) zero l e = let s : x ≡ l = cc in or_left _ _ (ap (same l) s ∙ same_refl l)
at_has (x ∷ xs) (suc i) l e = or_right _ _ (at_has xs i l e)

-- a list with a literal is not empty
pub some_in : (row : List Literal) (l : Literal) → has row l ≡ true → 0 < length row
some_in [] l e = absurd (false≢true e)
some_in (x ∷ row) l e = omega arith

pub dropped_part : (i : ℕ) (xs : List Literal) (l : Literal) → has (drop i xs) l ≡ true → has xs l ≡ true
dropped_part zero xs l e = e
dropped_part (suc i) [] l e = e
dropped_part (suc i) (x ∷ xs) l e = or_right _ _ (dropped_part i xs l e)

pub variable_low : (l : Literal) (n : ℕ) → place_of l < 2 * n + 2 → l.variable ≤ n
variable_low l n lt = go l.variable l.positive lt
  where
    go : (v : ℕ) (p : Bool) → place_of (literal v p) < 2 * n + 2 → v ≤ n
    go v true lt = omega arith
    go v false lt = omega arith
