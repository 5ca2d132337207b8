-- The index of clauses, and unit propagation by it.
use Rattle.std.proofs.Common.{◌≡◌, ℕ, ◌≤◌, List, [], ◌∷◌, ◌++◌, Bool, true, false, arith, refl, ap, sym, ◌∙◌, inl, inr, ◌⊎◌, subst, length, get_or, zero, suc, ◌==◌, Some, slice_get}
use Rattle.std.proofs.lemmas.Bool.{false≢true}
use Rattle.kb_chain.specs.Literal.{Literal, place_of, has}
use Rattle.kb_chain.specs.Index.{IsIndexed, has_number}
use Rattle.kb_chain.specs.declared.index.Index.{Index}

pub slice_get-pushed : (xs : List (List Literal)) (x : List Literal) (k : ℕ) (y : List Literal) → slice_get (xs ++ x ∷ []) k ≡ Some y
    → (slice_get xs k ≡ Some y) ⊎ ((k ≡ length xs) × (x ≡ y))
slice_get-pushed [] x zero y e = inr (refl, cc)
slice_get-pushed [] x (suc k) y e = cc
slice_get-pushed (z ∷ zs) x zero y e = inl e
slice_get-pushed (z ∷ zs) x (suc k) y e =
    elim (slice_get-pushed zs x k y e) [ inl h ↦ inl h | inr h ↦ inr (ap suc h.0, h.1) ]

pub slice_get-kept : (xs : List (List Literal)) (x : List Literal) (k : ℕ) (y : List Literal) → slice_get xs k ≡ Some y → slice_get (xs ++ x ∷ []) k ≡ Some y
slice_get-kept [] x k y e = cc
slice_get-kept (z ∷ zs) x zero y e = e
slice_get-kept (z ∷ zs) x (suc k) y e = slice_get-kept zs x k y e

pub slice_get-last : (xs : List (List Literal)) (x : List Literal) → slice_get (xs ++ x ∷ []) (length xs) ≡ Some x
slice_get-last [] x = refl
slice_get-last (z ∷ zs) x = slice_get-last zs x

-- the index of one more clause
pub IsIndexed-push : (clauses : List (List Literal)) (clause : List Literal) (old new : Index) (number : ℕ) → number ≡ length clauses → IsIndexed clauses old
    → ((p k : ℕ) → has_number (get_or old.occurrences.items p []) k ≡ true → has_number (get_or new.occurrences.items p []) k ≡ true)
    → ((l : Literal) → has clause l ≡ true → has_number (get_or new.occurrences.items (place_of l) []) number ≡ true)
    → IsIndexed (clauses ++ clause ∷ []) new
IsIndexed-push clauses clause old new number n h kept added k c e l i =
    elim (slice_get-pushed clauses clause k c e) [
      | inl g ↦ kept (place_of l) k (h k c g l i)
      | inr g ↦ subst (λ z. has_number (get_or new.occurrences.items (place_of l) []) z ≡ true) (n ∙ sym g.0) (added l (ap (λ z. has z l) g.1 ∙ i))
    ]

pub not_zero : (n : ℕ) {b : Bool} → b ≡ (n == 0) → b ≡ false → 1 ≤ n
not_zero zero e f = absurd (false≢true (sym f ∙ e))
not_zero (suc n) e f = omega arith
