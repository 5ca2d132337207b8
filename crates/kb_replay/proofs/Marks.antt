-- How marks stand in a table of flags.
use Rattle.std.proofs.Common.{◌≡◌, ◌⊎◌, inl, inr, ℕ, zero, suc, ◌<◌, Bool, true, false, slice_set, List, [], ◌∷◌, ◌++◌, length, refl, ap, arith}
use Rattle.kb_replay.specs.Replays.{IsMarked}

marked_pushed : (flags : List Bool) (n : ℕ) → IsMarked (flags ++ false ∷ []) n → IsMarked flags n
marked_pushed [] zero at = absurd cc
marked_pushed [] (suc n) at = absurd cc
marked_pushed (f ∷ flags) zero at = at
marked_pushed (f ∷ flags) (suc n) at = marked_pushed flags n at

pushed_marked : (flags : List Bool) (n : ℕ) → IsMarked flags n → IsMarked (flags ++ false ∷ []) n
pushed_marked [] n at = absurd cc
pushed_marked (f ∷ flags) zero at = at
pushed_marked (f ∷ flags) (suc n) at = pushed_marked flags n at

marked_set : (flags : List Bool) (place n : ℕ) → IsMarked (slice_set flags place true) n → (n ≡ place) ⊎ IsMarked flags n
marked_set [] place n at = inr at
marked_set (f ∷ flags) zero zero at = inl refl
marked_set (f ∷ flags) zero (suc n) at = inr at
marked_set (f ∷ flags) (suc p) zero at = inr at
marked_set (f ∷ flags) (suc p) (suc n) at = elim (marked_set flags p n at) [ inl e ↦ inl (ap suc e) | inr a ↦ inr a ]

set_marked : (flags : List Bool) (place n : ℕ) → place < length flags → (n ≡ place) ⊎ IsMarked flags n → IsMarked (slice_set flags place true) n
set_marked [] place n inside at = absurd (omega (arith, inside))
set_marked (f ∷ flags) zero zero inside at = refl
set_marked (f ∷ flags) zero (suc n) inside (inl e) = absurd cc
set_marked (f ∷ flags) zero (suc n) inside (inr a) = a
set_marked (f ∷ flags) (suc p) zero inside (inl e) = absurd cc
set_marked (f ∷ flags) (suc p) zero inside (inr a) = a
set_marked (f ∷ flags) (suc p) (suc n) inside (inl e) = set_marked flags p n (omega (arith, inside)) (inl (let same : n ≡ p = omega (arith, e) in same))
set_marked (f ∷ flags) (suc p) (suc n) inside (inr a) = set_marked flags p n (omega (arith, inside)) (inr a)

-- a flag that is not set marks nothing, and what was marked stays marked
pub marked_kept : (before flags : List Bool) → ((n : ℕ) → IsMarked flags n → IsMarked before n) → (n : ℕ) → IsMarked (flags ++ false ∷ []) n → IsMarked before n
marked_kept before flags kept n at = kept n (marked_pushed flags n at)

pub kept_marked : (before flags : List Bool) → ((n : ℕ) → IsMarked before n → IsMarked flags n) → (n : ℕ) → IsMarked before n → IsMarked (flags ++ false ∷ []) n
kept_marked before flags kept n at = pushed_marked flags n (kept n at)

pub marked_last : (before flags : List Bool) (place : ℕ) → ((n : ℕ) → IsMarked flags n → IsMarked before n) → (n : ℕ) → IsMarked (slice_set flags place true) n
    → (n ≡ place) ⊎ IsMarked before n
marked_last before flags place kept n at = elim (marked_set flags place n at) [ inl e ↦ inl e | inr a ↦ inr (kept n a) ]

pub marked_now : (before flags : List Bool) (place : ℕ) → place < length flags → ((n : ℕ) → IsMarked before n → IsMarked flags n) → (n : ℕ)
    → (n ≡ place) ⊎ IsMarked before n → IsMarked (slice_set flags place true) n
marked_now before flags place inside kept n at = set_marked flags place n inside (elim at [ inl e ↦ inl e | inr a ↦ inr (kept n a) ])
