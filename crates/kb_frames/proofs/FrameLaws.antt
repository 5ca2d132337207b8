-- The frames that are left.
use Rattle.std.proofs.Common.{◌≡◌, ℕ, zero, suc, ◌-◌, ◌≤◌, List, [], ◌∷◌, drop, refl, ap, arith}

-- so many, of which the first is one
pub past_first : {A : Type 0} (x : A) (xs : List A) (n : ℕ) → 1 ≤ n → drop n (x ∷ xs) ≡ drop (n - 1) xs
past_first x xs zero h = absurd (omega (arith, h))
past_first x xs (suc n) h = (let same : n ≡ suc n - 1 = omega arith in ap (λ (k : ℕ). drop k xs) same)
