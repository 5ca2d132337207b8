-- Sums and counts over lists, one item at a time.
use Rattle.std.proofs.Common.{◌≡◌, ℕ, ◌+◌, Bool, List, [], ◌∷◌, fold, cond, arith}
use Rattle.std.specs.Prelude.{count_by, sum_by}

-- a sum goes on from where it began
sum_from : {A : Type 0} (f : A → ℕ) (xs : List A) (n : ℕ) → fold (λ (a : ℕ) (x : A). a + f x) n xs ≡ n + sum_by f xs
sum_from f [] n = omega arith
sum_from f (x ∷ xs) n =
    let here = sum_from f xs (n + f x) in
    let first = sum_from f xs (0 + f x) in
    omega (arith, here, first)

pub sum_more : {A : Type 0} (f : A → ℕ) (x : A) (xs : List A) → sum_by f (x ∷ xs) ≡ f x + sum_by f xs
sum_more f x xs = let first = sum_from f xs (0 + f x) in omega (arith, first)

pub count_first : {A : Type 0} (test : A → Bool) (x : A) (xs : List A) → count_by test (x ∷ xs) ≡ cond (test x) 1 0 + count_by test xs
count_first {A = A} test x xs = sum_more (λ (y : A). cond (test y) 1 0) x xs
