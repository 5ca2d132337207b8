-- One item more of a list of equal ones.
use Rattle.std.proofs.Common.{◌≡◌, ℕ, zero, suc, ◌+◌, List, [], ◌∷◌, ◌++◌, refl, sym, ap, ◌∙◌, arith, append_assoc}
use Rattle.std.specs.Prelude.{replicate}

same_items : {A : Type 0} (n : ℕ) (x : A) → replicate (suc n) x ≡ replicate n x ++ x ∷ []
same_items zero x = refl
same_items {A} (suc n) x = ap (λ (l : List A). x ∷ l) (same_items n x)

pub one_more : {A : Type 0} (before : List A) (n : ℕ) (x : A) → (before ++ replicate n x) ++ x ∷ [] ≡ before ++ replicate (n + 1) x
one_more {A} before n x =
    let more : suc n ≡ n + 1 = omega arith in
    append_assoc before (replicate n x) (x ∷ []) ∙ ap (λ (l : List A). before ++ l) (sym (same_items n x)) ∙ ap (λ m. before ++ replicate m x) more
