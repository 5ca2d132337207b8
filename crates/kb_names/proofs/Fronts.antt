-- Lemmas on what a list begins with.
use Rattle.std.proofs.Common.{◌≡◌, ℕ, List, [], ◌∷◌, ◌++◌, length, take, refl, sym, ◌∙◌, ap}

kept : (xs w zs : List ℕ) → take (length (xs ++ w)) zs ≡ xs ++ w → take (length xs) zs ≡ xs
kept [] w zs e = refl
kept (x ∷ xs) w [] e = cc
kept (x ∷ xs) w (z ∷ zs) e =
    let head : z ≡ x = cc in
    let tail : take (length (xs ++ w)) zs ≡ xs ++ w = cc in
    ap (λ (y : ℕ). y ∷ take (length xs) zs) head ∙ ap (λ (ys : List ℕ). x ∷ ys) (kept xs w zs tail)

-- what begins with a list begins with its front
pub kept_front : (xs w ys zs : List ℕ) → ys ≡ xs ++ w → take (length ys) zs ≡ ys → take (length xs) zs ≡ xs
kept_front xs w ys zs same e = kept xs w zs (ap (λ (l : List ℕ). take (length l) zs) (sym same) ∙ e ∙ same)
