-- The lines of a body are the first ones.
use Rattle.std.proofs.Common.{◌≡◌, ◌≤◌, ◌<◌, ℕ, zero, suc, ◌+◌, Bool, true, false, if◌then◌else◌, List, [], ◌∷◌, length, take, get_or, Option, Some, None, IfSome, Result, Ok, Err, IfOk, refl, sym, ap, ◌∙◌, arith}
use Rattle.kb_asm_text.specs.declared.line.Line.{Line}
use Rattle.kb_asm_check.specs.Faults.{is_body, body_of}

pub take_body : (of : List Line) (count : ℕ) → count ≡ length (body_of of) → take count of ≡ body_of of
take_body [] zero e = refl
take_body [] (suc count) e = refl
take_body (line ∷ others) count e = go (λ n h. take_body others n h) (is_body line) count e
  where
    go : ((n : ℕ) → n ≡ length (body_of others) → take n others ≡ body_of others) → (b : Bool) (n : ℕ) → n ≡ length (if b then line ∷ body_of others else [])
        → take n (line ∷ others) ≡ (if b then line ∷ body_of others else [])
    go more true zero h = absurd (omega (arith, h))
    go more true (suc n) h = ap (λ (l : List Line). line ∷ l) (more n (omega (arith, h)))
    go more false zero h = refl
    go more false (suc n) h = absurd (omega (arith, h))

pub body_within : (of : List Line) → length (body_of of) ≤ length of
body_within [] = omega arith
body_within (line ∷ others) = go (body_within others) (is_body line)
  where
    go : length (body_of others) ≤ length others → (b : Bool) → length (if b then line ∷ body_of others else []) ≤ length (line ∷ others)
    go h true = omega (arith, h)
    go h false = omega arith

-- no body begins where a line of none does
pub no_body : (rest : List Line) (line : Line) → 1 ≤ length rest → line ≡ get_or rest 0 line → is_body line ≡ false → length (body_of rest) ≡ 0
no_body [] line some at none = absurd (omega (arith, some))
no_body (first ∷ others) line some at none =
    ap (λ (b : Bool). length (if b then first ∷ body_of others else [])) (ap is_body (sym at) ∙ none)

-- nor does one where nothing is left, and then all lines are the body's
pub all_body : (of rest : List Line) (count : ℕ) → length rest < 1 → count + length (body_of rest) ≡ length (body_of of) → count + length rest ≡ length of → of ≡ body_of of
all_body of (line ∷ rest) count few body place = absurd (omega (arith, few))
all_body of [] count few body place =
    let left : count ≡ length of = omega (arith, place) in
    let all : count ≡ length (body_of of) = omega (arith, body) in
    sym (take_all of count left) ∙ take_body of count all
  where
    take_all : (xs : List Line) (n : ℕ) → n ≡ length xs → take n xs ≡ xs
    take_all [] zero e = refl
    take_all [] (suc n) e = refl
    take_all (x ∷ xs) zero e = absurd (omega (arith, e))
    take_all (x ∷ xs) (suc n) e = ap (λ (l : List Line). x ∷ l) (take_all xs n (omega (arith, e)))

pub some_within : (found : Option ℕ) (low high : ℕ) → low ≤ high → IfSome found (λ place. place ≤ low) → IfSome found (λ place. place ≤ high)
some_within (Some place) low high le h = omega (arith, le, h)
some_within None low high le h = tt

pub told_within : {E : Type 0} (told : Result (Option ℕ) E) (low high : ℕ) → low ≤ high → IfOk told (λ found. IfSome found (λ place. place ≤ low))
    → IfOk told (λ found. IfSome found (λ place. place ≤ high))
told_within (Ok found) low high le h = some_within found low high le h
told_within (Err e) low high le h = tt
