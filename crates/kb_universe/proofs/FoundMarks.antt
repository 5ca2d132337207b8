-- Marks of the methods that are found.
use Rattle.std.proofs.Common.{Option, None, IfSome, ◌≡◌, ◌≢◌, ℕ, zero, suc, ◌+◌, ◌*◌, ◌<◌, ◌≤◌, Bool, true, false, true≢false, ◌==◌, ◌||◌, List, [], ◌∷◌, ◌++◌, length, replicate, get_or, Some, slice_get, refl, sym, ap, ◌∙◌, arith, length-append, get_or-set_same, get_or-set_other}
use Rattle.std.proofs.Math.ListN.{set}
use Rattle.std.specs.List.{list_any, sum_by}
use Rattle.std.proofs.lemmas.List.Sums.{sum_by-set, sum_by-cons}
use Rattle.std.proofs.lemmas.List.Folds.{sum_by-replicate}
use Rattle.std.proofs.lemmas.Option.{same_Some, none-some, slice_get_within}
use Rattle.std.proofs.lemmas.Bool.Decides.{Decides-eqb}
use Rattle.kb_universe.specs.Found.{weight, AreMarked}

pub any_pushed : (p : ℕ → Bool) (xs : List ℕ) (x : ℕ) → list_any p (xs ++ x ∷ []) ≡ (list_any p xs || p x)
any_pushed p [] x = go (p x) refl where
  go : (b : Bool) → p x ≡ b → list_any p (x ∷ []) ≡ (false || p x)
  go true e = rw e refl
  go false e = rw e refl
any_pushed p (y ∷ xs) x = go (any_pushed p xs x) (p y) refl where
  go : (list_any p (xs ++ x ∷ []) ≡ (list_any p xs || p x)) → (b : Bool) → p y ≡ b → list_any p (y ∷ (xs ++ x ∷ [])) ≡ (list_any p (y ∷ xs) || p x)
  go later true e = rw e refl
  go later false e = rw e later

pub any_there : (xs : List ℕ) (place n : ℕ) → slice_get xs place ≡ Some n → list_any (λ other. other == n) xs ≡ true
any_there [] place n at = absurd (none-some n at)
any_there (y ∷ xs) place n at = go (λ q h. any_there xs q n h) (y == n) refl place at where
  go : ((q : ℕ) → slice_get xs q ≡ Some n → list_any (λ other. other == n) xs ≡ true) → (b : Bool) → (y == n) ≡ b → (q : ℕ) → slice_get (y ∷ xs) q ≡ Some n → list_any (λ other. other == n) (y ∷ xs) ≡ true
  go later true e q there = rw e refl
  go later false e zero there = absurd (true≢false (sym ((Decides-eqb y n).1 (same_Some y n there)) ∙ e))
  go later false e (suc q) there = rw e (later q there)

marked_inside : (marks : List Bool) (n : ℕ) → get_or marks n false ≡ true → n < length marks
marked_inside [] n e = absurd (true≢false (sym e))
marked_inside (m ∷ marks) zero e = omega arith
marked_inside (m ∷ marks) (suc n) e = let rest : n < length marks = marked_inside marks n e in omega (arith, rest)

one_most : (b : Bool) → weight b ≤ 1
one_most true = omega arith
one_most false = omega arith

weight_most : (marks : List Bool) → sum_by weight marks ≤ length marks
weight_most [] = omega arith
weight_most (m ∷ marks) =
    let sum : sum_by weight (m ∷ marks) ≡ weight m + sum_by weight marks = sum_by-cons weight m marks in
    let rest : sum_by weight marks ≤ length marks = weight_most marks in
    omega (arith, sum, rest, one_most m)

unmarked : (all n : ℕ) → get_or (replicate all false) n false ≡ false
unmarked zero n = refl
unmarked (suc all) zero = refl
unmarked (suc all) (suc n) = unmarked all n

-- no number, and no mark
pub marked_none : (all : ℕ) → AreMarked [] (replicate all false)
marked_none all = record {
  same = λ n. unmarked all n;
  many = sum_by-replicate weight all false ∙ (let e : all * 0 ≡ 0 = omega arith in e);
}

-- one number more, and its mark
pub marked_more : (numbers : List ℕ) (marks : List Bool) (n : ℕ) → AreMarked numbers marks → n < length marks → get_or marks n false ≡ false → AreMarked (numbers ++ n ∷ []) (set marks n true)
marked_more numbers marks n are inside off = record { same = λ m. go m (n == m) refl; many = count }
  where
    go : (m : ℕ) (b : Bool) → (n == m) ≡ b → get_or (set marks n true) m false ≡ list_any (λ other. other == m) (numbers ++ n ∷ [])
    go m true e =
        let same : n ≡ m = (Decides-eqb n m).0 e in
        let set_is : get_or (set marks n true) n false ≡ true = (rw get_or-set_same refl) in
        ap (λ (k : ℕ). get_or (set marks n true) k false) (sym same) ∙ set_is ∙ sym (any_pushed (λ other. other == m) numbers n ∙ rw e (or_true (list_any (λ other. other == m) numbers)))
      where
        or_true : (b : Bool) → (b || true) ≡ true
        or_true true = refl
        or_true false = refl
    go m false e =
        let ne : m ≢ n = λ h. true≢false (sym ((Decides-eqb n m).1 (sym h)) ∙ e) in
        let kept : get_or (set marks n true) m false ≡ get_or marks m false = (rw get_or-set_other refl) in
        kept ∙ are.same m ∙ sym (any_pushed (λ other. other == m) numbers n ∙ rw e (or_false (list_any (λ other. other == m) numbers)))
      where
        or_false : (b : Bool) → (b || false) ≡ b
        or_false true = refl
        or_false false = refl

    count : sum_by weight (set marks n true) ≡ length (numbers ++ n ∷ [])
    count =
        let none : weight (get_or marks n false) ≡ 0 = ap weight off in
        omega (arith, sum_by-set weight marks n true false inside, none, are.many, length-append numbers (n ∷ []))

-- a number that is found is below the number of marks, and so is its place
pub found_inside : (numbers : List ℕ) (marks : List Bool) (place n : ℕ) → AreMarked numbers marks → slice_get numbers place ≡ Some n → (n < length marks) × (place < length marks)
found_inside numbers marks place n are at =
    let within : place < length numbers = slice_get_within numbers place n at in
    (marked_inside marks n (are.same n ∙ any_there numbers place n at), omega (arith, within, are.many, weight_most marks))

-- the same of what is told of a place
pub told_inside : (numbers : List ℕ) (marks : List Bool) (place : ℕ) (told : Option ℕ) → AreMarked numbers marks → told ≡ slice_get numbers place → IfSome told (λ n. (n < length marks) × (place < length marks))
told_inside numbers marks place None are e = tt
told_inside numbers marks place (Some n) are e = found_inside numbers marks place n are (sym e)
