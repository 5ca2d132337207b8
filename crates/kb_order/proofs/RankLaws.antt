-- Ranks fall from what is below to what is above.
use Rattle.std.proofs.Common.{◌≡◌, ℕ, zero, suc, ◌<◌, ◌≤◌, Bool, true, false, List, [], ◌∷◌, length, get_or, refl, sym, ◌∙◌, arith}
use Rattle.std.proofs.lemmas.Bool.{false≢true}
use Rattle.kb_order.specs.Order.{set_marks, HasNoCircle, IsDirectlyAbove, IsRank}
use Rattle.kb_order.proofs.OrderLaws.{above_from_strictly, strictly_from_directly}

pub set_marks_most : (marks : List Bool) → set_marks marks ≤ length marks
set_marks_most [] = omega arith
set_marks_most (true ∷ marks) = let h = set_marks_most marks in omega (arith, h)
set_marks_most (false ∷ marks) = let h = set_marks_most marks in omega (arith, h)

-- each mark that is set in one row is set in another
abbrev AreAmong : List Bool → List Bool → Type 0
AreAmong xs ys = (k : ℕ) → get_or xs k false ≡ true → get_or ys k false ≡ true

among_counts : (xs ys : List Bool) → length xs ≡ length ys → AreAmong xs ys → set_marks xs ≤ set_marks ys
among_counts [] [] e h = omega arith
among_counts [] (y ∷ ys) e h = omega arith
among_counts (x ∷ xs) [] e h = absurd (omega (arith, e))
among_counts (false ∷ xs) (y ∷ ys) e h = let r = among_counts xs ys (omega (arith, e)) (λ k. h (suc k)) in omega (arith, r)
among_counts (true ∷ xs) (false ∷ ys) e h = absurd (false≢true (h zero refl))
among_counts (true ∷ xs) (true ∷ ys) e h = let r = among_counts xs ys (omega (arith, e)) (λ k. h (suc k)) in omega (arith, r)

fewer : (xs ys : List Bool) → length xs ≡ length ys → AreAmong xs ys → (k : ℕ) → get_or xs k false ≡ false → get_or ys k false ≡ true
    → set_marks xs < set_marks ys
fewer xs [] e h k a b = absurd (false≢true b)
fewer [] (y ∷ ys) e h k a b = absurd (omega (arith, e))
fewer (true ∷ xs) (y ∷ ys) e h zero a b = absurd (false≢true (sym a))
fewer (false ∷ xs) (true ∷ ys) e h zero a b = let r = among_counts xs ys (omega (arith, e)) (λ k. h (suc k)) in omega (arith, r)
fewer (false ∷ xs) (false ∷ ys) e h zero a b = absurd (false≢true b)
fewer (false ∷ xs) (y ∷ ys) e h (suc k) a b = let r = fewer xs ys (omega (arith, e)) (λ k. h (suc k)) k a b in omega (arith, r)
fewer (true ∷ xs) (false ∷ ys) e h (suc k) a b = absurd (false≢true (h zero refl))
fewer (true ∷ xs) (true ∷ ys) e h (suc k) a b = let r = fewer xs ys (omega (arith, e)) (λ k. h (suc k)) k a b in omega (arith, r)

not_set : (b : Bool) → (b ≡ true → ⊥) → b ≡ false
not_set true f = absurd (f refl)
not_set false f = refl

-- where nothing stands on a circle, what stands directly above a number has the lower rank
pub rank_falls : (direct : List (List ℕ)) (low next : ℕ) (rank higher : ℕ) → HasNoCircle direct → IsDirectlyAbove direct low next
    → IsRank direct low rank → IsRank direct next higher → higher < rank
rank_falls direct low next rank higher f d r s =
    let m = r.1 in
    let n = s.1 in
    let lt = fewer s.0 r.0 (n.all ∙ sym m.all)
    (λ k e. (m.true_where k).1 (next, d, above_from_strictly direct next k ((n.true_where k).0 e)))
    next
    (not_set (get_or s.0 next false) (λ e. f next ((n.true_where next).0 e)))
    ((m.true_where next).1 (strictly_from_directly direct low next d)) in
    let a = r.2 in
    let b = s.2 in
    omega (arith, lt, a, b)

-- a number has one rank at most
pub rank_same : (direct : List (List ℕ)) (low rank other : ℕ) → IsRank direct low rank → IsRank direct low other → rank ≡ other
rank_same direct low rank other r s =
    let m = r.1 in
    let n = s.1 in
    let le = among_counts r.0 s.0 (m.all ∙ sym n.all) (λ k e. (n.true_where k).1 ((m.true_where k).0 e)) in
    let ge = among_counts s.0 r.0 (n.all ∙ sym m.all) (λ k e. (m.true_where k).1 ((n.true_where k).0 e)) in
    let a = r.2 in
    let b = s.2 in
    omega (arith, le, ge, a, b)
