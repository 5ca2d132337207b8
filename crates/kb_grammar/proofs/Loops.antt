-- Reading step by step, as a loop over a count does.
use Rattle.std.proofs.Common.{◌≡◌, ℕ, suc, ◌-◌, ◌+◌, ◌≤◌, ◌<◌, Result, Ok, Err, refl, sym, ◌∙◌, arith}
use Rattle.kb_grammar.specs.Reading.{Place, Reader, folded}

-- one more step
pub goes_on : {E A : Type 0} (step : A → Reader E A) (x next : A) (count i : ℕ) (p after : Place) (total : Result (A × Place) E)
    → i < count → step x p ≡ Ok (next, after) → folded step (count - i) x p ≡ total → folded step (count - (i + 1)) next after ≡ total
unfolding folded
goes_on step x next count i p after total lt h so_far =
    let k : count - i ≡ suc (count - (i + 1)) = omega arith in
    let one : folded step (count - i) x p ≡ folded step (count - (i + 1)) next after = rw (k, h) refl in
    sym one ∙ so_far

-- a fault
pub goes_wrong : {E A : Type 0} (step : A → Reader E A) (x : A) (count i : ℕ) (p : Place) (e : E) (total : Result (A × Place) E)
    → i < count → step x p ≡ Err e → folded step (count - i) x p ≡ total → total ≡ Err e
unfolding folded
goes_wrong step x count i p e total lt h so_far =
    let k : count - i ≡ suc (count - (i + 1)) = omega arith in
    let one : folded step (count - i) x p ≡ Err e = rw (k, h) refl in
    sym so_far ∙ one

-- no step is left
pub is_over : {E A : Type 0} (step : A → Reader E A) (x : A) (count i : ℕ) (p : Place) (total : Result (A × Place) E)
    → count ≤ i → folded step (count - i) x p ≡ total → total ≡ Ok (x, p)
unfolding folded
is_over step x count i p total le so_far =
    let k : count - i ≡ 0 = omega arith in
    let one : folded step (count - i) x p ≡ Ok (x, p) = rw k refl in
    sym so_far ∙ one
