-- What an elimination of variables keeps.
use Rattle.std.specs.Prelude.{◌≡◌, ℕ, ◌<◌, ◌++◌, ◌⊎◌, Bool, List, [], length, map, Some, slice_get}
use Rattle.kb_chain.specs.Cnf.{Cnf}
use Rattle.kb_chain.specs.Literal.{Literal, negated}
use Rattle.kb_eliminate.specs.Resolvents.{IsResolvent}
use Rattle.kb_propagate.specs.Base.{Stands, IsReady}
use Rattle.kb_propagate.specs.declared.base.Base.{Base}
use Rattle.kb_eliminate.specs.declared.elimination.Sides.{Sides}

-- the base of a search for this formula at level 0 that has decided nothing
pub record IsUndecided (cnf : Cnf) (b : Base) : Type 0 where
  pub stands : Stands b
  pub ready : IsReady b
  pub level : b.trail.starts ≡ []
  pub formula : b.formula.now ≡ cnf

-- the row is the resolvent of the rows of these numbers
pub record IsResolventAt (zero : Literal → Bool) (rows : List (List Literal)) (i j : ℕ) (pivot : Literal) (row : List Literal) : Type 0 where
  pub left : i < length rows
  pub right : j < length rows
  pub resolves : (l r : List Literal) → slice_get rows i ≡ Some l → slice_get rows j ≡ Some r → IsResolvent zero l r pivot row

-- the clauses of these numbers, each with this literal
abbrev pub each_with : Literal → List ℕ → List (Literal × ℕ)
each_with literal numbers = map (λ (n : ℕ). (literal, n)) numbers

-- nothing was noted, or behind what was there the clauses of both sides, each with its side's literal: those with the pivot first
abbrev pub AreGone : Sides → List (Literal × ℕ) → List (Literal × ℕ) → Type 0
AreGone sides old new =
    (new ≡ old) ⊎ (new ≡ (old ++ each_with sides.pivot sides.left.items) ++ each_with (negated sides.pivot) sides.right.items)
