-- Resolvents of stored clauses, as an elimination of variables forms them (Davis and Putnam, 1960; Eén and Biere, 2005).
use Rattle.std.specs.Prelude.{◌≡◌, ◌==◌, ◌||◌, ℕ, Bool, true, false, List}
use Rattle.kb_chain.specs.Literal.{Literal, has, negated}
use Rattle.kb_chain.specs.Clause.{has_only}
use Rattle.kb_propagate.specs.Tables.{IsDistinct}

-- the literals of two rows but the pivot's, without those that are negated in the set; the left row has the pivot, the right one its negation
pub record IsResolvent (zero : Literal → Bool) (left right : List Literal) (pivot : Literal) (row : List Literal) : Type 0 where
  pub left_has : has_only left pivot ≡ true
  pub right_has : has_only right (negated pivot) ≡ true
  pub part : (l : Literal) → has row l ≡ true → ((has left l || has right l) ≡ true) × ((l.variable == pivot.variable) ≡ false)
  pub rest : (l : Literal) → (has left l || has right l) ≡ true → (l.variable == pivot.variable) ≡ false → has row l ≡ false → zero (negated l) ≡ true
  pub valueless : (l : Literal) → has row l ≡ true → (zero l ≡ false) × (zero (negated l) ≡ false)
  pub once : IsDistinct row

-- the row has these literals but the variable's, each once, without those that are negated in the set; none of them is in it
pub record IsMerged (zero : Literal → Bool) (variable : ℕ) (literals row : List Literal) : Type 0 where
  pub part : (l : Literal) → has row l ≡ true → (has literals l ≡ true) × ((l.variable == variable) ≡ false)
  pub rest : (l : Literal) → has literals l ≡ true → (l.variable == variable) ≡ false → has row l ≡ false → zero (negated l) ≡ true
  pub valueless : (l : Literal) → has row l ≡ true → (zero l ≡ false) × (zero (negated l) ≡ false)
  pub once : IsDistinct row
