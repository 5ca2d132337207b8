-- Literals in the order in which they were reached, with a table of them.
use Rattle.std.specs.Prelude.{◌≡◌, ℕ, ◌+◌, Bool, List, length, cond, sum_by}
use Rattle.kb_chain.specs.Literal.{Literal, has}
use Rattle.kb_chain.specs.Working.{marked}

-- the literals, and the places of the table
pub record Reached : Type 0 where
  pub places : ℕ
  pub literals : List Literal

-- how many places are not marked
abbrev pub unmarked : List Bool → ℕ
unmarked marks = sum_by (λ b. cond b 0 1) marks

-- the marks are those of the literals, each of which stands once
pub record IsMarked (marks : List Bool) (literals : List Literal) : Type 0 where
  pub same : (l : Literal) → marked marks l ≡ has literals l
  pub room : unmarked marks + length literals ≡ length marks
