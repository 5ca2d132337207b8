-- What a search answers about a formula and the words of its variables, whatever query they come from.
use Rattle.std.specs.Prelude.{◌≡◌, ℕ, ◌≤◌, ℤ, pos, Bool, List, length}
use Rattle.kb_chain.specs.Chains.{IsRefutation}
use Rattle.kb_chain.specs.Clause.{Satisfies}
use Rattle.kb_chain.specs.Cnf.{Cnf}
use Rattle.kb_chain.specs.Propagation.{IsFresh, UnitRefutes}
use Rattle.kb_chain.specs.declared.log.Log.{Log}
use Rattle.kb_terms.specs.Terms.{int_at}
use Rattle.kb_blast.specs.Conditions.{Words}
use Rattle.kb_blast.specs.Meaning.{Reads, IsElsewhere}
use Rattle.kb_oracle.specs.declared.answer.Answer.{Answer}
use Rattle.kb_oracle.specs.declared.answer.Answer.TheVariants.{Model, Refuted, Undecided}

-- a value for each of so many variables: what the words spell under an assignment that satisfies the formula, and 0 where there is no word
pub record IsModelRead (words : Words) (formula : Cnf) (variables : ℕ) (values : List ℤ) : Type 0 where
  pub count : length values ≡ variables
  pub read : (assignment : ℕ → Bool) × Satisfies assignment formula.clauses × Reads assignment words values
  pub others : (v : ℕ) → IsElsewhere v words → int_at values v ≡ pos 0

-- so many entries, each new to unit propagation on the formula and the entries before it; and the formula is none that unit
-- propagation refutes
pub record LeavesFormulaOpen (formula : Cnf) (budget : ℕ) (log : Log) : Type 0 where
  pub fresh : IsFresh formula.clauses log.entries
  pub count : length log.entries ≡ budget
  pub unrefuted : UnitRefutes formula.clauses → ⊥

-- the answer is true of the formula, with so many variables, and keeps to the budget
abbrev pub IsFound : Words → Cnf → ℕ → ℕ → Answer → Type 0
IsFound words formula variables budget (Model values) = IsModelRead words formula variables values
IsFound words formula variables budget (Refuted log) = IsRefutation formula.clauses log.entries × (length log.entries ≤ budget)
IsFound words formula variables budget (Undecided log) = LeavesFormulaOpen formula budget log
