-- What the oracles of this crate are to their callers.
use Rattle.std.specs.Prelude.{◌≡◌, ◌⊎◌, ℕ, ◌==◌, List, [], ◌∷◌, ◌++◌, find, Option, Some, None, Result, Ok, Err}
use Rattle.std.specs.Option.{option_map}
use Rattle.kb_outside.specs.Outside.{next_count}
use Rattle.kb_chain.specs.declared.log.Log.{Log}
use Rattle.kb_blast.specs.Query.{Query}
use Rattle.kb_oracle.specs.declared.answer.Answer.{Answer}
use Rattle.kb_oracle.specs.declared.answer.Answer.TheVariants.{Undecided}
use Rattle.kb_oracle.specs.declared.answer.OracleStop.{OracleStop}
use Rattle.kb_oracle.specs.declared.answer.OracleStop.TheVariants.{Bad, NoMemory}
use Rattle.kb_oracle.specs.declared.told_oracle.Told.{Told}
use Rattle.kb_oracle.specs.declared.told_oracle.Told.TheVariants.{Bad as ToldBad, Undecided as ToldUndecided, NoMemory as ToldNoMemory}
use Rattle.kb_oracle.specs.Answers.{LeavesOpen, IsDecided, unsure_after}

-- the solver as an oracle: its budget, and how many answers were undecided
pub record SolverState : Type 0 where
  pub budget : ℕ
  pub unsure : ℕ

-- ---- an oracle that is told what to do

-- its budget, what it is told and at which calls, the number of the next call, the counts, and the answers so far
pub record ToldState : Type 0 where
  pub budget : ℕ
  pub told : List (ℕ × Told)
  pub calls : ℕ
  pub bad : ℕ
  pub unsure : ℕ
  pub given : List Answer

-- what a call is told: the first thing that stands beside its number
abbrev pub told_at : List (ℕ × Told) → ℕ → Option Told
told_at told call = option_map (λ (t : ℕ × Told). t.1) (find (λ (t : ℕ × Told). t.0 == call) told)

-- a fact for an answer; no stop but that memory ran out
abbrev pub ForAnswer : (Answer → Type 0) → Result Answer OracleStop → Type 0
ForAnswer P (Ok answer) = P answer
ForAnswer P (Err (Bad i)) = ⊥
ForAnswer P (Err NoMemory) = Unit {0}

-- the answer is this log where it leaves the query open, and else the query is decided
abbrev pub IsHandedOn : Query → ℕ → Log → Answer → Type 0
IsHandedOn q budget log answer =
    (LeavesOpen q budget log × (answer ≡ Undecided log)) ⊎ ((LeavesOpen q budget log → ⊥) × IsDecided answer)

-- what a call does by what it is told: it stops as it is told; or it hands on the log; and where it is told nothing it decides
abbrev pub DoesAsTold : Query → ℕ → Option Told → Result Answer OracleStop → Type 0
DoesAsTold q budget (Some (ToldBad i)) result = result ≡ Err (Bad i)
DoesAsTold q budget (Some ToldNoMemory) result = result ≡ Err NoMemory
DoesAsTold q budget (Some (ToldUndecided log)) result = ForAnswer (IsHandedOn q budget log) result
DoesAsTold q budget None result = ForAnswer IsDecided result

-- some call is told to stop with this number
abbrev pub IsToldBad : List (ℕ × Told) → ℕ → Type 0
IsToldBad told i = (call : ℕ) × (told_at told call ≡ Some (ToldBad i))

-- the oracle after a call
abbrev pub told_after : ToldState → Result Answer OracleStop → ToldState
told_after s (Ok answer) = record s {
  calls = next_count s.calls;
  unsure = unsure_after s.unsure answer;
  given = s.given ++ answer ∷ [];
}
told_after s (Err (Bad i)) = record s { calls = next_count s.calls; bad = next_count s.bad }
told_after s (Err NoMemory) = record s { calls = next_count s.calls }
