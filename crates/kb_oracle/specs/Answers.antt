-- What an oracle's answer says of the query that was asked.
use Rattle.std.specs.Prelude.{◌≡◌, ◌≢◌, ℕ, ℤ, pos, List, [], ◌∷◌, ◌++◌, length, Option, Some, None, slice_get, Contains}
use Rattle.std.specs.Option.{option_map}
use Rattle.kb_outside.specs.Outside.{next_count}
use Rattle.kb_chain.specs.Literal.{Literal}
use Rattle.kb_chain.specs.Chains.{EachEntry, IsRefutation}
use Rattle.kb_chain.specs.Propagation.{IsFresh}
use Rattle.kb_chain.specs.declared.log.Log.{Log}
use Rattle.kb_terms.specs.declared.node.VarKind.{VarKind}
use Rattle.kb_terms.specs.Terms.{int_at}
use Rattle.kb_blast.specs.Query.{Query}
use Rattle.kb_blast.specs.Conditions.{occurring, formula_of}
use Rattle.kb_blast.specs.Meaning.{KindFits, Meets}
use Rattle.kb_oracle.specs.declared.answer.Answer.{Answer}
use Rattle.kb_oracle.specs.declared.answer.Answer.TheVariants.{Model, Refuted, Undecided}
use Rattle.kb_oracle.specs.declared.answer.OracleStop.{OracleStop}
use Rattle.kb_oracle.specs.declared.answer.OracleStop.TheVariants.{Bad, NoMemory}

-- ---- what each answer says of a query

-- a value for each variable, which it can be; 0 for each that does not occur in the conditions; and these meet the conditions
pub record IsModelOf (q : Query) (values : List ℤ) : Type 0 where
  pub count : length values ≡ length q.kinds
  pub fits : (v : ℕ) (kind : VarKind) → slice_get q.kinds v ≡ Some kind → KindFits kind (int_at values v)
  pub absent : (v : ℕ) → (Contains (occurring q.terms) v → ⊥) → int_at values v ≡ pos 0
  pub met : Meets q values

abbrev pub IsNotEmpty : List (List Literal) → List Literal → Type 0
IsNotEmpty _ clause = clause ≢ []

-- a log with so many entries, each new to unit propagation on the query's formula and the entries before it, and none empty
pub record LeavesOpen (q : Query) (budget : ℕ) (log : Log) : Type 0 where
  pub fresh : IsFresh (formula_of q).clauses log.entries
  pub count : length log.entries ≡ budget
  pub filled : EachEntry IsNotEmpty (formula_of q).clauses log.entries

-- the answer is true of the query; an undecided one has as many entries as the budget
abbrev pub IsAnswerTo : Query → ℕ → Answer → Type 0
IsAnswerTo q budget (Model values) = IsModelOf q values
IsAnswerTo q budget (Refuted log) = IsRefutation (formula_of q).clauses log.entries
IsAnswerTo q budget (Undecided log) = LeavesOpen q budget log

-- ---- a fact for one kind of answer or stop

abbrev pub IfModel : (List ℤ → Type 0) → Answer → Type 0
IfModel P (Model values) = P values
IfModel P (Refuted log) = Unit {0}
IfModel P (Undecided log) = Unit {0}

abbrev pub IfRefuted : (Log → Type 0) → Answer → Type 0
IfRefuted P (Model values) = Unit {0}
IfRefuted P (Refuted log) = P log
IfRefuted P (Undecided log) = Unit {0}

abbrev pub OnUndecided : Type 0 → Answer → Type 0
OnUndecided P (Model values) = Unit {0}
OnUndecided P (Refuted log) = Unit {0}
OnUndecided P (Undecided log) = P

-- the answer is a model or a refutation
abbrev pub IsDecided : Answer → Type 0
IsDecided answer = OnUndecided ⊥ answer

abbrev pub IfBad : (ℕ → Type 0) → OracleStop → Type 0
IfBad P (Bad i) = P i
IfBad P NoMemory = Unit {0}

-- ---- what an oracle keeps of its answers

-- the count of undecided answers after one more answer
abbrev pub unsure_after : ℕ → Answer → ℕ
unsure_after unsure (Model values) = unsure
unsure_after unsure (Refuted log) = unsure
unsure_after unsure (Undecided log) = next_count unsure

-- the count of bad answers after one more stop
abbrev pub bad_after : ℕ → OracleStop → ℕ
bad_after bad (Bad i) = next_count bad
bad_after bad NoMemory = bad

-- answers that are not told
abbrev pub untold : Option (List Answer)
untold = None

-- the answers, where they are told, have gained this one at their end
abbrev pub Gains : Option (List Answer) → Option (List Answer) → Answer → Type 0
Gains before now answer = now ≡ option_map (λ (answers : List Answer). answers ++ answer ∷ []) before
