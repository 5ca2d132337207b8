-- What a search answers.
use Rattle.std.specs.Prelude.{◌≡◌, ℕ, ◌+◌, ◌<◌, ◌≤◌, true, false, List, [], Bool, length}
use Rattle.kb_chain.specs.Cnf.{Cnf}
use Rattle.kb_chain.specs.Clause.{Satisfies, assignment_of}
use Rattle.kb_chain.specs.Chains.{IsRefutation}
use Rattle.kb_chain.specs.Propagation.{IsFresh, UnitRefutes}
use Rattle.kb_propagate.specs.Base.{Stands, IsComplete, IsConflict, IsDoomed, IsReady}
use Rattle.kb_propagate.specs.Rows.{rows_of}
use Rattle.kb_propagate.specs.Watches.{pairs_of, IsAwake}
use Rattle.kb_sat.specs.Solver.{Equipped}
use Rattle.kb_sat.specs.declared.search.Search.{Search}
use Rattle.kb_sat.specs.declared.solver.Begun.{Begun}
use Rattle.kb_sat.specs.declared.solver.End.{End}
use Rattle.kb_sat.specs.declared.solver.Ended.{Ended}
use Rattle.kb_sat.specs.declared.solver.Progress.{Progress}
use Rattle.kb_sat.specs.declared.solver.Progress.TheVariants.{Complete, Doomed, Learned}
use Rattle.kb_chain.specs.declared.log.Chain.{Chain}
use Rattle.kb_chain.specs.declared.log.Log.{Log}
use Rattle.kb_log_cut.specs.Cutting.{IsCut}
use Rattle.kb_sat.specs.declared.solver.Solved.{Solved}
use Rattle.kb_sat.specs.declared.solver.Solved.TheVariants.{Sat, Unsat, Undecided}

abbrev pub IfSat : (List Bool → Type 0) → Solved → Type 0
IfSat P (Sat bits) = P bits
IfSat P (Unsat log) = Unit {0}
IfSat P (Undecided log) = Unit {0}

abbrev pub IfUnsat : (Log → Type 0) → Solved → Type 0
IfUnsat P (Sat bits) = Unit {0}
IfUnsat P (Unsat log) = P log
IfUnsat P (Undecided log) = Unit {0}

abbrev pub IfUndecided : (Log → Type 0) → Solved → Type 0
IfUndecided P (Sat bits) = Unit {0}
IfUndecided P (Unsat log) = Unit {0}
IfUndecided P (Undecided log) = P log

-- what an answer says of a formula
abbrev pub Solves : Cnf → ℕ → Solved → Type 0
Solves formula budget (Sat bits) = (length bits ≡ formula.vars) × Satisfies (assignment_of bits) formula.clauses
Solves formula budget (Unsat log) = IsRefutation formula.clauses log.entries × (length log.entries ≤ budget)
Solves formula budget (Undecided log) =
    IsFresh formula.clauses log.entries × (length log.entries ≡ budget) × (UnitRefutes formula.clauses → ⊥)

-- what is needed of a log of so many entries, behind the `first` clauses of a formula
abbrev pub IsCutOf : ℕ → ℕ → List Chain → Type 0
IsCutOf first count cut = (entries : List Chain) × (length entries ≡ count) × IsCut first entries cut

-- a search of this formula at its start
abbrev pub BegunIs : Cnf → Bool → Begun → Type 0
BegunIs formula lets_go (Begun.Doomed search number) =
    IsDoomed search.base number × (search.base.formula.now ≡ formula) × (search.base.entries ≡ [])
BegunIs formula lets_go (Begun.Ready search eliminated) =
    Stands search.base × Equipped search × IsReady search.base × (search.base.formula.now ≡ formula)
    × (search.base.whole ≡ true → search.base.entries ≡ []) × (lets_go ≡ false → search.base.whole ≡ true)

-- a search of this formula at its end: where the budget is spent, a clause that is watched is false
abbrev pub EndedIs : Cnf → ℕ → Ended → Type 0
EndedIs formula budget (Ended.Complete search) = Stands search.base × IsComplete search.base × (search.base.formula.now ≡ formula)
EndedIs formula budget (Ended.Doomed search number) =
    IsDoomed search.base number × (search.base.formula.now ≡ formula) × (length search.base.entries < budget)
EndedIs formula budget (Ended.Spent search number) =
    Stands search.base × (search.base.formula.now ≡ formula)
    × (search.base.whole ≡ true → (length search.base.entries ≡ budget) × (UnitRefutes formula.clauses → ⊥))
    × IsConflict (rows_of search.base.clauses) search.base.trail number × IsAwake (pairs_of search.base.clauses) number

-- the search at such an end
abbrev pub at_end : Search → End → Ended
at_end search End.Complete = Ended.Complete search
at_end search (End.Doomed number) = Ended.Doomed search number
at_end search (End.Spent number) = Ended.Spent search number

-- no clause was let go, or the search ended with a refutation
abbrev pub KeepsAll : Ended → Type 0
KeepsAll (Ended.Complete search) = search.base.whole ≡ true
KeepsAll (Ended.Doomed search number) = Unit {0}
KeepsAll (Ended.Spent search number) = search.base.whole ≡ true

-- the answer is undecided only where the search ended at a false clause
abbrev pub IsOpenOnly : Ended → Solved → Type 0
IsOpenOnly (Ended.Complete search) solved = IfUndecided (λ log. ⊥) solved
IsOpenOnly (Ended.Doomed search number) solved = IfUndecided (λ log. ⊥) solved
IsOpenOnly (Ended.Spent search number) solved = Unit {0}

-- how far a search came by its next conflict
abbrev pub ProgressIs : Search → Search → Progress → Type 0
ProgressIs old new Complete = IsComplete new.base
ProgressIs old new (Doomed number) = IsDoomed new.base number × (new.base.entries ≡ old.base.entries)
ProgressIs old new Learned =
    IsReady new.base × (length new.base.entries ≡ length old.base.entries + 1)
    × (new.base.whole ≡ true → UnitRefutes new.base.formula.now.clauses → ⊥)
