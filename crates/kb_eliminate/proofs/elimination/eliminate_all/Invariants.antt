use Rattle.kb_eliminate.specs.Elimination.{IsUndecided}
use Rattle.kb_eliminate.proofs.elimination.eliminate_all.Given as goal

abbrev pub invariant-loop-candidate : goal.invariant-loop-candidate
invariant-loop-candidate l = IsUndecided l.fn.base.formula.now l.base
