use Rattle.kb_eliminate.specs.Elimination.{IsUndecided}
use Rattle.kb_eliminate.proofs.elimination.add_all.Given as goal

abbrev pub invariant-loop-left : goal.invariant-loop-left
invariant-loop-left l = IsUndecided l.fn.base.formula.now l.base
