use Rattle.kb_eliminate.specs.Elimination.{IsUndecided}
use Rattle.kb_eliminate.proofs.elimination.add_each.Given as goal

abbrev pub invariant-loop-right : goal.invariant-loop-right
invariant-loop-right l = IsUndecided l.fn.base.formula.now l.base
