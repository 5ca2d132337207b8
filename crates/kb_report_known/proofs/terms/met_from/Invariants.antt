use Rattle.std.proofs.Common.{reverse}
use Rattle.kb_report_known.proofs.Walking.{OnWay, weight}
use Rattle.kb_report_known.proofs.terms.met_from.Given as goal

abbrev pub invariant-loop-task : goal.invariant-loop-task
invariant-loop-task l = OnWay l.terms l.before l.root l.met l.tasks.items

abbrev pub decreases-loop-task : goal.decreases-loop-task
decreases-loop-task l = weight (reverse l.tasks.items)
