use Rattle.std.proofs.Common.{◌≡◌, reverse, length}
use Rattle.kb_terms.specs.Numbering.{visit}
use Rattle.kb_terms.proofs.Walking.{finish, AreTasks, weight}
use Rattle.kb_terms.proofs.numbering.walk.Given as goal

abbrev pub invariant-loop-task : goal.invariant-loop-task
invariant-loop-task l = AreTasks l.nodes (reverse l.tasks.items) × (finish l.nodes (reverse l.tasks.items) l.terms.keys ≡ visit (length l.nodes) l.nodes l.fn.terms.keys l.fn.root)

abbrev pub decreases-loop-task : goal.decreases-loop-task
decreases-loop-task l = weight (reverse l.tasks.items)
