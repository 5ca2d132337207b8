use Rattle.std.proofs.Common.{◌-◌, length}
use Rattle.kb_terms.specs.Terms.{AreFirstValues}
use Rattle.kb_terms.proofs.pool.extend.Given as goal

abbrev pub invariant-loop-node : goal.invariant-loop-node
invariant-loop-node l = AreFirstValues l.inputs l.nodes l.computed.items

abbrev pub decreases-loop-node : goal.decreases-loop-node
decreases-loop-node l = length l.nodes - length l.computed.items
