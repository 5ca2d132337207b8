use Rattle.kb_circuit.proofs.Loops.{within-negated}
use Rattle.kb_circuit.proofs.builder.Builder.below.Goals as goal

pub plus-requires-clause-right : goal.plus-requires-clause-right
plus-requires-clause-right c = rw c.negated_bits.ensures (within-negated c.args.self.now.vars c.args.right.now c.requires.right)
