use Rattle.kb_chain.proofs.CnfLaws.{IsWithin_more}
use Rattle.kb_circuit.proofs.builder.Builder.with_row.Goals as goal

pub add-requires-clause-left : goal.add-requires-clause-left
add-requires-clause-left c = IsWithin_more c.args.self.now.vars c.row.new.self.vars c.args.sum.now c.row.ensures.grows c.requires.sum
