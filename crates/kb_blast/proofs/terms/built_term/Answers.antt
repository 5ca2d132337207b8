use Rattle.kb_blast.proofs.Loops.{operand-within, second-within}
use Rattle.kb_blast.proofs.terms.built_term.Goals as goal

pub operation-requires-clause-left : goal.operation-requires-clause-left
operation-requires-clause-left c = rw c.operand_word-left.ensures (operand-within c.args.builder.now.vars c.args.vars.now.entries c.args.words.now c.args.term.now.left c.truth-truth.ensures.circuit.variable c.requires.vars c.requires.words)

pub operation-requires-clause-right : goal.operation-requires-clause-right
operation-requires-clause-right c = rw c.second_word-right.ensures (second-within c.args.builder.now.vars c.args.vars.now.entries c.args.words.now c.args.term.now.right c.truth-truth.ensures.circuit.variable c.requires.vars c.requires.words)
