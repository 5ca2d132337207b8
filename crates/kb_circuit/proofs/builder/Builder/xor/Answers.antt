use Rattle.std.proofs.Common.{subst}
use Rattle.kb_arith.specs.Word.{word_xor}
use Rattle.kb_circuit.specs.Meaning.{Computes}
use Rattle.kb_circuit.proofs.Computing.{if_ok}
use Rattle.kb_circuit.proofs.Bitwise.{xor_computes}
use Rattle.kb_circuit.proofs.builder.Builder.xor.Goals as goal

pub returns-clause-value : goal.returns-clause-value
returns-clause-value c =
    let left = c.args.left.now in
    let right = c.args.right.now in
    if_ok c.bitwise.result c.bitwise.ensures.built (λ out built.
    subst (λ r. Computes word_xor left right c.args.self.now r.0 r.1) built
    (xor_computes left right c.args.self.now c.truth-truth.ensures.circuit c.told-left c.told-right c.requires.left c.requires.right))
