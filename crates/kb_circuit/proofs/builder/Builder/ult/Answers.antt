use Rattle.std.proofs.Common.{◌≡◌, subst, rules}
use Rattle.kb_arith.specs.Word.{word_ult}
use Rattle.kb_circuit.specs.Words.{ult_word}
use Rattle.kb_circuit.specs.Meaning.{Computes}
use Rattle.kb_circuit.proofs.Computing.{ult_computes}
use Rattle.kb_circuit.proofs.builder.Builder.ult.Goals as goal

pub returns-clause-value : goal.returns-clause-value
unfolding ult_word
returns-clause-value c =
    let left = c.args.left.now in
    let right = c.args.right.now in
    let built : ult_word left right c.args.self.now ≡ (c.truth_bits.result, c.below.new.self) = search rules in
    subst (λ r. Computes word_ult left right c.args.self.now r.0 r.1) built
    (ult_computes left right c.args.self.now c.below.ensures.circuit c.told-left c.told-right c.requires.left c.requires.right)
