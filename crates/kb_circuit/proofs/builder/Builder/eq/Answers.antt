use Rattle.std.proofs.Common.{◌≡◌, subst, rules}
use Rattle.kb_arith.specs.Word.{word_eq}
use Rattle.kb_circuit.specs.Words.{eq_word}
use Rattle.kb_circuit.specs.Meaning.{Computes}
use Rattle.kb_circuit.proofs.Comparing.{eq_computes}
use Rattle.kb_circuit.proofs.builder.Builder.eq.Goals as goal

pub returns-clause-value : goal.returns-clause-value
unfolding eq_word
returns-clause-value c =
    let left = c.args.left.now in
    let right = c.args.right.now in
    let built : eq_word left right c.args.self.now ≡ (c.truth_bits.result, c.equal.new.self) = search rules in
    subst (λ r. Computes word_eq left right c.args.self.now r.0 r.1) built
    (eq_computes left right c.args.self.now c.truth-truth.ensures.circuit c.told-left c.told-right c.requires.left c.requires.right)
