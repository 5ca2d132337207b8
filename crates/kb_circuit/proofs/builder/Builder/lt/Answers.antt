use Rattle.std.proofs.Common.{◌≡◌, subst, rules}
use Rattle.kb_arith.specs.Word.{word_lt}
use Rattle.kb_circuit.specs.Words.{lt_word}
use Rattle.kb_circuit.specs.Meaning.{Computes}
use Rattle.kb_circuit.proofs.Loops.{within-sign_negated}
use Rattle.kb_circuit.proofs.Comparing.{lt_computes}
use Rattle.kb_circuit.proofs.builder.Builder.lt.Goals as goal

pub below-requires-clause-left : goal.below-requires-clause-left
below-requires-clause-left c = rw c.sign_negated.ensures (within-sign_negated c.args.self.now.vars c.args.left.now c.requires.left)

pub below-requires-clause-right : goal.below-requires-clause-right
below-requires-clause-right c = rw c.sign_negated-2.ensures (within-sign_negated c.args.self.now.vars c.args.right.now c.requires.right)

pub returns-clause-value : goal.returns-clause-value
unfolding lt_word
returns-clause-value c =
    let left = c.args.left.now in
    let right = c.args.right.now in
    let built : lt_word left right c.args.self.now ≡ (c.truth_bits.result, c.below.new.self) = search rules in
    subst (λ r. Computes word_lt left right c.args.self.now r.0 r.1) built
    (lt_computes left right c.args.self.now c.below.ensures.circuit c.told-left c.told-right c.requires.left c.requires.right)
