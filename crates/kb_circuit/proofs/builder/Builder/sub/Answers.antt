use Rattle.std.proofs.Common.{◌≡◌, subst, rules}
use Rattle.kb_arith.specs.Word.{word_sub}
use Rattle.kb_circuit.specs.Words.{sub_word, sums}
use Rattle.kb_circuit.specs.Meaning.{Computes}
use Rattle.kb_circuit.proofs.Loops.{within-negated}
use Rattle.kb_circuit.proofs.Computing.{sub_computes}
use Rattle.kb_circuit.proofs.builder.Builder.sub.Goals as goal

pub plus-requires-clause-right : goal.plus-requires-clause-right
plus-requires-clause-right c = rw c.negated_bits.ensures (within-negated c.args.self.now.vars c.args.right.now c.requires.right)

pub returns-clause-value : goal.returns-clause-value
unfolding sub_word sums
returns-clause-value c =
    let left = c.args.left.now in
    let right = c.args.right.now in
    let built : sub_word left right c.args.self.now ≡ (c.in_ok-sums.sums, c.plus.new.self) = search rules in
    subst (λ r. Computes word_sub left right c.args.self.now r.0 r.1) built
    (sub_computes left right c.args.self.now c.truth-carry.ensures.circuit c.told-left c.told-right c.requires.left c.requires.right)
