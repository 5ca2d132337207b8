use Rattle.std.proofs.Common.{◌≡◌, subst, rules}
use Rattle.kb_arith.specs.Word.{word_neg}
use Rattle.kb_circuit.specs.Words.{neg_word, sums}
use Rattle.kb_circuit.specs.Meaning.{Computes}
use Rattle.kb_circuit.proofs.Loops.{within-negated}
use Rattle.kb_circuit.proofs.Computing.{neg_computes}
use Rattle.kb_circuit.proofs.builder.Builder.neg.Goals as goal

pub plus-requires-clause-right : goal.plus-requires-clause-right
plus-requires-clause-right c = rw c.negated_bits.ensures (within-negated c.args.self.now.vars c.args.of.now c.requires)

pub returns-clause-value : goal.returns-clause-value
unfolding neg_word sums
returns-clause-value c =
    let of = c.args.of.now in
    let built : neg_word of c.args.self.now ≡ (c.in_ok-sums.sums, c.plus.new.self) = search rules in
    subst (λ r. Computes (λ a _. word_neg a) of of c.args.self.now r.0 r.1) built
    (neg_computes of c.args.self.now c.truth-carry.ensures.circuit c.told-of c.requires)
