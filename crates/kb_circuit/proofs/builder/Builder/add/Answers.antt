use Rattle.std.proofs.Common.{◌≡◌, subst, rules}
use Rattle.kb_arith.specs.Word.{word_add}
use Rattle.kb_circuit.specs.Words.{add_word, sums}
use Rattle.kb_circuit.specs.Meaning.{Computes}
use Rattle.kb_circuit.proofs.Computing.{add_computes}
use Rattle.kb_circuit.proofs.builder.Builder.add.Goals as goal

pub returns-clause-value : goal.returns-clause-value
unfolding add_word sums
returns-clause-value c =
    let left = c.args.left.now in
    let right = c.args.right.now in
    let built : add_word left right c.args.self.now ≡ (c.in_ok-sums.sums, c.plus.new.self) = search rules in
    subst (λ r. Computes word_add left right c.args.self.now r.0 r.1) built
    (add_computes left right c.args.self.now c.truth.ensures.circuit c.told-left c.told-right c.requires.left c.requires.right)
