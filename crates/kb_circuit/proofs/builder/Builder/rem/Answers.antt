use Rattle.std.proofs.Common.{subst, arith}
use Rattle.kb_arith.specs.Word.{word_rem}
use Rattle.kb_chain.proofs.CnfLaws.{IsWithin_more}
use Rattle.kb_circuit.specs.Meaning.{Computes}
use Rattle.kb_circuit.proofs.Computing.{if_ok}
use Rattle.kb_circuit.proofs.Dividing.{rem_computes}
use Rattle.kb_circuit.proofs.DividingLoops.{sign_is, rem_built}
use Rattle.kb_circuit.proofs.builder.Builder.rem.Goals as goal

pub any_bit-requires : goal.any_bit-requires
any_bit-requires c =
    let a = c.absolute_division.ensures.grows in
    let d = c.neg.ensures.grows in
    IsWithin_more c.args.self.now.vars c.neg.new.self.vars c.args.right.now (omega arith) c.requires.right

pub bitwise-requires-clause-left : goal.bitwise-requires-clause-left
bitwise-requires-clause-left c = IsWithin_more _ _ _ c.any_bit.ensures.grows c.in_ok-negative.ensures.value.within

pub bitwise-requires-clause-right : goal.bitwise-requires-clause-right
bitwise-requires-clause-right c =
    let b = c.neg.ensures.grows in
    let d = c.any_bit.ensures.grows in
    IsWithin_more c.absolute_division.new.self.vars c.any_bit.new.self.vars c.in_ok-division.division.remainder (omega arith) c.in_ok-division.ensures.remainder

pub returns-clause-value : goal.returns-clause-value
returns-clause-value c =
    let left = c.args.left.now in
    let right = c.args.right.now in
    if_ok c.bitwise.result c.bitwise.ensures.built (λ out built.
    subst (λ r. Computes word_rem left right c.args.self.now r.0 r.1)
    (rem_built left right c.in_ok-division.division.quotient c.in_ok-division.division.remainder c.in_ok-negative.negative _ c.in_ok-nonzero.nonzero c.args.self.now
    c.absolute_division.new.self c.neg.new.self c.any_bit.new.self (out, c.bitwise.new.self) (sign_is left c.index-left-31.result c.told-left)
    c.in_ok-division.ensures.built c.in_ok-negative.ensures.formula c.in_ok-nonzero.ensures.built built)
    (rem_computes left right c.args.self.now c.truth-truth.ensures.circuit c.told-left c.told-right c.requires.left c.requires.right))
