use Rattle.std.proofs.Common.{subst, ℤ, FitsSigned, OkIff}
use mir.Syntax.{w32}
use Rattle.kb_grammar.proofs.NumberLaws.{minus_read, minus_none, minus_zero, negated}
use Rattle.kb_grammar.proofs.numbers.with_minus.Goals as goal

pub returns : goal.returns
returns c =
    let number = c.in_ok-number.number in
    rw c.ok.ensures.value (minus_read number c.args.digits.now c.try_from.result c.in_ok-number.ensures c.if-number-eq0.false
    (subst (λ (z : ℤ). OkIff c.try_from.result (FitsSigned w32 z) z) (negated number c.from.result c.in_ok-number.ensures.0 c.from.ensures) c.try_from.ensures))

pub returns-then-number-eq0 : goal.returns-then-number-eq0
returns-then-number-eq0 c = minus_zero c.in_ok-number.number c.args.digits.now c.if-number-eq0.true c.in_ok-number.ensures

pub returns-in_err-number : goal.returns-in_err-number
returns-in_err-number c = rw c.from_residual.ensures (minus_none c.args.digits.now c.in_err-number.ensures)
