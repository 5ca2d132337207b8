use Rattle.std.proofs.Common.{true≢false, sym, ◌∙◌}
use Rattle.kb_link.proofs.SharedPairs.{any_shares}
use Rattle.kb_link.proofs.packages.is_shared.Goals as goal

pub returns-then-not-is_of_package : goal.returns-then-not-is_of_package
returns-then-not-is_of_package c = (
  (λ no. absurd (true≢false (sym no))),
  (λ shared. absurd (true≢false (sym shared.of_package ∙ sym c.is_of_package.ensures ∙ c.if-not-is_of_package.true))),
)

pub returns : goal.returns
returns c =
    let told = any_shares c.args.classes.now c.args.numbers.now c.requires.1 c.requires.0 c.args.method.now c.args.pair c.requires.2 c.args.above.now in (
      (λ yields. record { of_package = sym c.is_of_package.ensures ∙ c.if-not-is_of_package.false; above = told.0 (sym c.shares_above.ensures ∙ yields) }),
      (λ shared. c.shares_above.ensures ∙ told.1 shared.above),
    )
