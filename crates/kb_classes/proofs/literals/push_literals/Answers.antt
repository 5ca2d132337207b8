use Rattle.std.proofs.Common.{◌<◌, length, arith}
use Rattle.kb_classes.specs.Mentions.{IsFoundText}
use Rattle.kb_classes.proofs.LiteralLaws.{goes_next, goes_done}
use Rattle.kb_classes.proofs.literals.push_literals.Goals as goal

pub loop-literal-init : goal.loop-literal-init
loop-literal-init c = rw c.into_iter-literal-iterator.ensures.into_iter_gives.0 (λ end adds. adds)

pub loop-literal-preserved : goal.loop-literal-preserved
loop-literal-preserved c =
    goes_next IsFoundText c.args.texts.now.items c.loop-literal.texts.items c.push_literal.new.texts.items c.args.literals.items c.in-Some.literal c.next.new.self.rest.items
    (rw c.in-Some.ensures.steps.0 at c.loop-literal.invariant) c.in_ok-push_literal.ensures

pub returns : goal.returns
returns c =
    let rest = c.loop-literal.literal-iterator.rest.items in
    let none : length rest < 1 = omega (arith, c.in-None.ensures.steps.0) in
    goes_done IsFoundText c.args.texts.now.items c.loop-literal.texts.items c.args.literals.items rest none c.loop-literal.invariant
