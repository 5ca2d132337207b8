use Rattle.std.proofs.Common.{◌<◌, length, sym, ◌∙◌, arith}
use Rattle.kb_resolution.proofs.MethodLaws.{found_here, found_later}
use Rattle.kb_resolution.proofs.methods.found_above.Goals as goal

pub returns-in-Some : goal.returns-in-Some
returns-in-Some c =
    let inside : c.loop-number.number < length c.args.linked.now.classes = omega (arith, c.loop-number-test.true, c.class_count-number-end.ensures) in
    sym (found_here c.args.linked.now c.args.low c.args.wanted.name.now c.args.wanted.kind.now c.loop-number.number c.in-Some.id inside c.in-Some.ensures) ∙ c.loop-number.invariant

pub loop-number-preserved : goal.loop-number-preserved
loop-number-preserved c =
    let inside : c.loop-number.number < length c.args.linked.now.classes = omega (arith, c.loop-number-test.true, c.class_count-number-end.ensures) in
    sym (found_later c.args.linked.now c.args.low c.args.wanted.name.now c.args.wanted.kind.now c.loop-number.number inside (sym c.in_default.is ∙ c.found_if_above.ensures)) ∙ c.loop-number.invariant
