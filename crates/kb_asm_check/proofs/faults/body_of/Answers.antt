use Rattle.std.proofs.Common.{sym, ◌∙◌, arith}
use Rattle.kb_asm_check.proofs.BodyLaws.{take_body, no_body, all_body}
use Rattle.kb_asm_check.proofs.faults.body_of.Goals as goal

pub returns-then-not-is_body : goal.returns-then-not-is_body
returns-then-not-is_body c =
    let none = no_body c.loop-rest.rest.now c.line-item.result c.in-len1-up.len_at_least c.line-item.is (sym c.is_body.ensures ∙ c.if-not-is_body.true) in
    let body = c.loop-rest.invariant.body in
    take_body c.args.lines.now c.loop-rest.count (omega (arith, none, body))

pub returns : goal.returns
returns c = all_body c.args.lines.now c.loop-rest.rest.now c.loop-rest.count c.in_default.len_below c.loop-rest.invariant.body c.loop-rest.invariant.place
