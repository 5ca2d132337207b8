use Rattle.std.proofs.Common.{arith, ap, ◌∙◌, ◌≡◌, [], ◌∷◌, ◌++◌, length, ◌+◌}
use Rattle.kb_propagate.specs.FlatLog.{chains_of}
use Rattle.kb_propagate.proofs.FlatLogLaws.{within_more, within_entry, chains_pushed}
use Rattle.kb_propagate.proofs.flat_log.FlatLog.push.Goals as goal

pub invariant_of-self-in_err-push : goal.invariant_of-self-in_err-push
invariant_of-self-in_err-push c =
    rw (c.in_ok-extend_from_slice.ensures.items, c.in_err-push.ensures.items)
    (within_more c.self.inside.steps.items c.args.steps.now c.self.inside.entries.items c.self.invariant)

pub invariant_of-self-2 : goal.invariant_of-self-2
invariant_of-self-2 c =
    let steps = c.self.inside.steps.items in
    let entries = c.self.inside.entries.items in
    let more = c.args.steps.now in
    let start : c.len-first.result ≡ length steps = omega (arith, c.len-first.ensures) in
    let end : c.len-first.result + length more ≡ length steps + length more = omega (arith, start) in
    rw (c.in_ok-extend_from_slice.ensures.items, c.in_ok-push.ensures.items) (within_entry steps more entries _ c.self.invariant start end)

pub returns : goal.returns
returns c =
    let steps = c.self.inside.steps.items in
    let entries = c.self.inside.entries.items in
    let more = c.args.steps.now in
    let start : c.len-first.result ≡ length steps = omega (arith, c.len-first.ensures) in
    let end : c.len-first.result + length more ≡ length steps + length more = omega (arith, start) in
    ap (λ items. chains_of items c.push.new.self.items) c.in_ok-extend_from_slice.ensures.items
    ∙ ap (chains_of (steps ++ more)) c.in_ok-push.ensures.items
    ∙ chains_pushed steps more entries _ c.self.invariant start end
    ∙ ap (λ z. z ++ record { start = c.args.start; steps = more } ∷ []) c.self.view_is
