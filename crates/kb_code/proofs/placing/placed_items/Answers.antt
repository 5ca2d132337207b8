use Rattle.std.proofs.Common.{◌≡◌, length, arith}
use Rattle.std.proofs.lemmas.Result.{err_from_is_err_and}
use Rattle.kb_code.specs.Answers.{each_of, placed_item}
use Rattle.kb_code.specs.Starts.{starts_in}
use Rattle.kb_code.proofs.Steps.{each_first, each_further, each_fault, each_last}
use Rattle.kb_code.proofs.PlacingLaws.{item_is_placed, item_fails}
use Rattle.kb_code.proofs.placing.placed_items.Goals as goal

pub loop-at-init : goal.loop-at-init
loop-at-init c =
    rw (c.new-listing.ensures.items, c.into_iter-at-iterator.ensures.into_iter_gives.0) (each_first (each_of (placed_item (starts_in c.args.table.now)) c.args.items.items))

pub returns-in_err-instr : goal.returns-in_err-instr
returns-in_err-instr c =
    let p = err_from_is_err_and c.from_residual.result c.from_residual.ensures.1 in
    let so_far = rw c.in-Some.ensures.steps.0 at c.loop-at.invariant in
    rw (p.1, p.2)
    (each_fault (placed_item (starts_in c.args.table.now)) c.loop-at.listing.items (c.in-Some.at, c.in-Some.loose) c.next.new.self.rest.items (each_of (placed_item (starts_in c.args.table.now)) c.args.items.items) c.in_err-instr.field-0.0
    (item_fails (starts_in c.args.table.now) c.in-Some.at c.in-Some.loose c.in_err-instr.field-0.0 c.in_err-instr.ensures) so_far)

pub loop-at-preserved : goal.loop-at-preserved
loop-at-preserved c =
    let so_far = rw c.in-Some.ensures.steps.0 at c.loop-at.invariant in
    rw (c.in_ok-push.ensures.items)
    (each_further (placed_item (starts_in c.args.table.now)) c.loop-at.listing.items (c.in-Some.at, c.in-Some.loose) (c.in-Some.at, c.in_ok-instr.instr) c.next.new.self.rest.items (each_of (placed_item (starts_in c.args.table.now)) c.args.items.items)
    (item_is_placed (starts_in c.args.table.now) c.in-Some.at c.in-Some.loose c.in_ok-instr.instr c.in_ok-instr.ensures) so_far)

pub returns : goal.returns
returns c =
    let none : length c.loop-at.at-iterator.rest.items ≡ 0 = omega (arith, c.in-None.ensures.steps.0) in
    each_last (placed_item (starts_in c.args.table.now)) c.loop-at.listing.items c.loop-at.at-iterator.rest.items (each_of (placed_item (starts_in c.args.table.now)) c.args.items.items) none c.loop-at.invariant
