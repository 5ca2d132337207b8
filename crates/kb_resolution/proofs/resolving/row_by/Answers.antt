use Rattle.std.proofs.Common.{◌≡◌, length, min, arith}
use Rattle.kb_resolution.specs.Tables.{IsResolved, nothing}
use Rattle.kb_resolution.proofs.RowLaws.{one_more, is_row}
use Rattle.kb_resolution.proofs.resolving.row_by.Goals as goal

pub loop-entry-preserved : goal.loop-entry-preserved
loop-entry-preserved c =
    let more = one_more (IsResolved c.args.linked.now c.args.class) c.loop-entry.row c.push.new.self c.in_ok-told.told nothing c.loop-entry.entry c.in_ok-push.ensures.ok c.loop-entry.invariant.0
    c.loop-entry.invariant.1 c.in_ok-told.ensures.told in
    (more.0, more.1, c.in_ok-told.ensures.known)

pub returns : goal.returns
returns c =
    let most : c.loop-entry.entry ≡ min (length c.class_of.result.now.entries) 65536 =
    omega (arith, c.loop-entry-test.false, c.loop-entry.auto.entry-end, c.min-count.ensures, c.entry_count.ensures) in
    is_row c.args.linked.now c.args.class c.class_of.result.now c.loop-entry.row c.loop-entry.entry c.class_of.ensures.there most c.loop-entry.invariant.0 c.loop-entry.invariant.1
