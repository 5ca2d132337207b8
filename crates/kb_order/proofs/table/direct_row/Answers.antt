use Rattle.std.proofs.Common.{◌∙◌, true, get_or, length-set}
use Rattle.kb_order.proofs.RowLaws.{item_inside, row_more}
use Rattle.kb_order.proofs.table.direct_row.Goals as goal

pub set-requires : goal.set-requires
set-requires c =
    item_inside c.loop-high.row c.args.highs.now c.loop-high.high-index c.args.size c.loop-high.invariant.all c.requires c.loop-high-test.true

pub loop-high-preserved : goal.loop-high-preserved
loop-high-preserved c =
    let row = c.loop-high.row in
    let numbers = c.args.highs.now in
    let i = c.loop-high.high-index in
    let all = c.loop-high.invariant.all in
    let lt = c.loop-high-test.true in
    rw (c.set.ensures) record {
      all = length-set row (get_or numbers i 0) true ∙ all;
      marks = row_more row numbers i lt (item_inside row numbers i c.args.size all c.requires lt) c.loop-high.invariant.marks;
    }
