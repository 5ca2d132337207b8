use Rattle.std.proofs.Common.{ap, sym, ◌∙◌}
use Rattle.kb_order.specs.Order.{stands}
use Rattle.kb_order.proofs.OrderLaws.{directly_from_item}
use Rattle.kb_order.proofs.table.direct_table.Goals as goal

pub direct_row-requires : goal.direct_row-requires
direct_row-requires c high is =
    let direct = c.args.direct.now in
    let i = c.loop-highs.highs-index in
    let item = c.highs-item.result in
    c.requires i high (directly_from_item direct i item high c.loop-highs-test.true c.highs-item.is (ap (stands high) (sym c.as_slice.ensures) ∙ is))
