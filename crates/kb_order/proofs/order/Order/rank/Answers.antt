use Rattle.std.proofs.Common.{arith}
use Rattle.kb_order.proofs.RankLaws.{set_marks_most, rank_falls}
use Rattle.kb_order.proofs.order.Order.rank.Goals as goal

pub count_set-requires : goal.count_set-requires
count_set-requires c = let e = c.marks_above.ensures.marks.all in let f = c.marks_above.ensures.few in omega (arith, e, f)

pub returns-clause-most : goal.returns-clause-most
returns-clause-most c =
    let e = c.marks_above.ensures.marks.all in
    let f = set_marks_most c.marks_above.result.now in
    let g = c.count_set.ensures in
    omega (arith, e, f, g)

pub returns-clause-falls : goal.returns-clause-falls
returns-clause-falls c none next rank directly is =
    rank_falls c.args.self.now c.args.low next c.count_set.result rank none directly
    (c.marks_above.result.now, c.marks_above.ensures.marks, c.count_set.ensures) is
