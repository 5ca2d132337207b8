use Rattle.std.proofs.Common.{arith, ◌<◌, length}
use Rattle.kb_classes.proofs.Filling.{next_inside, next_placed}
use Rattle.kb_classes.proofs.placing.placing_of.Goals as goal

pub index_mut-requires : goal.index_mut-requires
index_mut-requires c =
    let inside : c.item-item.result.0 < length c.loop-rest.table.items =
    (next_inside c.args.items.now c.args.size c.loop-rest.place c.loop-rest.rest.now c.item-item.result c.loop-rest.table.items c.in-len1-up.len_at_least c.item-item.is c.loop-rest.invariant).0 in
    omega (arith, inside)

pub overflow_add-place : goal.overflow_add-place
overflow_add-place c =
    let below : c.loop-rest.place < c.args.size =
    (next_inside c.args.items.now c.args.size c.loop-rest.place c.loop-rest.rest.now c.item-item.result c.loop-rest.table.items c.in-len1-up.len_at_least c.item-item.is c.loop-rest.invariant).1 in
    let fits = c.ranges.size.fits in
    omega arith

pub loop-rest-preserved : goal.loop-rest-preserved
loop-rest-preserved c =
    next_placed c.args.items.now c.args.size c.loop-rest.place c.loop-rest.rest.now c.item-item.result c.loop-rest.table.items c.in-len1-up.len_at_least c.item-item.is c.loop-rest.invariant
