use Rattle.std.proofs.Common.{◌≡◌, length, subst, arith}
use Rattle.kb_order.specs.Table.{IsSquare, IsClosedBelow}
use Rattle.kb_order.proofs.TableLaws.{closed_next, closed_at_last}
use Rattle.kb_order.proofs.table.table_of.Goals as goal

pub loop-middle-preserved : goal.loop-middle-preserved
loop-middle-preserved c =
    let direct = c.args.direct.now in
    let old = c.loop-middle.table.items in
    let new = c.join_through.new.table.items in
    record {
      square = subst (λ n. IsSquare n new) c.loop-middle.invariant.square.rows c.in_ok-join_through.ensures.square;
      closed = closed_next direct c.loop-middle.middle old new c.loop-middle.invariant.closed c.in_ok-join_through.ensures.joined;
    }

pub returns : goal.returns
returns c =
    let direct = c.args.direct.now in
    let table = c.loop-middle.table.items in
    let le = c.loop-middle.auto.middle-end in
    let ge = c.loop-middle-test.false in
    let last : c.loop-middle.middle ≡ length direct = omega (arith, le, ge) in
    closed_at_last direct table c.requires c.loop-middle.invariant.square
    (subst (λ n. IsClosedBelow direct n table) last c.loop-middle.invariant.closed)
