use Rattle.std.proofs.Common.{◌≡◌, ℕ, ◌-◌, List, length, Ok, arith}
use Rattle.kb_workers.proofs.MappedLaws.{if_ok}
use Rattle.kb_workers.proofs.TurnLaws.{dealt_accepted, merged_mapped}
use Rattle.kb_workers.proofs.mapping.map_in_order.Goals as goal

pub all_worked-requires-after_bounds : goal.all_worked-requires-after_bounds
all_worked-requires-after_bounds g c κs within =
    dealt_accepted (λ (piece : g.row.T.Denot). g.F.Fn.pre c.args.work.now (piece, tt)) (c.args.workers - 1) c.args.pieces.items c.in_ok-hands.hands c.in_ok-hands.ensures c.requires.work

pub returns : goal.returns
returns g c =
    let counted : c.len-count.result ≡ length c.args.pieces.items = omega (arith, c.len-count.ensures) in
    if_ok _ _ c.merge.result
    (λ all same.
    merged_mapped (λ (piece : g.row.T.Denot) (answer : g.row.R.Denot). g.F.Fn.post c.args.work.now (piece, tt) (Ok answer)) (c.args.workers - 1) c.args.pieces.items c.in_ok-hands.hands c.in_ok-lists.lists
    c.len-count.result all.items c.in_ok-hands.ensures counted c.in_ok-lists.ensures same)
    c.merge.ensures
