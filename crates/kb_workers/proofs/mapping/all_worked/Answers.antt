use Rattle.std.proofs.Common.{◌≡◌, List, length, Ok, IfOk, ap, subst, arith}
use Rattle.kb_workers.specs.Mapped.{AreMapped}
use Rattle.kb_workers.proofs.MappedLaws.{if_ok, mapped_by_place, mapped_lists}
use Rattle.kb_workers.proofs.mapping.all_worked.Goals as goal

pub returns : goal.returns
returns g c =
    let as_many : length c.in_ok-done.done.items ≡ length c.into_vec.result.items = omega (arith, c.in_ok-done.ensures.len) in
    if_ok _ _ c.gathered.result
    (λ lists same.
    mapped_lists (AreMapped (λ (piece : g.row.T.Denot) (answer : g.row.R.Denot). g.F.Fn.post c.args.work.now (piece, tt) (Ok answer))) c.args.hands c.in_ok-done.done.items lists same
    (subst
    (λ (hands : List (List g.row.T.Denot)). AreMapped (λ hand result. IfOk result (AreMapped (λ (piece : g.row.T.Denot) (answer : g.row.R.Denot). g.F.Fn.post c.args.work.now (piece, tt) (Ok answer)) hand)) hands c.in_ok-done.done.items)
    c.into_vec.ensures
    (mapped_by_place
    (λ hand result. IfOk result (AreMapped (λ (piece : g.row.T.Denot) (answer : g.row.R.Denot). g.F.Fn.post c.args.work.now (piece, tt) (Ok answer)) hand))
    c.into_vec.result.items c.in_ok-done.done.items as_many c.in_ok-done.ensures.each)))
    c.gathered.ensures
