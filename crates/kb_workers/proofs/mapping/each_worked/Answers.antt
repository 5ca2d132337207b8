use Rattle.std.proofs.Common.{List, Result, Ok, IfOk, sym, subst}
use Rattle.std.specs.Prelude.{slice_index_or}
use Rattle.kb_workers.specs.Mapped.{AreMapped}
use Rattle.kb_workers.proofs.MappedLaws.{if_ok}
use Rattle.kb_workers.proofs.mapping.each_worked.Goals as goal

pub returns-clause-each : goal.returns-clause-each
returns-clause-each g c =
    if_ok _ _ c.map_vec.result
    (λ done gives i d e lt.
    let one = (gives i e lt).1 in
    subst
    (λ (hand : List g.row.T.Denot). IfOk (slice_index_or done.items i e) (AreMapped (λ (piece : g.row.T.Denot) (answer : g.row.R.Denot). g.F.Fn.post c.args.work.now (piece, tt) (Ok answer)) hand))
    (sym (one.job_is d)) one.call.met)
    c.map_vec.ensures.each
