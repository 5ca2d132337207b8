use Rattle.std.proofs.lemmas.Result.{err_from_is_err_and}
use Rattle.kiasan.proofs.ReplayLaws.{text_stops}
use Rattle.kiasan.proofs.replay.replay.Goals as goal

pub returns-in_err-tests : goal.returns-in_err-tests
returns-in_err-tests g c =
    let p = err_from_is_err_and c.from_residual.result c.from_residual.ensures.1 in
    rw (p.1, p.2) (text_stops c.args.bytes.now c.args.world.now c.literals.result c.in_err-tests.field-0.0 c.literals.ensures c.in_err-tests.ensures)
