use Rattle.std.proofs.Common.{rules}
use Rattle.std.proofs.lemmas.Result.{err_from_is_err_and}
use Rattle.kiasan.specs.Answers.{AreRead}
use Rattle.kiasan.proofs.ReadLaws.{read_stops, read_next, counts_later, same_held, same_sound}
use Rattle.kiasan.proofs.answer.read_files.Goals as goal

pub returns-in_err-bytes-clause-read : goal.returns-in_err-bytes-clause-read
returns-in_err-bytes-clause-read g c =
    let p = err_from_is_err_and c.from_residual.result c.from_residual.ensures.1 in
    rw (p.1, p.2)
    (read_stops c.args.names.now c.loop-name.name-index c.name-item.result (g.S.Shelf.faults c.args.shelf.now) (g.S.Shelf.faults c.loop-name.shelf) (g.S.Shelf.faults c.read_bytes.new.shelf)
    (g.S.Shelf.sound c.args.shelf.now) (g.S.Shelf.sound c.loop-name.shelf) c.in_err-bytes.field-0.0 c.loop-name-test.true c.name-item.is
    c.loop-name.invariant.2 c.loop-name.invariant.3 c.in_err-bytes.ensures.stops (search rules) (search rules)
    (AreRead c.args.limit (g.S.Shelf.holds c.args.shelf.now) c.args.names.now))

pub loop-name-preserved : goal.loop-name-preserved
loop-name-preserved g c = (
  read_next c.args.limit (g.S.Shelf.holds c.args.shelf.now) (g.S.Shelf.holds c.loop-name.shelf) c.args.names.now c.loop-name.name-index c.name-item.result
      c.in_ok-bytes.bytes.items c.loop-name.read c.push.new.self c.loop-name-test.true c.name-item.is c.loop-name.invariant.0 c.loop-name.invariant.1
      (search rules) (search rules),
  same_held (g.S.Shelf.holds c.args.shelf.now) (g.S.Shelf.holds c.loop-name.shelf) (g.S.Shelf.holds c.read_bytes.new.shelf) c.loop-name.invariant.1 c.in_ok-bytes.ensures.holds,
  counts_later (g.S.Shelf.faults c.args.shelf.now) (g.S.Shelf.faults c.loop-name.shelf) (g.S.Shelf.faults c.read_bytes.new.shelf) c.loop-name.invariant.2 c.in_ok-bytes.ensures.later,
  same_sound (g.S.Shelf.sound c.args.shelf.now) (g.S.Shelf.sound c.loop-name.shelf) (g.S.Shelf.sound c.read_bytes.new.shelf) c.loop-name.invariant.3 c.in_ok-bytes.ensures.sound,
)
