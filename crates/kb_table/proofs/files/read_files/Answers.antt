use Rattle.std.proofs.Common.{rules}
use Rattle.kb_table.proofs.Whole.{same_held, whole_all, whole_next}
use Rattle.kb_table.proofs.files.read_files.Goals as goal

pub loop-name-preserved : goal.loop-name-preserved
loop-name-preserved g c = (
  whole_next (g.S.Shelf.holds c.args.shelf.now) (g.S.Shelf.holds c.loop-name.shelf) c.args.names.now c.loop-name.name-index c.name-item.result
      c.as_str.result.now c.in_ok-bytes.bytes c.loop-name.files.items c.push.new.self.items c.loop-name-test.true c.name-item.is c.as_str.ensures.value
      c.loop-name.invariant.0 c.loop-name.invariant.1 c.in_ok-bytes.ensures.read (search rules),
  same_held (g.S.Shelf.holds c.args.shelf.now) (g.S.Shelf.holds c.loop-name.shelf) (g.S.Shelf.holds c.read_file.new.shelf) c.loop-name.invariant.1 c.read_file.ensures.holds,
)

pub returns-clause-read : goal.returns-clause-read
returns-clause-read g c =
    whole_all (g.S.Shelf.holds c.args.shelf.now) c.args.names.now c.loop-name.name-index c.loop-name.files.items c.loop-name-test.false c.loop-name.invariant.0
