use Rattle.std.proofs.Common.{arith}
use Rattle.kb_table.proofs.Whole.{whole_told}
use Rattle.kb_table.proofs.files.read_file.Goals as goal

pub returns-clause-read : goal.returns-clause-read
returns-clause-read g c =
    whole_told 2097152 (g.S.Shelf.holds c.args.shelf.now c.args.name.now) c.read.new.into.items c.new-bytes.result.items
    c.new-bytes.ensures.items c.in-Ok.ensures.told (omega (arith, c.if-len-gt-ROOM.false, c.len.ensures))
