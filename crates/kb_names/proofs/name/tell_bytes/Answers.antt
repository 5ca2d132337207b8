use Rattle.std.proofs.Common.{add-one}
use Rattle.kb_names.proofs.Bytes.{AreBytes-take}
use Rattle.kb_names.proofs.name.tell_bytes.Goals as goal

pub loop-byte-preserved : goal.loop-byte-preserved
loop-byte-preserved c = rw add-one (AreBytes-take c.args.bytes.now c.loop-byte.byte-index c.loop-byte-test.true c.loop-byte.invariant c.tell_byte.ensures)
