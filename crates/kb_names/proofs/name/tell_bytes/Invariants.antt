use Rattle.std.proofs.Common.{take}
use Rattle.kb_names.specs.Bytes.{AreBytes}
use Rattle.kb_names.proofs.name.tell_bytes.Given as goal

abbrev pub invariant-loop-byte : goal.invariant-loop-byte
invariant-loop-byte l = AreBytes (take l.byte-index l.bytes)
