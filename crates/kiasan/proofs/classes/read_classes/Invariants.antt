use Rattle.std.proofs.Common.{take}
use Rattle.kb_class.specs.Given.{AreGivenBy}
use Rattle.kiasan.proofs.classes.read_classes.Given as goal

abbrev pub invariant-loop-bytes : goal.invariant-loop-bytes
invariant-loop-bytes l = AreGivenBy (take l.bytes-index l.classes) l.given.items
