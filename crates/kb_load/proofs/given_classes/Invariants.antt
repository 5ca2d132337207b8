use Rattle.std.proofs.Common.{take}
use Rattle.kb_class.specs.Given.{AreGivenBy}
use Rattle.kb_load.specs.Worlds.{contents_of}
use Rattle.kb_load.proofs.given_classes.Given as goal

abbrev pub invariant-loop-bytes : goal.invariant-loop-bytes
invariant-loop-bytes l = AreGivenBy (contents_of (take l.bytes-index l.files)) l.classes.items
