use Rattle.std.proofs.Common.{◌≡◌, map, take}
use Rattle.kb_class.specs.Given.{handler_of}
use Rattle.kb_class.proofs.handlers.handlers_of.Given as goal

abbrev pub invariant-loop-row : goal.invariant-loop-row
invariant-loop-row l = l.handlers.items ≡ map handler_of (take l.row-index l.row-items)
