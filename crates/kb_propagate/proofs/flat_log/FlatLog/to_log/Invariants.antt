use Rattle.std.proofs.Common.{◌≡◌, take}
use Rattle.kb_propagate.proofs.flat_log.FlatLog.to_log.Given as goal

abbrev pub invariant-loop-number : goal.invariant-loop-number
invariant-loop-number l = l.entries ≡ take l.number l.self
