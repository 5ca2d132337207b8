use Rattle.std.proofs.Common.{◌≡◌, map, take}
use Rattle.kb_numbers.specs.Pools.{entry_numbers}
use Rattle.kb_numbers.proofs.pool.entry_numbers.Given as goal

abbrev pub invariant-loop-entry : goal.invariant-loop-entry
invariant-loop-entry l = l.told.items ≡ map (entry_numbers l.pool l.row) (take l.entry-index l.pool)
