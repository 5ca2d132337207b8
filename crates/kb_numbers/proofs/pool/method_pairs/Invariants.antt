use Rattle.std.proofs.Common.{◌≡◌, map, take}
use Rattle.kb_numbers.specs.Pools.{method_pair}
use Rattle.kb_numbers.proofs.pool.method_pairs.Given as goal

abbrev pub invariant-loop-method : goal.invariant-loop-method
invariant-loop-method l = l.pairs.items ≡ map (method_pair l.row) (take l.method-index l.methods)
