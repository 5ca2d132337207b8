use Rattle.std.proofs.Common.{◌≡◌, map, take}
use Rattle.kb_numbers.specs.Pools.{field_pair}
use Rattle.kb_numbers.proofs.pool.field_pairs.Given as goal

abbrev pub invariant-loop-field : goal.invariant-loop-field
invariant-loop-field l = l.pairs.items ≡ map (field_pair l.row) (take l.field-index l.fields)
