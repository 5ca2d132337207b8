use Rattle.std.proofs.Common.{◌≡◌, ◌++◌, take}
use Rattle.kb_resolution.specs.Tables.{own_keys}
use Rattle.kb_resolution.proofs.tables.add_keys.Given as goal

abbrev pub invariant-loop-place : goal.invariant-loop-place
invariant-loop-place l = l.keys.items ≡ l.fn.keys.items ++ own_keys l.class (take l.place l.fields) (take l.place l.pairs)
