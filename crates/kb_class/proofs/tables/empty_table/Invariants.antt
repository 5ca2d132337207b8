use Rattle.std.proofs.Common.{◌≡◌, replicate, None}
use Rattle.kb_class.proofs.tables.empty_table.Given as goal

abbrev pub invariant-loop : goal.invariant-loop
invariant-loop g l = l.table ≡ replicate l.counter None
