use Rattle.std.proofs.Common.{◌≡◌, ◌≤◌, ◌+◌, ◌-◌, take, drop, vec_len}
use Rattle.std.specs.Io.KnownBytes.{Consumes}
use Rattle.kb_outside.proofs.reading.fill.Given as goal

abbrev pub invariant-loop-block : goal.invariant-loop-block
invariant-loop-block g l = record {
  start : l.start ≤ vec_len l.into;
  within : vec_len l.into ≤ l.start + (l.limit + 1);
  appended : take l.start l.into.items ≡ l.fn.into.items;
  consumed : Consumes (g.F.Read.remaining l.fn.from.from) (g.F.Read.remaining l.from.from) (drop l.start l.into.items);
  same : l.from.failed ≡ l.fn.from.failed;
}

abbrev pub decreases-loop-block : goal.decreases-loop-block
decreases-loop-block g l = l.limit + 1 - (vec_len l.into - l.start)
