use Rattle.std.proofs.Common.{length, ◌-◌, ◌≤◌, take}
use Rattle.kb_outside.specs.Outside.{Grows}
use Rattle.kb_outside.proofs.sinks.send_all.Given as goal

abbrev pub invariant-loop-sent : goal.invariant-loop-sent
invariant-loop-sent g l = record {
  within : l.sent ≤ length l.text;
  later : g.K.Sink.faults l.fn.out ≤ g.K.Sink.faults l.out;
  grown : Grows (g.K.Sink.written l.fn.out) (g.K.Sink.written l.out) (take l.sent l.text);
}

abbrev pub decreases-loop-sent : goal.decreases-loop-sent
decreases-loop-sent g l = length l.text - l.sent
