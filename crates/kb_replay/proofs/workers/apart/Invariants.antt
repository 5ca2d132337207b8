use Rattle.std.proofs.Common.{◌≡◌, ◌++◌, map}
use Rattle.kb_replay.specs.Outcomes.{test_with, verdict_of}
use Rattle.kb_replay.proofs.workers.apart.Given as goal

abbrev pub invariant-loop-outcome : goal.invariant-loop-outcome
invariant-loop-outcome l = record {
  tests : l.tests ++ map test_with l.outcome-iterator.rest.items ≡ map test_with l.fn.outcomes.items;
  replayed : l.replayed ++ map verdict_of l.outcome-iterator.rest.items ≡ map verdict_of l.fn.outcomes.items;
}
