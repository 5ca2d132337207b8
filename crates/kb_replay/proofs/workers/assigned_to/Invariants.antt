use Rattle.std.proofs.Common.{◌≡◌, ◌++◌, map}
use Rattle.kb_replay.specs.Outcomes.{test_of, method_of}
use Rattle.kb_replay.proofs.workers.assigned_to.Given as goal

-- those that are assigned, and then those that are left
abbrev pub invariant-loop-test : goal.invariant-loop-test
invariant-loop-test l = record {
  tests : map test_of l.assigned.items ++ l.test-iterator.rest.items ≡ l.fn.tests;
  methods : map method_of l.assigned.items ++ l.ids ≡ l.fn.methods;
}
