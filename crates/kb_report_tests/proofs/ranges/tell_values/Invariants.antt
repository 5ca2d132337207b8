use Rattle.std.proofs.Common.{length}
use Rattle.std.specs.List.{AllByRecursion}
use Rattle.kb_report_tests.specs.Ranges.{HasRange}
use Rattle.kb_report_tests.proofs.ranges.tell_values.Given as goal

abbrev pub invariant-loop-rest : goal.invariant-loop-rest
invariant-loop-rest l = AllByRecursion HasRange l.rest → AllByRecursion HasRange l.values

abbrev pub decreases-loop-rest : goal.decreases-loop-rest
decreases-loop-rest l = length l.rest
