use Rattle.std.proofs.Common.{length}
use Rattle.std.specs.List.{AllByRecursion}
use Rattle.kb_report_tests.specs.Ranges.{HasRanges}
use Rattle.kb_report_tests.proofs.ranges.tell_objects.Given as goal

abbrev pub invariant-loop-rest : goal.invariant-loop-rest
invariant-loop-rest l = AllByRecursion HasRanges l.rest → AllByRecursion HasRanges l.objects

abbrev pub decreases-loop-rest : goal.decreases-loop-rest
decreases-loop-rest l = length l.rest
