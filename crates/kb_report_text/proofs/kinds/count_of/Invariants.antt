use Rattle.std.proofs.Common.{◌≡◌, ◌+◌, ◌≤◌, length}
use Rattle.kb_report_text.specs.Report.{count_of}
use Rattle.kb_report_text.proofs.kinds.count_of.Given as goal

abbrev pub invariant-loop-rest : goal.invariant-loop-rest
invariant-loop-rest l = (l.count + count_of l.kind l.rest ≡ count_of l.kind l.paths) × (l.count + length l.rest ≤ length l.paths)

abbrev pub decreases-loop-rest : goal.decreases-loop-rest
decreases-loop-rest l = length l.rest
