use Rattle.std.proofs.Common.{ℕ, length}
use Rattle.kb_report_known.specs.Tables.{most_in, Notes}
use Rattle.kb_report_known.proofs.fields.note_all.Given as goal

abbrev pub invariant-loop-rest : goal.invariant-loop-rest
invariant-loop-rest l = (new : ℕ → ℕ) → Notes l.rest l.count (most_in l.most) new → Notes l.slots l.count (most_in l.fn.most) new

abbrev pub decreases-loop-rest : goal.decreases-loop-rest
decreases-loop-rest l = length l.rest
