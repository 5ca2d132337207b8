use Rattle.std.proofs.Common.{ℕ, List, length}
use Rattle.std.specs.Prelude.{Option}
use Rattle.kb_report_known.specs.Tables.{find_in, AddsFields}
use Rattle.kb_report_known.specs.declared.fields.FieldAt.{FieldAt}
use Rattle.kb_report_known.proofs.fields.add_fields.Given as goal

abbrev pub invariant-loop-rest : goal.invariant-loop-rest
invariant-loop-rest l =
    (new : List ℕ → Option FieldAt) → AddsFields l.named l.class.0 l.rest (find_in l.numbers) new → AddsFields l.named l.class.0 l.slots (find_in l.fn.numbers) new

abbrev pub decreases-loop-rest : goal.decreases-loop-rest
decreases-loop-rest l = length l.rest
