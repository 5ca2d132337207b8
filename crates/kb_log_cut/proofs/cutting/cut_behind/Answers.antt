use Rattle.std.proofs.Common.{◌+◌, ◌∙◌, ap, arith}
use Rattle.kb_log_cut.specs.Cutting.{marked_entries}
use Rattle.kb_log_cut.proofs.CuttingLaws.{cut_is}
use Rattle.kb_log_cut.proofs.cutting.cut_behind.Goals as goal

pub returns : goal.returns
returns c =
    cut_is c.args.first c.args.entries.now c.in_ok-marked_entries.field-0 c.in_ok-needed.needed.items (c.args.first + c.saturating_sub.result)
    (omega (arith, c.saturating_sub.ensures)) c.in_ok-needed.ensures.table c.in_ok-needed.ensures.marked c.in_ok-needed.ensures.closed c.in_ok-needed.ensures.only
    (c.in_ok-marked_entries.ensures ∙ ap (λ m. marked_entries m 0 c.args.entries.now) c.in_ok-numbering.ensures)
