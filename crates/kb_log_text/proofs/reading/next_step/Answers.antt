use Rattle.kb_log_text.proofs.ReadLaws.{no_clause}
use Rattle.kb_log_text.proofs.reading.next_step.Goals as goal

pub returns-in_err-clause : goal.returns-in_err-clause
returns-in_err-clause c =
    rw c.from_residual-in_err-clause.ensures
    (no_clause c.args.text.now c.in_ok-pivot.others.now c.in_ok-pivot.pivot c.in_ok-pivot.ensures.0 c.in_ok-pivot.ensures.1 c.in_ok-pivot.ensures.2 c.in_err-clause.ensures)
