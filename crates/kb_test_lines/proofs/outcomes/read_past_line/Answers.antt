use Rattle.kb_test_lines.proofs.Parts.{no_bound, past_read}
use Rattle.kb_test_lines.proofs.outcomes.read_past_line.Goals as goal

pub returns-in_err-bound : goal.returns-in_err-bound
returns-in_err-bound c = rw c.from_residual-in_err-bound.ensures (no_bound c.args.line.now c.in_ok-rest.rest.now c.in_ok-rest.ensures c.in_err-bound.ensures)

pub returns : goal.returns
returns c = past_read c.args.line.now c.in_ok-rest.rest.now c.in_ok-bound.bound c.run_bound.result c.in_ok-rest.ensures c.in_ok-bound.ensures c.run_bound.ensures
