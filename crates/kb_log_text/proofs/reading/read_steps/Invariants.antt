use Rattle.std.proofs.Common.{length}
use Rattle.kb_grammar.proofs.ListLaws.{IsReadSoFar}
use Rattle.kb_log_text.specs.Lines.{step_text, IsStep}
use Rattle.kb_log_text.proofs.reading.read_steps.Given as goal

abbrev pub invariant-loop-step : goal.invariant-loop-step
invariant-loop-step l = IsReadSoFar IsStep step_text l.steps l.rest l.text

abbrev pub decreases-loop-step : goal.decreases-loop-step
decreases-loop-step l = length l.rest
