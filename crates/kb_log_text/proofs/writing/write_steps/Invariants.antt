use Rattle.std.proofs.Common.{◌≡◌, ◌++◌, drop, string_bytes}
use Rattle.std.specs.List.{flat_map}
use Rattle.kb_log_text.specs.Lines.{step_text}
use Rattle.kb_log_text.proofs.writing.write_steps.Given as goal

abbrev pub invariant-loop-pivot : goal.invariant-loop-pivot
invariant-loop-pivot l = string_bytes l.initial.line ++ flat_map step_text l.steps ≡ string_bytes l.line ++ flat_map step_text (drop l.pivot-index l.steps)
