use Rattle.std.proofs.Common.{◌≡◌, length}
use Rattle.kb_code.specs.Answers.{each_of, target_of}
use Rattle.kb_code.specs.Starts.{starts_in}
use Rattle.kb_code.proofs.Steps.{behind}
use Rattle.kb_code.proofs.placing.targets_of.Given as goal

abbrev pub invariant-loop-rest : goal.invariant-loop-rest
invariant-loop-rest l = behind l.offsets.items (each_of (target_of (starts_in l.table) l.at) l.rest) ≡ each_of (target_of (starts_in l.table) l.at) l.targets

abbrev pub decreases-loop-rest : goal.decreases-loop-rest
decreases-loop-rest l = length l.rest
