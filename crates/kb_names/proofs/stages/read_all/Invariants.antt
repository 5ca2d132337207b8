use Rattle.std.proofs.Common.{◌≡◌, Some, take}
use Rattle.kb_names.specs.Reading.{reached}
use Rattle.kb_names.proofs.stages.read_all.Given as goal

abbrev pub invariant-loop-at : goal.invariant-loop-at
invariant-loop-at g l = reached g.S.Stage.step l.fn.start (take l.at l.text) ≡ Some l.stage
