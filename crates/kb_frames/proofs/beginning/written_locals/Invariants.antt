use Rattle.std.proofs.Common.{◌≡◌, take, map, Some}
use Rattle.kb_frames.proofs.beginning.written_locals.Given as goal

abbrev pub invariant-loop-value : goal.invariant-loop-value
invariant-loop-value l = l.locals ≡ map (λ value. Some value) (take l.value-index l.read)
