use Rattle.std.proofs.Common.{◌≡◌, map}
use Rattle.kb_semantics.specs.Ways.{nearest_handler}
use Rattle.kb_frames.specs.Calls.{frames_of}
use Rattle.kb_ways.specs.Ways.{stands_at}
use Rattle.kb_ways.proofs.HandlerLaws.{handler_from}
use Rattle.kb_ways.proofs.throwing.nearest_handler.Given as goal

abbrev pub invariant-loop-depth : goal.invariant-loop-depth
invariant-loop-depth l = handler_from l.world l.kind (frames_of l.state.stage) l.depth ≡ nearest_handler l.world l.kind (map stands_at (frames_of l.state.stage))
