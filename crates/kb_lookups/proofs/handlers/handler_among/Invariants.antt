use Rattle.std.proofs.Common.{◌≡◌, length}
use Rattle.kb_semantics.specs.Ways.{handler_among}
use Rattle.kb_lookups.proofs.handlers.handler_among.Given as goal

abbrev pub invariant-loop-rest : goal.invariant-loop-rest
invariant-loop-rest l = handler_among l.world l.class.0 l.at l.kind l.rest ≡ handler_among l.world l.class.0 l.at l.kind l.handlers

abbrev pub decreases-loop-rest : goal.decreases-loop-rest
decreases-loop-rest l = length l.rest
