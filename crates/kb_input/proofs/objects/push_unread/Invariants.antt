use Rattle.std.proofs.Common.{◌≡◌, ◌++◌, map, length}
use Rattle.kb_input.specs.Emitted.{unread_of}
use Rattle.kb_input.proofs.objects.push_unread.Given as goal

abbrev pub invariant-loop-rest : goal.invariant-loop-rest
invariant-loop-rest l = l.objects ++ map (unread_of l.world) l.rest ≡ l.fn.objects ++ map (unread_of l.world) l.of

abbrev pub decreases-loop-rest : goal.decreases-loop-rest
decreases-loop-rest l = length l.rest
