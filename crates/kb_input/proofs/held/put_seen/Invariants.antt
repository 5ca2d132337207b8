use Rattle.std.proofs.Common.{◌≡◌, fold, length}
use Rattle.kb_input.specs.Emitted.{held_from, with_held}
use Rattle.kb_input.proofs.held.put_seen.Given as goal

abbrev pub invariant-loop-rest : goal.invariant-loop-rest
invariant-loop-rest l =
    fold with_held l.input (held_from l.picture l.values l.own l.rest)
    ≡ fold with_held l.fn.input (held_from l.picture l.values (length l.picture.objects) l.picture.seen)

abbrev pub decreases-loop-rest : goal.decreases-loop-rest
decreases-loop-rest l = length l.rest
