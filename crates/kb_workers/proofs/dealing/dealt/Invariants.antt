use Rattle.std.proofs.Common.{◌≡◌, ◌-◌, List, ◌++◌, length}
use Rattle.kb_workers.specs.Turns.{strides}
use Rattle.kb_workers.proofs.dealing.dealt.Given as goal

-- the pieces behind those that are left are dealt
abbrev pub invariant-loop-piece : goal.invariant-loop-piece
invariant-loop-piece g l = (rest : List g.row.T.Denot) × (l.fn.pieces.items ≡ l.pieces.items ++ rest) × (l.hands ≡ strides (l.fn.workers - 1) rest)

abbrev pub decreases-loop-piece : goal.decreases-loop-piece
decreases-loop-piece g l = length l.pieces.items
