use Rattle.std.proofs.Common.{All, Ok, List, ◌++◌, length}
use Rattle.kb_workers.specs.Mapped.{AreMapped}
use Rattle.kb_workers.proofs.mapping.work_through.Given as goal

-- whatever is answered for the rest of the hand is, behind what is there, answered for all of it
abbrev pub invariant-loop-numbered : goal.invariant-loop-numbered
invariant-loop-numbered g l = record {
  accepted : All (λ piece. g.F.Fn.pre l.work (piece, tt)) l.hand;
  goes_on : (more : List g.row.R.Denot) → AreMapped (λ piece answer. g.F.Fn.post l.work (piece, tt) (Ok answer)) l.hand more → AreMapped (λ piece answer. g.F.Fn.post l.work (piece, tt) (Ok answer)) l.fn.hand (l.answers ++ more);
}

abbrev pub decreases-loop-numbered : goal.decreases-loop-numbered
decreases-loop-numbered g l = length l.hand
