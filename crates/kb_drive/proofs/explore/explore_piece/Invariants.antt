-- The loop has one variable of each name of the function: `l.walk` and `l.oracle` at the start of a turn. Names of goals are to
-- be taken from the check.
use Rattle.std.proofs.Common.{◌≡◌, ◌≤◌, ◌↔◌, ℕ, [], map}
use Rattle.kb_blast.specs.Query.{Query}
use Rattle.kb_heap.specs.declared.heap.Input.{Input}
use Rattle.kb_semantics.specs.Inputs.{IsTypeCorrect}
use Rattle.kb_frames.specs.StandsFor.{IsInstanceOf}
use Rattle.kb_drive.specs.Counts.{RoseBy, undecided_count}
use Rattle.kb_picture.specs.Exactly.{NoneHas}
use Rattle.kb_drive.specs.Division.{DivideThose}
use Rattle.kb_drive.specs.Parts.{IsInPart, decisions_of_part, parts_of}
use Rattle.kb_drive.specs.Values.{OfGiven}
use Rattle.kb_drive.specs.Walks.{BeginWith, IsFrom, IsWalk, size_waiting}
use Rattle.kb_drive.specs.Whole.{IsOfPiece}
use Rattle.kb_drive.proofs.explore.explore_piece.Given as goal

abbrev pub invariant-loop-walk : goal.invariant-loop-walk
invariant-loop-walk g l = record {
  walk : IsWalk l.world l.bounds (g.O.Oracle.budget l.fn.oracle) l.walk;
  target : l.walk.target ≡ l.fn.piece.state.method;
  paths : l.walk.paths ≡ l.paths;
  inputs : DivideThose (IsOfPiece l.world l.fn.piece) (IsInPart l.world l.bounds) (parts_of l.walk.listed l.walk.waiting);
  others : (input : Input) → IsTypeCorrect l.world l.fn.piece.state.method input → (IsInstanceOf l.fn.piece.state input → ⊥)
      → NoneHas (IsInPart l.world l.bounds) (parts_of l.walk.listed l.walk.waiting) input;
  fronts : BeginWith l.fn.piece.decisions (map decisions_of_part (parts_of l.walk.listed l.walk.waiting));
  unsure : RoseBy (undecided_count l.walk.listed) (g.O.Oracle.unsure l.fn.oracle) (g.O.Oracle.unsure l.oracle);
  given : l.fn.piece.values ≡ [] → OfGiven (IsFrom l.world l.walk) (g.O.Oracle.given l.fn.oracle) (g.O.Oracle.given l.oracle);
  same_budget : g.O.Oracle.budget l.oracle ≡ g.O.Oracle.budget l.fn.oracle;
  same_unfit : (i : ℕ) (q : Query) → g.O.Oracle.unfit l.oracle i q ↔ g.O.Oracle.unfit l.fn.oracle i q;
  later_bad : g.O.Oracle.bad l.fn.oracle ≤ g.O.Oracle.bad l.oracle;
  later_unsure : g.O.Oracle.unsure l.fn.oracle ≤ g.O.Oracle.unsure l.oracle;
}

abbrev pub decreases-loop-walk : goal.decreases-loop-walk
decreases-loop-walk g l = size_waiting l.world l.bounds l.walk.waiting
