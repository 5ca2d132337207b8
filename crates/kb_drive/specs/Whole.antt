-- What the list of a piece's exploration says: it covers the instances of the piece, and no other input.
use Rattle.std.specs.Prelude.{ℕ, List}
use Rattle.kb_heap.specs.declared.bounds.Bounds.{Bounds}
use Rattle.kb_heap.specs.declared.heap.Input.{Input}
use Rattle.kb_classes.specs.World.{World}
use Rattle.kb_semantics.specs.Inputs.{IsTypeCorrect}
use Rattle.kb_picture.specs.declared.path.Path.{Path}
use Rattle.kb_picture.specs.Instances.{IsInstance}
use Rattle.kb_frames.specs.StandsFor.{IsInstanceOf}
use Rattle.kb_drive.specs.declared.piece.Piece.{Piece}
use Rattle.kb_picture.specs.Carried.{EachPath}
use Rattle.kb_drive.specs.Covers.{AreOpenLast, decisions_of}
use Rattle.kb_picture.specs.Exactly.{NoneHas}
use Rattle.kb_drive.specs.Division.{AreDecisions, DivideThose, IsFrontOf}
use Rattle.kb_drive.specs.Walks.{IsRightPath}

-- an input of the piece's method that is an instance of its state
pub record IsOfPiece (world : World) (piece : Piece) (input : Input) : Type 0 where
  pub correct : IsTypeCorrect world piece.state.method input
  pub instance_of : IsInstanceOf piece.state input

-- The listed paths cover a piece, explored within these bounds, up to so many paths, with a solver of that budget.
pub record CoversPiece (world : World) (bounds : Bounds) (paths budget : ℕ) (piece : Piece) (listed : List Path) : Type 0 where
  -- each input of the piece is an instance of exactly one path, and each other one of none
  pub inputs : DivideThose (IsOfPiece world piece) IsInstance listed
  pub others : (input : Input) → IsTypeCorrect world piece.state.method input → (IsInstanceOf piece.state input → ⊥) → NoneHas IsInstance listed input
  -- what each path says is so
  pub right : EachPath (IsRightPath world piece.state.method bounds budget) listed
  pub open_last : AreOpenLast paths listed
  -- the decisions are in order, and begin with those of the piece
  pub decisions : AreDecisions decisions_of listed
  pub fronts : EachPath (λ (path : Path). IsFrontOf piece.decisions path.decisions) listed
