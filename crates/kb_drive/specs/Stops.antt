-- Why an exploration stops without a list: what the path says whose conditions an oracle could not answer.
use Rattle.std.specs.Prelude.{◌≡◌, ℕ}
use Rattle.kb_blast.specs.Query.{Query, query_of}
use Rattle.kb_class.specs.declared.ids.MethodId.{MethodId}
use Rattle.kb_heap.specs.declared.bounds.Bounds.{Bounds}
use Rattle.kb_classes.specs.World.{World}
use Rattle.kb_oracle.specs.declared.answer.OracleStop.{OracleStop}
use Rattle.kb_oracle.specs.declared.answer.OracleStop.TheVariants.{Bad, NoMemory as OracleNoMemory}
use Rattle.kb_picture.specs.declared.path.Leaf.TheVariants.{Open}
use Rattle.kb_picture.specs.declared.path.Path.{Path}
use Rattle.kb_picture.specs.Queries.{query_of_path}
use Rattle.kb_picture.specs.WellFormed.{IsWellFormed}
use Rattle.kb_drive.specs.declared.piece.Piece.{Piece}
use Rattle.kb_drive.specs.declared.stop.DriveStop.{DriveStop}
use Rattle.kb_drive.specs.declared.stop.DriveStop.TheVariants.{Oracle, NoMemory}
use Rattle.kb_drive.specs.Compared.{ComparesAsRuns}
use Rattle.kb_drive.specs.Following.{path_of_piece}

-- a fact for a stop that an oracle has caused
abbrev pub IfOracle : (ℕ → Path → Type 0) → DriveStop → Type 0
IfOracle P (Oracle i path) = P i path
IfOracle P NoMemory = Unit {0}

-- The answer of that number does not serve the path's query; the path is well-formed, open, and its conditions are comparisons
-- that the runs make.
pub record IsUnserved (world : World) (target : MethodId) (bounds : Bounds) (Unfit : ℕ → Query → Type 0) (i : ℕ) (path : Path) : Type 0 where
  pub formed : IsWellFormed world target path
  pub leaf : path.leaf ≡ Open
  pub compared : ComparesAsRuns world target bounds path
  pub unfit : Unfit i (query_of_path world target path)

-- the stop of an oracle is `Bad` of that number
abbrev pub IsOf : OracleStop → ℕ → Type 0
IsOf (Bad number) i = number ≡ i
IsOf OracleNoMemory i = ⊥

-- it is the open path of the piece, whose conditions were asked
abbrev pub IsRefused : (ℕ → Query → Type 0) → Piece → ℕ → Path → Type 0
IsRefused Unfit piece i path = (path ≡ path_of_piece piece Open) × Unfit i (query_of piece.state.nodes piece.state.when)
