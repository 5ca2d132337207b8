-- What an exploration has come to: the paths that are listed, and the alternatives that wait to be taken. Both have decisions
-- and a set of inputs, and together they divide the inputs.
use Rattle.std.specs.Prelude.{ℕ, suc, List, [], ◌∷◌, ◌++◌, length, map, drop, nat_lt, if◌then◌else◌, flat_map}
use Rattle.kb_heap.specs.declared.bounds.Bounds.{Bounds}
use Rattle.kb_heap.specs.declared.heap.Input.{Input}
use Rattle.kb_classes.specs.World.{World}
use Rattle.kb_picture.specs.declared.choice.Choice.{Choice}
use Rattle.kb_picture.specs.declared.path.Path.{Path}
use Rattle.kb_picture.specs.Instances.{IsInstance}
use Rattle.kb_frames.specs.StandsFor.{IsInstanceOf}
use Rattle.kb_ways.specs.Ways.{Take}
use Rattle.kb_drive.specs.declared.piece.Piece.{Piece}
use Rattle.kb_drive.specs.declared.waiting.Waiting.{Waiting}
use Rattle.kb_steps.specs.Taking.{taken_at}

-- ---- alternatives

-- an alternative of a piece, with the decisions that lead behind it
pub record Alternative : Type 0 where
  pub piece : Piece
  pub choice : Choice
  pub decisions : List ℕ

-- the decisions behind the alternative of that number, of so many: where there is one alone, nothing was decided
abbrev pub decided : List ℕ → ℕ → ℕ → List ℕ
decided decisions offered number = if nat_lt 1 offered then decisions ++ number ∷ [] else decisions

-- these alternatives of a piece, of so many, where the first has that number
abbrev pub alternatives_from : Piece → ℕ → ℕ → List Choice → List Alternative
alternatives_from piece offered number [] = []
alternatives_from piece offered number (choice ∷ others) =
    record { piece = piece; choice = choice; decisions = decided piece.decisions offered number } ∷ alternatives_from piece offered (suc number) others

-- those of a waiting choice that were not taken
abbrev pub alternatives_left : Waiting → List Alternative
alternatives_left waiting = alternatives_from waiting.piece (length waiting.choices) waiting.next (drop waiting.next waiting.choices)

-- the take of an alternative
abbrev pub taken_of : World → Bounds → Alternative → Take
taken_of world bounds alternative = taken_at world bounds alternative.piece.state alternative.choice

-- ---- parts

pub data Part : Type 0 where
  Listed : Path → Part
  Waits : Alternative → Part

-- the inputs of a part: the instances of a path; of an alternative those of the state behind it
abbrev pub IsInPart : World → Bounds → Part → Input → Type 0
IsInPart world bounds (Listed path) input = IsInstance path input
IsInPart world bounds (Waits alternative) input = IsInstanceOf (taken_of world bounds alternative).state input

abbrev pub decisions_of_part : Part → List ℕ
decisions_of_part (Listed path) = path.decisions
decisions_of_part (Waits alternative) = alternative.decisions

-- all parts, in order: what was listed, then what is left of the waiting choices, the last one first
abbrev pub parts_of : List Path → List Waiting → List Part
parts_of listed waiting = map Listed listed ++ map Waits (flat_map alternatives_left waiting)
