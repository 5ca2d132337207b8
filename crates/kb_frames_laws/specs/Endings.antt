-- What the path of an ended state says of each input for which the state stands: the ending, and the heap that the run leaves
-- (symbolic values give the run's own when the input's are put in their places: King, 1976; over a heap that is known in part:
-- Khurshid, Păsăreanu and Visser, TACAS 2003).
use Rattle.std.specs.Prelude.{◌≡◌, ◌≢◌, ℕ, List, length}
use Rattle.kb_heap.specs.declared.heap.Heap.{Heap}
use Rattle.kb_heap.specs.declared.heap.Input.{Input}
use Rattle.kb_classes.specs.World.{World}
use Rattle.kb_semantics.specs.Step.{first_heap}
use Rattle.kb_picture.specs.declared.path.Ended.{Ended}
use Rattle.kb_picture.specs.declared.path.Leaf.TheVariants.{Ended as EndedLeaf}
use Rattle.kb_picture.specs.declared.path.SymEnding.{SymEnding}
use Rattle.kb_picture.specs.declared.picture.PicLoc.{PicLoc}
use Rattle.kb_picture.specs.declared.picture.Picture.{Picture}
use Rattle.kb_picture.specs.declared.picture.Standing.TheVariants as standings
use Rattle.kb_picture.specs.Endings.{ending_at, stated_end}
use Rattle.kb_picture.specs.Numbering.{ending_outs}
use Rattle.kb_picture.specs.WellFormed.{IsClosed, IsThrown}
use Rattle.kb_numbered.specs.Numbered.{numbered_ended}
use Rattle.kb_frames.specs.Paths.{path_numbering, path_of}
use Rattle.kb_frames.specs.StandsFor.{HeapStandsFor, IsInstanceOf, reading_at}
use Rattle.kb_frames.specs.State.{State}
use Rattle.kb_stated.specs.Stated.{made_of, writes_of}
use Rattle.kb_frames.specs.States.{Each, IsLeafIn, IsOutIn, IsState}

-- ---- endings of a state

-- the ending states what is there in the state; what is thrown is an object
pub record IsEndingIn (world : World) (state : State) (ending : SymEnding) : Type 0 where
  pub outs : Each (IsOutIn world state (length state.made)) (ending_outs ending)
  pub thrown : IsThrown ending

-- the ending, with what the state keeps as written and as made
abbrev pub ended_in : State → SymEnding → Input → Ended
ended_in state ending input = record { ending = ending; writes = writes_of state; made = made_of state; input = input }

-- no location is known to be beyond the bound: a path that met such a one is cut
abbrev pub HasNoLocBeyond : Picture → Type 0
HasNoLocBeyond picture = Each (λ (loc : PicLoc). loc.standing ≢ standings.Beyond) picture.locs

-- ---- what its path says

pub record EndingMeans (world : World) (state : State) (decisions : List ℕ) (ending : SymEnding) (carried : Input) : Type 0 where
  -- it is a leaf that a path of the state may have
  pub leaf : IsLeafIn world state (EndedLeaf (ended_in state ending carried))
  -- where the state stands for the heap of an ending, the path states that ending and that heap
  pub states : (input : Input) (instance_of : IsInstanceOf state input) (heap : Heap)
      → HeapStandsFor (reading_at world state input instance_of.shape.places) state (first_heap world input.heap) heap
      → stated_end world (path_of state decisions (EndedLeaf (ended_in state ending carried)))
      (numbered_ended state.nodes (path_numbering state (EndedLeaf (ended_in state ending carried))) (ended_in state ending carried)) input
      ≡ record { ending = ending_at (reading_at world state input instance_of.shape.places) ending; heap = heap }

-- It is so for every state, with the input that the leaf is to carry.
abbrev pub EndingsMean : Type 0
EndingsMean =
    (world : World) (state : State) (decisions : List ℕ) (ending : SymEnding) (carried : Input) → IsState world state → HasNoLocBeyond state.picture
    → IsEndingIn world state ending → IsClosed carried → EndingMeans world state decisions ending carried
