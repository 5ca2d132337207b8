-- What the emitted input of a state is: one of the method's, of the state's shape, which meets what the values meet.
use Rattle.std.specs.Prelude.{ℤ, Bool, List}
use Rattle.kb_heap.specs.declared.bounds.Bounds.{Bounds}
use Rattle.kb_heap.specs.declared.heap.Input.{Input}
use Rattle.kb_classes.specs.World.{World}
use Rattle.kb_semantics.specs.Inputs.{IsTypeCorrect}
use Rattle.kb_terms.specs.Terms.{variables_of}
use Rattle.kb_terms.specs.declared.node.TermId.{TermId}
use Rattle.kb_picture.specs.WellFormed.{IsClosed}
use Rattle.kb_frames.specs.StandsFor.{IsInstanceOf}
use Rattle.kb_frames.specs.State.{State}
use Rattle.kb_frames.specs.States.{IsState}
use Rattle.kb_input.specs.Emitted.{emitted_input}
use Rattle.kb_drive.specs.Values.{followed_by_zeros}
use Rattle.kb_ways.specs.Simulation.{HasInputOfState}
use Rattle.kb_drive.specs.Explorable.{IsExplorable}
use Rattle.kb_drive.specs.Pieces.{AreValuesFor}

-- the emitted input for values, followed by 0s
abbrev pub input_for : World → State → List ℤ → Input
input_for world state values = emitted_input world state.method state.picture (followed_by_zeros (variables_of state.nodes) values)

pub record IsOfState (world : World) (state : State) (when : List (TermId × Bool)) (input : Input) : Type 0 where
  pub correct : IsTypeCorrect world state.method input
  pub instance_of : IsInstanceOf (record state { when = when }) input
  pub closed : IsClosed input

-- It is so where an input can be made of the picture, and the values meet the conditions.
abbrev pub InputsAreOfStates : Type 0
InputsAreOfStates =
    (world : World) (bounds : Bounds) (state : State) (when : List (TermId × Bool)) (values : List ℤ) → IsExplorable world state.method bounds → IsState world state
    → HasInputOfState world state → AreValuesFor state.nodes when values → IsOfState world state when (input_for world state values)
