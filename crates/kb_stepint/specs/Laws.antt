-- What a law says of the int steps of every state, and of each take of them.
use Rattle.std.specs.Prelude.{◌≡◌, true}
use Rattle.kb_class.specs.Naming.{Has}
use Rattle.kb_heap.specs.declared.bounds.Bounds.{Bounds}
use Rattle.kb_classes.specs.World.{World}
use Rattle.kb_picture.specs.declared.choice.Choice.{Choice}
use Rattle.kb_frames.specs.State.{State}
use Rattle.kb_frames.specs.Next.{next_is_int}
use Rattle.kb_stepint.specs.Choices.{choices_of}
use Rattle.kb_ways.specs.Reached.{IsReached}
use Rattle.kb_stepint.specs.Takes.{taken}
use Rattle.kb_ways.specs.Ways.{Take}

-- The next step of the state is one of ints: an argument is read that is no reference, or the next instruction is one of ints.
pub record IsAtInts (world : World) (state : State) : Type 0 where
  pub reached : IsReached world state
  pub next : next_is_int world state ≡ true

-- it holds of each such state
abbrev pub OfStates : (World → Bounds → State → Type 0) → Type 0
OfStates P = (world : World) (bounds : Bounds) (state : State) → IsAtInts world state → P world bounds state

-- and of the take of each alternative that is offered there
abbrev pub OfTakes : (World → Bounds → State → Take → Type 0) → Type 0
OfTakes P =
    (world : World) (bounds : Bounds) (state : State) (choice : Choice) → IsAtInts world state → Has (choices_of world state bounds) choice
    → P world bounds state (taken world bounds state choice)
