-- What holds of every state of a method over heaps to which `start` and later calls lead under lazy initialisation, and from
-- which steps lead on: beside what holds of each reached state, that each next step is one that is built.
use Rattle.std.specs.Prelude.{◌≡◌, true, []}
use Rattle.kb_link.specs.Links.{IsLinked}
use Rattle.kb_classes.specs.World.{World}
use Rattle.kb_lazy.specs.Laws.{HasNoBeyond}
use Rattle.kb_picture.specs.declared.choice.Init.TheVariants.{Lazy}
use Rattle.kb_frames.specs.declared.value.Outcome.{Outcome}
use Rattle.kb_frames.specs.declared.value.Outcome.TheVariants.{Asks, Goes, Ends, Cut}
use Rattle.kb_frames.specs.State.{State}
use Rattle.kb_ways.specs.Reached.{IsAlone, IsReached}
use Rattle.kb_steparray.specs.Arrays.{AreCounted}
use Rattle.kb_drive.specs.HeapMethods.{is_heap_method}

pub record IsHeapReached (world : World) (state : State) : Type 0 where
  pub reached : IsReached world state
  -- no method was called
  pub alone : IsAlone state.method state.stage
  pub linked : IsLinked world
  pub method : is_heap_method world state.method ≡ true
  -- every object is chosen when its reference is read, and none is left open
  pub lazy : state.init ≡ Lazy
  pub known : state.picture.locs ≡ []
  -- a state that met an object deeper than k is cut
  pub within : HasNoBeyond state.picture
  -- and so is one that met an array above the bound: an int counts the elements of each
  pub bounded : AreCounted state.picture

-- where the state goes on, it is such a one still
abbrev pub GoesOnReached : World → State → Outcome → Type 0
GoesOnReached world state Asks = IsHeapReached world state
GoesOnReached world state Goes = IsHeapReached world state
GoesOnReached world state (Ends ending) = IsHeapReached world state
GoesOnReached world state (Cut bound) = Unit {0}
