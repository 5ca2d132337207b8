-- What it means that a step of states simulates the step of the machine (King, 1976; generalised symbolic execution: Khurshid,
-- Păsăreanu and Visser, TACAS 2003), in six parts. Nothing here speaks of ints: `choices` are the alternatives of a state, and
-- `taken` is what a take of each makes of it. An input is one that is type-correct for the state's method.
use Rattle.std.specs.Prelude.{◌≡◌, ◌≢◌, ℕ, ◌+◌, ◌<◌, ◌≤◌, Bool, List, length, take, Option, Some, None, slice_get}
use Rattle.kb_class.specs.Naming.{Has}
use Rattle.kb_heap.specs.declared.bounds.Bounds.{Bounds}
use Rattle.kb_heap.specs.declared.heap.Heap.{Heap}
use Rattle.kb_heap.specs.declared.heap.Input.{Input}
use Rattle.kb_classes.specs.World.{World}
use Rattle.kb_semantics.specs.Config.{Setting, Config, Goes as StepGoes, Ends as StepEnds}
use Rattle.kb_semantics.specs.Comparisons.{Comparison}
use Rattle.kb_semantics.specs.Inputs.{IsTypeCorrect}
use Rattle.kb_semantics.specs.Looks.{compares, reads, looks}
use Rattle.kb_semantics.specs.Step.{step, first_heap}
use Rattle.kb_terms.specs.declared.node.TermId.{TermId}
use Rattle.kb_terms.specs.Terms.{Extends}
use Rattle.kb_picture.specs.declared.choice.Choice.{Choice}
use Rattle.kb_picture.specs.declared.choice.Init.TheVariants.{Lazier}
use Rattle.kb_picture.specs.declared.picture.Origin.{Origin}
use Rattle.kb_picture.specs.declared.picture.Origin.TheVariants.{Arg, Field, Element}
use Rattle.kb_picture.specs.declared.picture.Seen.{Seen}
use Rattle.kb_picture.specs.declared.picture.Standing.TheVariants as standings
use Rattle.kb_picture.specs.declared.picture.PicLoc.{PicLoc}
use Rattle.kb_picture.specs.declared.picture.PlaceLists.{PlaceLists}
use Rattle.kb_picture.specs.Endings.{ending_at}
use Rattle.kb_picture.specs.Exactly.{ExactlyOneHas}
use Rattle.kb_picture.specs.Instances.{variable_values}
use Rattle.kb_picture.specs.Shapes.{HasShape}
use Rattle.kb_picture.specs.WellTyped.{IsWellTyped, IsReceiverSeen}
use Rattle.kb_frames.specs.declared.value.Outcome.{Outcome}
use Rattle.kb_frames.specs.declared.value.Outcome.TheVariants.{Asks, Goes, Ends, Cut}
use Rattle.kb_frames.specs.Comparing.{comparison_of}
use Rattle.kb_frames.specs.Cuts.{setting_of, IsLicensed}
use Rattle.kb_ways.specs.Measure.{choices_left}
use Rattle.kb_frames.specs.StandsFor.{StandsFor, HeapStandsFor, IsInstanceOf, reading_at, beginning_of, written_by}
use Rattle.kb_frames.specs.State.{State}
use Rattle.kb_ways.specs.Ways.{Take}

-- ---- 1: one alternative

-- Where the state stands for a configuration of an input's run, the input is an instance after the take of exactly one
-- alternative.
abbrev pub TakesOneWay : World → Bounds → State → List Choice → (Choice → Take) → Type 0
TakesOneWay world bounds state choices taken =
    (input : Input) (c : Config) → IsTypeCorrect world state.method input → StandsFor (setting_of world bounds) state input c
    → ExactlyOneHas (λ choice i. IsInstanceOf (taken choice).state i) choices input

-- ---- 2: the outcome

-- What an outcome says of a configuration c for which the state stood before: Asks stands for c still, Goes for the one behind
-- c's step; Ends is the ending of that step, and what the state knows of the heap is so of the heap that the ending leaves; a
-- cut is licensed.
abbrev pub IsOutcome : World → Bounds → Config → (state : State) (input : Input) → IsInstanceOf state input → Outcome → Type 0
IsOutcome world bounds c state input instance_of Asks = StandsFor (setting_of world bounds) state input c
IsOutcome world bounds c state input instance_of Goes =
    (d : Config) × (step (setting_of world bounds) c ≡ StepGoes d) × StandsFor (setting_of world bounds) state input d
IsOutcome world bounds c state input instance_of (Ends ending) =
    let r = reading_at world state input instance_of.shape.places in
    (heap : Heap) × (step (setting_of world bounds) c ≡ StepEnds (record { ending = ending_at r ending; heap = heap }))
    × HeapStandsFor r state (first_heap world input.heap) heap
IsOutcome world bounds c state input instance_of (Cut bound) = IsLicensed world state.method bounds state.picture bound input

abbrev pub FollowsStep : World → Bounds → State → Take → Type 0
FollowsStep world bounds old take =
    (input : Input) (c : Config) → IsTypeCorrect world old.method input → StandsFor (setting_of world bounds) old input c
    → (instance_of : IsInstanceOf take.state input) → IsOutcome world bounds c take.state input instance_of take.outcome

-- ---- 3: what is kept

pub record Keeps (old new : State) : Type 0 where
  -- it is a state of the same runs
  pub method : new.method ≡ old.method
  pub init : new.init ≡ old.init
  -- the earlier terms are the first ones, and so are the earlier conditions
  pub terms : Extends old.nodes new.nodes
  pub conditions : take (length old.when) new.when ≡ old.when
  -- whoever has the shape now had it before
  pub shapes : (input : Input) → HasShape new.picture input → HasShape old.picture input

-- no condition is added
abbrev pub AddsNoCondition : State → State → Type 0
AddsNoCondition old new = new.when ≡ old.when

-- An input can be made of the picture of a state: it keeps the types of its slots, and the receiver was read.
pub record HasInputOfState (world : World) (state : State) : Type 0 where
  pub typed : IsWellTyped world state.method state.picture
  pub receiver : IsReceiverSeen world state.method state.picture

-- ---- 4: what is compared

-- it is one of those by which the step of a configuration goes on
abbrev pub IsComparedBy : Setting → Config → Option Comparison → Type 0
IsComparedBy s c None = ⊥
IsComparedBy s c (Some comparison) = Has (compares s c) comparison

-- Each condition that the take adds is on a comparison that the step makes, also where the input does not meet it.
abbrev pub AddsComparisons : World → Bounds → State → State → Type 0
AddsComparisons world bounds old new =
    (input : Input) (c : Config) → IsTypeCorrect world old.method input → StandsFor (setting_of world bounds) old input c
    → (shape : HasShape new.picture input)
    → (i : ℕ) (condition : TermId × Bool) → length old.when ≤ i → slice_get new.when i ≡ Some condition
    → IsComparedBy (setting_of world bounds) c (comparison_of new.nodes (variable_values new.picture input shape.places.objects) condition.0)

-- ---- 5: what is read and looked into

-- the step reads that slot of the place, which the run has not written before
abbrev pub IsReadAt : Setting → State → Input → Config → ℕ → Option ℕ → Type 0
IsReadAt s state input c slot None = ⊥
IsReadAt s state input c slot (Some place) =
    Has (reads s c) (record { object = place; slot = slot })
    × (Has (written_by s state.carried (beginning_of s.world state input)) (record { object = place; slot = slot }) → ⊥)

-- an argument, or a slot or an element of an object of the picture that the step reads
abbrev pub IsRead : Setting → State → Input → Config → List ℕ → Origin → Type 0
IsRead s state input c places (Arg number) = Unit {0}
IsRead s state input c places (Field object slot) = IsReadAt s state input c slot (slice_get places object)
IsRead s state input c places (Element array index) = IsReadAt s state input c index (slice_get places array)

-- what lies at the place is looked into
abbrev pub IsLookedInto : Setting → Config → Option ℕ → Type 0
IsLookedInto s c None = ⊥
IsLookedInto s c (Some place) = Has (looks s c) place

pub record AddsReads (s : Setting) (old new : State) (input : Input) (c : Config) (places : PlaceLists) : Type 0 where
  pub seen : (i : ℕ) (slot : Origin × Seen) → length old.picture.seen ≤ i → slice_get new.picture.seen i ≡ Some slot → IsRead s old input c places.objects slot.0
  -- where an object is chosen when it is looked into, the objects that are new are, and the locations that are beyond now
  pub objects : old.init ≡ Lazier → (number : ℕ) → length old.picture.objects ≤ number → number < length new.picture.objects
      → IsLookedInto s c (slice_get places.objects number)
  pub beyond : old.init ≡ Lazier → (number : ℕ) (loc : PicLoc) → slice_get new.picture.locs number ≡ Some loc → loc.standing ≡ standings.Beyond
      → slice_get old.picture.locs number ≢ Some loc → IsLookedInto s c (slice_get places.locs number)

-- Each slot that the take adds as seen is read by the step of the configuration, of which the input meets the conditions.
abbrev pub ReadsWhatItSees : World → Bounds → State → State → Type 0
ReadsWhatItSees world bounds old new =
    (input : Input) (c : Config) → IsTypeCorrect world old.method input → StandsFor (setting_of world bounds) old input c
    → (instance_of : IsInstanceOf new input) → AddsReads (setting_of world bounds) old new input c instance_of.shape.places

-- ---- 6: the measure

-- Asks needs fewer choices before the same instruction, and Goes has carried out one more.
abbrev pub GetsOn : World → State → State → Outcome → Type 0
GetsOn world old new Asks = (new.carried ≡ old.carried) × (choices_left world new < choices_left world old)
GetsOn world old new Goes = new.carried ≡ old.carried + 1
GetsOn world old new (Ends ending) = Unit {0}
GetsOn world old new (Cut bound) = Unit {0}
