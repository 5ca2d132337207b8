-- Which configurations a state stands for: those of the runs over its instances that have carried out as many instructions,
-- with each symbolic value in the place of its value at the input (the simulation of a run by a symbolic one: King, 1976).
use Rattle.std.specs.Prelude.{◌≡◌, ◌↔◌, ℕ, zero, suc, ◌+◌, ◌<◌, List, [], ◌∷◌, ◌++◌, length, map, take, drop, pos, Option, Some, None, option_map, slice_get, IfSome}
use Rattle.std.specs.Option.{option_map_or}
use Rattle.kb_blast.specs.Meaning.{AreMetInPool}
use Rattle.kb_class.specs.Naming.{Has}
use Rattle.kb_heap.specs.declared.heap.Value.{Value}
use Rattle.kb_heap.specs.declared.heap.Value.TheVariants as heap_values
use Rattle.kb_heap.specs.declared.heap.Object.{Object}
use Rattle.kb_heap.specs.declared.heap.Heap.{Heap}
use Rattle.kb_heap.specs.declared.heap.Input.{Input}
use Rattle.kb_heap.specs.Heap.{object_at, value_at}
use Rattle.kb_classes.specs.World.{World}
use Rattle.kb_semantics.specs.Config.{Setting, Frame, Config}
use Rattle.kb_semantics.specs.Step.{first_heap, start_of, config_at}
use Rattle.kb_semantics.specs.Looks.{Slot, stores}
use Rattle.kb_terms.specs.Terms.{values}
use Rattle.kb_terms.specs.declared.listing.Operand.TheVariants.{Term as TermOperand}
use Rattle.kb_picture.specs.declared.path.Out.{Out}
use Rattle.kb_picture.specs.declared.path.Out.TheVariants as outs
use Rattle.kb_picture.specs.declared.picture.PlaceLists.{PlaceLists}
use Rattle.kb_picture.specs.Shapes.{HasShape, IsNoPlace}
use Rattle.kb_picture.specs.Instances.{variable_values}
use Rattle.kb_picture.specs.Endings.{Reading, out_value}
use Rattle.kb_frames.specs.declared.value.SymValue.{SymValue}
use Rattle.kb_frames.specs.declared.value.SymValue.TheVariants.{Int, Null, Obj, Literal, New, Loc}
use Rattle.kb_frames.specs.declared.value.Cell.{Cell}
use Rattle.kb_frames.specs.declared.value.Cell.TheVariants.{Untouched, Read, Written}
use Rattle.kb_frames.specs.declared.frame.SymFrame.{SymFrame}
use Rattle.kb_frames.specs.declared.state.SymObject.{SymObject}
use Rattle.kb_frames.specs.declared.state.Stage.{Stage}
use Rattle.kb_frames.specs.declared.state.Stage.TheVariants.{Begins, Runs}
use Rattle.kb_frames.specs.Arrays.{index_next}
use Rattle.kb_frames.specs.State.{State, cell_at}

-- ---- values

-- a value of a state as one that a path states, with the numbers of the pool's terms
abbrev pub out_of : SymValue → Out
out_of (Int term) = outs.Int (TermOperand term.0)
out_of Null = outs.Null
out_of (Obj number) = outs.Obj number
out_of (Literal number) = outs.Literal number
out_of (New number) = outs.New number
out_of (Loc number) = outs.Loc number

-- what an input gives to the values of a state: the terms are all those of the pool
unfoldable pub reading_at : World → State → Input → PlaceLists → Reading
reading_at world state input places =
    let variables = variable_values state.picture input places.objects in
    record {
      places = places;
      variables = variables;
      terms = values variables state.nodes;
      inputs = length input.heap.objects;
      literals = length world.literals;
    }

-- the value at an input: the same word as for what a path states
abbrev pub value_of_sym : Reading → SymValue → Value
value_of_sym r value = out_value r (out_of value)

abbrev pub values_of_sym : Reading → List SymValue → List Value
values_of_sym r symbolic = map (value_of_sym r) symbolic

-- ---- instances

-- The input is an instance of the state: of its picture, and of its conditions on the terms of its pool.
pub record IsInstanceOf (state : State) (input : Input) : Type 0 where
  pub shape : HasShape state.picture input
  pub conditions : AreMetInPool state.nodes (variable_values state.picture input shape.places.objects) state.when

-- ---- frames

pub record FrameStandsFor (r : Reading) (symbolic : SymFrame) (frame : Frame) : Type 0 where
  pub method : frame.method ≡ symbolic.method
  pub at : frame.at ≡ symbolic.at
  pub locals : frame.locals ≡ map (option_map (value_of_sym r)) symbolic.locals
  pub stack : frame.stack ≡ values_of_sym r symbolic.stack
  pub transfers : frame.transfers ≡ symbolic.transfers

abbrev pub FramesStandFor : Reading → List SymFrame → List Frame → Type 0
FramesStandFor r [] [] = Unit {0}
FramesStandFor r (symbolic ∷ others) (frame ∷ frames) = FrameStandsFor r symbolic frame × FramesStandFor r others frames
FramesStandFor r [] (frame ∷ frames) = ⊥
FramesStandFor r (symbolic ∷ others) [] = ⊥

-- A state that reads its arguments has read the first ones of the input; after that, its frames are those of the configuration.
abbrev pub StageStandsFor : Reading → Input → Stage → Config → Type 0
StageStandsFor r input (Begins read) c = (c.carried ≡ 0) × (values_of_sym r read ≡ take (length read) input.args)
StageStandsFor r input (Runs frame callers) c = FrameStandsFor r frame c.frame × FramesStandFor r callers c.callers

-- ---- the heap

abbrev pub made_at : Reading → SymObject → Object
made_at r made = record { kind = made.kind; values = values_of_sym r made.values }

-- what a cell says of a slot, which at the start of the run holds the value given
abbrev pub present_value : Reading → Option Value → Cell → Option Value
present_value r first Untouched = first
present_value r first (Read value) = Some (value_of_sym r value)
present_value r first (Written value) = Some (value_of_sym r value)

-- one object has the exact type of the other, and as many slots or elements
abbrev pub IsLike : Option Object → Option Object → Type 0
IsLike (Some one) (Some other) = (one.kind ≡ other.kind) × (length one.values ≡ length other.values)
IsLike None None = Unit {0}
IsLike (Some one) None = ⊥
IsLike None (Some other) = ⊥

-- The heap is the one that the state knows, where `first` is the heap from the start of the run.
pub record HeapStandsFor (r : Reading) (state : State) (first heap : Heap) : Type 0 where
  -- the objects of the run are those that the state keeps as made, in order
  pub made : drop (r.inputs + r.literals) heap.objects ≡ map (made_at r) state.made
  -- an object of the input keeps its exact type and its length
  pub like : (object : ℕ) → object < r.inputs → IsLike (object_at heap object) (object_at first object)
  -- each slot of an object of the picture holds, at the object's place, the state's present value
  pub cells : (object slot place : ℕ) → slice_get r.places.objects object ≡ Some place
      → value_at heap place slot ≡ present_value r (value_at first place slot) (cell_at state.cells object slot)
  -- one that was read, and not written, holds what it held at the start
  pub kept : (object slot place : ℕ) (value : SymValue) → slice_get r.places.objects object ≡ Some place → cell_at state.cells object slot ≡ Read value
      → value_at heap place slot ≡ value_at first place slot
  -- an object of the input that no object of the picture is, and a literal, are as at the start
  pub others : (object : ℕ) → object < r.inputs + r.literals → IsNoPlace r.places.objects object → object_at heap object ≡ object_at first object

-- ---- the run

-- the beginning of the run that the state is in: that of its method over the input
abbrev pub beginning_of : World → State → Input → Config
beginning_of world state input = start_of world state.method input

-- The configuration is that of the run that the state is in, behind as many instructions as the state has carried out.
abbrev pub IsOfRun : Setting → State → Input → Config → Type 0
IsOfRun s state input c = config_at s state.carried (beginning_of s.world state input) ≡ Some c

-- ---- what the run has written

-- the slots that the steps of the first so many configurations of a run write
abbrev pub written_by : Setting → ℕ → Config → List Slot
written_by s zero c = []
written_by s (suc n) c = written_by s n c ++ option_map_or (stores s) (config_at s n c) []

-- the state keeps a slot of an object of the picture as written, which lies there in the input
pub record IsKept (r : Reading) (state : State) (slot : Slot) : Type 0 where
  pub object : ℕ
  pub place : slice_get r.places.objects object ≡ Some slot.object
  pub value : SymValue
  pub cell : cell_at state.cells object slot.slot ≡ Written value

-- ---- the place that was chosen

-- the index that the next instruction takes has the value of the place
abbrev pub IsIndexNext : World → Reading → State → ℕ → Type 0
IsIndexNext world r state place = option_map (value_of_sym r) (index_next world state.method state.stage) ≡ Some (heap_values.Int (pos place))

-- ---- states

-- A state stands for a configuration of an input's run.
pub record StandsFor (s : Setting) (state : State) (input : Input) (c : Config) : Type 0 where
  pub run : IsOfRun s state input c
  pub instance_of : IsInstanceOf state input
  pub stage : StageStandsFor (reading_at s.world state input instance_of.shape.places) input state.stage c
  pub heap : HeapStandsFor (reading_at s.world state input instance_of.shape.places) state (first_heap s.world input.heap) c.heap
  -- what the state keeps as written are those slots of the input that the run has written
  pub written : (slot : Slot) → slot.object < length input.heap.objects
      → Has (written_by s state.carried (beginning_of s.world state input)) slot
      ↔ IsKept (reading_at s.world state input instance_of.shape.places) state slot
  pub chosen : IfSome state.chosen (IsIndexNext s.world (reading_at s.world state input instance_of.shape.places) state)
