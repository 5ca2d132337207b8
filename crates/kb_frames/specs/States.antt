-- What holds of every state to which `start` and later calls lead, and what a leaf has to keep to be that of such a state.
use Rattle.std.specs.Prelude.{◌≡◌, ◌≢◌, ℕ, ◌<◌, ◌≤◌, ◌^◌, List, length, map, Option, Some, None, slice_get, IfSome}
use Rattle.kb_blast.specs.Query.{kinds_of, AreConditions}
use Rattle.kb_blast.specs.Meaning.{OperandFits}
use Rattle.kb_class.specs.declared.members.MethodInfo.{MethodInfo}
use Rattle.kb_classes.specs.World.{World}
use Rattle.kb_names.specs.declared.types.ExactType.{ExactType}
use Rattle.kb_names.specs.declared.types.ExactType.TheVariants as exact
use Rattle.kb_semantics.specs.Config.{info_of, max_locals_of}
use Rattle.kb_semantics.specs.Inputs.{argument_types}
use Rattle.kb_semantics.specs.Looks.{numbers_below}
use Rattle.kb_semantics.specs.Values.{slots_of_class}
use Rattle.kb_terms.specs.Terms.{IsTerm, IsPool}
use Rattle.kb_terms.specs.declared.listing.Operand.{Operand}
use Rattle.kb_terms.specs.declared.listing.Operand.TheVariants.{Const, Var, Term as TermOperand}
use Rattle.kb_picture.specs.declared.picture.Origin.{Origin}
use Rattle.kb_picture.specs.declared.picture.Origin.TheVariants.{Arg, Field, Element}
use Rattle.kb_picture.specs.declared.picture.Length.{Length}
use Rattle.kb_picture.specs.declared.picture.Length.TheVariants.{Plain, Is, Above}
use Rattle.kb_picture.specs.declared.picture.PicObject.{PicObject}
use Rattle.kb_picture.specs.declared.path.Out.{Out}
use Rattle.kb_picture.specs.declared.path.Out.TheVariants as outs
use Rattle.kb_picture.specs.declared.path.Made.{Made}
use Rattle.kb_picture.specs.declared.path.Ended.{Ended}
use Rattle.kb_picture.specs.declared.path.Leaf.{Leaf}
use Rattle.kb_picture.specs.declared.path.Leaf.TheVariants.{Ended as EndedLeaf, Cut, Undecided, Open}
use Rattle.kb_picture.specs.Finding.{IsFoundFirst}
use Rattle.kb_picture.specs.Numbering.{ended_outs}
use Rattle.kb_picture.specs.Queries.{kinds_seen}
use Rattle.kb_picture.specs.WellFormed.{IsPicture, slots_seen, variables_seen, IsOpenLoc, IsThrown, AreWrites, HasValues, IsClosed}
use Rattle.kb_frames.specs.declared.value.SymValue.{SymValue}
use Rattle.kb_frames.specs.declared.value.SymValue.TheVariants.{Int, Null, Obj, Literal, New, Loc}
use Rattle.kb_frames.specs.declared.value.Cell.{Cell}
use Rattle.kb_frames.specs.declared.value.Cell.TheVariants.{Untouched, Read, Written}
use Rattle.kb_frames.specs.declared.frame.SymFrame.{SymFrame}
use Rattle.kb_frames.specs.declared.state.SymObject.{SymObject}
use Rattle.kb_frames.specs.declared.state.Stage.{Stage}
use Rattle.kb_frames.specs.declared.state.Stage.TheVariants.{Begins, Runs}
use Rattle.kb_frames.specs.Arrays.{IsPlaceNext}
use Rattle.kb_frames.specs.State.{State, cell_at}

-- ---- values

-- the value names what is there
abbrev pub IsSymValue : World → State → SymValue → Type 0
IsSymValue world state (Int term) = IsTerm state.nodes term
IsSymValue world state Null = Unit {0}
IsSymValue world state (Obj number) = number < length state.picture.objects
IsSymValue world state (Literal number) = number < length world.literals
IsSymValue world state (New number) = number < length state.made
IsSymValue world state (Loc number) = number < length state.picture.locs

-- each item of a list is such
abbrev pub Each : {A : Type 0} → (A → Type 0) → List A → Type 0
Each {A} P items = (i : ℕ) (item : A) → slice_get items i ≡ Some item → P item

abbrev pub IsLocal : World → State → Option SymValue → Type 0
IsLocal world state None = Unit {0}
IsLocal world state (Some value) = IsSymValue world state value

pub record IsFrame (world : World) (state : State) (frame : SymFrame) : Type 0 where
  -- it has each local that the code of its method may write
  pub room : max_locals_of world frame.method ≤ length frame.locals
  pub locals : Each (IsLocal world state) frame.locals
  pub stack : Each (IsSymValue world state) frame.stack

-- The arguments that were read are the first ones, and nothing else was seen or carried out.
pub record IsBeginning (world : World) (state : State) (read : List SymValue) : Type 0 where
  pub values : Each (IsSymValue world state) read
  pub seen : slots_seen state.picture ≡ map Arg (numbers_below (length read))
  pub carried : state.carried ≡ 0

abbrev pub IsStage : World → State → Stage → Type 0
IsStage world state (Begins read) = IsBeginning world state read
IsStage world state (Runs frame callers) = IsFrame world state frame × Each (IsFrame world state) callers

-- ---- the heap

abbrev pub IsCell : World → State → Cell → Type 0
IsCell world state Untouched = Unit {0}
IsCell world state (Read value) = IsSymValue world state value
IsCell world state (Written value) = IsSymValue world state value

-- an object of the exact type and the length has so many cells; one that is longer than n is never looked into, and has none
abbrev pub HasCells : World → ExactType → Length → ℕ → Type 0
HasCells world (exact.Class name) len count = count ≡ length (slots_of_class world name)
HasCells world (exact.Array component) (Is n) count = count ≡ n
HasCells world (exact.Array component) (Above n) count = count ≡ 0
HasCells world (exact.Array component) Plain count = ⊥

-- what the slot of an object holds was seen, or written
abbrev pub IsTouched : List (List Cell) → Origin → Type 0
IsTouched cells (Arg number) = Unit {0}
IsTouched cells (Field object slot) = cell_at cells object slot ≢ Untouched
IsTouched cells (Element array index) = cell_at cells array index ≢ Untouched

pub record AreCells (world : World) (state : State) : Type 0 where
  pub count : length state.cells ≡ length state.picture.objects
  pub each : (number : ℕ) (object : PicObject) (cells : List Cell) → slice_get state.picture.objects number ≡ Some object → slice_get state.cells number ≡ Some cells
      → HasCells world object.kind object.length (length cells) × Each (IsCell world state) cells
  -- a slot that the picture has seen is no longer untouched, so that it is not seen once more
  pub seen : (i : ℕ) (slot : Origin) → slice_get (slots_seen state.picture) i ≡ Some slot → IsTouched state.cells slot

-- an int counts the elements of an array (JVMS 8 section 6.5, arraylength)
abbrev pub IsCounted : ExactType → ℕ → Type 0
IsCounted (exact.Class name) count = Unit {0}
IsCounted (exact.Array component) count = count < 2 ^ 31

pub record IsMade (world : World) (state : State) (made : SymObject) : Type 0 where
  pub count : HasValues world made.kind (length made.values)
  pub counted : IsCounted made.kind (length made.values)
  pub values : Each (IsSymValue world state) made.values

-- ---- states

-- A state to which `start` and later calls lead in a world.
pub record IsState (world : World) (state : State) : Type 0 where
  pub info : MethodInfo
  pub info_is : info_of world state.method ≡ Some info
  pub picture : IsPicture world (length (argument_types world info)) state.picture
  -- each slot that it has read was found before
  pub found : IsFoundFirst state.picture
  -- the variables of its terms are those that slots are seen as, with their kinds
  pub pool : IsPool state.nodes
  pub kinds : kinds_of state.nodes ≡ kinds_seen world state.method state.picture
  -- its conditions are on comparisons
  pub conditions : AreConditions state.nodes state.when
  pub stage : IsStage world state state.stage
  pub cells : AreCells world state
  pub made : Each (IsMade world state) state.made
  -- the place that was chosen is one of the array to which the next instruction has access
  pub chosen : IfSome state.chosen (IsPlaceNext world state)

-- ---- leaves, with the pool's numbers of terms

abbrev pub IsOperandIn : State → Operand → Type 0
IsOperandIn state (Const c) = OperandFits (Const c)
IsOperandIn state (Var number) = number < length (variables_seen state.picture)
IsOperandIn state (TermOperand number) = number < length state.nodes

-- a value that names what is there, with so many made objects; a location is named where it is open
abbrev pub IsOutIn : World → State → ℕ → Out → Type 0
IsOutIn world state made (outs.Int operand) = IsOperandIn state operand
IsOutIn world state made outs.Null = Unit {0}
IsOutIn world state made (outs.Loc number) = IsOpenLoc state.picture number
IsOutIn world state made (outs.Obj number) = number < length state.picture.objects
IsOutIn world state made (outs.Literal number) = number < length world.literals
IsOutIn world state made (outs.New number) = number < made

pub record IsEndedIn (world : World) (state : State) (ended : Ended) : Type 0 where
  pub outs : (i : ℕ) (out : Out) → slice_get (ended_outs ended) i ≡ Some out → IsOutIn world state (length ended.made) out
  pub thrown : IsThrown ended.ending
  pub writes : AreWrites world state.picture ended.writes
  pub made : (i : ℕ) (made : Made) → slice_get ended.made i ≡ Some made → HasValues world made.kind (length made.values)
  pub input : IsClosed ended.input

-- A leaf that a path of the state may have.
abbrev pub IsLeafIn : World → State → Leaf → Type 0
IsLeafIn world state (EndedLeaf ended) = IsEndedIn world state ended
IsLeafIn world state (Cut bound input) = IsClosed input
IsLeafIn world state (Undecided log) = Unit {0}
IsLeafIn world state Open = Unit {0}
