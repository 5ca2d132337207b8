-- What a step reads of a state and writes into it, each the whole state afterwards. A state that reads its arguments has no
-- frame: the writes into the current frame leave it as it is.
use Rattle.std.specs.Prelude.{ℕ, ◌+◌, ◌-◌, List, [], ◌∷◌, ◌++◌, length, map, drop, replicate, Option, Some, None, option_and_then, slice_get, slice_set}
use Rattle.kb_class.specs.declared.ids.MethodId.{MethodId}
use Rattle.kb_classes.specs.World.{World}
use Rattle.kb_semantics.specs.Config.{max_locals_of}
use Rattle.kb_terms.specs.declared.node.Node.{Node}
use Rattle.kb_frames.specs.declared.value.SymValue.{SymValue}
use Rattle.kb_frames.specs.declared.frame.SymFrame.{SymFrame}
use Rattle.kb_frames.specs.declared.state.Stage.{Stage}
use Rattle.kb_frames.specs.declared.state.Stage.TheVariants.{Begins, Runs}
use Rattle.kb_frames.specs.State.{State}

-- ---- what is read

-- the operand stack of the current frame, from the top down
abbrev pub stack_of : Stage → List SymValue
stack_of (Begins read) = []
stack_of (Runs frame callers) = frame.stack

-- a local that was written
abbrev pub locals_of : Stage → List (Option SymValue)
locals_of (Begins read) = []
locals_of (Runs frame callers) = frame.locals

abbrev pub local_in : Stage → ℕ → Option SymValue
local_in stage number = option_and_then (λ (value : Option SymValue). value) (slice_get (locals_of stage) number)

abbrev pub transfers_of : Stage → ℕ
transfers_of (Begins read) = 0
transfers_of (Runs frame callers) = frame.transfers

-- the frames of the callers, from the nearest on
abbrev pub callers_of : Stage → List SymFrame
callers_of (Begins read) = []
callers_of (Runs frame callers) = callers

-- ---- what is written into the current frame

abbrev pub with_frame : (SymFrame → SymFrame) → Stage → Stage
with_frame f (Begins read) = Begins read
with_frame f (Runs frame callers) = Runs (f frame) callers

abbrev pub on_frame : (SymFrame → SymFrame) → State → State
on_frame f state = record state { stage = with_frame f state.stage }

-- a value on the top of the stack
abbrev pub pushed : State → SymValue → State
pushed state value = on_frame (λ (frame : SymFrame). record frame { stack = value ∷ frame.stack }) state

-- so many values fewer on the stack
abbrev pub popped : State → ℕ → State
popped state count = on_frame (λ (frame : SymFrame). record frame { stack = drop count frame.stack }) state

-- a value in the local of that number
abbrev pub stored : State → ℕ → SymValue → State
stored state number value = on_frame (λ (frame : SymFrame). record frame { locals = slice_set frame.locals number (Some value) }) state

-- at the instruction at that offset
abbrev pub moved : State → ℕ → State
moved state at = on_frame (λ (frame : SymFrame). record frame { at = at }) state

-- one transfer more to an offset not above one's own
abbrev pub transferred : State → State
transferred state = on_frame (λ (frame : SymFrame). record frame { transfers = frame.transfers + 1 }) state

-- ---- what is written elsewhere

-- one instruction more was carried out: what it has chosen is no longer so
abbrev pub carried_on : State → State
carried_on state = record state { carried = state.carried + 1; chosen = None }

-- the place is chosen for the index of the present instruction
abbrev pub placed : ℕ → State → State
placed place state = record state { chosen = Some place }

-- the terms are those of the pool
abbrev pub with_nodes : State → List Node → State
with_nodes state nodes = record state { nodes = nodes }

-- ---- how a run begins

abbrev pub read_count : Stage → ℕ
read_count (Begins read) = length read
read_count (Runs frame callers) = 0

abbrev pub begun_locals : List SymValue → ℕ → List (Option SymValue)
begun_locals read limit = map (λ (value : SymValue). Some value) read ++ replicate (limit - length read) None

-- the frame of a method that begins with these arguments: it holds them all, whatever the limit on its locals is (own)
abbrev pub begun_frame : World → MethodId → List SymValue → SymFrame
begun_frame world method arguments = record { method = method; at = 0; locals = begun_locals arguments (max_locals_of world method); stack = []; transfers = 0 }

abbrev pub begun_stage : World → State → Stage → Stage
begun_stage world state (Begins read) = Runs (begun_frame world state.method read) []
begun_stage world state (Runs frame callers) = Runs frame callers

-- All arguments are read: the run has its first frame, which holds them all.
abbrev pub begun : World → State → State
begun world state = record state { stage = begun_stage world state state.stage }
