-- How frames come and go (JVMS 8 sections 2.5.2 and 2.6): a method that is called has a frame of its own, and the caller's waits
-- at its invoke until that one is left. A state that reads its arguments has no frame, and stays as it is.
use Rattle.std.specs.Prelude.{ℕ, List, [], ◌∷◌, drop, length}
use Rattle.kb_class.specs.declared.ids.MethodId.{MethodId}
use Rattle.kb_classes.specs.World.{World}
use Rattle.kb_frames.specs.declared.value.SymValue.{SymValue}
use Rattle.kb_frames.specs.declared.frame.FrameAt.{FrameAt}
use Rattle.kb_frames.specs.declared.frame.SymFrame.{SymFrame}
use Rattle.kb_frames.specs.declared.state.Stage.{Stage}
use Rattle.kb_frames.specs.declared.state.Stage.TheVariants.{Begins, Runs}
use Rattle.kb_frames.specs.Lent.{begun_frame, on_frame}
use Rattle.kb_frames.specs.State.{State}

-- ---- a frame comes

abbrev pub called_stage : World → MethodId → List SymValue → List SymValue → Stage → Stage
called_stage world method arguments rest (Begins read) = Begins read
called_stage world method arguments rest (Runs frame callers) = Runs (begun_frame world method arguments) (record frame { stack = rest } ∷ callers)

-- A method is called with these arguments: its frame is the current one, and `rest` is left on the stack of the frame that calls
-- it, which is the nearest caller and stays at its offset.
abbrev pub called : World → MethodId → List SymValue → List SymValue → State → State
called world method arguments rest state = record state { stage = called_stage world method arguments rest state.stage }

-- ---- frames go

-- the frames of a run, from the current one on
abbrev pub frames_of : Stage → List SymFrame
frames_of (Begins read) = []
frames_of (Runs frame callers) = frame ∷ callers

-- what is told of a frame
abbrev pub frame_told : SymFrame → FrameAt
frame_told frame = record { method = frame.method; at = frame.at; height = length frame.stack; transfers = frame.transfers }

-- the first of these frames is the current one; where there is none, the stage stays
abbrev pub back_to : Stage → List SymFrame → Stage
back_to stage [] = stage
back_to stage (frame ∷ callers) = Runs frame callers

abbrev pub left_stage : ℕ → Stage → Stage
left_stage count (Begins read) = Begins read
left_stage count (Runs frame callers) = back_to (Runs frame callers) (drop count (frame ∷ callers))

-- So many frames are left: the frame of the next caller is the current one again, as it waited. Where there are not so many
-- callers, all stay.
abbrev pub left : ℕ → State → State
left count state = record state { stage = left_stage count state.stage }

-- So many frames are left, and the next one has nothing but the value on its stack, and was transferred back so often (JVMS 8
-- section 2.10: how a frame takes an exception).
abbrev pub landed : ℕ → SymValue → ℕ → State → State
landed count value transfers state = on_frame (λ (frame : SymFrame). record frame { stack = value ∷ []; transfers = transfers }) (left count state)
