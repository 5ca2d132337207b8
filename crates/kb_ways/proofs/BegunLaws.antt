-- The frame with which a run goes on is the one in which it stands.
use Rattle.std.proofs.Common.{◌≡◌, ℕ, List, slice_get, Option, Some, None, refl}
use Rattle.kb_classes.specs.World.{World}
use Rattle.kb_semantics.specs.Config.{instruction_at}
use Rattle.kb_terms.specs.declared.node.Node.{Node}
use Rattle.kb_frames.specs.declared.state.Stage.{Stage}
use Rattle.kb_frames.specs.declared.state.Stage.TheVariants.{Begins, Runs}
use Rattle.kb_frames.specs.declared.value.SymValue.{SymValue}
use Rattle.kb_frames.specs.declared.value.SymValue.TheVariants.{Int, Null, Obj, Literal, New, Loc}
use Rattle.kb_frames.specs.Lent.{begun_stage, stack_of}
use Rattle.kb_frames.specs.Next.{method_now, offset_now}
use Rattle.kb_frames.specs.State.{State}
use Rattle.kb_frames.specs.States.{Each, IsStage, IsSymValue}
use Rattle.kb_ways.specs.Needs.{IsTermOf}

-- ---- the operands are terms

-- each int of a stack is a term of the pool
abbrev pub AreStackTerms : List Node → List SymValue → Type 0
AreStackTerms nodes stack = (depth : ℕ) → IsTermOf nodes (slice_get stack depth)

pub sym_term : (world : World) (state : State) (value : SymValue) → IsSymValue world state value → IsTermOf state.nodes (Some value)
sym_term world state (Int t) is = is
sym_term world state Null is = tt
sym_term world state (Obj n) is = tt
sym_term world state (Literal n) is = tt
sym_term world state (New n) is = tt
sym_term world state (Loc n) is = tt

pub sym_terms : (world : World) (state : State) (stack : List SymValue) → Each (IsSymValue world state) stack → AreStackTerms state.nodes stack
sym_terms world state stack each depth = go (slice_get stack depth) refl where
  go : (it : Option SymValue) → slice_get stack depth ≡ it → IsTermOf state.nodes it
  go None e = tt
  go (Some value) e = sym_term world state value (each depth value e)

-- those of the frame with which a run goes on
pub begun_terms : (world : World) (state : State) → IsStage world state state.stage → AreStackTerms state.nodes (stack_of (begun_stage world state state.stage))
begun_terms world state = go state.stage where
  go : (stage : Stage) → IsStage world state stage → AreStackTerms state.nodes (stack_of (begun_stage world state stage))
  go (Begins read) is = λ depth. tt
  go (Runs frame callers) is = sym_terms world state frame.stack is.0.stack

-- ---- where a run stands

pub place_same : (world : World) (old : State) (stage : Stage)
    → instruction_at world (method_now old.method (begun_stage world old stage)) (offset_now (begun_stage world old stage)) ≡ instruction_at world (method_now old.method stage) (offset_now stage)
place_same world old (Begins read) = refl
place_same world old (Runs frame callers) = refl

pub stack_same : (world : World) (old : State) (stage : Stage) → stack_of (begun_stage world old stage) ≡ stack_of stage
stack_same world old (Begins read) = refl
stack_same world old (Runs frame callers) = refl
