-- What an instruction does to a state, and what surrounds it. An instruction makes terms and writes into the state, asks for
-- what was chosen, and has a way on; a family of instructions has a plan, which says so of each of its own, with symbolic
-- values in the place of values (JVMS 8 section 6.5). The bound on steps and the end of the code are the same for all.
use Rattle.std.specs.Prelude.{ℕ, nat_le, is_some, ◌||◌, List, ◌∷◌, Option, Some, None, option_and_then, if◌then◌else◌}
use Rattle.std.specs.Option.{option_map_or}
use Rattle.kb_code.specs.declared.instruction.Instr.{Instr}
use Rattle.kb_heap.specs.declared.bounds.Bound.TheVariants.{Steps}
use Rattle.kb_heap.specs.declared.bounds.Bounds.{Bounds}
use Rattle.kb_classes.specs.World.{World}
use Rattle.kb_names.specs.declared.types.JType.{JType}
use Rattle.kb_semantics.specs.Config.{class_number, instruction_at, result_of}
use Rattle.kb_terms.specs.declared.node.Node.{Node}
use Rattle.kb_terms.specs.declared.node.TermId.{TermId}
use Rattle.kb_picture.specs.declared.choice.Choice.{Choice}
use Rattle.kb_frames.specs.declared.value.Outcome.TheVariants.{Cut}
use Rattle.kb_frames.specs.declared.value.SymValue.{SymValue}
use Rattle.kb_frames.specs.declared.value.SymValue.TheVariants.{Int}
use Rattle.kb_frames.specs.Lent.{begun, with_nodes}
use Rattle.kb_frames.specs.Next.{argument_next, method_now, offset_now}
use Rattle.kb_frames.specs.State.{State}
use Rattle.kb_ways.specs.Kept.{kept}
use Rattle.kb_ways.specs.Ways.{Take, Way, Leaves, Fails, ill_typed, went, with_stack}

-- the state with what the instruction makes and writes, and the way on
pub record Planned : Type 0 where
  pub state : State
  pub way : Way

-- how the instructions of a family are carried out, by the alternative that was chosen
abbrev pub Plan : Type 0
Plan = World → State → Choice → Instr → Planned

-- the number of the class of the current method, whose entries its code names
abbrev pub here : World → State → ℕ
here world state = class_number world (method_now state.method state.stage)

-- ---- parts

-- nothing is made or written
abbrev pub plain : State → Way → Planned
plain state way = record { state = state; way = way }

-- where there is something, what it leads to; else it is ill-typed
abbrev pub planned : {A : Type 0} → State → Option A → (A → Planned) → Planned
planned state it f = option_map_or f it (plain state Fails)

-- a term that was made lies on these values
abbrev pub pushes_term : State → List SymValue → List Node × TermId → Planned
pushes_term state rest made = record { state = with_nodes state made.0; way = with_stack state (Int made.1 ∷ rest) }

-- the method returns what its result's type keeps of a value; one of another kind is ill-typed
abbrev pub leaves_with : State × SymValue → Planned
leaves_with it = record { state = it.0; way = Leaves (Some it.1) }

abbrev pub returns_value : World → State → SymValue → Planned
returns_value world state value =
    planned state (option_and_then (λ (type : JType). kept type value state) (result_of world (method_now state.method state.stage))) leaves_with

-- ---- what surrounds it

-- a plan is followed, where `next` is the offset behind the instruction
abbrev pub followed : World → Bounds → ℕ → Planned → Take
followed world bounds next plan = went world bounds next plan.state plan.way

-- The instruction that is taken up, and the offset behind it: None where an argument is read first, where as many instructions
-- were carried out as may be, and where the code has run off its end.
abbrev pub taken_up : World → Bounds → State → Option (Instr × ℕ)
taken_up world bounds state =
    if is_some (argument_next world state.method state.stage) || nat_le bounds.run.steps state.carried then None
    else instruction_at world (method_now state.method state.stage) (offset_now state.stage)

-- where none is of a run whose arguments are read, it is cut at the bound on steps, or its code has run off its end
abbrev pub takes_none : World → Bounds → State → Take
takes_none world bounds state =
    if nat_le bounds.run.steps state.carried then record { state = state; outcome = Cut Steps } else ill_typed world (begun world state)

-- an instruction is carried out
abbrev pub carried_out : Plan → World → Bounds → Choice → State → Instr × ℕ → Take
carried_out plan_of world bounds choice state found = followed world bounds found.1 (plan_of world state choice found.0)

-- the next instruction of a run whose arguments are read; where there is none, the code has run off its end
abbrev pub takes_up : Plan → World → Bounds → Choice → State → Take
takes_up plan_of world bounds choice state =
    option_map_or (carried_out plan_of world bounds choice state) (instruction_at world (method_now state.method state.stage) (offset_now state.stage)) (ill_typed world state)

-- where as many instructions were carried out as may be, the run is cut before the next one
abbrev pub takes_next : Plan → World → Bounds → Choice → State → Take
takes_next plan_of world bounds choice state =
    if nat_le bounds.run.steps state.carried then record { state = state; outcome = Cut Steps } else takes_up plan_of world bounds choice (begun world state)
