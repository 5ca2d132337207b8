-- What a look at a state finds: the instruction that its next step takes up, and what that must be told.
use Rattle.std.specs.Prelude.{◌≡◌, ℕ, List, [], Option, option_map, IfSome}
use Rattle.std.specs.Option.{option_map_or}
use Rattle.kb_code.specs.declared.instruction.Instr.{Instr}
use Rattle.kb_heap.specs.declared.bounds.Bounds.{Bounds}
use Rattle.kb_classes.specs.World.{World}
use Rattle.kb_picture.specs.declared.choice.Choice.{Choice}
use Rattle.kb_frames.specs.Lent.{stack_of}
use Rattle.kb_frames.specs.State.{State}
use Rattle.kb_ways.specs.declared.condition.Condition.{Condition}
use Rattle.kb_ways.specs.Needs.{IsTurnAt}
use Rattle.kb_ways.specs.Plans.{taken_up}
use Rattle.kb_ways.specs.Turns.{found_of}
use Rattle.kb_stepint.specs.declared.look.Look.{Look}
use Rattle.kb_stepint.specs.Choices.{choices_of, conditions_of}
use Rattle.kb_stepint.specs.Questions.{HasTermsOf, conditions_by, offered_by}

-- the conditions that an alternative of the instruction that is taken up asks for
abbrev pub conditions_up : State → Choice → Option (Instr × ℕ) → List Condition
conditions_up state choice found = option_map_or (λ (f : Instr × ℕ). conditions_of f.0 (stack_of state.stage) choice) found []

-- The look is one at the state: the alternatives, and what each asks for, are those of what must be told.
pub record IsLookAt (world : World) (bounds : Bounds) (state : State) (look : Look) : Type 0 where
  pub found : option_map found_of look.turn ≡ taken_up world bounds state
  pub turn : IfSome look.turn (IsTurnAt world bounds state)
  pub offered : choices_of world state bounds ≡ offered_by state look.question
  pub conditions : (choice : Choice) → conditions_up state choice (taken_up world bounds state) ≡ conditions_by look.question choice
  pub terms : IfSome look.question (HasTermsOf state.nodes)
