-- How a run goes on from a state.
use Rattle.std.proofs.Common.{◌≡◌, ℕ, suc, ◌+◌, ◌-◌, ◌<◌, ◌≤◌, Option, Some, None, Result, Ok, Err, IfOk, refl, sym, ap, ◌∙◌, arith}
use Rattle.std.proofs.lemmas.Bool.{lt-leb, le-leb}
use Rattle.kb_class.specs.declared.ids.MethodId.{MethodId}
use Rattle.kb_code.specs.declared.instruction.Instr.{Instr}
use Rattle.kb_classes.specs.World.{World}
use Rattle.kb_heap.specs.declared.bounds.Bound.TheVariants.{Steps}
use Rattle.kb_heap.specs.declared.ending.Ending.{Ending}
use Rattle.kb_heap.specs.declared.ending.Ending.TheVariants.{Past}
use Rattle.kb_heap.specs.declared.heap.Heap.{Heap}
use Rattle.kb_semantics.specs.Config.{Setting, Config, Ended, Frame, Outcome, instruction_at}
use Rattle.kb_semantics.specs.Step.{effect, follow, run, step}
use Rattle.kb_semantics.specs.Ways.{ill_typed, past}
use Rattle.kb_machine.specs.Turns.{setting_of, config_of, config_at, told, ending_told}
use Rattle.kb_machine.specs.declared.state.State.{State}
use Rattle.kb_machine.specs.declared.turn.Turn.{Turn}
use Rattle.kb_machine.specs.declared.turn.Step.{Step}
use Rattle.kb_machine.specs.declared.turn.Step.TheVariants as steps

-- the instruction at a frame's offset
pub found_at_frame : (world : World) (frame : Frame) (method : MethodId) (at : ℕ) (found : Option (Instr × ℕ)) → method ≡ frame.method → at ≡ frame.at →
    instruction_at world method at ≡ found → instruction_at world frame.method frame.at ≡ found
found_at_frame world frame method at found same there is =
    ap (λ (m : MethodId). instruction_at world m frame.at) (sym same) ∙ (ap (λ (n : ℕ). instruction_at world method n) (sym there) ∙ is)

-- ---- one step

module _ (s : Setting) (c : Config) where
  pub step_taken : (found : Instr × ℕ) → c.carried < s.bounds.steps → instruction_at s.world c.frame.method c.frame.at ≡ Some found → step s c ≡ effect found.0 s found.1 c
  unfolding step
  step_taken found more at = rw (lt-leb s.bounds.steps c.carried more, at) refl

  pub step_off : c.carried < s.bounds.steps → instruction_at s.world c.frame.method c.frame.at ≡ None → step s c ≡ ill_typed s c
  unfolding step
  step_off more at = rw (lt-leb s.bounds.steps c.carried more, at) refl

  pub step_past : s.bounds.steps ≤ c.carried → step s c ≡ past c Steps
  unfolding step
  step_past spent = rw (le-leb s.bounds.steps c.carried spent) refl

  run_on : (left : ℕ) (o : Outcome) → step s c ≡ o → run (suc left) s c ≡ follow o (run left s)
  unfolding run
  run_on left o e = rw e refl

-- ---- a turn

module _ (t : Turn) (old new : State) (found : Instr × ℕ) (more : t.carried < t.bounds.steps)
    (at : instruction_at t.world.now old.frame.method old.frame.at ≡ Some found) where
  -- the run goes on from the new state
  pub goes_on : told t steps.Goes new ≡ effect found.0 (setting_of t) found.1 (config_of t old) →
      run (suc (t.bounds.steps - t.carried)) (setting_of t) (config_of t old) ≡ run (suc (t.bounds.steps - (t.carried + 1))) (setting_of t) (config_at t (t.carried + 1) new)
  goes_on is =
      let one_less : t.bounds.steps - t.carried ≡ suc (t.bounds.steps - (t.carried + 1)) = omega arith in
      run_on (setting_of t) (config_of t old) (t.bounds.steps - t.carried) (told t steps.Goes new) (step_taken (setting_of t) (config_of t old) found more at ∙ sym is)
      ∙ ap (λ (n : ℕ). run n (setting_of t) (config_at t (t.carried + 1) new)) one_less

  -- the step ends it
  pub ends : (step : Step) → (step ≡ steps.Goes → ⊥) → told t step new ≡ effect found.0 (setting_of t) found.1 (config_of t old) →
      run (suc (t.bounds.steps - t.carried)) (setting_of t) (config_of t old) ≡ record { ending = ending_told t.world.now step; heap = new.heap }
  ends step other is =
      run_on (setting_of t) (config_of t old) (t.bounds.steps - t.carried) (told t step new) (step_taken (setting_of t) (config_of t old) found more at ∙ sym is)
      ∙ ended_so step other
    where
      ended_so : (step : Step) → (step ≡ steps.Goes → ⊥) → follow (told t step new) (run (t.bounds.steps - t.carried) (setting_of t)) ≡ record { ending = ending_told t.world.now step; heap = new.heap }
      ended_so steps.Goes other = absurd (other refl)
      ended_so (steps.Returned value) other = refl
      ended_so (steps.Threw object) other = refl
      ended_so (steps.IllTyped method place) other = refl
      ended_so (steps.Past bound) other = refl

-- ---- where there is no instruction, and where none may be carried out any more

pub runs_off : (s : Setting) (c : Config) (left : ℕ) → c.carried < s.bounds.steps → instruction_at s.world c.frame.method c.frame.at ≡ None →
    run (suc left) s c ≡ follow (ill_typed s c) (run left s)
runs_off s c left more at = run_on s c left (ill_typed s c) (step_off s c more at)

pub runs_past : (s : Setting) (c : Config) (left : ℕ) → s.bounds.steps ≤ c.carried → run (suc left) s c ≡ record { ending = Past Steps; heap = c.heap }
runs_past s c left spent = run_on s c left (past c Steps) (step_past s c spent)

-- ---- the ending that is told

pub told_so : {E : Type 0} (told : Result Ending E) (ended : Ended) (heap : Heap) (ending : Ending) → IfOk told (λ (it : Ending). it ≡ ending)
    → ended ≡ record { ending = ending; heap = heap } → IfOk told (λ (it : Ending). ended ≡ record { ending = it; heap = heap })
told_so (Ok it) ended heap ending is so = so ∙ ap (λ (it : Ending). record { ending = it; heap = heap }) (sym is)
told_so (Err e) ended heap ending is so = is
