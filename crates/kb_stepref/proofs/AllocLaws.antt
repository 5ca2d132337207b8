-- The step of a new array that is longer than the bound is past it.
use Rattle.std.proofs.Common.{◌≡◌, ℕ, ◌<◌, ℤ, pos, Bool, true, false, List, drop, nat_le, is_some, Option, Some, None, ap, ◌∙◌, if◌then◌else◌}
use Rattle.std.specs.Option.{option_map}
use Rattle.std.proofs.lemmas.Bool.{lt-leb}
use Rattle.kb_class.specs.declared.ids.MethodId.{MethodId}
use Rattle.kb_code.specs.declared.instruction.Instr.{Instr}
use Rattle.kb_code.specs.declared.instruction.Instr.TheVariants as instrs
use Rattle.kb_heap.specs.declared.bounds.Bound.TheVariants.{Alloc}
use Rattle.kb_heap.specs.declared.bounds.Bounds.{Bounds}
use Rattle.kb_heap.specs.declared.heap.Value.{Value}
use Rattle.kb_classes.specs.World.{World}
use Rattle.kb_names.specs.declared.types.JType.{JType}
use Rattle.kb_semantics.specs.Config.{Setting, Config, class_number, instruction_at}
use Rattle.kb_semantics.specs.Instructions.{component_of_entry, make_array, makes, makes_array as machine_array, new_array, with}
use Rattle.kb_semantics.specs.Operands.{Taken, an_int as machine_int}
use Rattle.kb_semantics.specs.Step.{effect, step}
use Rattle.kb_semantics.specs.Ways.{past}
use Rattle.kb_universe.specs.Faults.{component_of_code}
use Rattle.kb_terms.specs.declared.node.TermId.{TermId}
use Rattle.kb_picture.specs.Endings.{Reading}
use Rattle.kb_frames.specs.Cuts.{setting_of}
use Rattle.kb_frames.specs.StandsFor.{FrameStandsFor, reading_at, values_of_sym}
use Rattle.kb_frames.specs.State.{State}
use Rattle.kb_frames.proofs.RunLaws.{counters_agree}
use Rattle.kb_ways.specs.Operands.{an_int}
use Rattle.kb_ways.specs.Plans.{here}
use Rattle.kb_ways.proofs.PlannedLaws.{Situation, state_of}
use Rattle.kb_ways.proofs.StepLaws.{step_taken}
use Rattle.kb_steparray.proofs.OperandLaws.{int_value, one_int_is, top_int}
use Rattle.kb_stepref.proofs.FirstReadLaws.{IsMaking}

module _ (world : World) (bounds : Bounds) (at : Situation world bounds) (x : TermId) (term : an_int at.frame.stack ≡ Some x) (count : ℕ) (long : bounds.run.alloc < count) where
  abbrev s : Setting
  s = setting_of world bounds

  abbrev c : Config
  c = at.config

  abbrev state : State
  state = state_of world bounds at

  abbrev r : Reading
  r = reading_at world state at.input at.stands.instance_of.shape.places

  abbrev rest : List Value
  rest = values_of_sym r (drop 1 at.frame.stack)

  framed : FrameStandsFor r at.frame c.frame
  framed = at.stands.stage.0

  module _ (value : int_value r x ≡ pos count) (next : ℕ) where
    of_component : (component : Option JType) → is_some component ≡ true → step s c ≡ make_array component s next c → step s c ≡ past c Alloc
    unfolding make_array
    of_component None typed e = absurd cc
    of_component (Some component) typed e =
        e
        ∙ ap (λ (it : Option (Taken ℤ)). with s c it (λ len. machine_array s next c component len.it len.rest))
        (ap machine_int framed.stack ∙ one_int_is r at.frame.stack ∙ ap (option_map (top_int r at.frame.stack)) term)
        ∙ ap (λ (z : ℤ). machine_array s next c component z rest) value
        ∙ ap (λ (b : Bool). if b then makes s next c (new_array component count) rest else past c Alloc) (lt-leb count bounds.run.alloc long)

    by_instruction : (instr : Instr) → IsMaking world state instr → step s c ≡ effect instr s next c → step s c ≡ past c Alloc
    unfolding effect
    by_instruction (instrs.NewPrim code) making e = of_component (component_of_code code) making e
    by_instruction (instrs.NewRefs entry) making e =
        of_component (component_of_entry world (here world state) entry) making
        (e ∙ ap (λ (m : MethodId). make_array (component_of_entry world (class_number world m) entry) s next c) framed.method)
    by_instruction _ making e = absurd making

  -- Where the bound on steps is not reached.
  pub too_large : int_value r x ≡ pos count → nat_le bounds.run.steps at.base.carried ≡ false → (found : Instr × ℕ) → instruction_at world at.frame.method at.frame.at ≡ Some found → IsMaking world state found.0
      → step s c ≡ past c Alloc
  too_large value within found there making =
      by_instruction value found.1 found.0 making
      (step_taken s c (ap (nat_le bounds.run.steps) (counters_agree s state at.input c at.stands) ∙ within) (Some found)
      (ap (λ (m : MethodId). instruction_at world m c.frame.at) framed.method ∙ ap (instruction_at world at.frame.method) framed.at ∙ there))
