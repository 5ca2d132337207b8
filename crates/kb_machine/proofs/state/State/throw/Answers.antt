use Rattle.std.proofs.Common.{◌≡◌, ℕ, Bool, true, false, Option, Some, None, List, Result, IfOk, if◌then◌else◌, refl, sym, ap, ◌∙◌}
use Rattle.kb_names.specs.declared.types.JType.TheVariants as types
use Rattle.kb_class.specs.Platform.{throwable}
use Rattle.kb_heap.specs.declared.heap.Object.{Object}
use Rattle.kb_heap.specs.declared.heap.Value.{Value}
use Rattle.kb_heap.specs.Heap.{object_at}
use Rattle.kb_classes.specs.Subtypes.{fits}
use Rattle.kb_semantics.specs.Config.{Setting, Config, Frame, Outcome}
use Rattle.kb_semantics.specs.Instructions.{throw, with}
use Rattle.kb_semantics.specs.Operands.{a_reference}
use Rattle.kb_semantics.specs.Ways.{ill_typed, null_pointer, throws, throws_object}
use Rattle.kb_machine.specs.Turns.{config_of, setting_of, told}
use Rattle.kb_stack.specs.Taken.{as_taken}
use Rattle.std.specs.declared.alloc.AllocError.{AllocError as NoMemory}
use Rattle.kb_machine.specs.declared.state.State.{State}
use Rattle.kb_machine.specs.declared.turn.Step.{Step}
use Rattle.kb_machine.specs.declared.turn.Turn.{Turn}
use Rattle.kb_machine.proofs.Steps.{same_outcome, throws_object_stack, throws_stack, with_stack}
use Rattle.kb_machine.proofs.state.State.throw.Goals as goal

-- what comes of an object that is thrown, where it is there
abbrev throwing : Setting → Config → ℕ → Option Object → Outcome
throwing s c number found = with s c found (λ (of : Object). if fits s.world of.kind (types.Class throwable) then throws_object s c number of.kind else ill_typed s c)

throwing_stack : (s : Setting) (c : Config) (left : List Value) (number : ℕ) (found : Option Object) → throwing s (with_stack c left) number found ≡ throwing s c number found
throwing_stack s c left number None = refl
throwing_stack s c left number (Some of) = go (fits s.world of.kind (types.Class throwable)) where
  go : (fit : Bool) →
      (if fit then throws_object s (with_stack c left) number of.kind else ill_typed s (with_stack c left)) ≡ (if fit then throws_object s c number of.kind else ill_typed s c)
  go true = throws_object_stack s c left number of.kind
  go false = refl

module _ (t : Turn) (old : State) (frame : Frame) (same : frame ≡ record old.frame { stack = frame.stack }) (r : Result Step NoMemory) (m : State) where
  thrown : (number : ℕ) → a_reference old.frame.stack ≡ as_taken (Some (Some number)) frame.stack →
      IfOk r (λ step. told t step m ≡ throwing (setting_of t) (config_of t (record old { frame = frame })) number (object_at old.heap number)) →
      IfOk r (λ step. told t step m ≡ throw (setting_of t) t.next (config_of t old))
  unfolding throw
  thrown number it h =
      let s = setting_of t in
      let c = config_of t old in
      let found = object_at old.heap number in
      let cleared : throwing s (config_of t (record old { frame = frame })) number found ≡ throwing s c number found =
      ap (λ (f : Frame). throwing s (config_of t (record old { frame = f })) number found) same ∙ throwing_stack s c frame.stack number found in
      let one : throw s t.next c ≡ throwing s c number found = rw it refl in
      same_outcome r t m _ _ (cleared ∙ sym one) h

  thrown_null : a_reference old.frame.stack ≡ as_taken (Some None) frame.stack →
      IfOk r (λ step. told t step m ≡ throws (setting_of t) (config_of t (record old { frame = frame })) null_pointer) →
      IfOk r (λ step. told t step m ≡ throw (setting_of t) t.next (config_of t old))
  unfolding throw
  thrown_null it h =
      let s = setting_of t in
      let c = config_of t old in
      let cleared : throws s (config_of t (record old { frame = frame })) null_pointer ≡ throws s c null_pointer =
      ap (λ (f : Frame). throws s (config_of t (record old { frame = f })) null_pointer) same ∙ throws_stack s c frame.stack null_pointer in
      let one : throw s t.next c ≡ throws s c null_pointer = rw it refl in
      same_outcome r t m _ _ (cleared ∙ sym one) h

pub returns-in-Some-Some : goal.returns-in-Some-Some
returns-in-Some-Some c =
    thrown c.args.turn.now c.args.self.now c.a_reference.new.self c.a_reference.ensures.frame c.throws_object.result c.throws_object.new.self c.in-Some-Some.object
    (rw c.in-Some-Some.field-0-is at c.in-Some-Some.ensures.it) c.throws_object.ensures

pub returns-in-Some-None : goal.returns-in-Some-None
returns-in-Some-None c =
    thrown_null c.args.turn.now c.args.self.now c.a_reference.new.self c.a_reference.ensures.frame c.throws.result c.throws.new.self
    (rw c.in-Some-None.field-0-is at c.in-Some-None.ensures.it) c.throws.ensures
