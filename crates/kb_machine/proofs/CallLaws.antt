-- A call does the same whatever stack its frame had: it goes by what was taken off, and by what is left.
use Rattle.std.proofs.Common.{◌≡◌, ℕ, List, Bool, true, false, Option, Some, None, is_some, if◌then◌else◌, refl, sym, ◌∙◌}
use Rattle.kb_class.specs.declared.members.MethodInfo.{MethodInfo}
use Rattle.kb_heap.specs.declared.heap.Object.{Object}
use Rattle.kb_heap.specs.declared.heap.Value.{Value}
use Rattle.kb_heap.specs.Heap.{object_at}
use Rattle.kb_world.specs.Calls.{is_without_file}
use Rattle.kb_resolution.specs.Lookup.{resolved_method, selected_special}
use Rattle.kb_semantics.specs.Config.{Setting, Config, Outcome, info_of}
use Rattle.kb_semantics.specs.Operands.{Reference, receiver_of}
use Rattle.kb_semantics.specs.Instructions.{Callee, CallKind, BySelection, Special, Static, callee_at, here, invoke, invokes, invokes_method, invokes_on, on_object, operands_of, platform_result, selected_at, with}
use Rattle.kb_semantics.specs.Ways.{null_pointer, pushed}
use Rattle.kb_machine.proofs.Steps.{with_stack, enters_stack, goes_on_stack, throws_stack}

-- what a reference leads to that is not null, where there is such an object
pub found_on : (s : Setting) (c : Config) (r : Reference) (o : ℕ) (object : Object) (f : ℕ → Object → Outcome) → r ≡ Some o → object_at c.heap o ≡ Some object → on_object s c r f ≡ f o object
found_on s c r o object f is there = rw (is, there) refl

both_same : (b : Bool) (x x' y y' : Outcome) → x ≡ x' → y ≡ y' → (if b then x else y) ≡ (if b then x' else y')
both_same true x x' y y' then_same else_same = then_same
both_same false x x' y y' then_same else_same = else_same

module _ (s : Setting) (c : Config) (left : List Value) where
  invokes_method_stack : (next number : ℕ) (method : MethodInfo) (args rest : List Value) →
      invokes_method s next (with_stack c left) number method args rest ≡ invokes_method s next c number method args rest
  invokes_method_stack next number method args rest =
      both_same (is_some method.code) _ _ _ _ (enters_stack s c left (record { 0 = number }) args rest)
      (both_same (is_without_file s.world method.class.0) _ _ _ _ (goes_on_stack s c left next c.frame.locals (pushed (platform_result s.world method args) rest) c.heap) refl)

  invokes_stack : (next : ℕ) (found : Option ℕ) (args rest : List Value) → invokes s next (with_stack c left) found args rest ≡ invokes s next c found args rest
  invokes_stack next None args rest = refl
  invokes_stack next (Some number) args rest = go (info_of s.world (record { 0 = number })) where
    go : (found : Option MethodInfo) →
        with s (with_stack c left) found (λ method. invokes_method s next (with_stack c left) number method args rest)
        ≡ with s c found (λ method. invokes_method s next c number method args rest)
    go None = refl
    go (Some method) = invokes_method_stack next number method args rest

  on_object_stack : (r : Reference) (f g : ℕ → Object → Outcome) → ((o : ℕ) (object : Object) → f o object ≡ g o object) → on_object s (with_stack c left) r f ≡ on_object s c r g
  on_object_stack None f g same = throws_stack s c left null_pointer
  on_object_stack (Some o) f g same = go (object_at c.heap o) where
    go : (found : Option Object) → with s (with_stack c left) found (f o) ≡ with s c found (g o)
    go None = refl
    go (Some object) = same o object

  pub invokes_on_stack : (kind : CallKind) (entry next : ℕ) (callee : Callee) (args rest : List Value) →
      invokes_on kind entry s next (with_stack c left) callee args rest ≡ invokes_on kind entry s next c callee args rest
  invokes_on_stack Static entry next callee args rest = invokes_stack next (resolved_method s.world (here s c) entry) args rest
  invokes_on_stack Special entry next callee args rest =
      on_object_stack (receiver_of args) _ _ (λ o object. invokes_stack next (selected_special s.world (here s c) entry) args rest)
  invokes_on_stack BySelection entry next callee args rest =
      on_object_stack (receiver_of args) _ _ (λ o object. invokes_stack next (selected_at s.world (here s c) entry callee object.kind) args rest)

  -- the call that an entry names, with the operands that were taken off
  pub invoked : (kind : CallKind) (entry next : ℕ) (callee : Callee) (args : List Value) → callee_at s.world (here s c) entry ≡ Some callee →
      operands_of kind callee.kind c.frame.stack ≡ Some (record { it = args; rest = left }) → invokes_on kind entry s next (with_stack c left) callee args left ≡ invoke kind entry s next c
  unfolding invoke
  invoked kind entry next callee args named taken =
      let is : invoke kind entry s next c ≡ invokes_on kind entry s next c callee args left = rw (named, taken) refl in
      invokes_on_stack kind entry next callee args left ∙ sym is
