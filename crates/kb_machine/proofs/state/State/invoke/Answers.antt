use Rattle.std.proofs.Common.{◌≡◌, ℕ, List, Option, Some, option_map, sym, ap, ◌∙◌}
use Rattle.kb_heap.specs.declared.heap.Value.{Value}
use Rattle.kb_semantics.specs.Config.{Config, Frame, Outcome, Setting}
use Rattle.kb_semantics.specs.Instructions.{Callee, CallKind, callee_at, here, invoke, invokes_on, operands_of}
use Rattle.kb_lookups.specs.Callees.{plain_callee}
use Rattle.kb_machine.specs.Turns.{config_of, setting_of}
use Rattle.kb_stack.specs.Taken.{as_taken, kind_of}
use Rattle.kb_machine.proofs.CallLaws.{invoked}
use Rattle.kb_machine.proofs.Steps.{same_outcome}
use Rattle.kb_machine.proofs.state.State.invoke.Goals as goal

pub returns-in-Some-2 : goal.returns-in-Some-2
returns-in-Some-2 c =
    let turn = c.args.turn.now in
    let old = c.args.self.now in
    let s : Setting = setting_of turn in
    let from : Config = config_of turn old in
    let kind : CallKind = kind_of c.args.call in
    let callee : Callee = plain_callee c.in-Some.callee in
    let args : List Value = c.in-Some-2.args in
    let left : List Value = c.operands.new.self.stack in
    let calls : Frame → List Value → Outcome = λ frame values. invokes_on kind c.args.entry s turn.next (record from { frame = frame }) callee values left in
    let named : callee_at s.world (here s from) c.args.entry ≡ Some callee =
    sym (ap (λ (class : ℕ). callee_at s.world class c.args.entry) c.class-class.ensures) ∙ sym c.callee_at.ensures ∙ ap (option_map plain_callee) c.in-Some.is in
    let taken : operands_of kind callee.kind old.frame.stack ≡ Some (record { it = args; rest = left }) =
    c.in_ok-args.ensures.it ∙ ap (λ (found : Option (List Value)). as_taken found left) c.in-Some-2.is in
    let same : calls c.operands.new.self c.as_slice.result.now ≡ invoke kind c.args.entry s turn.next from =
    ap (calls c.operands.new.self) c.as_slice.ensures
    ∙ ap (λ (frame : Frame). calls frame args) c.in_ok-args.ensures.frame
    ∙ invoked s from left kind c.args.entry turn.next callee args named taken in
    same_outcome c.invokes_on.result turn c.invokes_on.new.self _ _ same c.invokes_on.ensures
