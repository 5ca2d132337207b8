use Rattle.std.proofs.Common.{◌≡◌, ◌<◌, ℕ, List, length, Option, Some, slice_get, refl, sym, ap, ◌∙◌}
use Rattle.std.proofs.lemmas.Bool.{ltb-true}
use Rattle.std.proofs.lemmas.Option.{slice_get_read}
use Rattle.kb_heap.specs.declared.heap.Object.{Object}
use Rattle.kb_heap.specs.Heap.{object_at}
use Rattle.kb_semantics.specs.Config.{Config, Outcome, Setting}
use Rattle.kb_semantics.specs.Instructions.{invokes, on_object, selected_at}
use Rattle.kb_semantics.specs.Operands.{receiver_of}
use Rattle.kb_lookups.specs.Callees.{plain_callee}
use Rattle.kb_machine.specs.Turns.{config_of, setting_of}
use Rattle.kb_machine.proofs.CallLaws.{found_on}
use Rattle.kb_machine.proofs.Steps.{same_outcome}
use Rattle.kb_machine.proofs.state.State.invokes_selected.Goals as goal

pub returns : goal.returns
returns c =
    let turn = c.args.turn.now in
    let old = c.args.self.now in
    let args = c.args.args.now in
    let s : Setting = setting_of turn in
    let from : Config = config_of turn old in
    let object : Object = c.in-Some-get.receiver.now in
    let calls : Option ℕ → Outcome = λ found. invokes s turn.next from found args old.frame.stack in
    let by_class : ℕ → Object → Outcome = λ o of. calls (selected_at turn.world.now c.args.class.0 c.args.entry (plain_callee c.args.callee.now) of.kind) in
    let receiver : receiver_of args ≡ Some c.in-Some.object = sym c.receiver_of.ensures ∙ c.in-Some.is in
    let inside : c.in-Some.object < length c.as_slice.result.now = ltb-true c.in-Some.object (length c.as_slice.result.now) (sym c.in-Some-get.ensures.lookup.0) in
    let there : object_at old.heap c.in-Some.object ≡ Some object =
    ap (λ (objects : List Object). slice_get objects c.in-Some.object) (sym c.as_slice.ensures)
    ∙ slice_get_read c.as_slice.result.now (length c.as_slice.result.now) c.in-Some.object object refl inside c.in-Some-get.ensures.lookup.1 in
    let same : on_object s from (receiver_of args) by_class ≡ calls _ = found_on s from (receiver_of args) c.in-Some.object object by_class receiver there ∙ ap calls (sym c.selected_at-found.ensures) in
    same_outcome c.invokes.result turn c.invokes.new.self _ _ (sym same) c.invokes.ensures
