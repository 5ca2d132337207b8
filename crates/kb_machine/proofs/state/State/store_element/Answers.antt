use Rattle.std.proofs.Common.{rules, ◌≡◌, refl, sym, ap, ◌∙◌, w32}
use mir.Val.{of_z, to_z}
use Rattle.kb_heap.specs.Heap.{with_value}
use Rattle.kb_semantics.specs.Config.{Frame}
use Rattle.kb_semantics.specs.Instructions.{store_element}
use Rattle.kb_semantics.specs.Values.{takes_component}
use Rattle.kb_semantics.specs.Ways.{array_store, goes_with, index_outside, null_pointer, throws}
use Rattle.kb_machine.specs.Turns.{config_of, setting_of}
use Rattle.kb_values.specs.declared.arrays.Stored.TheVariants as stored
use Rattle.kb_machine.proofs.ArrayLaws.{is_place, store_is}
use Rattle.kb_machine.proofs.Steps.{goes_on_stack, thrown_from}
use Rattle.kb_machine.proofs.state.State.store_element.Goals as goal

pub returns-in_default-reference : goal.returns-in_default-reference
unfolding store_element
returns-in_default-reference c =
    let t = c.args.turn.now in
    let old = c.args.self.now in
    let so : throws (setting_of t) (config_of t old) null_pointer ≡ store_element c.args.elem (setting_of t) t.next (config_of t old) =
    rw (c.an_element_and_value.ensures.it, c.in-Some.is, c.in-Some.reference-is, c.in_default-reference.is) refl in
    thrown_from t old c.throws.new.self c.an_element_and_value.new.self c.throws.result null_pointer _ c.an_element_and_value.ensures.frame so c.throws.ensures

pub put_element-requires : goal.put_element-requires
put_element-requires c =
    let old = c.args.self.now in
    let index : to_z w32 (of_z w32 c.in-Some.index) ≡ c.in-Some.index = search rules in
    is_place c.args.turn.now.world.now old.heap c.in-Some-reference.array (takes_component c.args.elem) c.in-Some.index c.in-Some.value c.in-Kept.place c.in-Kept.value
    (rw index at (sym c.stored_at.ensures ∙ c.in-Kept.is))

pub returns-in-Kept : goal.returns-in-Kept
unfolding store_element
returns-in-Kept c =
    let t = c.args.turn.now in
    let s = setting_of t in
    let old = c.args.self.now in
    let frame = c.an_element_and_value.new.self in
    let array = c.in-Some-reference.array in
    let place = c.in-Kept.place in
    let value = c.in-Kept.value in
    let index : to_z w32 (of_z w32 c.in-Some.index) ≡ c.in-Some.index = search rules in
    let so : goes_with s (config_of t old) t.next frame.stack (with_value old.heap array place value) ≡ store_element c.args.elem s t.next (config_of t old) =
    rw (c.an_element_and_value.ensures.it, c.in-Some.is, c.in-Some.reference-is, c.in-Some.index-is, c.in-Some.value-is, c.in-Some-reference.is)
    (sym (store_is s (config_of t old) t.next frame.stack array (takes_component c.args.elem) c.in-Some.index c.in-Some.value (stored.Kept place value)
    (rw index at (sym c.stored_at.ensures ∙ c.in-Kept.is)))) in
    let moved : goes_with s (config_of t (record old { frame = frame })) t.next frame.stack (with_value old.heap array place value) ≡ goes_with s (config_of t old) t.next frame.stack (with_value old.heap array place value) =
    ap (λ (f : Frame). goes_with s (config_of t (record old { frame = f })) t.next frame.stack (with_value old.heap array place value)) c.an_element_and_value.ensures.frame
    ∙ goes_on_stack s (config_of t old) frame.stack t.next old.frame.locals frame.stack (with_value old.heap array place value) in
    c.put_element.ensures ∙ moved ∙ so

pub returns-in-Outside : goal.returns-in-Outside
unfolding store_element
returns-in-Outside c =
    let t = c.args.turn.now in
    let s = setting_of t in
    let old = c.args.self.now in
    let frame = c.an_element_and_value.new.self in
    let index : to_z w32 (of_z w32 c.in-Some.index) ≡ c.in-Some.index = search rules in
    let so : throws s (config_of t old) index_outside ≡ store_element c.args.elem s t.next (config_of t old) =
    rw (c.an_element_and_value.ensures.it, c.in-Some.is, c.in-Some.reference-is, c.in-Some.index-is, c.in-Some.value-is, c.in-Some-reference.is)
    (sym (store_is s (config_of t old) t.next frame.stack c.in-Some-reference.array (takes_component c.args.elem) c.in-Some.index c.in-Some.value stored.Outside
    (rw index at (sym c.stored_at.ensures ∙ c.in-Outside.is)))) in
    thrown_from t old c.throws-in-Outside.new.self frame c.throws-in-Outside.result index_outside _ c.an_element_and_value.ensures.frame so c.throws-in-Outside.ensures

pub returns-in-Refused : goal.returns-in-Refused
unfolding store_element
returns-in-Refused c =
    let t = c.args.turn.now in
    let s = setting_of t in
    let old = c.args.self.now in
    let frame = c.an_element_and_value.new.self in
    let index : to_z w32 (of_z w32 c.in-Some.index) ≡ c.in-Some.index = search rules in
    let so : throws s (config_of t old) array_store ≡ store_element c.args.elem s t.next (config_of t old) =
    rw (c.an_element_and_value.ensures.it, c.in-Some.is, c.in-Some.reference-is, c.in-Some.index-is, c.in-Some.value-is, c.in-Some-reference.is)
    (sym (store_is s (config_of t old) t.next frame.stack c.in-Some-reference.array (takes_component c.args.elem) c.in-Some.index c.in-Some.value stored.Refused
    (rw index at (sym c.stored_at.ensures ∙ c.in-Refused.is)))) in
    thrown_from t old c.throws-in-Refused.new.self frame c.throws-in-Refused.result array_store _ c.an_element_and_value.ensures.frame so c.throws-in-Refused.ensures
