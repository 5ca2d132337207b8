use Rattle.std.proofs.Common.{rules, ◌≡◌, refl, sym, ◌∙◌, w32}
use mir.Val.{of_z, to_z}
use Rattle.kb_semantics.specs.Instructions.{load_element}
use Rattle.kb_semantics.specs.Values.{takes_component}
use Rattle.kb_semantics.specs.Ways.{index_outside, null_pointer, throws}
use Rattle.kb_machine.specs.Turns.{config_of, setting_of}
use Rattle.kb_values.specs.declared.arrays.Loaded.TheVariants as loaded
use Rattle.kb_machine.proofs.ArrayLaws.{load_is}
use Rattle.kb_machine.proofs.Steps.{thrown_from}
use Rattle.kb_machine.proofs.state.State.load_element.Goals as goal

pub returns-in_default-reference : goal.returns-in_default-reference
unfolding load_element
returns-in_default-reference c =
    let t = c.args.turn.now in
    let old = c.args.self.now in
    let so : throws (setting_of t) (config_of t old) null_pointer ≡ load_element c.args.elem (setting_of t) t.next (config_of t old) =
    rw (c.an_element.ensures.it, c.in-Some.is, c.in-Some.reference-is, c.in_default-reference.is) refl in
    thrown_from t old c.throws.new.self c.an_element.new.self c.throws.result null_pointer _ c.an_element.ensures.frame so c.throws.ensures

pub returns-in-Outside : goal.returns-in-Outside
unfolding load_element
returns-in-Outside c =
    let t = c.args.turn.now in
    let old = c.args.self.now in
    let same : to_z w32 (of_z w32 c.in-Some.index) ≡ c.in-Some.index = search rules in
    let so : throws (setting_of t) (config_of t old) index_outside ≡ load_element c.args.elem (setting_of t) t.next (config_of t old) =
    rw (c.an_element.ensures.it, c.in-Some.is, c.in-Some.reference-is, c.in-Some.index-is, c.in-Some-reference.is)
    (sym (load_is (setting_of t) (config_of t old) t.next c.an_element.new.self.stack c.in-Some-reference.array (takes_component c.args.elem) c.in-Some.index loaded.Outside (rw same at (sym c.loaded_at.ensures ∙ c.in-Outside.is)))) in
    thrown_from t old c.throws-in-Outside.new.self c.an_element.new.self c.throws-in-Outside.result index_outside _ c.an_element.ensures.frame so c.throws-in-Outside.ensures
