use Rattle.std.proofs.Common.{◌≡◌, ℕ, Some, refl, sym, ap, ◌∙◌}
use Rattle.std.specs.Option.{option_copied}
use Rattle.kb_resolution.specs.Lookup.{resolved_field}
use Rattle.kb_semantics.specs.Config.{class_number}
use Rattle.kb_semantics.specs.Instructions.{put_field}
use Rattle.kb_semantics.specs.Ways.{null_pointer, throws}
use Rattle.kb_machine.specs.Turns.{config_of, setting_of}
use Rattle.kb_machine.proofs.Steps.{thrown_from}
use Rattle.kb_machine.proofs.state.State.put_field.Goals as goal

pub returns-in_default-reference : goal.returns-in_default-reference
unfolding put_field
returns-in_default-reference c =
    let t = c.args.turn.now in
    let old = c.args.self.now in
    let found : resolved_field t.world.now (class_number t.world.now old.frame.method) c.args.entry ≡ Some c.in-Some.field.now =
    ap (λ (class : ℕ). resolved_field t.world.now class c.args.entry) (sym c.class-class.ensures) ∙ sym c.find_field.ensures ∙ ap option_copied c.in-Some.is in
    let so : throws (setting_of t) (config_of t old) null_pointer ≡ put_field c.args.entry (setting_of t) t.next (config_of t old) =
    rw (found, c.an_object_and_value.ensures.it, c.in-Some-an_object_and_value.is, c.in-Some-an_object_and_value.reference-is, c.in_default-reference.is) refl in
    thrown_from t old c.throws.new.self c.an_object_and_value.new.self c.throws.result null_pointer _ c.an_object_and_value.ensures.frame so c.throws.ensures
