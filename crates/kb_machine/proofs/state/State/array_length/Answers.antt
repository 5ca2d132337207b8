use Rattle.std.proofs.Common.{◌≡◌, refl}
use Rattle.kb_semantics.specs.Instructions.{array_length}
use Rattle.kb_semantics.specs.Ways.{null_pointer, throws}
use Rattle.kb_machine.specs.Turns.{config_of, setting_of}
use Rattle.kb_machine.proofs.Steps.{thrown_from}
use Rattle.kb_machine.proofs.state.State.array_length.Goals as goal

pub returns-in_default-reference : goal.returns-in_default-reference
unfolding array_length
returns-in_default-reference c =
    let t = c.args.turn.now in
    let old = c.args.self.now in
    let so : throws (setting_of t) (config_of t old) null_pointer ≡ array_length (setting_of t) t.next (config_of t old) =
    rw (c.a_reference.ensures.it, c.in-Some.is, c.in_default-reference.is) refl in
    thrown_from t old c.throws.new.self c.a_reference.new.self c.throws.result null_pointer _ c.a_reference.ensures.frame so c.throws.ensures
