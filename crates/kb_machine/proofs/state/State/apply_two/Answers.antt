use Rattle.std.proofs.Common.{rules, ◌≡◌, None, refl, sym, ◌∙◌, w32}
use mir.Val.{of_z, to_z}
use Rattle.kb_semantics.specs.Instructions.{apply_two, int2_value}
use Rattle.kb_semantics.specs.Ways.{arithmetic, throws}
use Rattle.kb_machine.specs.Turns.{config_of, setting_of}
use Rattle.kb_machine.proofs.Steps.{thrown_from}
use Rattle.kb_machine.proofs.state.State.apply_two.Goals as goal

pub returns-in-None : goal.returns-in-None
unfolding apply_two
returns-in-None c =
    let t = c.args.turn.now in
    let old = c.args.self.now in
    let left : to_z w32 (of_z w32 c.in-Some.left) ≡ c.in-Some.left = search rules in
    let right : to_z w32 (of_z w32 c.in-Some.right) ≡ c.in-Some.right = search rules in
    let none : int2_value c.args.op c.in-Some.left c.in-Some.right ≡ None = rw (left, right) at (sym c.int2_value.ensures ∙ c.in-None.is) in
    let so : throws (setting_of t) (config_of t old) arithmetic ≡ apply_two c.args.op (setting_of t) t.next (config_of t old) =
    rw (c.two_ints.ensures.it, c.in-Some.is, none) refl in
    thrown_from t old c.throws.new.self c.two_ints.new.self c.throws.result arithmetic _ c.two_ints.ensures.frame so c.throws.ensures
