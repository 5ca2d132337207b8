use Rattle.std.proofs.Common.{rules, ◌≡◌, refl, ap, ◌∙◌, w32}
use mir.Val.{of_z, to_z}
use Rattle.kb_semantics.specs.Config.{Frame}
use Rattle.kb_semantics.specs.Instructions.{make_array, makes_array}
use Rattle.kb_machine.specs.Turns.{config_of, setting_of}
use Rattle.kb_machine.proofs.Steps.{makes_array_stack, same_outcome}
use Rattle.kb_machine.proofs.state.State.make_array.Goals as goal

pub returns-in-Some-an_int : goal.returns-in-Some-an_int
unfolding make_array
returns-in-Some-an_int c =
    let t = c.args.turn.now in
    let s = setting_of t in
    let old = c.args.self.now in
    let frame = c.an_int.new.self in
    let of = c.in-Some.of in
    let len = c.in-Some-an_int.len in
    let same : to_z w32 (of_z w32 len) ≡ len = search rules in
    let so : makes_array s t.next (config_of t old) of len frame.stack ≡ make_array c.args.component s t.next (config_of t old) =
    rw (c.in-Some.is, c.an_int.ensures.it, c.in-Some-an_int.is) refl in
    let moved : makes_array s t.next (config_of t (record old { frame = frame })) of len frame.stack ≡ makes_array s t.next (config_of t old) of len frame.stack =
    ap (λ (f : Frame). makes_array s t.next (config_of t (record old { frame = f })) of len frame.stack) c.an_int.ensures.frame
    ∙ makes_array_stack s (config_of t old) frame.stack t.next of len frame.stack in
    same_outcome c.makes_array.result t c.makes_array.new.self _ _ (moved ∙ so) (rw same at c.makes_array.ensures)
