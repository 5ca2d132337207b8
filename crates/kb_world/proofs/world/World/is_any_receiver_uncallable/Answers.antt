use Rattle.std.proofs.Common.{ℕ, Option, not, sym, ap, ◌∙◌}
use Rattle.std.specs.List.{list_any}
use Rattle.kb_world.specs.Calls.{is_callable}
use Rattle.kb_world.proofs.Inside.{array_told}
use Rattle.kb_world.proofs.ReceiverLaws.{by_class, by_none, by_array}
use Rattle.kb_world.proofs.ReceiverNumbers.{by_numbers}
use Rattle.kb_world.proofs.world.World.is_any_receiver_uncallable.Goals as goal

pub returns-then-is_any_class_uncallable : goal.returns-then-is_any_class_uncallable
returns-then-is_any_class_uncallable c =
    let world = c.args.self.now in
    let numbers = by_numbers world c.is_any_class_uncallable.ensures.linked c.args.of.now c.args.method.0 c.args.owner c.requires.owner in
    by_class world c.args.of.now c.args.method.0 (λ found. not (is_callable world found))
    (sym (c.is_any_class_uncallable.ensures.told ∙ ap (list_any (λ found. not (is_callable world found))) numbers) ∙ c.if-is_any_class_uncallable.true)

pub returns-then-not-has_array_receiver : goal.returns-then-not-has_array_receiver
returns-then-not-has_array_receiver c =
    let world = c.args.self.now in
    let numbers = by_numbers world c.is_any_class_uncallable.ensures.linked c.args.of.now c.args.method.0 c.args.owner c.requires.owner in
    by_none world c.args.of.now c.args.method.0 (λ found. not (is_callable world found))
    (sym (c.is_any_class_uncallable.ensures.told ∙ ap (list_any (λ found. not (is_callable world found))) numbers) ∙ c.if-is_any_class_uncallable.false)
    (sym c.has_array_receiver.ensures.told ∙ c.if-not-has_array_receiver.true)

pub is_callable-requires : goal.is_callable-requires
is_callable-requires c = array_told c.args.self.now c.args.method.0 c.select_on_array.result c.select_on_array.ensures

pub returns : goal.returns
returns c =
    let world = c.args.self.now in
    let numbers = by_numbers world c.is_any_class_uncallable.ensures.linked c.args.of.now c.args.method.0 c.args.owner c.requires.owner in
    ap not c.is_callable.ensures ∙ ap (λ (o : Option ℕ). not (is_callable world o)) c.select_on_array.ensures
    ∙ by_array world c.args.of.now c.args.method.0 (λ found. not (is_callable world found))
    (sym (c.is_any_class_uncallable.ensures.told ∙ ap (list_any (λ found. not (is_callable world found))) numbers) ∙ c.if-is_any_class_uncallable.false)
    (sym c.has_array_receiver.ensures.told ∙ c.if-not-has_array_receiver.false)
