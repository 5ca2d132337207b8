use Rattle.std.proofs.Common.{List, ℕ, Vec, Global, Err, subst}
use Rattle.std.proofs.lemmas.Result.{err_from_is_err_and}
use Rattle.kb_class.specs.declared.given.GivenClass.{GivenClass}
use Rattle.kb_link.specs.Links.{Links}
use Rattle.kb_classes.specs.World.{World}
use Rattle.kb_class.specs.Given.{AreGivenBy}
use Rattle.kb_class.proofs.GivenLaws.{are_given}
use Rattle.kiasan.specs.Answers.{Carries, RefusesClasses, RepliesIn}
use Rattle.kiasan.specs.Refusals.{Gives}
use Rattle.kiasan.proofs.AnswerLaws.{classes_stop, world_stops, world_goes}
use Rattle.kiasan.proofs.ClassLaws.{are_of_bytes}
use Rattle.kiasan.proofs.answer.answer_on.Goals as goal

pub link_world-requires : goal.link_world-requires
link_world-requires g c = are_given _ c.in_ok-given.given.items c.in_ok-given.ensures

pub answer_in-requires-clause-linked : goal.answer_in-requires-clause-linked
answer_in-requires-clause-linked g c κs within = rw c.get.ensures c.in_ok-world.ensures.linked

pub answer_in-requires-clause-names : goal.answer_in-requires-clause-names
answer_in-requires-clause-names g c κs within =
    let given = c.in_ok-given.given.items in
    rw c.get.ensures (c.worlds_have_names.ensures given c.in_ok-world.world (are_of_bytes _ given c.in_ok-given.ensures c.tell_files.ensures) c.in_ok-world.ensures)

pub returns-in_err-given : goal.returns-in_err-given
returns-in_err-given g c =
    let p = err_from_is_err_and c.from_residual.result c.from_residual.ensures.1 in
    rw (p.1, p.2)
    (classes_stop c.args.order.now c.args.contents.now (λ (given : Vec GivenClass Global). AreGivenBy c.args.contents.now.classes given.items) c.in_err-given.field-0.0
    (subst (λ (classes : List (List ℕ)). Gives {A = Vec GivenClass Global} ⊥ (RefusesClasses classes) (λ given. AreGivenBy classes given.items) (Err c.in_err-given.field-0.0))
    c.as_slice-classes.ensures c.in_err-given.ensures))

pub returns-in_err-world : goal.returns-in_err-world
returns-in_err-world g c =
    let p = err_from_is_err_and c.from_residual-in_err-world.result c.from_residual-in_err-world.ensures.1 in
    rw (p.1, p.2)
    (world_stops c.args.order.now c.args.contents.now c.in_ok-given.given.items (Links c.in_ok-given.given.items) c.in_err-world.field-0.0
    (subst (λ (classes : List (List ℕ)). AreGivenBy classes c.in_ok-given.given.items) c.as_slice-classes.ensures c.in_ok-given.ensures) c.in_err-world.ensures)

pub returns : goal.returns
returns g c =
    let given = c.in_ok-given.given.items in
    let world = c.in_ok-world.world in
    world_goes c.args.order.now c.args.contents.now given world c.answer_in.result
    (subst (λ (classes : List (List ℕ)). AreGivenBy classes given) c.as_slice-classes.ensures c.in_ok-given.ensures)
    c.in_ok-world.ensures
    (subst (λ (w : World). Carries ⊥ (RepliesIn c.args.order.now c.args.contents.now.texts w) c.answer_in.result) c.get.ensures
    (subst (λ (texts : List (List ℕ)). Carries ⊥ (RepliesIn c.args.order.now texts c.get.result.now) c.answer_in.result) c.as_slice.ensures c.answer_in.ensures))
