use Rattle.std.proofs.Common.{List, ℕ}
use Rattle.std.proofs.lemmas.Result.{err_from_is_err_and}
use Rattle.kiasan.specs.declared.answer.Contents.{Contents}
use Rattle.kiasan.specs.Answers.{AreRead, IsRead, class_limit}
use Rattle.kiasan.specs.Orders.{texts_of, classes_of}
use Rattle.kiasan.proofs.ReadLaws.{classes_stop}
use Rattle.kiasan.proofs.answer.read_contents.Goals as goal

pub returns-in_err-classes : goal.returns-in_err-classes
returns-in_err-classes g c =
    let p = err_from_is_err_and c.from_residual-in_err-classes.result c.from_residual-in_err-classes.ensures.1 in
    rw (p.1, p.2)
    (classes_stop (texts_of c.args.order.now) (classes_of c.args.order.now) c.classes_of.result.now _ _ _ (g.S.Shelf.sound c.args.shelf.now) _ c.in_err-classes.field-0.0 c.classes_of.ensures c.in_ok-texts.ensures.later
    c.in_ok-texts.ensures.sound {A = List (List ℕ)} {B = Contents}
    (AreRead class_limit (g.S.Shelf.holds c.read_files.new.shelf) c.classes_of.result.now) (IsRead (g.S.Shelf.holds c.args.shelf.now) c.args.order.now)
    c.in_err-classes.ensures.read)
