use Rattle.kiasan.specs.Answers.{IsReadFault}
use Rattle.kiasan.specs.Orders.{files_of}
use Rattle.kiasan.proofs.AnswerLaws.{contents_made, contents_read}
use Rattle.kiasan.proofs.answer.contents_of.Goals as goal

pub returns-in-Some : goal.returns-in-Some
returns-in-Some g c =
    contents_made
    (IsReadFault (g.S.Shelf.faults c.args.shelf.now) (g.S.Shelf.faults c.args.shelf.now) (files_of c.args.order.now) (g.S.Shelf.sound c.args.shelf.now))
    (g.S.Shelf.holds c.args.shelf.now) c.args.order.now c.in-Some.blocks c.made_contents.result c.in-Some.ensures c.made_contents.ensures

pub returns-in-None : goal.returns-in-None
returns-in-None g c =
    contents_read
    (IsReadFault (g.S.Shelf.faults c.args.shelf.now) (g.S.Shelf.faults c.read_contents.new.shelf) (files_of c.args.order.now) (g.S.Shelf.sound c.args.shelf.now))
    (g.S.Shelf.holds c.args.shelf.now) c.args.order.now c.read_contents.result c.in-None.ensures c.read_contents.ensures
