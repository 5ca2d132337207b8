use Rattle.std.proofs.Common.{◌≡◌, map}
use Rattle.std.specs.Prelude.{string_bytes}
use Rattle.kb_outside.specs.Outside.{Rose}
use Rattle.kiasan.specs.Answers.{SomeUnsound}
use Rattle.kiasan.proofs.TopLaws.{stop_comes}
use Rattle.kiasan.proofs.answer.answer_words.Goals as goal

pub returns-in-Err-clause-answers : goal.returns-in-Err-clause-answers
returns-in-Err-clause-answers g c =
    (stop_comes (map string_bytes c.args.words.now) (g.S.Shelf.holds c.args.shelf.now)
    (Rose (g.S.Shelf.faults c.args.shelf.now) (g.S.Shelf.faults c.reply_to_words.new.shelf) × SomeUnsound (map string_bytes c.args.words.now) (g.S.Shelf.sound c.args.shelf.now))
    c.in-Err.stop c.settle.result c.in-Err.ensures c.settle.ensures).0

pub returns-in-Err-clause-answer : goal.returns-in-Err-clause-answer
returns-in-Err-clause-answer g c =
    (stop_comes (map string_bytes c.args.words.now) (g.S.Shelf.holds c.args.shelf.now)
    (Rose (g.S.Shelf.faults c.args.shelf.now) (g.S.Shelf.faults c.reply_to_words.new.shelf) × SomeUnsound (map string_bytes c.args.words.now) (g.S.Shelf.sound c.args.shelf.now))
    c.in-Err.stop c.settle.result c.in-Err.ensures c.settle.ensures).1

pub returns-in-Err-clause-counted : goal.returns-in-Err-clause-counted
returns-in-Err-clause-counted g c =
    λ e. ((stop_comes (map string_bytes c.args.words.now) (g.S.Shelf.holds c.args.shelf.now)
    (Rose (g.S.Shelf.faults c.args.shelf.now) (g.S.Shelf.faults c.reply_to_words.new.shelf) × SomeUnsound (map string_bytes c.args.words.now) (g.S.Shelf.sound c.args.shelf.now))
    c.in-Err.stop c.settle.result c.in-Err.ensures c.settle.ensures).2 e).0

pub returns-in-Err-clause-unsound : goal.returns-in-Err-clause-unsound
returns-in-Err-clause-unsound g c =
    λ e. ((stop_comes (map string_bytes c.args.words.now) (g.S.Shelf.holds c.args.shelf.now)
    (Rose (g.S.Shelf.faults c.args.shelf.now) (g.S.Shelf.faults c.reply_to_words.new.shelf) × SomeUnsound (map string_bytes c.args.words.now) (g.S.Shelf.sound c.args.shelf.now))
    c.in-Err.stop c.settle.result c.in-Err.ensures c.settle.ensures).2 e).1
