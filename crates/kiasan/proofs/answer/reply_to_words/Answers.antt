use Rattle.std.proofs.Common.{subst}
use Rattle.kb_words.specs.declared.orders.Order.{Order}
use Rattle.kiasan.specs.Answers.{Carries, IsReadFault, RepliesTo}
use Rattle.kiasan.specs.Orders.{files_of}
use Rattle.kiasan.proofs.AnswerLaws.{words_go}
use Rattle.kiasan.proofs.answer.reply_to_words.Goals as goal

pub carry_out_order-requires-clause-built : goal.carry_out_order-requires-clause-built
carry_out_order-requires-clause-built g c κs within = rw c.get.ensures c.in_ok-order.ensures.built

pub returns : goal.returns
returns g c =
    words_go _ (g.S.Shelf.holds c.args.shelf.now) c.in_ok-order.order (g.S.Shelf.faults c.args.shelf.now) (g.S.Shelf.faults c.carry_out_order.new.shelf)
    (g.S.Shelf.sound c.args.shelf.now) c.carry_out_order.result c.in_ok-order.ensures.order
    (subst
    (λ (order : Order). Carries (IsReadFault (g.S.Shelf.faults c.args.shelf.now) (g.S.Shelf.faults c.carry_out_order.new.shelf) (files_of order) (g.S.Shelf.sound c.args.shelf.now))
    (RepliesTo order (g.S.Shelf.holds c.args.shelf.now)) c.carry_out_order.result)
    c.get.ensures c.carry_out_order.ensures)
