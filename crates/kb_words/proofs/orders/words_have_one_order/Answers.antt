use Rattle.kb_words.proofs.OneOrder.{orders_one}
use Rattle.kb_words.proofs.orders.words_have_one_order.Goals as goal

pub returns : goal.returns
returns c = orders_one
