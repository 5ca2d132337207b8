use Rattle.std.proofs.Common.{map, subst}
use Rattle.std.specs.Prelude.{string_bytes}
use Rattle.kb_words.specs.declared.orders.Order.{Order}
use Rattle.kb_words.specs.Settings.{Gives}
use Rattle.kb_words.proofs.OrderLaws.{explored_by}
use Rattle.kb_words.proofs.orders.read_order.Goals as goal

pub returns-in-Explore-clause-order : goal.returns-in-Explore-clause-order
returns-in-Explore-clause-order c =
    subst (Gives (λ (order : Order). order) c.read_exploration.result) (explored_by c.args.target c.args.command (map string_bytes c.args.words.now) c.in-Explore.is) c.read_exploration.ensures.order
