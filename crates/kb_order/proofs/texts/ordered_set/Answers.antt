use Rattle.std.proofs.Common.{sym, subst}
use Rattle.kb_order.specs.Texts.{IsOrderedSet}
use Rattle.kb_order.proofs.TextLaws.{same_set}
use Rattle.kb_order.proofs.TakingLaws.{set_of_same}
use Rattle.kb_order.proofs.texts.ordered_set.Goals as goal

pub returns-clause-set : goal.returns-clause-set
returns-clause-set c =
    subst (λ z. IsOrderedSet c.args.texts.items z) (sym c.from_vec.ensures)
    (set_of_same c.args.texts.items c.sort_down.new.texts.items c.in_ok-distinct.distinct.items c.sort_down.ensures.same c.in_ok-distinct.ensures)

pub returns-clause-only : goal.returns-clause-only
returns-clause-only c other h = same_set c.args.texts.items other c.from_vec.result h (subst (λ z. IsOrderedSet c.args.texts.items z) (sym c.from_vec.ensures)
    (set_of_same c.args.texts.items c.sort_down.new.texts.items c.in_ok-distinct.distinct.items c.sort_down.ensures.same c.in_ok-distinct.ensures))
