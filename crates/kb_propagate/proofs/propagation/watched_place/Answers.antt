use Rattle.std.proofs.Common.{◌∙◌, sym}
use Rattle.kb_propagate.proofs.PairLaws.{watched_first, watched_second, not_only, not_both}
use Rattle.kb_propagate.proofs.propagation.watched_place.Goals as goal

pub returns-then-place-clause-some : goal.returns-then-place-clause-some
returns-then-place-clause-some c =
    watched_first c.args.row.now c.index-row-0.result c.args.literal c.requires c.index-row-0.is (sym c.place.ensures.value ∙ (c.if-place.true ∙ c.place-place.ensures.value))

pub returns-then-row-le1-clause-none : goal.returns-then-row-le1-clause-none
returns-then-row-le1-clause-none c =
    not_only c.args.row.now c.index-row-0.result c.args.literal c.requires c.if-row-le1.true c.index-row-0.is
    (λ e. c.if-place.false (c.place.ensures.value ∙ (e ∙ sym c.place-place.ensures.value)))

pub returns-then-place-2-clause-some : goal.returns-then-place-2-clause-some
returns-then-place-2-clause-some c =
    watched_second c.args.row.now c.index-row-1.result c.args.literal c.if-row-le1.false c.index-row-1.is (sym c.place-2.ensures.value ∙ (c.if-place-2.true ∙ c.place-place.ensures.value))

pub returns-clause-none : goal.returns-clause-none
returns-clause-none c =
    not_both c.args.row.now c.index-row-0.result c.index-row-1.result c.args.literal c.if-row-le1.false c.index-row-0.is c.index-row-1.is
    (λ e. c.if-place.false (c.place.ensures.value ∙ (e ∙ sym c.place-place.ensures.value)))
    (λ e. c.if-place-2.false (c.place-2.ensures.value ∙ (e ∙ sym c.place-place.ensures.value)))
