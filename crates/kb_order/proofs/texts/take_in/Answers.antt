use Rattle.std.proofs.Common.{sym, subst, ◌∙◌}
use Rattle.kb_order.specs.Sorting.{IsTaken}
use Rattle.kb_order.proofs.TakingLaws.{taken_again, taken_more, contains_same}
use Rattle.kb_order.proofs.texts.take_in.Goals as goal

pub returns-in_ok-push : goal.returns-in_ok-push
returns-in_ok-push c texts left h =
    let taken = c.args.taken.now.items in
    let text = c.args.text in
    subst (λ z. IsTaken texts z left) (sym c.in_ok-push.ensures.items)
    (taken_more texts taken left text h (λ front last e same.
    c.if-not-ends_with.ensures.other front last (c.as_slice.ensures.value ∙ e) (same ∙ sym c.as_slice-2.ensures)))

pub returns-else-not-ends_with : goal.returns-else-not-ends_with
returns-else-not-ends_with c texts left h =
    let taken = c.args.taken.now.items in
    let text = c.args.text in
    taken_again texts taken left text h
    (contains_same c.as_slice.result.now taken c.as_slice-2.result.now text c.as_slice.ensures.value c.as_slice-2.ensures
    c.if-not-ends_with.ensures.last)
