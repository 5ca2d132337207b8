use Rattle.std.proofs.Common.{sym, ◌∙◌}
use Rattle.std.proofs.lemmas.Bool.{OnFalse_from}
use Rattle.std.specs.Cmp.Lexicographic.{other_text}
use Rattle.kb_order.proofs.TakingLaws.{last_shown}
use Rattle.kb_order.proofs.texts.ends_with.Goals as goal

pub returns-in-Some-clause-other : goal.returns-in-Some-clause-other
returns-in-Some-clause-other c =
    let shown = c.in-Some.last.now in
    OnFalse_from c.eq.result _ (λ differs front last e same.
    other_text c.as_slice.result.now c.args.text.now (sym differs ∙ c.eq.ensures)
    (c.as_slice.ensures ∙ (sym (last_shown c.args.texts.now front last shown e c.in-Some.ensures.value) ∙ same)))
