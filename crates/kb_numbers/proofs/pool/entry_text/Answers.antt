use Rattle.std.proofs.Common.{ap, ◌∙◌}
use Rattle.std.proofs.lemmas.Option.{none-some, same_Some}
use Rattle.std.proofs.lemmas.Result.{IfOk-weaker}
use Rattle.std.proofs.Common.{◌≡◌, ℕ, List, Some, slice_get}
use Rattle.kb_numbers.specs.Pools.{HasNumber}
use Rattle.kb_numbers.proofs.NumberLaws.{keeps_self}
use Rattle.kb_numbers.proofs.pool.entry_text.Goals as goal

pub returns-in-Some-clause-number : goal.returns-in-Some-clause-number
returns-in-Some-clause-number c =
    IfOk-weaker c.number_of_text.result (λ number. slice_get c.number_of_text.new.texts number ≡ Some c.in-Some.text.now) (HasNumber c.number_of_text.new.texts c.args.entry.now)
    (λ number there text at. there ∙ ap (λ (t : List ℕ). Some t) (same_Some c.in-Some.text.now text (c.in-Some.ensures ∙ at))) c.number_of_text.ensures.number

pub returns-in-None-clause-number : goal.returns-in-None-clause-number
returns-in-None-clause-number c = λ text at. absurd (none-some text (c.in-None.ensures ∙ at))

pub returns-in-None-clause-keeps : goal.returns-in-None-clause-keeps
returns-in-None-clause-keeps c = keeps_self c.args.texts.now
