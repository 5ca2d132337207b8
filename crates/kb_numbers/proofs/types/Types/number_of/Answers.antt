use Rattle.std.proofs.Common.{◌≡◌, ap, ◌∙◌}
use Rattle.std.proofs.lemmas.Option.{none-some, same_Some}
use Rattle.kb_numbers.specs.Typed.{told_in}
use Rattle.kb_numbers.proofs.TypedLaws.{typed_by}
use Rattle.kb_numbers.proofs.types.Types.number_of.Goals as goal

pub returns-in_err-first-clause-whole : goal.returns-in_err-first-clause-whole
returns-in_err-first-clause-whole c = λ number is. absurd (none-some is.0 (c.in_err-first.ensures.whole is.0 is.1))

pub returns-clause-found : goal.returns-clause-found
returns-clause-found c = typed_by c.args.texts.now c.args.self.now c.args.kind.now c.in_ok-first.first c.in_ok-first.ensures.found c.copied.result (c.copied.ensures ∙ c.get.ensures.value)

pub returns-clause-whole : goal.returns-clause-whole
returns-clause-whole c = λ number is.
    let same : c.in_ok-first.first ≡ is.0 = same_Some c.in_ok-first.first is.0 (c.in_ok-first.ensures.whole is.0 is.1) in
    c.copied.ensures ∙ c.get.ensures.value ∙ ap (told_in c.args.self.now.ends) same ∙ is.2
