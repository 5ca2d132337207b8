use Rattle.std.proofs.Common.{◌≡◌, [], ◌∷◌, ◌++◌}
use Rattle.kb_classes.specs.Mentions.{AddsTexts, IsFoundText}
use Rattle.kb_classes.proofs.Firsts.{on_ok}
use Rattle.kb_classes.proofs.LiteralLaws.{adds_found, adds_not_found}
use Rattle.kb_classes.proofs.literals.push_literal.Goals as goal

pub returns-in-Some : goal.returns-in-Some
returns-in-Some c =
    let before = c.args.texts.now.items in
    let after = c.push_row.new.texts.items in
    let text = c.in-Some.text in
    on_ok c.push_row.result (after ≡ before ++ text ∷ []) (AddsTexts before after (IsFoundText c.args.literal))
    (λ pushed. rw c.in-Some.is (adds_found before after text pushed)) c.push_row.ensures

pub returns-in-None : goal.returns-in-None
returns-in-None c = rw c.in-None.is (adds_not_found c.args.texts.now.items)
