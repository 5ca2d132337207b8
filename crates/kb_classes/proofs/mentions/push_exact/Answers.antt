use Rattle.std.proofs.Common.{◌≡◌, List, ℕ, [], ◌∷◌, ◌++◌, ap, ◌∙◌}
use Rattle.kb_classes.specs.Mentions.{AddsTexts, IsTextOf}
use Rattle.kb_classes.proofs.Firsts.{on_ok}
use Rattle.kb_classes.proofs.UniverseMentions.{told}
use Rattle.kb_classes.proofs.mentions.push_exact.Goals as goal

pub returns-in_ok-exact_text-in-Some : goal.returns-in_ok-exact_text-in-Some
returns-in_ok-exact_text-in-Some c =
    let before = c.args.texts.now.items in
    let after = c.push_row.new.texts.items in
    let text = c.in_ok-exact_text-in-Some.field-0 in
    on_ok c.push_row.result (after ≡ before ++ text ∷ []) (AddsTexts before after (IsTextOf c.args.of.now))
    (λ pushed. told before after c.args.of.now c.in-Some.of c.in-Some.is (pushed ∙ ap (λ (t : List ℕ). before ++ t ∷ []) c.in_ok-exact_text-in-Some.ensures)) c.push_row.ensures
