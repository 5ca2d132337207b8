use Rattle.kb_classes.specs.Mentions.{AddsTexts, AnyOf, HasLiteral, IsFoundText}
use Rattle.kb_classes.proofs.Firsts.{on_ok}
use Rattle.kb_classes.proofs.LiteralLaws.{adds_literals}
use Rattle.kb_classes.proofs.literals.push_texts.Goals as goal

pub returns : goal.returns
returns c =
    let before = c.args.texts.now.items in
    let after = c.push_literals.new.texts.items in
    let class = c.args.class.now in
    let literals = c.in_ok-literals.literals in
    on_ok c.push_literals.result (AddsTexts before after (AnyOf IsFoundText literals)) (AddsTexts before after (HasLiteral class))
    (adds_literals before after class literals c.in_ok-literals.ensures.texts) (rw c.into_vec.ensures at c.push_literals.ensures)
