use Rattle.std.proofs.Common.{IsSome, refl}
use Rattle.kb_classes.specs.Mentions.{AddsTexts, IsTextNamed, IsTextGiven}
use Rattle.kb_classes.proofs.Firsts.{on_ok}
use Rattle.kb_classes.proofs.UniverseMentions.{given_some}
use Rattle.kb_classes.proofs.mentions.push_given.Goals as goal

pub returns-in-Some : goal.returns-in-Some
returns-in-Some c =
    let before = c.args.texts.now.items in
    let after = c.push_named.new.texts.items in
    let some : IsSome c.args.class.now.file = (rw (← c.file.ensures, c.in-Some.is) refl) in
    on_ok c.push_named.result (AddsTexts before after (IsTextNamed c.args.class.now)) (AddsTexts before after (IsTextGiven c.args.class.now))
    (λ adds. given_some before after c.args.class.now some adds) c.push_named.ensures
