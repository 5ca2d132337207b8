use Rattle.kb_classes.specs.Mentions.{AddsTexts, AnyOf, IsTextOfKind, IsTextNamed}
use Rattle.kb_classes.proofs.Firsts.{on_ok}
use Rattle.kb_classes.proofs.UniverseMentions.{named_both}
use Rattle.kb_classes.proofs.mentions.push_named.Goals as goal

pub returns : goal.returns
returns c =
    let before = c.args.texts.now.items in
    let middle = c.push_types.new.texts.items in
    let after = c.push_kinds.new.texts.items in
    on_ok c.push_kinds.result (AddsTexts middle after (AnyOf IsTextOfKind c.named_kinds.result.now)) (AddsTexts before after (IsTextNamed c.args.class.now))
    (λ adds. named_both before middle after c.args.class.now c.named_types.result.now c.named_kinds.result.now c.named_types.ensures c.named_kinds.ensures c.in_ok-push_types.ensures adds)
    c.push_kinds.ensures
