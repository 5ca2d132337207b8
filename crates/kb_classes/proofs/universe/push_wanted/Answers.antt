use Rattle.std.proofs.Common.{◌≡◌, ◌++◌}
use Rattle.kb_classes.specs.Mentions.{AddsTexts, IsOwnPartOf, own_parts}
use Rattle.kb_classes.proofs.Firsts.{on_ok}
use Rattle.kb_classes.proofs.OwnParts.{wanted_own}
use Rattle.kb_classes.proofs.universe.push_wanted.Goals as goal

pub returns : goal.returns
returns c =
    let named = c.args.named.now in
    let before = c.args.texts.now.items in
    let after = c.push_parts.new.texts.items in
    on_ok c.push_parts.result (after ≡ before ++ own_parts named c.args.whole.now) (AddsTexts before after (IsOwnPartOf c.args.classes.now named c.args.whole.now))
    (λ pushed. wanted_own c.args.classes.now named before after c.args.whole.now (c.is_wanted.ensures.0 c.if-not-is_wanted.false) pushed) c.push_parts.ensures
