use Rattle.std.proofs.Common.{Option, sym, subst, Some}
use Rattle.kb_class.specs.declared.members.MemberKind.{MemberKind}
use Rattle.kb_classes.specs.Mentions.{AddsTexts, IsTextOfKind}
use Rattle.kb_classes.proofs.Firsts.{on_ok}
use Rattle.kb_classes.proofs.mentions.push_kind.Goals as goal

pub returns-in-Some : goal.returns-in-Some
returns-in-Some c =
    let before = c.args.texts.now.items in
    let after = c.push_told.new.texts.items in
    on_ok c.push_told.result (AddsTexts before after (IsTextOfKind (Some c.in-Some.kind))) (AddsTexts before after (IsTextOfKind c.args.kind.now))
    (λ adds. subst (λ (k : Option MemberKind). AddsTexts before after (IsTextOfKind k)) (sym c.in-Some.is) adds) c.push_told.ensures
