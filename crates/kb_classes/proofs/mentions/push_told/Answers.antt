use Rattle.std.proofs.Common.{Some, ap}
use Rattle.kb_class.specs.declared.members.MemberKind.{MemberKind}
use Rattle.kb_classes.specs.Mentions.{AddsTexts, IsTextHeld, IsTextOfMethod, IsTextOfKind}
use Rattle.kb_classes.proofs.Firsts.{on_ok}
use Rattle.kb_classes.proofs.UniverseMentions.{kind_field, kind_method}
use Rattle.kb_classes.proofs.mentions.push_told.Goals as goal

pub returns-in-Field : goal.returns-in-Field
returns-in-Field c =
    let before = c.args.texts.now.items in
    let after = c.push_held.new.texts.items in
    on_ok c.push_held.result (AddsTexts before after (IsTextHeld c.in-Field.of)) (AddsTexts before after (IsTextOfKind (Some c.args.kind.now)))
    (λ adds. kind_field before after (Some c.args.kind.now) c.in-Field.of (ap (λ (k : MemberKind). Some k) c.in-Field.is) adds) c.push_held.ensures

pub returns-in-Method : goal.returns-in-Method
returns-in-Method c =
    let before = c.args.texts.now.items in
    let after = c.push_method.new.texts.items in
    on_ok c.push_method.result (AddsTexts before after (IsTextOfMethod c.in-Method.of)) (AddsTexts before after (IsTextOfKind (Some c.args.kind.now)))
    (λ adds. kind_method before after (Some c.args.kind.now) c.in-Method.of (ap (λ (k : MemberKind). Some k) c.in-Method.is) adds) c.push_method.ensures
