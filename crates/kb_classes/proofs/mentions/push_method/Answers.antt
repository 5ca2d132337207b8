use Rattle.std.proofs.Common.{List, subst}
use Rattle.kb_names.specs.declared.types.JType.{JType}
use Rattle.kb_classes.specs.Mentions.{AddsTexts, AnyOf, IsTextHeld, IsTextOfMethod}
use Rattle.kb_classes.proofs.Firsts.{on_ok}
use Rattle.kb_classes.proofs.UniverseMentions.{method_with, method_without}
use Rattle.kb_classes.proofs.mentions.push_method.Goals as goal

pub returns-in-Some : goal.returns-in-Some
returns-in-Some c =
    let before = c.args.texts.now.items in
    let middle = c.push_params.new.texts.items in
    let after = c.push_held.new.texts.items in
    on_ok c.push_held.result (AddsTexts middle after (IsTextHeld c.in-Some.returned)) (AddsTexts before after (IsTextOfMethod c.args.of.now))
    (λ adds. method_with before middle after c.args.of.now c.in-Some.returned c.in-Some.is
    (subst (λ (ps : List JType). AddsTexts before middle (AnyOf IsTextHeld ps)) c.as_slice.ensures c.in_ok-push_params.ensures) adds) c.push_held.ensures

pub returns-in-None : goal.returns-in-None
returns-in-None c =
    method_without c.args.texts.now.items c.push_params.new.texts.items c.args.of.now c.in-None.is
    (subst (λ (ps : List JType). AddsTexts c.args.texts.now.items c.push_params.new.texts.items (AnyOf IsTextHeld ps)) c.as_slice.ensures c.in_ok-push_params.ensures)
