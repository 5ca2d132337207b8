use Rattle.std.proofs.Common.{◌≡◌, inl, inr, [], ◌∷◌, ◌++◌}
use Rattle.kb_names.specs.Descriptors.{type_text}
use Rattle.kb_names.specs.declared.class_names.Spelling.TheVariants.{Raw}
use Rattle.kb_classes.specs.Mentions.{AddsTexts, IsTextHeld}
use Rattle.kb_classes.proofs.Firsts.{on_ok}
use Rattle.kb_classes.proofs.UniverseMentions.{held_object}
use Rattle.kb_classes.proofs.mentions.push_held.Goals as goal

pub returns-in-Class : goal.returns-in-Class
returns-in-Class c =
    on_ok c.push_type.result (c.push_type.new.texts.items ≡ c.args.texts.now.items ++ type_text Raw c.args.of.now ∷ []) (AddsTexts c.args.texts.now.items c.push_type.new.texts.items (IsTextHeld c.args.of.now))
    (λ pushed. held_object c.args.texts.now.items c.push_type.new.texts.items c.args.of.now (inl (c.in-Class.field-0, c.in-Class.is)) pushed) c.push_type.ensures

pub returns-in-Array : goal.returns-in-Array
returns-in-Array c =
    on_ok c.push_type-in-Array.result (c.push_type-in-Array.new.texts.items ≡ c.args.texts.now.items ++ type_text Raw c.args.of.now ∷ []) (AddsTexts c.args.texts.now.items c.push_type-in-Array.new.texts.items (IsTextHeld c.args.of.now))
    (λ pushed. held_object c.args.texts.now.items c.push_type-in-Array.new.texts.items c.args.of.now (inr (c.in-Array.field-0, c.in-Array.is)) pushed) c.push_type-in-Array.ensures
