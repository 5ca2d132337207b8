use Rattle.std.proofs.Common.{◌≡◌, ◌++◌, List, ℕ, Some, refl, ap, ◌∙◌}
use Rattle.kb_names.specs.Descriptors.{method_text}
use Rattle.kb_names.specs.declared.class_names.Spelling.TheVariants.{Raw}
use Rattle.kb_numbers.proofs.written.written_pair.Goals as goal

pub returns-clause-pair : goal.returns-clause-pair
returns-clause-pair c =
    let text : c.as_slice-2.result.now ≡ method_text Raw c.args.method.now.kind = c.as_slice-2.ensures.value ∙ c.in_ok-write_method_type.ensures.ok ∙ ap (λ (front : List ℕ). front ++ method_text Raw c.args.method.now.kind) c.new-text.ensures.items in
    record {
      named = c.in_ok-kind.ensures.keeps c.in_ok-name.name c.args.method.now.name (c.in_ok-name.ensures.number ∙ ap (λ (t : List ℕ). Some t) c.as_slice.ensures.same);
      typed = (method_text Raw c.args.method.now.kind, c.in_ok-kind.ensures.number ∙ ap (λ (t : List ℕ). Some t) text, (c.requires, refl));
    }
