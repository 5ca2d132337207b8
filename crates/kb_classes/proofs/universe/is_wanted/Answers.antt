use Rattle.std.proofs.Common.{◌≡◌, ◌≢◌, List, ℕ, length, sym, ap, subst, ◌∙◌, arith}
use Rattle.std.proofs.lemmas.Bool.{false≢true}
use Rattle.kb_names.specs.Shape.{Base}
use Rattle.kb_names.specs.Descriptors.{base_text}
use Rattle.kb_names.specs.declared.class_names.Spelling.TheVariants.{Raw}
use Rattle.kb_classes.specs.Universe.{IsElement}
use Rattle.kb_classes.specs.Mentions.{element_text}
use Rattle.kb_classes.proofs.UniverseReading.{no_array, wanted_element, element_wanted}
use Rattle.kb_classes.proofs.universe.is_wanted.Goals as goal

pub returns-then-element-text : goal.returns-then-element-text
returns-then-element-text c =
    let told = c.if-element-text.true in
    let long : length c.element_of-element.result.now ≡ length c.args.text.now = omega (arith, told) in
    let same : length (element_text c.args.text.now) ≡ length c.args.text.now = ap length (sym c.element_of-element.ensures) ∙ long in
    (λ t. absurd (false≢true t), λ wanted. absurd (no_array c.args.classes.now c.args.text.now same wanted))

pub returns : goal.returns
returns c =
    let classes = c.args.classes.now in
    let text = c.args.text.now in
    let told = c.if-element-text.false in
    let shown : length c.element_of-element.result.now ≡ length (element_text text) = ap length c.element_of-element.ensures in
    let longer : length (element_text text) ≢ length text = (λ same. omega (arith, told, shown, same)) in (
      λ t. element_wanted classes text longer (subst (λ (bs : List ℕ). (base : Base) × IsElement classes base × (bs ≡ base_text Raw base)) c.element_of-element.ensures (c.is_element.ensures.0 t)),
      λ wanted. c.is_element.ensures.1 (subst (λ (bs : List ℕ). (base : Base) × IsElement classes base × (bs ≡ base_text Raw base)) (sym c.element_of-element.ensures) (wanted_element classes text wanted)),
    )
