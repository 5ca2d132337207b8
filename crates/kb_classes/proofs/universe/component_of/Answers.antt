use Rattle.std.proofs.Common.{◌≡◌, ◌-◌, length, arith}
use Rattle.kb_names.specs.Shape.{Base}
use Rattle.kb_names.specs.Types.{shape_of, base_type, arrays_of}
use Rattle.kb_names.specs.declared.types.JType.{JType}
use Rattle.kb_classes.specs.Universe.{array_text}
use Rattle.kb_classes.specs.Mentions.{IsSimple}
use Rattle.kb_classes.proofs.Firsts.{on_if}
use Rattle.kb_classes.proofs.UniverseReading.{component_is}
use Rattle.kb_classes.proofs.universe.component_of.Goals as goal

pub returns : goal.returns
returns c =
    let first = c.saturating_sub-dims.ensures in
    let second = c.saturating_sub.ensures in
    let text = c.args.text.now in
    let element = c.element_of-element.result.now in
    let dims = c.saturating_sub.result in
    let counted : dims ≡ length text - length element - 1 = omega (arith, first, second) in
    on_if c.with_dims.result (λ (type : JType). (of : Base) → c.in_ok-base.base ≡ base_type of → type ≡ arrays_of dims of)
    (λ (type : JType). (component : JType) → IsSimple (shape_of component).base → text ≡ array_text component → type ≡ component)
    (λ type over component simple is. component_is text component c.in_ok-base.base type element dims simple is c.element_of-element.ensures c.in_ok-base.ensures counted over) c.with_dims.ensures
