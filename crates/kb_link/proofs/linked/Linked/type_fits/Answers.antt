use Rattle.std.proofs.Common.{◌≡◌, sym, ◌∙◌}
use Rattle.kb_names.specs.Shape.{Shape}
use Rattle.kb_names.specs.Types.{shape_of, arrays_of}
use Rattle.kb_names.specs.declared.types.JType.TheVariants.{Array}
use Rattle.kb_names.proofs.ShapeLaws.{shape_of-arrays_of}
use Rattle.kb_classes.specs.World.{World}
use Rattle.kb_classes.specs.Subtypes.{fits_shapes, type_fits}
use Rattle.kb_link.proofs.linked.Linked.type_fits.Goals as goal

components_fit : (world : World) (inner outer : Shape) → type_fits world (arrays_of inner.dims inner.base) (arrays_of outer.dims outer.base) ≡ type_fits world (Array inner) (Array outer)
components_fit world inner outer = λ i. fits_shapes world (shape_of-arrays_of inner.dims inner.base i) (shape_of-arrays_of outer.dims outer.base i)

pub loop-below-preserved : goal.loop-below-preserved
loop-below-preserved c =
    (λ i. type_fits c.args.self.now (c.get-below.ensures i) (c.get-above.ensures i)) ∙ components_fit c.args.self.now c.in-Array-Array.inner c.in-Array-Array.outer
    ∙ (λ i. type_fits c.args.self.now (sym c.in-Array-Array.is-0 i) (sym c.in-Array-Array.is-1 i)) ∙ c.loop-below.invariant
