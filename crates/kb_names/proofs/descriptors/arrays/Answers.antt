use Rattle.std.proofs.Common.{sym, zero-add}
use Rattle.kb_names.specs.Types.{shape_of}
use Rattle.kb_names.proofs.ShapeLaws.{arrays_of-shape_of, arrays_of-next}
use Rattle.kb_names.proofs.descriptors.arrays.Goals as goal

pub loop-init : goal.loop-init
loop-init c = rw zero-add (sym (arrays_of-shape_of c.args.base))

pub loop-preserved : goal.loop-preserved
loop-preserved c =
    arrays_of-next c.loop.of c.in_ok-new.field-0 c.loop.counter (shape_of c.args.base).dims (shape_of c.args.base).base c.loop.invariant c.in_ok-new.ensures
