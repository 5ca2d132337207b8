use Rattle.std.proofs.Common.{◌≡◌, arith}
use Rattle.kb_names.specs.Types.{shape_of}
use Rattle.kb_numbers.proofs.TypeLaws.{no_dims}
use Rattle.kb_numbers.proofs.parts.element_of.Goals as goal

pub returns : goal.returns
returns c =
    let flat : (shape_of c.loop-inner.inner.now).dims ≡ 0 = no_dims c.loop-inner.inner.now c.in_default.not-Array in
    let sum = c.loop-inner.invariant.0 in
    record { found = (omega (arith, flat, sum), c.loop-inner.invariant.1, c.loop-inner.invariant.2, flat); none = tt }
