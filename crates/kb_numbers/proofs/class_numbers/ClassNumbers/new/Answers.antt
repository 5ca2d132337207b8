use Rattle.std.proofs.Common.{◌+◌, ◌<◌, ◌^◌, List, length, subst, arith}
use Rattle.kb_numbers.specs.declared.pairs.Pair.{Pair}
use Rattle.kb_numbers.specs.Pairs.{HasFirsts}
use Rattle.kb_numbers.proofs.class_numbers.ClassNumbers.new.Goals as goal

pub invariant_of-result : goal.invariant_of-result
invariant_of-result c = (
  subst (λ (ps : List Pair). HasFirsts c.in_ok-method_places.method_places ps) c.as_slice.ensures.value c.in_ok-method_places.ensures,
  subst (λ (ps : List Pair). HasFirsts c.in_ok-field_places.field_places ps) c.as_slice-2.ensures.value c.in_ok-field_places.ensures,
  (let fits : c.args.first + length c.args.methods.items < 2 ^ 32 = omega (arith, c.len.ensures) in fits),
)
