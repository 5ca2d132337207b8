use Rattle.std.proofs.Common.{◌≡◌, ◌++◌, map}
use Rattle.kb_semantics.specs.Looks.{numbers_below}
use Rattle.kb_picture.specs.declared.choice.Choice.TheVariants.{Size}
use Rattle.kb_ways.specs.Choosing.{length_conditions, not_refuted}
use Rattle.kb_steparray.proofs.choosing.offer_sizes.Given as goal

abbrev pub invariant-loop-count : goal.invariant-loop-count
invariant-loop-count l = l.choices.items ≡ l.fn.choices.items ++ not_refuted l.state (length_conditions l.x l.most) (map Size (numbers_below l.count))
