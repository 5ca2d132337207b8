use Rattle.std.proofs.Common.{◌≡◌, ◌++◌, map}
use Rattle.kb_semantics.specs.Looks.{numbers_below}
use Rattle.kb_picture.specs.declared.choice.Choice.TheVariants.{Index}
use Rattle.kb_ways.specs.Choosing.{index_conditions, not_refuted}
use Rattle.kb_steparray.proofs.choosing.offer_places.Given as goal

abbrev pub invariant-loop-place : goal.invariant-loop-place
invariant-loop-place l = l.choices.items ≡ l.fn.choices.items ++ not_refuted l.state (index_conditions l.x l.count) (map Index (numbers_below l.place))
