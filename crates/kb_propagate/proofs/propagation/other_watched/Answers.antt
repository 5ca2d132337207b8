use Rattle.kb_propagate.proofs.PairLaws.{other_first, other_second}
use Rattle.kb_propagate.proofs.propagation.other_watched.Goals as goal

pub returns-then-place-gt0 : goal.returns-then-place-gt0
returns-then-place-gt0 c = other_first c.args.row.now c.index-row-0.result c.args.place c.requires c.if-place-gt0.true c.index-row-0.is

pub returns-else-place-gt0 : goal.returns-else-place-gt0
returns-else-place-gt0 c = other_second c.args.row.now c.second_of.result c.args.place c.requires c.if-place-gt0.false c.second_of.ensures
