use Rattle.kb_universe.proofs.ArraysBelow.{by_longer, by_low, by_own}
use Rattle.kb_universe.proofs.marks.Marks.has_subtype.Goals as goal

pub has_longer-requires : goal.has_longer-requires
has_longer-requires c = c.requires.1.few

pub returns-then-has_longer : goal.returns-then-has_longer
returns-then-has_longer c =
    by_longer c.args.linked.now c.requires.0 c.args.self.now.most.items c.args.self.now.longest c.requires.1.each_element c.requires.1.longest_is c.args.component.now c.has_longer.result c.has_longer.ensures
    c.if-has_longer.true

pub returns-in-Some : goal.returns-in-Some
returns-in-Some c =
    by_low c.args.linked.now c.requires.0 c.args.self.now.most.items c.args.self.now.longest c.requires.1.each_element c.requires.1.longest_is c.args.component.now c.has_longer.result c.has_low_array.result
    c.in-Some.name.now c.dims_of.result c.has_longer.ensures c.if-has_longer.false c.in-Some.ensures c.dims_of.ensures c.requires.1.few c.has_low_array.ensures

pub returns-in-None : goal.returns-in-None
returns-in-None c =
    by_own c.args.linked.now c.requires.0 c.args.self.now.most.items c.args.self.now.longest c.requires.1.each_element c.requires.1.longest_is c.args.component.now c.has_longer.result c.has_array.result
    c.has_longer.ensures c.if-has_longer.false c.in-None.ensures c.has_array.ensures
