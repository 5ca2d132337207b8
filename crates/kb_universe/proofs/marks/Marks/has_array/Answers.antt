use Rattle.kb_universe.proofs.Reaching.{array_told}
use Rattle.kb_universe.proofs.marks.Marks.has_array.Goals as goal

pub returns : goal.returns
returns c =
    array_told c.args.linked.now c.requires.0.universe c.args.self.now.most.items c.requires.1.each_element c.args.component.now c.dims_of.result c.reach_of.result c.args.self.now.longest
    c.dims_of.ensures c.reach_of.ensures c.requires.1.longest_is c.requires.1.few
