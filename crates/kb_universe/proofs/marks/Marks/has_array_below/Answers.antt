use Rattle.std.proofs.Common.{sym, ap, ◌∙◌}
use Rattle.std.specs.List.{list_any}
use Rattle.kb_names.specs.declared.types.ExactType.{ExactType}
use Rattle.kb_universe.specs.Marks.{is_array_below}
use Rattle.kb_universe.proofs.ArraysBelow.{by_class}
use Rattle.kb_universe.proofs.marks.Marks.has_array_below.Goals as goal

pub returns-in-Class : goal.returns-in-Class
returns-in-Class c =
    by_class c.args.linked.now c.requires.0 c.args.self.now.most.items c.args.self.now.longest c.requires.1.each_element c.requires.1.longest_is c.in-Class.name c.has_array_of.result c.has_array_of.ensures
    ∙ ap (λ (t : ExactType). list_any (is_array_below c.args.linked.now t) c.args.linked.now.universe) (sym c.in-Class.is)
