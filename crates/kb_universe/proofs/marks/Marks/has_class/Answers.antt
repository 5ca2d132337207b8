use Rattle.std.proofs.Common.{sym, ◌∙◌}
use Rattle.std.proofs.lemmas.Bool.{false≢true}
use Rattle.kb_universe.proofs.Members.{class_named, marked_is}
use Rattle.kb_universe.proofs.marks.Marks.has_class.Goals as goal

pub returns-in-Some : goal.returns-in-Some
returns-in-Some c =
    marked_is c.args.linked.now c.requires.0.universe c.args.name.now c.in-Some.class.0 c.is_marked.result c.in-Some.ensures (c.is_marked.ensures ∙ c.requires.1.each_class c.in-Some.class.0)

pub returns-in-None : goal.returns-in-None
returns-in-None c = (λ t. absurd (false≢true t), λ has. absurd (class_named c.args.linked.now c.requires.0.universe c.args.name.now has (sym c.in-None.ensures)))
