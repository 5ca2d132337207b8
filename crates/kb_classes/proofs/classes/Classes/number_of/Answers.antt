use Rattle.std.proofs.Common.{List, ap, ◌∙◌}
use Rattle.kb_class.specs.Class.{Class}
use Rattle.kb_classes.specs.World.{number_in}
use Rattle.kb_classes.proofs.Named.{place_of_name}
use Rattle.kb_classes.proofs.classes.Classes.number_of.Goals as goal

pub returns : goal.returns
returns c =
    c.in_ok-number.ensures.index
    ∙ place_of_name c.self.inside.names.keys c.self.inside.list.items c.args.name.now c.self.invariant.1.each
    ∙ ap (λ (classes : List Class). number_in classes c.args.name.now) c.self.view_is

pub returns-in_err-number : goal.returns-in_err-number
returns-in_err-number c =
    c.from_residual.ensures
    ∙ c.in_err-number.ensures.index
    ∙ place_of_name c.self.inside.names.keys c.self.inside.list.items c.args.name.now c.self.invariant.1.each
    ∙ ap (λ (classes : List Class). number_in classes c.args.name.now) c.self.view_is
