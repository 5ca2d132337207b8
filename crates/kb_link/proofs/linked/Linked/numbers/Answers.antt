use Rattle.std.proofs.Common.{List, sym, ap, subst}
use Rattle.kb_class.specs.Class.{Class}
use Rattle.kb_numbers.specs.Numbers.{AreNumbered}
use Rattle.kb_classes.specs.World.{World}
use Rattle.kb_link.proofs.linked.Linked.numbers.Goals as goal

pub returns : goal.returns
returns c =
    subst (λ (cs : List Class). AreNumbered cs c.get.result.now) (ap (λ (w : World). w.classes) c.self.view_is) (subst (AreNumbered c.self.inside.classes) (sym c.get.ensures) c.self.invariant.3)
