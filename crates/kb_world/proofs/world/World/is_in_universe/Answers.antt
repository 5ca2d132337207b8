use Rattle.std.proofs.Common.{◌↔◌, IsTrue, subst}
use Rattle.kb_class.specs.Naming.{Has}
use Rattle.kb_classes.specs.World.{World}
use Rattle.kb_world.proofs.world.World.is_in_universe.Goals as goal

pub returns : goal.returns
returns c = subst (λ (w : World). IsTrue c.has.result ↔ Has w.universe c.args.of.now) c.self.view_is c.has.ensures
