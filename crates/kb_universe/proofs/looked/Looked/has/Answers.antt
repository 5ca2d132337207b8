use Rattle.std.proofs.Common.{◌↔◌, IsTrue, List, subst}
use Rattle.kb_class.specs.Naming.{Has}
use Rattle.kb_universe.specs.declared.looked.Asked.{Asked}
use Rattle.kb_universe.proofs.Asking.{asked_there}
use Rattle.kb_universe.proofs.looked.Looked.has.Goals as goal

pub returns : goal.returns
returns c = subst (λ (ks : List Asked). IsTrue c.contains.result ↔ Has ks c.args.asked) c.self.view_is (asked_there c.self.inside.set.keys c.args.asked c.contains.result c.contains.ensures)
