use Rattle.std.proofs.Common.{◌≡◌, ◌↔◌, ◌⊎◌, List, subst}
use Rattle.kb_class.specs.Naming.{Has}
use Rattle.kb_universe.specs.declared.looked.Asked.{Asked}
use Rattle.kb_universe.proofs.Asking.{asked_more}
use Rattle.kb_universe.proofs.looked.Looked.add.Goals as goal

pub returns : goal.returns
returns c =
    subst (λ (ks : List Asked). (other : Asked) → Has c.insert_full.new.self.keys other ↔ (Has ks other ⊎ (other ≡ c.args.asked))) c.self.view_is
    (asked_more c.self.inside.set.keys c.insert_full.new.self.keys c.args.asked c.in_ok-insert_full.ensures.keys)
