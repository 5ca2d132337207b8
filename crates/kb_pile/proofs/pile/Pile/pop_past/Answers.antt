use Rattle.std.proofs.Common.{rules, ◌-◌, length, refl}
use Rattle.kb_pile.proofs.PileLaws.{taken_off}
use Rattle.kb_pile.proofs.pile.Pile.pop_past.Goals as goal

pub returns-clause-some : goal.returns-clause-some
returns-clause-some g c =
    let kept = length c.self.inside.items.items - c.args.count in
    rw (← c.self.view_is) (taken_off c.self.inside.items.items c.pop.new.self.items c.args.count kept c.pop.result refl (search rules))
