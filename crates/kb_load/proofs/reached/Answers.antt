use Rattle.std.proofs.Common.{IfSome, sym, subst}
use Rattle.kb_link.specs.Targets.{IsTargetOf}
use Rattle.kb_world.specs.Reach.{IsAccepted}
use Rattle.kb_load.proofs.ClassLaws.{told_of}
use Rattle.kb_load.proofs.reached.Goals as goal

pub returns-clause-found : goal.returns-clause-found
returns-clause-found c =
    let of = IsTargetOf c.args.world.now c.args.target.now in
    subst (λ told. IfSome told of) (sym c.ok.ensures.value) (told_of of of (λ method is. is) c.reach.result c.reach.ensures.found)

pub returns-clause-accepted : goal.returns-clause-accepted
returns-clause-accepted c =
    let of = IsAccepted c.args.world.now in
    subst (λ told. IfSome told of) (sym c.ok.ensures.value) (told_of of of (λ method is. is) c.reach.result c.reach.ensures.accepted)
