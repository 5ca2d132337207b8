use Rattle.std.proofs.Common.{◌≡◌, IfSome, IfNone, subst}
use Rattle.kb_class.specs.declared.ids.MethodId.{MethodId}
use Rattle.kb_link.specs.Targets.{IsTargetOf}
use Rattle.kb_classes.specs.World.{World}
use Rattle.kb_world.proofs.world.World.find_target.Goals as goal

pub returns-clause-none : goal.returns-clause-none
returns-clause-none c =
    subst (λ (w : World). IfNone c.find_target.result ((id : MethodId) → IsTargetOf w c.args.target.now id → ⊥)) c.self.view_is c.find_target.ensures.none

pub returns-clause-alone : goal.returns-clause-alone
returns-clause-alone c =
    subst (λ (w : World). IfSome c.find_target.result (λ id. (other : MethodId) → IsTargetOf w c.args.target.now other → other ≡ id)) c.self.view_is c.find_target.ensures.alone
