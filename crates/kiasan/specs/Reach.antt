-- What refuses a method that is to be explored or run.
use Rattle.std.specs.Prelude.{◌≡◌, ◌⊎◌}
use Rattle.kb_names.specs.declared.types.Target.{Target}
use Rattle.kb_classes.specs.declared.refusal.LinkRefusal.{LinkRefusal}
use Rattle.kb_classes.specs.World.{World}
use Rattle.kb_world.specs.Reach.{Refuses}
use Rattle.kb_refusals.specs.declared.refusal.Refusal.{Refusal}
use Rattle.kb_refusals.specs.declared.refusal.Refusal.TheVariants.{Unbuilt}
use Rattle.kiasan.specs.declared.refusals.Stop.TheVariants.{Refused}
use Rattle.kiasan.specs.Refusals.{link_refusal}
use Rattle.kiasan.specs.Unbuilt.{IsUnbuilt}

-- reach refuses
abbrev pub ReachRefuses : World → Target → Refusal → Type 0
ReachRefuses world target refusal = (found : LinkRefusal) × Refuses world target found × (link_refusal found ≡ Refused refusal)

-- reach refuses, and directly behind it what is not built
abbrev pub TargetRefuses : World → Target → Refusal → Type 0
TargetRefuses world target refusal = ReachRefuses world target refusal ⊎ ((refusal ≡ Unbuilt) × IsUnbuilt world target)
