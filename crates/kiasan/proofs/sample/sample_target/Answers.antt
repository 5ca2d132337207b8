use Rattle.std.proofs.Common.{Err, sym, subst}
use Rattle.kb_names.specs.Targets.{ReadsTarget, SpellsTarget}
use Rattle.kb_names.specs.declared.targets.TargetRefusal.{TargetRefusal}
use Rattle.kiasan.specs.Samples.{sample_target}
use Rattle.kiasan.proofs.SampleLaws.{sample_spelled}
use Rattle.kiasan.proofs.sample.sample_target.Goals as goal

pub returns-in-Ok : goal.returns-in-Ok
returns-in-Ok c = c.in-Ok.ensures.only sample_target (subst (SpellsTarget sample_target) (sym c.as_slice.ensures) sample_spelled)

pub unreachable-requires : goal.unreachable-requires
unreachable-requires c =
    subst (λ (refusal : TargetRefusal). ReadsTarget (Err refusal) sample_target) c.in-Err-BadTarget.field-0-is
    (c.in-Err-BadTarget.ensures.only sample_target (subst (SpellsTarget sample_target) (sym c.as_slice.ensures) sample_spelled))
