use Rattle.std.proofs.Common.{[]}
use Rattle.kb_names.specs.Targets.{SpellsTarget, target_step, target_read}
use Rattle.kb_names.specs.declared.name_texts.NameStage.TheVariants.{Plain}
use Rattle.kb_names.specs.declared.targets.TargetStage.TheVariants.{InClass}
use Rattle.kb_names.proofs.TargetReader.{target_so_far, IsTargetStage, target_reader}
use Rattle.kb_names.proofs.Reading.{text_value, text_only, text_bad}
use Rattle.kb_names.proofs.targets.read_target.Goals as goal

pub returns-in-Ok-clause-found : goal.returns-in-Ok-clause-found
returns-in-Ok-clause-found c =
    text_value target_step (InClass (Plain [])) target_read SpellsTarget target_so_far IsTargetStage target_reader c.in-Ok.target c.args.text.now (rw c.new.ensures at c.in-Ok.ensures.whole)

pub returns-in-Ok-clause-only : goal.returns-in-Ok-clause-only
returns-in-Ok-clause-only c target =
    text_only target_step (InClass (Plain [])) target_read SpellsTarget target_so_far IsTargetStage target_reader c.in-Ok.target target c.args.text.now (rw c.new.ensures at c.in-Ok.ensures.whole)

pub returns-in-Err-At-clause-only : goal.returns-in-Err-At-clause-only
returns-in-Err-At-clause-only c target spells =
    (text_bad target_step (InClass (Plain [])) target_read SpellsTarget target_so_far IsTargetStage target_reader c.args.text.now c.in-Err-At.at (rw (c.new.ensures, c.in-Err-At.field-0-is) at c.in-Err-At.ensures.stop)).no_text (target, spells)

pub returns-in-Err-At-clause-bad : goal.returns-in-Err-At-clause-bad
returns-in-Err-At-clause-bad c =
    text_bad target_step (InClass (Plain [])) target_read SpellsTarget target_so_far IsTargetStage target_reader c.args.text.now c.in-Err-At.at (rw (c.new.ensures, c.in-Err-At.field-0-is) at c.in-Err-At.ensures.stop)
