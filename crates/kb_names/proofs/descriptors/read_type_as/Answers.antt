use Rattle.kb_names.specs.Descriptors.{SpellsType}
use Rattle.kb_names.specs.Stages.{type_step, type_read}
use Rattle.kb_names.specs.declared.descriptors.TypeStage.TheVariants.{Dims}
use Rattle.kb_names.proofs.TypeReader.{type_so_far, IsTypeStage, type_reader}
use Rattle.kb_names.proofs.Reading.{text_value, text_only, text_bad}
use Rattle.kb_names.proofs.descriptors.read_type_as.Goals as goal

pub returns-in-Ok-clause-found : goal.returns-in-Ok-clause-found
returns-in-Ok-clause-found c =
    text_value type_step (Dims c.args.spelling 0) type_read (SpellsType c.args.spelling) (type_so_far c.args.spelling) (IsTypeStage c.args.spelling) (type_reader c.args.spelling) c.in-Ok.of c.args.text.now c.in-Ok.ensures.whole

pub returns-in-Ok-clause-only : goal.returns-in-Ok-clause-only
returns-in-Ok-clause-only c type =
    text_only type_step (Dims c.args.spelling 0) type_read (SpellsType c.args.spelling) (type_so_far c.args.spelling) (IsTypeStage c.args.spelling) (type_reader c.args.spelling) c.in-Ok.of type c.args.text.now c.in-Ok.ensures.whole

pub returns-in-Err-At-clause-only : goal.returns-in-Err-At-clause-only
returns-in-Err-At-clause-only c type spells =
    (text_bad type_step (Dims c.args.spelling 0) type_read (SpellsType c.args.spelling) (type_so_far c.args.spelling) (IsTypeStage c.args.spelling) (type_reader c.args.spelling) c.args.text.now c.in-Err-At.at (rw c.in-Err-At.field-0-is at c.in-Err-At.ensures.stop)).no_text (type, spells)

pub returns-in-Err-At-clause-bad : goal.returns-in-Err-At-clause-bad
returns-in-Err-At-clause-bad c =
    text_bad type_step (Dims c.args.spelling 0) type_read (SpellsType c.args.spelling) (type_so_far c.args.spelling) (IsTypeStage c.args.spelling) (type_reader c.args.spelling) c.args.text.now c.in-Err-At.at (rw c.in-Err-At.field-0-is at c.in-Err-At.ensures.stop)
