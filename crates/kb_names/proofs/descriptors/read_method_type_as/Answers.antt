use Rattle.kb_names.specs.Descriptors.{SpellsMethod}
use Rattle.kb_names.specs.Stages.{method_step, method_read}
use Rattle.kb_names.specs.declared.descriptors.MethodStage.TheVariants.{Opening}
use Rattle.kb_names.proofs.MethodReader.{method_so_far, IsMethodStage, method_reader}
use Rattle.kb_names.proofs.Reading.{text_value, text_only, text_bad}
use Rattle.kb_names.proofs.descriptors.read_method_type_as.Goals as goal

pub returns-in-Ok-clause-found : goal.returns-in-Ok-clause-found
returns-in-Ok-clause-found c =
    text_value method_step (Opening c.args.spelling) method_read (SpellsMethod c.args.spelling) (method_so_far c.args.spelling) (IsMethodStage c.args.spelling) (method_reader c.args.spelling) c.in-Ok.kind c.args.text.now c.in-Ok.ensures.whole

pub returns-in-Ok-clause-only : goal.returns-in-Ok-clause-only
returns-in-Ok-clause-only c kind =
    text_only method_step (Opening c.args.spelling) method_read (SpellsMethod c.args.spelling) (method_so_far c.args.spelling) (IsMethodStage c.args.spelling) (method_reader c.args.spelling) c.in-Ok.kind kind c.args.text.now c.in-Ok.ensures.whole

pub returns-in-Err-At-clause-only : goal.returns-in-Err-At-clause-only
returns-in-Err-At-clause-only c kind spells =
    (text_bad method_step (Opening c.args.spelling) method_read (SpellsMethod c.args.spelling) (method_so_far c.args.spelling) (IsMethodStage c.args.spelling) (method_reader c.args.spelling) c.args.text.now c.in-Err-At.at (rw c.in-Err-At.field-0-is at c.in-Err-At.ensures.stop)).no_text (kind, spells)

pub returns-in-Err-At-clause-bad : goal.returns-in-Err-At-clause-bad
returns-in-Err-At-clause-bad c =
    text_bad method_step (Opening c.args.spelling) method_read (SpellsMethod c.args.spelling) (method_so_far c.args.spelling) (IsMethodStage c.args.spelling) (method_reader c.args.spelling) c.args.text.now c.in-Err-At.at (rw c.in-Err-At.field-0-is at c.in-Err-At.ensures.stop)
