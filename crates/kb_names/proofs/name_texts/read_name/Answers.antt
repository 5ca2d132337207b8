use Rattle.std.proofs.Common.{[]}
use Rattle.kb_names.specs.Escapes.{SpellsName, name_step, name_read}
use Rattle.kb_names.specs.declared.name_texts.NameStage.TheVariants.{Plain}
use Rattle.kb_names.proofs.NameReader.{text_so_far, IsStage, name_reader}
use Rattle.kb_names.proofs.Reading.{text_value, text_only, text_bad}
use Rattle.kb_names.proofs.name_texts.read_name.Goals as goal

pub returns-in-Ok-from_row-clause-found : goal.returns-in-Ok-from_row-clause-found
returns-in-Ok-from_row-clause-found c =
    rw c.in-Ok-from_row.ensures
    (text_value name_step (Plain []) name_read SpellsName text_so_far IsStage name_reader c.in-Ok.name c.args.text.now (rw c.new.ensures at c.in-Ok.ensures.whole))

pub returns-in-Ok-from_row-clause-only : goal.returns-in-Ok-from_row-clause-only
returns-in-Ok-from_row-clause-only c name =
    rw c.in-Ok-from_row.ensures
    (text_only name_step (Plain []) name_read SpellsName text_so_far IsStage name_reader c.in-Ok.name name c.args.text.now (rw c.new.ensures at c.in-Ok.ensures.whole))

pub returns-in-Err-At-clause-only : goal.returns-in-Err-At-clause-only
returns-in-Err-At-clause-only c name spells =
    (text_bad name_step (Plain []) name_read SpellsName text_so_far IsStage name_reader c.args.text.now c.in-Err-At.at (rw (c.new.ensures, c.in-Err-At.field-0-is) at c.in-Err-At.ensures.stop)).no_text (name, spells)

pub returns-in-Err-At-clause-bad : goal.returns-in-Err-At-clause-bad
returns-in-Err-At-clause-bad c =
    text_bad name_step (Plain []) name_read SpellsName text_so_far IsStage name_reader c.args.text.now c.in-Err-At.at (rw (c.new.ensures, c.in-Err-At.field-0-is) at c.in-Err-At.ensures.stop)
