use Rattle.kb_grammar.proofs.ReadLaws.{none_read}
use Rattle.kb_path_words.specs.Slots.{SpellsField}
use Rattle.kb_path_words.proofs.SlotLaws.{no_object, no_member, no_field}
use Rattle.kb_path_words.proofs.slots.read_field_of.Goals as goal

pub returns-in_default : goal.returns-in_default
returns-in_default c = no_object c.args.word.now c.in_default.ensures

pub returns-in_default-behind : goal.returns-in_default-behind
returns-in_default-behind c =
    no_member c.args.word.now c.in-Some.rest.now c.in-Some.object c.in-Some.ensures.0 c.in-Some.ensures.1 c.in-Some.ensures.2 c.in_default-behind.ensures

pub returns-in-None : goal.returns-in-None
returns-in-None c =
    no_field c.args.word.now c.in-Some.rest.now c.in-Some-behind.text.now c.in-Some.object c.in-Some.ensures.0 c.in-Some.ensures.1 c.in-Some.ensures.2 c.in-Some-behind.ensures
    (none_read SpellsField c.in-Some-behind.text.now c.in_ok-field.field-0 c.in-None.is c.in_ok-field.ensures)
