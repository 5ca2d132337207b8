use Rattle.kb_grammar.proofs.ReadLaws.{none_read}
use Rattle.kb_names.specs.Escapes.{SpellsName}
use Rattle.kb_path_words.specs.Slots.{SpellsKind}
use Rattle.kb_path_words.proofs.SlotLaws.{no_dot, no_class, no_name, no_kind}
use Rattle.kb_path_words.proofs.slots.read_field.Goals as goal

pub returns-in_default : goal.returns-in_default
returns-in_default c = no_dot c.args.text.now c.in_default.ensures

pub returns-in_default-2 : goal.returns-in_default-2
returns-in_default-2 c =
    no_class c.args.text.now c.in-Some.declaring.now c.in-Some.member.now c.in-Some.ensures.0 c.in-Some.ensures.1
    (none_read SpellsName c.in-Some.declaring.now c.in_ok-class.field-0 c.in_default-2.is c.in_ok-class.ensures)

pub returns-in_default-3 : goal.returns-in_default-3
returns-in_default-3 c =
    no_name c.args.text.now c.in-Some.declaring.now c.in-Some.member.now c.first_part.result.0.now c.first_part.result.1.now c.in-Some.ensures.0 c.in-Some.ensures.1
    c.first_part.ensures.part c.first_part.ensures.rest c.first_part.ensures.text
    (none_read SpellsName c.first_part.result.0.now c.in_ok-name.field-0 c.in_default-3.is c.in_ok-name.ensures)

pub returns-in-None : goal.returns-in-None
returns-in-None c =
    no_kind c.args.text.now c.in-Some.declaring.now c.in-Some.member.now c.first_part.result.0.now c.first_part.result.1.now c.in-Some.ensures.0 c.in-Some.ensures.1
    c.first_part.ensures.part c.first_part.ensures.rest c.first_part.ensures.text
    (none_read SpellsKind c.first_part.result.1.now c.in_ok-kind.field-0 c.in-None.is c.in_ok-kind.ensures)
