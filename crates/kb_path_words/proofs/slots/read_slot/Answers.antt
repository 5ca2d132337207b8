use Rattle.kb_grammar.proofs.ReadLaws.{none_read}
use Rattle.kb_path_words.specs.Slots.{SpellsFieldOf}
use Rattle.kb_path_words.proofs.SlotLaws.{no_slot}
use Rattle.kb_path_words.proofs.slots.read_slot.Goals as goal

pub returns-in-None : goal.returns-in-None
returns-in-None c =
    no_slot c.args.word.now c.in_default.ensures c.in_default-read_element.ensures
    (none_read SpellsFieldOf c.args.word.now c.in_ok-object.field-0 c.in-None.is c.in_ok-object.ensures)
