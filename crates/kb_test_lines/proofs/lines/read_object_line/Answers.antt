use Rattle.kb_test_lines.specs.Lines.{SpellsListed}
use Rattle.kb_grammar.proofs.ReadLaws.{none_read}
use Rattle.kb_test_lines.proofs.Parts.{bad_object}
use Rattle.kb_test_lines.proofs.lines.read_object_line.Goals as goal

pub returns-in-None : goal.returns-in-None
returns-in-None c =
    bad_object c.args.front.now c.args.line.now c.in-Some.text.now c.in-Some.number c.in-Some.ensures.0 c.in-Some.ensures.1
    (none_read SpellsListed c.in-Some.text.now c.in_ok-listed.field-0 c.in-None.is c.in_ok-listed.ensures)
