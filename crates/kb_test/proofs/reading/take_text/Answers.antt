use Rattle.kb_test_lines.specs.Lines.{SpellsLine}
use Rattle.kb_grammar.proofs.ReadLaws.{none_read, some_read}
use Rattle.kb_test.proofs.Format.{if_takes, no_line}
use Rattle.kb_test.proofs.reading.take_text.Goals as goal

pub returns-in-None : goal.returns-in-None
returns-in-None c = no_line c.args.literals c.args.front c.args.text.now (none_read SpellsLine c.args.text.now c.in_ok-line.field-0 c.in-None.is c.in_ok-line.ensures)

pub returns-in-Some : goal.returns-in-Some
returns-in-Some c =
    if_takes c.args.literals c.args.front c.args.text.now c.in-Some.line c.with_line.result
    (some_read SpellsLine c.args.text.now c.in_ok-line.field-0 c.in-Some.line c.in-Some.is c.in_ok-line.ensures) c.with_line.ensures
