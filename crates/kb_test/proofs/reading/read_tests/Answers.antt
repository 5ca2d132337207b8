use Rattle.kb_test.proofs.Format.{is_line_format, spells_tests, by_lines, bad_line_of_tests}
use Rattle.kb_test.proofs.Held.{tests_are_held}
use Rattle.kb_test.proofs.reading.read_tests.Goals as goal

pub returns-in-Ok-clause-found : goal.returns-in-Ok-clause-found
returns-in-Ok-clause-found c = spells_tests c.args.literals c.in-Ok.tests c.args.text.now c.in-Ok.ensures.found

pub returns-in-Ok-clause-only : goal.returns-in-Ok-clause-only
returns-in-Ok-clause-only c = λ tests spells. c.in-Ok.ensures.only tests (by_lines c.args.literals tests c.args.text.now spells)

pub returns-in-Ok-clause-held : goal.returns-in-Ok-clause-held
returns-in-Ok-clause-held c = tests_are_held c.args.literals c.in-Ok.tests c.args.text.now (spells_tests c.args.literals c.in-Ok.tests c.args.text.now c.in-Ok.ensures.found)

pub read_lines-requires : goal.read_lines-requires
read_lines-requires c = is_line_format c.args.literals

pub returns-in-Err-BadLine-clause-only : goal.returns-in-Err-BadLine-clause-only
returns-in-Err-BadLine-clause-only c = λ tests spells.
    let bad = bad_line_of_tests c.args.literals c.args.text.now c.in-Err-BadLine.number (rw c.in-Err-BadLine.field-0-is at c.in-Err-BadLine.ensures.bad) in
    bad.no_text (tests, spells)

pub returns-in-Err-BadLine-clause-bad : goal.returns-in-Err-BadLine-clause-bad
returns-in-Err-BadLine-clause-bad c =
    bad_line_of_tests c.args.literals c.args.text.now c.in-Err-BadLine.number (rw c.in-Err-BadLine.field-0-is at c.in-Err-BadLine.ensures.bad)
