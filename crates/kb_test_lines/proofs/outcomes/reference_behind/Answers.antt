use Rattle.kb_test_lines.specs.Words.{reference_text, IsReference}
use Rattle.kb_grammar.proofs.ReadLaws.{behind_read}
use Rattle.kb_test_lines.proofs.outcomes.reference_behind.Goals as goal

pub returns : goal.returns
returns c = behind_read IsReference reference_text c.args.front.now c.in_ok-behind.field-0.now c.args.line.now c.read_reference.result c.in_ok-behind.ensures c.read_reference.ensures
