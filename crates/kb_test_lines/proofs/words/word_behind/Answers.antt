use Rattle.kb_test_lines.specs.Words.{word_text, IsWord}
use Rattle.kb_grammar.proofs.ReadLaws.{behind_read}
use Rattle.kb_test_lines.proofs.words.word_behind.Goals as goal

pub returns : goal.returns
returns c = behind_read IsWord word_text c.args.front.now c.in_ok-behind.field-0.now c.args.text.now c.read_word.result c.in_ok-behind.ensures c.read_word.ensures
