use Rattle.kb_test.proofs.OneText.{same_text}
use Rattle.kb_test.proofs.writing.tests_have_one_text.Goals as goal

pub returns : goal.returns
returns c = same_text
