use Rattle.kb_test_laws.proofs.WorldTexts.{names_have_texts}
use Rattle.kb_test_laws.proofs.laws.worlds_have_names.Goals as goal

pub returns : goal.returns
returns c = λ given world of_bytes links. names_have_texts given world of_bytes links
