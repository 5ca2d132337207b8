use Rattle.kb_names.proofs.Choices.{on_ok}
use Rattle.kb_names.proofs.writing.append_class.Goals as goal

pub returns-clause-is : goal.returns-clause-is
returns-clause-is c = on_ok c.append_byte-2.result c.in_ok-append_name.ensures.is
