use Rattle.kb_dimacs_text.proofs.RefusalLaws.{one_line, one_reason}
use Rattle.kb_dimacs_text.proofs.refusal.is_refused_once.Goals as goal

pub returns-clause-line : goal.returns-clause-line
returns-clause-line c = one_line

pub returns-clause-cause : goal.returns-clause-cause
returns-clause-cause c = one_reason
