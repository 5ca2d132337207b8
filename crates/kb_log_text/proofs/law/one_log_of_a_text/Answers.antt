use Rattle.kb_log_text.proofs.LogLaws.{log_lines, one_log}
use Rattle.kb_log_text.proofs.law.one_log_of_a_text.Goals as goal

pub returns-clause-lines : goal.returns-clause-lines
returns-clause-lines c = log_lines

pub returns-clause-one : goal.returns-clause-one
returns-clause-one c = one_log
