use Rattle.kb_asm_check.proofs.OneLaws.{one_text, one_number, no_refusal}
use Rattle.kb_asm_check.proofs.laws.one_answer.Goals as goal

pub returns-clause-lines : goal.returns-clause-lines
returns-clause-lines c = one_text

pub returns-clause-number : goal.returns-clause-number
returns-clause-number c = one_number

pub returns-clause-apart : goal.returns-clause-apart
returns-clause-apart c = no_refusal
