use Rattle.kb_path_words.proofs.ReadLaws.{one_seen, one_standing, one_term, one_out, one_value, same_decisions}
use Rattle.kb_path_words.proofs.law.each_word_is_of_one.Goals as goal

pub returns-clause-seen : goal.returns-clause-seen
returns-clause-seen c = one_seen

pub returns-clause-standing : goal.returns-clause-standing
returns-clause-standing c = one_standing

pub returns-clause-term : goal.returns-clause-term
returns-clause-term c = one_term

pub returns-clause-out : goal.returns-clause-out
returns-clause-out c = one_out

pub returns-clause-value : goal.returns-clause-value
returns-clause-value c = one_value

pub returns-clause-decisions : goal.returns-clause-decisions
returns-clause-decisions c = same_decisions
