use Rattle.kb_grammar.proofs.Laws.{number_exact, run_exact, run_short}
use Rattle.kb_grammar.proofs.numbers_and_runs.Goals as goal

pub returns-clause-numbers : goal.returns-clause-numbers
returns-clause-numbers c = λ width. number_exact (λ at. at) width

pub returns-clause-runs : goal.returns-clause-runs
returns-clause-runs c = λ n. run_exact (λ at. at) n

pub returns-clause-short : goal.returns-clause-short
returns-clause-short c = λ n at front few. run_short (λ at. at) n at front few
