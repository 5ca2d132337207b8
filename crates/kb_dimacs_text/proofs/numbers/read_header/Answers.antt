use Rattle.std.proofs.Common.{arith}
use Rattle.kb_dimacs_text.proofs.WordLaws.{vars_spelled, count_spelled}
use Rattle.kb_dimacs_text.proofs.numbers.read_header.Goals as goal

pub returns-in_default-read_count : goal.returns-in_default-read_count
returns-in_default-read_count c = λ vars count header. c.in_default-read_count.ensures vars header.vars_fit (vars_spelled c.args.words.now _ vars count (omega arith) header)

pub returns-in_default-read_count-2 : goal.returns-in_default-read_count-2
returns-in_default-read_count-2 c = λ vars count header. c.in_default-read_count-2.ensures count header.count_fits (count_spelled c.args.words.now _ vars count (omega arith) header)
