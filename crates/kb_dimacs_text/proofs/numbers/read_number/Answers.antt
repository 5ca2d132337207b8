use Rattle.kb_dimacs_text.proofs.NumberLaws.{number_is_utf8}
use Rattle.kb_dimacs_text.proofs.numbers.read_number.Goals as goal

pub returns-in_default : goal.returns-in_default
returns-in_default c = λ number fits spells. c.in_default.ensures.cases.0 (number_is_utf8 number c.args.word.now spells)
