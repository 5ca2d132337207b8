use Rattle.kb_grammar.proofs.NumberLaws.{unsigned_read}
use Rattle.kb_grammar.proofs.numbers.without_sign.Goals as goal

pub returns : goal.returns
returns c = rw c.ok.ensures.value (unsigned_read c.in_ok-read_number.field-0 c.args.digits.now c.try_from.result c.in_ok-read_number.ensures c.try_from.ensures)
