use Rattle.kb_numbers.proofs.types.add_param.Goals as goal

pub returns-clause-part : goal.returns-clause-part
returns-clause-part c = record { symbol = c.in-Some.symbol; of_type = c.in-Some.ensures.found; there = c.in_ok-number.ensures.number }
