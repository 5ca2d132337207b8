use Rattle.std.proofs.lemmas.Option.{none-some}
use Rattle.kb_numbers.proofs.TypeLaws.{part_found, part_there}
use Rattle.kb_numbers.proofs.types.result_part.Goals as goal

pub returns-in_err-symbol-clause-whole : goal.returns-in_err-symbol-clause-whole
returns-in_err-symbol-clause-whole c = λ number of. absurd (none-some of.symbol (c.in_err-symbol.ensures.whole of.symbol of.of_type))

pub returns-clause-found : goal.returns-clause-found
returns-clause-found c = part_there c.args.texts.now c.args.parts.now 0 c.args.of.now c.in_ok-symbol.symbol c.number.result c.in_ok-symbol.ensures.found c.number.ensures.found

pub returns-clause-whole : goal.returns-clause-whole
returns-clause-whole c = λ number of. part_found c.args.texts.now c.args.parts.now 0 c.args.of.now c.in_ok-symbol.symbol c.number.result c.in_ok-symbol.ensures.whole c.number.ensures.whole number of
