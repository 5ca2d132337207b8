use Rattle.kb_grammar.proofs.NumberLaws.{no_digits, leading_zero, one_zero, is_read}
use Rattle.kb_grammar.proofs.numbers.number_within.Goals as goal

pub returns-in_default : goal.returns-in_default
returns-in_default c = λ number. no_digits c.args.limit number c.args.word.now c.ranges.limit.fits c.in_default.len_below

pub returns : goal.returns
returns c = is_read c.args.limit c.args.word.now c.of_digits.result c.ranges.limit.fits c.in-len1-up.len_at_least c.if-first-eq48.false c.of_digits.ensures

pub returns-then-word-eq1 : goal.returns-then-word-eq1
returns-then-word-eq1 c = one_zero c.args.limit c.args.word.now c.if-first-eq48.true c.if-word-eq1.true

pub returns-else-word-eq1 : goal.returns-else-word-eq1
returns-else-word-eq1 c = λ number. leading_zero c.args.limit number c.args.word.now c.ranges.limit.fits c.if-first-eq48.true c.if-word-eq1.false
