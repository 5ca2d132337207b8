use Rattle.std.proofs.Common.{[], arith, refl}
use Rattle.kb_dimacs_text.proofs.body.Body.new.Goals as goal

pub returns-clause-holds : goal.returns-clause-holds
returns-clause-holds c = record {
  clauses = [];
  numbers = [];
  words_are = tt;
  count_fits = c.requires.count;
  are_clauses = tt;
  are_literals = tt;
  formula_is = c.new.ensures.clauses;
  literals_are = c.new-2.ensures.items;
  few = omega arith;
  full = λ _. refl;
}
