use Rattle.std.proofs.Common.{◌≡◌, ◌++◌, take}
use Rattle.kb_eliminate.specs.Elimination.{IsUndecided, each_with}
use Rattle.kb_eliminate.proofs.elimination.let_all_go.Given as goal

abbrev pub invariant-loop-number : goal.invariant-loop-number
invariant-loop-number l = record {
  undecided : IsUndecided l.fn.base.formula.now l.base;
  gone : l.eliminated.clauses.items ≡ l.fn.eliminated.clauses.items ++ each_with l.literal (take l.number-index l.numbers);
}
