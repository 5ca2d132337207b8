use Rattle.std.proofs.Common.{◌==◌, sym, rules}
use Rattle.std.proofs.lemmas.List.Sorted.{list_any-IsPermutation, IsNonDecreasingBy-from_sort_by_key}
use Rattle.kb_sat.proofs.analysis.sort.Goals as goal

pub returns-clause-same : goal.returns-clause-same
returns-clause-same c p = sym (list_any-IsPermutation (λ n. n == p) _ _ c.sort_unstable_by_key.ensures.permutation)

pub returns-clause-rising : goal.returns-clause-rising
returns-clause-rising c =
    IsNonDecreasingBy-from_sort_by_key (λ p. p) _ c.sort_unstable_by_key.ensures.sorted (λ a r q k. search rules)
