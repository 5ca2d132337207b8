use Rattle.std.proofs.Common.{sym, rules}
use Rattle.std.proofs.lemmas.List.Sorted.{list_any-IsPermutation, IsNonDecreasingBy-from_sort_by_key}
use Rattle.kb_chain.specs.Literal.{place_of, same}
use Rattle.kb_chain.proofs.clause.sort_by_place.Goals as goal

pub returns-clause-same : goal.returns-clause-same
returns-clause-same c l = sym (list_any-IsPermutation (same l) _ _ c.sort_by_key.ensures.permutation)

pub returns-clause-rising : goal.returns-clause-rising
returns-clause-rising c =
    IsNonDecreasingBy-from_sort_by_key place_of _ c.in_ok-sort_by_key.ensures.sorted (λ a r q k. search rules)
