use Rattle.std.proofs.Common.{rules}
use Rattle.std.proofs.lemmas.List.Sorted.{Contains-permutation, IsPermutation-sym, answers_always}
use Rattle.kb_order.proofs.TakingLaws.{falls_first}
use Rattle.kb_order.proofs.texts.sort_down.Goals as goal

pub returns-clause-same : goal.returns-clause-same
returns-clause-same c text =
    let moved = c.sort_unstable_by.ensures.permutation in (
      λ h. Contains-permutation _ _ text (IsPermutation-sym _ _ moved) h,
      λ h. Contains-permutation _ _ text moved h,
    )

pub returns-clause-falls : goal.returns-clause-falls
returns-clause-falls c = c.sort_unstable_by.ensures.sorted _ falls_first (answers_always _ _ _ (λ f a r g h. search rules))
