use Rattle.std.proofs.Common.{List, ap, subst, ◌∙◌}
use Rattle.kb_numbers.specs.declared.pairs.Pair.{Pair}
use Rattle.kb_numbers.specs.Members.{method_pairs}
use Rattle.kb_numbers.specs.Pairs.{AreFirsts}
use Rattle.kb_numbers.proofs.signatures.first_methods.Goals as goal

pub returns : goal.returns
returns c =
    subst (λ (ps : List Pair). AreFirsts ps c.in_ok-firsts.firsts.items) (c.as_slice-2.ensures.value ∙ c.in_ok-pairs.ensures ∙ ap method_pairs c.as_slice.ensures.value) c.in_ok-firsts.ensures
