-- What a comparison of two ints gives, and what a condition that two ints are equal says of them.
use Rattle.std.proofs.Common.{◌≡◌, ℤ, Bool, List, refl, ap, int_eq}
use Rattle.std.specs.Prelude.{int_lt}
use Rattle.kb_arith.specs.Word.{truth, word_eq, word_lt}
use Rattle.kb_terms.specs.declared.op.Op.TheVariants.{Eq, Lt}
use Rattle.kb_terms.specs.declared.node.TermId.{TermId}
use Rattle.kb_terms.specs.declared.node.Node.{Node}
use Rattle.kb_terms.specs.Terms.{value_of}
use Rattle.kb_ways.specs.declared.condition.Side.TheVariants.{Term, Number}
use Rattle.kb_ways.specs.Asked.{equal_sides}
use Rattle.kb_ways.proofs.OneAsked.{ConditionHolds, IsTruth}
use Rattle.kb_ways.proofs.OneDecided.{truth_same}

pub eq_truth : IsTruth Eq
unfolding word_eq
eq_truth a b = (int_eq a b, refl)

pub lt_truth : IsTruth Lt
unfolding word_lt
lt_truth a b = (int_lt a b, refl)

module _ (nodes : List Node) (variables : List ℤ) where
  abbrev V : TermId → ℤ
  V x = value_of nodes x variables

  pub equal_so : (x : TermId) (z : ℤ) (so : Bool) → ConditionHolds nodes variables (equal_sides (Term x) (Number z) so) → int_eq (V x) z ≡ so
  unfolding word_eq
  equal_so x z so h = truth_same (int_eq (V x) z) so h

  pub so_equal : (x : TermId) (z : ℤ) (so : Bool) → int_eq (V x) z ≡ so → ConditionHolds nodes variables (equal_sides (Term x) (Number z) so)
  unfolding word_eq
  so_equal x z so e = ap truth e
