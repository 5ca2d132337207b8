-- Conditions that values of terms meet.
use Rattle.std.specs.Prelude.{◌≡◌, ℤ, Bool, List, [], ◌∷◌}
use Rattle.kb_arith.specs.Word.{truth as truth_value}
use Rattle.kb_terms.specs.Terms.{int_at}
use Rattle.kb_terms.specs.declared.node.TermId.{TermId}

-- each condition's term has its truth as its value, where the values of the terms are listed
abbrev pub AreMetBy : List ℤ → List (TermId × Bool) → Type 0
AreMetBy values [] = Unit {0}
AreMetBy values (condition ∷ when) = (int_at values condition.0.0 ≡ truth_value condition.1) × AreMetBy values when
