-- The truth that a term has among conditions. What is decided so is asked of nobody (path conditions are added only where they
-- are not decided: King, 1976).
use Rattle.std.specs.Prelude.{Bool, List, [], ◌∷◌, ◌++◌, Option, is_some, ◌==◌, if◌then◌else◌}
use Rattle.std.specs.Map.{lookup}
use Rattle.kb_terms.specs.declared.node.TermId.{TermId}

-- the truth that a term has among conditions
abbrev pub truth_among : List (TermId × Bool) → TermId → Option Bool
truth_among when t = lookup (λ x. t.0 == x.0) when

-- the conditions with one more, unless its term stands among them
abbrev pub with_condition : List (TermId × Bool) → TermId → Bool → List (TermId × Bool)
with_condition when t truth = if is_some (truth_among when t) then when else when ++ (t, truth) ∷ []
