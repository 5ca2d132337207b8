-- The truth of a term in a state: its own, where it is a constant, else the one that it has among the conditions. What is
-- decided so is asked of nobody (path conditions are added only where they are not decided: King, 1976).
use Rattle.std.specs.Prelude.{ℤ, pos, Bool, not, [], ◌∷◌, ◌++◌, Option, Some, None, is_some, if◌then◌else◌}
use Rattle.std.specs.Ordering.{int_eq}
use Rattle.kb_terms.specs.declared.node.TermId.{TermId}
use Rattle.kb_terms.specs.Terms.{constant_at}
use Rattle.kb_numbered.specs.Conditions.{truth_among}
use Rattle.kb_frames.specs.State.{State}

-- a constant is true where it is not 0
abbrev pub decided : Option ℤ → Option Bool → Option Bool
decided (Some c) among = Some (not (int_eq c (pos 0)))
decided None among = among

-- the truth of a term in a state
abbrev pub truth_in : State → TermId → Option Bool
truth_in state t = decided (constant_at state.nodes t) (truth_among state.when t)

-- the state with one condition more, unless the term has a truth already
abbrev pub conditioned : State → TermId → Bool → State
conditioned state t truth = if is_some (truth_in state t) then state else record state { when = state.when ++ (t, truth) ∷ [] }
