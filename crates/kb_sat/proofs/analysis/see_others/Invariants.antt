use Rattle.std.proofs.Common.{◌≡◌, ◌==◌, ◌&&◌, ◌||◌, not, take, ℕ}
use Rattle.std.specs.List.{list_any}
use Rattle.kb_chain.specs.Literal.{Literal}
use Rattle.kb_sat.specs.Analysis.{is_seen, is_pivot}
use Rattle.kb_sat.proofs.analysis.see_others.Given as goal

abbrev pub invariant-loop-literal : goal.invariant-loop-literal
invariant-loop-literal l =
    (v : ℕ) → is_seen l.seen v ≡ (is_seen l.fn.seen v || (list_any (λ (m : Literal). m.variable == v) (take l.literal-index l.row) && not (is_pivot l.pivot v)))
