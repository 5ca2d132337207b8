use Rattle.std.proofs.Common.{◌≡◌, ℕ, take, true, Some, slice_get}
use Rattle.kb_chain.specs.Literal.{Literal, has}
use Rattle.kb_propagate.proofs.base.Base.is_reason.Given as goal

abbrev pub invariant-loop-literal : goal.invariant-loop-literal
invariant-loop-literal l =
    (m : Literal) → has (take l.literal-index l.literal-items) m ≡ true → (i : ℕ) → slice_get l.self.trail.literals i ≡ Some m
    → slice_get l.self.trail.reasons i ≡ Some (Some l.number) → ⊥
