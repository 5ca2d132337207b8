use Rattle.std.proofs.Common.{◌≡◌, ◌∙◌, ap, sym, Some, inl, inr, take, get_or, arith}
use Rattle.std.proofs.lemmas.Bool.{or_cases, false≢true, OnTrue_at, OnFalse_at}
use Rattle.std.proofs.lemmas.List.{take_all}
use Rattle.kb_chain.specs.Literal.{has, same}
use Rattle.kb_chain.proofs.LiteralLaws.{same-true}
use Rattle.kb_chain.proofs.OrderLaws.{has_take-suc}
use Rattle.kb_propagate.specs.Rows.{rows_of}
use Rattle.kb_propagate.proofs.JustifyLaws.{reason_in_row, reason_inside}
use Rattle.kb_propagate.proofs.base.Base.is_reason.Goals as goal

pub returns-then-number-len-clause-none : goal.returns-then-number-len-clause-none
returns-then-number-len-clause-none c h i e =
    let s = c.args.self.now in
    let inside = reason_inside h.clauses (rows_of s.clauses) s.trail h.justified c.tell_trail.ensures i c.args.number e in
    absurd (omega (arith, inside, c.if-number-len.true, c.len.ensures))

pub loop-literal-init : goal.loop-literal-init
loop-literal-init c m e i f g = absurd (false≢true e)

pub loop-literal-preserved : goal.loop-literal-preserved
loop-literal-preserved c m e i f g =
    let xs = c.literals-literal-items.result.now in
    let x = c.literal-item.result in
    elim (or_cases (has (take c.loop-literal.literal-index xs) m) (same m (get_or xs c.loop-literal.literal-index x))
    (sym (has_take-suc xs c.loop-literal.literal-index x m c.loop-literal-test.true) ∙ e)) [
      | inl h ↦ c.loop-literal.invariant m h i f g
      | inr h ↦ (let is : m ≡ x = same-true m (get_or xs c.loop-literal.literal-index x) h ∙ sym c.literal-item.is in
          OnFalse_at c.if-forces.false c.forces.ensures.free i (f ∙ ap Some is) g)
    ]

pub returns-then-forces-clause-reason : goal.returns-then-forces-clause-reason
returns-then-forces-clause-reason c free = let r = OnTrue_at c.if-forces.true c.forces.ensures.forced in free r.0 r.1

pub returns-clause-none : goal.returns-clause-none
returns-clause-none c h i e =
    let s = c.args.self.now in
    let xs = c.literals-literal-items.result.now in
    let r = reason_in_row h.clauses (rows_of s.clauses) s.trail h.justified c.tell_trail.ensures i c.args.number xs e c.literals-literal-items.ensures in
    c.loop-literal.invariant r.0 (ap (λ z. has z r.0) (take_all c.loop-literal.literal-index xs c.loop-literal-test.false) ∙ r.2) i r.1 e
