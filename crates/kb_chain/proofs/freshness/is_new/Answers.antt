use Rattle.std.proofs.Common.{◌∙◌, sym, subst, take, get_or, inl, inr}
use Rattle.std.proofs.lemmas.Bool.{OnFalse_at, or_cases}
use Rattle.kb_chain.specs.Literal.{has, same}
use Rattle.kb_chain.specs.Propagation.{Misses}
use Rattle.kb_chain.proofs.LiteralLaws.{same-true}
use Rattle.kb_chain.proofs.OrderLaws.{has_take-suc}
use Rattle.kb_chain.proofs.freshness.is_new.Goals as goal

pub loop-literal-preserved : goal.loop-literal-preserved
loop-literal-preserved c = record {
  places = c.in_ok-misses.ensures.places ∙ c.loop-literal.invariant.places;
  root = c.in_ok-misses.ensures.root ∙ c.loop-literal.invariant.root;
  reached = λ m i missed.
      elim (or_cases (has (take c.loop-literal.literal-index c.literals-literal-items.result.now) m)
      (same m (get_or c.literals-literal-items.result.now c.loop-literal.literal-index c.literal-item.result))
      (sym (has_take-suc c.literals-literal-items.result.now c.loop-literal.literal-index c.literal-item.result m c.loop-literal-test.true) ∙ i)) [
        | inl s ↦ c.loop-literal.invariant.reached m s missed
        | inr s ↦ OnFalse_at c.if-branch-2.false c.in_ok-misses.ensures.reached
            (subst (λ z. Misses c.args.store.now.clauses c.args.clause.now z) (same-true m _ s ∙ sym c.literal-item.is) missed)
      ];
}
