use Rattle.std.proofs.Common.{◌≡◌, ◌∙◌, sym, ap, arith, List, ◌++◌, ◌∷◌, [], get_or}
use Rattle.std.proofs.lemmas.List.{take_all}
use Rattle.kb_chain.specs.Literal.{Literal, has}
use Rattle.kb_chain.proofs.OrderLaws.{has_take-rising, took_known, took_new, push_rising, clause_of_is}
use Rattle.kb_chain.proofs.clause.Clause.from_sorted.Goals as goal
use Rattle.kb_chain.proofs.clause.Clause.from_sorted.Goals.{then-not-ends_with+in_ok-push, else-not-ends_with}

pub ends_with-requires-clause-last : goal.ends_with-requires-clause-last
ends_with-requires-clause-last c l e =
    rw c.literal-item.is
    (has_take-rising c.args.sorted.now c.requires c.loop-literal.literal-index c.loop-literal.literal-index c.literal-item.result l
    (omega arith) c.loop-literal-test.true
    (sym (c.loop-literal.invariant.same l) ∙ (ap (λ z. has z l) (sym c.as_slice.ensures) ∙ e)))

pub loop-literal-preserved : goal.loop-literal-preserved
loop-literal-preserved c =
    elim c.if-not-ends_with.branch [
      | then-not-ends_with+in_ok-push w ↦
          (let e : c.if-not-ends_with.kept.items ≡ c.loop-literal.kept.items ++ get_or c.args.sorted.now c.loop-literal.literal-index c.literal-item.result ∷ [] =
          ap (λ k. k.items) w.kept-is ∙ (w.in_ok-push.ensures.ok ∙ ap (λ x. c.loop-literal.kept.items ++ x ∷ []) c.literal-item.is) in
          record {
            ordered = rw e (push_rising c.args.sorted.now c.loop-literal.kept.items c.loop-literal.literal-index c.literal-item.result c.requires
                c.loop-literal-test.true c.loop-literal.invariant.ordered c.loop-literal.invariant.same
                (has_at c.loop-literal.kept.items c.as_slice.ensures c.literal-item.is ∙ (sym c.ends_with.ensures ∙ w.if-not-ends_with.true)));
            same = rw e (took_new c.args.sorted.now c.loop-literal.kept.items c.loop-literal.literal-index c.literal-item.result
                c.loop-literal-test.true c.loop-literal.invariant.same);
          })
      | else-not-ends_with w ↦ (let e : c.if-not-ends_with.kept.items ≡ c.loop-literal.kept.items = ap (λ k. k.items) w.kept-is in record {
        ordered = rw e c.loop-literal.invariant.ordered;
        same = rw e (took_known c.args.sorted.now c.loop-literal.kept.items c.loop-literal.literal-index c.literal-item.result
            c.loop-literal-test.true
            (has_at c.loop-literal.kept.items c.as_slice.ensures c.literal-item.is ∙ (sym c.ends_with.ensures ∙ w.if-not-ends_with.false))
            c.loop-literal.invariant.same);
      })
    ]
  where
    has_at : (kept : List Literal) {slice : List Literal} {l m : Literal} → slice ≡ kept → l ≡ m → has kept m ≡ has slice l
    has_at kept {slice} {l} {m} e f = ap (λ z. has z m) (sym e) ∙ ap (λ z. has slice z) (sym f)

pub returns : goal.returns
returns c =
    clause_of_is c.loop-literal.kept.items c.args.sorted.now c.loop-literal.invariant.ordered
    (λ l. c.loop-literal.invariant.same l ∙ ap (λ z. has z l) (take_all c.loop-literal.literal-index c.args.sorted.now c.loop-literal-test.false))
