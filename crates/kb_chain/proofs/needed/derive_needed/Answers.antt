use Rattle.std.proofs.Common.{sym, ap, subst, length, List, Bool, ℕ, Option, Some, None}
use Rattle.std.specs.Prelude.{IfSome}
use Rattle.std.proofs.lemmas.Result.{IfOk-weaker}
use Rattle.kb_chain.specs.Needed.{AreClosed}
use Rattle.kb_chain.proofs.NeededLaws.{some_weaker, marked_there, skips_others}
use Rattle.kb_chain.proofs.needed.derive_needed.Goals as goal

pub derive_marked-requires-clause-closed : goal.derive_marked-requires-clause-closed
derive_marked-requires-clause-closed c =
    subst (λ (z : List Bool). AreClosed (length c.args.formula.now.clauses) c.args.entries.now z 0) (sym c.as_slice.ensures.value)
    (subst (λ (z : ℕ). AreClosed z c.args.entries.now c.in_ok-needed.needed.items 0) (ap length c.clauses.ensures.value) c.in_ok-needed.ensures.closed)

pub returns-clause-same : goal.returns-clause-same
returns-clause-same c =
    IfOk-weaker c.derive_marked.result _ _ (λ found h all d. some_weaker found _ _ (λ store g k e. g k
    (marked_there (length c.args.formula.now.clauses) (length c.clauses.result.now) (length c.args.entries.now) c.in_ok-needed.needed.items c.as_slice.result.now k
    (ap length c.clauses.ensures.value) c.as_slice.ensures.value (c.in_ok-needed.ensures.marked k e))) (h all d)) c.derive_marked.ensures.same

pub returns-clause-skipped : goal.returns-clause-skipped
returns-clause-skipped c =
    IfOk-weaker c.derive_marked.result _ _ (λ found h. if_some_weaker found _ _ (λ store skipped.
    skips_others (length c.args.formula.now.clauses) (length c.clauses.result.now) c.args.entries.now c.args.numbers.now c.in_ok-needed.needed.items c.as_slice.result.now store.clauses
    (ap length c.clauses.ensures.value) c.as_slice.ensures.value c.in_ok-needed.ensures.only skipped) h) c.derive_marked.ensures.skipped
  where
    if_some_weaker : {X : Type 0} (o : Option X) (P Q : X → Type 0) → ((x : X) → P x → Q x) → IfSome o P → IfSome o Q
    if_some_weaker None P Q f h = h
    if_some_weaker (Some x) P Q f h = f x h
