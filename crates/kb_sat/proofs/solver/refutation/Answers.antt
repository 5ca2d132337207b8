use Rattle.std.proofs.Common.{ap, sym, subst, length, arith, ◌∙◌}
use Rattle.std.proofs.lemmas.Result.{IfOk-weaker}
use Rattle.kb_chain.specs.Chains.{IsRefutation}
use Rattle.kb_sat.proofs.solver.refutation.Goals as goal

pub returns-clause-refutes : goal.returns-clause-refutes
returns-clause-refutes c =
    IfOk-weaker c.cut.result _ _ (λ log h. h (subst (λ z. IsRefutation c.args.search.now.base.formula.now.clauses z) (sym c.as_slice.ensures) c.in_ok-log.ensures.refutes))
    c.cut.ensures.refutes

pub returns-clause-length : goal.returns-clause-length
returns-clause-length c =
    let same = ap length c.as_slice.ensures in
    let whole = c.in_ok-log.ensures.length in
    IfOk-weaker c.cut.result _ _ (λ log h. omega (arith, h, same, whole)) c.cut.ensures.length

pub returns-clause-cut : goal.returns-clause-cut
returns-clause-cut c =
    IfOk-weaker c.cut.result _ _ (λ log h. (c.as_slice.result.now, ap length c.as_slice.ensures ∙ c.in_ok-log.ensures.length, h)) c.cut.ensures.cut
