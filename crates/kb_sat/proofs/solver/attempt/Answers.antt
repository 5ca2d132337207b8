use Rattle.std.proofs.Common.{subst}
use Rattle.kb_sat.specs.Answer.{BegunIs, EndedIs}
use Rattle.kb_sat.proofs.solver.attempt.Goals as goal

pub conclude-requires : goal.conclude-requires
conclude-requires c =
    let begun = subst (λ z. BegunIs c.args.formula.now c.args.lets_go z) c.in-Ready.is c.in_ok-search.ensures in
    record {
      ended = (
        c.args.formula.now,
        c.args.budget,
        subst (λ z. EndedIs z c.args.budget c.in_ok-ended-in-Ready.ended) begun.3 c.in_ok-ended-in-Ready.ensures.ended,
      );
    }
