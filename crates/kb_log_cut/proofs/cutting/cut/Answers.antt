use Rattle.std.proofs.Common.{ap, subst, length}
use Rattle.std.proofs.lemmas.Result.{IfOk-weaker}
use Rattle.kb_log_cut.specs.Cutting.{IsCut}
use Rattle.kb_log_cut.proofs.CuttingLaws.{refutation_cut, cut_shorter}
use Rattle.kb_log_cut.proofs.cutting.cut.Goals as goal

pub returns-clause-refutes : goal.returns-clause-refutes
returns-clause-refutes c =
    IfOk-weaker c.cut_behind.result _ _ (λ log h. refutation_cut c.args.formula.now.clauses c.args.entries.now log.entries
    (subst (λ z. IsCut z c.args.entries.now log.entries) (ap length c.clauses-first.ensures.value) h)) c.cut_behind.ensures

pub returns-clause-length : goal.returns-clause-length
returns-clause-length c =
    IfOk-weaker c.cut_behind.result _ _ (λ log h. cut_shorter (length c.clauses-first.result.now) c.args.entries.now log.entries h) c.cut_behind.ensures
