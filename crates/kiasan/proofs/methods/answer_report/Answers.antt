use Rattle.std.proofs.Common.{◌∙◌, ap, subst}
use Rattle.std.proofs.lemmas.Result.{err_from_is_err_and}
use Rattle.kb_report_text.specs.declared.report.Report.{Report}
use Rattle.kiasan.specs.Answers.{IsOwnText, IsReportText}
use Rattle.kiasan.specs.Exploring.{status_of}
use Rattle.kiasan.proofs.JobLaws.{job_stops, job_ends, paths_sound}
use Rattle.kiasan.proofs.methods.answer_report.Goals as goal

pub returns-in_err-report : goal.returns-in_err-report
returns-in_err-report c =
    let p = err_from_is_err_and c.from_residual.result c.from_residual.ensures.1 in
    rw (p.1, p.2) (job_stops IsReportText c.args.world.now c.args.job.now c.in_err-report.field-0.0 c.in_err-report.ensures)

pub report_answer-requires-clause-paths : goal.report_answer-requires-clause-paths
report_answer-requires-clause-paths c = rw c.get.ensures (paths_sound c.args.world.now c.args.job.now c.in_ok-report.report c.in_ok-report.ensures)

pub returns : goal.returns
returns c =
    job_ends IsReportText c.args.world.now c.args.job.now c.in_ok-report.report _ c.in_ok-answer.answer.text.items c.in_ok-report.ensures
    (c.in_ok-answer.ensures.status ∙ ap (λ (report : Report). status_of report.leaves) c.get.ensures)
    (subst (λ (report : Report). IsOwnText c.args.world.now report c.in_ok-answer.answer.text.items) c.get.ensures c.in_ok-answer.ensures.text)
