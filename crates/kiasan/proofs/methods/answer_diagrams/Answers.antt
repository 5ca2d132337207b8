use Rattle.std.proofs.Common.{◌≡◌, List, ap, ◌∙◌}
use Rattle.std.proofs.lemmas.Result.{err_from_is_err_and}
use Rattle.kb_diagram.specs.Diagram.{diagrams_text}
use Rattle.kb_picture.specs.declared.path.Path.{Path}
use Rattle.kb_report_text.specs.declared.report.Report.{Report}
use Rattle.kiasan.specs.Answers.{IsDiagramsText}
use Rattle.kiasan.specs.Exploring.{status_of}
use Rattle.kiasan.proofs.JobLaws.{job_stops, job_ends}
use Rattle.kiasan.proofs.methods.answer_diagrams.Goals as goal

pub returns-in_err-report : goal.returns-in_err-report
returns-in_err-report c =
    let p = err_from_is_err_and c.from_residual.result c.from_residual.ensures.1 in
    rw (p.1, p.2) (job_stops IsDiagramsText c.args.world.now c.args.job.now c.in_err-report.field-0.0 c.in_err-report.ensures)

pub returns : goal.returns
returns c =
    let leaves : c.as_slice.result.now ≡ c.in_ok-report.report.leaves = c.as_slice.ensures ∙ ap (λ (report : Report). report.leaves) c.get.ensures in
    job_ends IsDiagramsText c.args.world.now c.args.job.now c.in_ok-report.report _ c.in_ok-answer.answer.text.items c.in_ok-report.ensures
    (c.in_ok-answer.ensures.status ∙ ap status_of leaves)
    (c.in_ok-answer.ensures.text ∙ ap (λ (paths : List Path). diagrams_text c.args.world.now paths) leaves)
