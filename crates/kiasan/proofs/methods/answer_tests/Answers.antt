use Rattle.std.proofs.Common.{◌∙◌, ap, subst}
use Rattle.std.proofs.lemmas.Result.{err_from_is_err_and}
use Rattle.kb_report_text.specs.declared.report.Report.{Report}
use Rattle.kb_test.specs.Tests.{SpellsTests}
use Rattle.kiasan.specs.Answers.{IsTestsTextOf}
use Rattle.kb_report_tests.specs.Tests.{literals_in, tests_of}
use Rattle.kiasan.specs.Exploring.{status_of}
use Rattle.kiasan.proofs.JobLaws.{bounds_written, job_stops, job_ends, paths_carry, target_written, tests_written}
use Rattle.kiasan.proofs.methods.answer_tests.Goals as goal

pub returns-in_err-report : goal.returns-in_err-report
returns-in_err-report c =
    let p = err_from_is_err_and c.from_residual.result c.from_residual.ensures.1 in
    rw (p.1, p.2) (job_stops IsTestsTextOf c.args.world.now c.args.job.now c.in_err-report.field-0.0 c.in_err-report.ensures)

pub tests_answer-requires-clause-target : goal.tests_answer-requires-clause-target
tests_answer-requires-clause-target c = rw c.get.ensures (target_written c.args.job.now c.in_ok-report.report c.requires.job.numbers c.in_ok-report.ensures.reported.head)

pub tests_answer-requires-clause-bounds : goal.tests_answer-requires-clause-bounds
tests_answer-requires-clause-bounds c = rw c.get.ensures (bounds_written c.args.job.now c.in_ok-report.report c.requires.job.numbers c.in_ok-report.ensures.reported.head)

pub tests_answer-requires-clause-carried : goal.tests_answer-requires-clause-carried
tests_answer-requires-clause-carried c = (
  c.in_ok-report.ensures.reported.id,
  rw c.get.ensures (paths_carry c.runs_have_names.ensures c.args.world.now c.requires.linked c.requires.names c.args.job.now c.in_ok-report.report c.in_ok-report.ensures),
)

pub returns : goal.returns
returns c =
    job_ends IsTestsTextOf c.args.world.now c.args.job.now c.in_ok-report.report _ c.in_ok-answer.answer.text.items c.in_ok-report.ensures
    (c.in_ok-answer.ensures.status ∙ ap (λ (report : Report). status_of report.leaves) c.get.ensures)
    (tests_written c.args.world.now c.args.job.now c.in_ok-report.report c.in_ok-answer.answer.text.items c.in_ok-report.ensures
    (subst (λ (report : Report). SpellsTests (literals_in c.args.world.now) (tests_of c.args.world.now report) c.in_ok-answer.answer.text.items) c.get.ensures c.in_ok-answer.ensures.text))
