use Rattle.std.proofs.Common.{string_bytes}
use Rattle.std.proofs.lemmas.Result.{IfOk-weaker}
use Rattle.kb_dimacs_text.proofs.AnswerLaws.{IsUnsatisfiable, unsatisfiable_input}
use Rattle.kb_dimacs_text.specs.Answers.{AnswersInput}
use Rattle.kb_dimacs_text.specs.declared.answer.Answer.{Answer}
use Rattle.kb_dimacs_text.proofs.answering.dimacs.Goals as goal

pub returns-in-Some-clause-unsatisfiable : goal.returns-in-Some-clause-unsatisfiable
returns-in-Some-clause-unsatisfiable c =
    IfOk-weaker c.answer_input.result (λ (a : Answer). AnswersInput c.in-Some.request c.args.input.now a.status (string_bytes a.text)) (λ (a : Answer). IsUnsatisfiable c.args.input.now a.status)
    (λ a answers. unsatisfiable_input c.in-Some.request c.args.input.now a.status (string_bytes a.text) answers) c.answer_input.ensures
