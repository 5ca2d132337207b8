use Rattle.std.proofs.Common.{◌≡◌, ◌∙◌, ap, sym, List, Option, Some}
use Rattle.kb_chain.specs.declared.log.Chain.{Chain}
use Rattle.kb_chain.specs.declared.log.Verdict.{Verdict}
use Rattle.kb_dimacs_text.specs.Texts.{unsatisfiable_text}
use Rattle.kb_dimacs_text.specs.Answers.{check_answer}
use Rattle.kb_dimacs_text.proofs.LogLaws.{good_refutation}
use Rattle.kb_dimacs_text.proofs.answer.answer_unsatisfiable.Goals as goal
use Rattle.kb_dimacs_text.proofs.answer.answer_unsatisfiable.Goals.{then-check+in_ok-check_refutation, else-check}

pub returns-clause-text : goal.returns-clause-text
returns-clause-text c =
    let checked : c.if-check.checked ≡ check_answer c.args.check = elim c.if-check.branch [
      | then-check+in_ok-check_refutation w ↦ w.checked-is ∙ (ap Some (good_refutation c.args.formula.now.clauses c.args.log.now.entries w.in_ok-check_refutation.field-0 c.requires w.in_ok-check_refutation.ensures.verdict)
          ∙ ap check_answer (sym w.if-check.true))
      | else-check w ↦ w.checked-is ∙ ap check_answer (sym w.if-check.false)
    ] in
    c.in_ok-unsatisfiable_text.ensures ∙ (ap (λ (entries : List Chain). unsatisfiable_text entries c.if-check.checked) c.as_slice.ensures
    ∙ ap (λ (o : Option Verdict). unsatisfiable_text c.args.log.now.entries o) checked)
