use Rattle.std.proofs.Common.{◌≡◌, List, ℕ, ◌∙◌}
use Rattle.std.specs.declared.alloc.Global.{Global}
use Rattle.std.specs.declared.vec.Vec.{Vec}
use Rattle.std.proofs.lemmas.Result.{IfOk-weaker}
use Rattle.kb_report_text.specs.Report.{report_text}
use Rattle.kb_report_text.specs.declared.report.Report.{Report}
use Rattle.kb_report_laws.specs.OneText.{IsReport}
use Rattle.kb_report_laws.proofs.law.own_report_text.Goals as goal

pub returns-clause-own : goal.returns-clause-own
returns-clause-own c =
    let world = c.args.world.now in
    let report = c.args.report.now in
    let is_report : IsReport world report = record { ranges = c.report_text.ensures.fits; leaves = c.requires.paths } in
    IfOk-weaker c.report_text.result (λ (text : Vec ℕ Global). text.items ≡ report_text world report)
    (λ (text : Vec ℕ Global). (other : Report) → IsReport world other → report_text world other ≡ text.items → other ≡ report)
    (λ text is other of_other e. c.reports_have_own_texts.ensures world c.requires.linked other report of_other is_report (e ∙ is))
    c.report_text.ensures.text
