use Rattle.kb_report_laws.proofs.ReportLaws.{one_report}
use Rattle.kb_report_laws.proofs.law.reports_have_own_texts.Goals as goal

pub returns : goal.returns
returns c = λ world linked one other p q e. one_report world linked one other p.ranges q.ranges p.leaves q.leaves e
