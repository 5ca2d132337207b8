use Rattle.kb_report_laws.proofs.ExampleLaws.{example_is_report}
use Rattle.kb_report_laws.proofs.law.example_is_a_report.Goals as goal

pub returns : goal.returns
returns c = example_is_report
