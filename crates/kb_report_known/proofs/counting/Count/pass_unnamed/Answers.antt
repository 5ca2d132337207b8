use Rattle.std.proofs.Common.{ap}
use Rattle.std.specs.Option.{option_copied}
use Rattle.kb_report_known.proofs.CountLaws.{passes_none, passes_some}
use Rattle.kb_report_known.proofs.counting.Count.pass_unnamed.Goals as goal

pub returns-in-Some : goal.returns-in-Some
returns-in-Some c objects blank before low range =
    passes_some objects c.args.self.now c.pass_open.new.self c.args.number (option_copied c.args.fields) c.in-Some.field-0.now c.saturating_sub-passed.result c.pass_open.result (ap option_copied c.in-Some.is)
    c.saturating_sub-passed.ensures c.if-passed-eq0.false c.pass_open.ensures.counted c.pass_open.ensures.may blank before low range

pub returns-in-None : goal.returns-in-None
returns-in-None c objects blank before low range =
    passes_none objects c.args.self.now c.pass_closed.new.self c.args.number (option_copied c.args.fields) c.saturating_sub-passed.result c.pass_closed.result (ap option_copied c.in-None.is)
    c.saturating_sub-passed.ensures c.if-passed-eq0.false c.pass_closed.ensures.counted c.pass_closed.ensures.may blank before low range
