use Rattle.kb_report_known.proofs.FindingLaws.{may_be_found, may_be_found_behind}
use Rattle.kb_report_known.proofs.KnowingLaws.{knows_none}
use Rattle.kb_report_known.proofs.law.each_may_be_found.Goals as goal

pub returns-clause-begins : goal.returns-clause-begins
returns-clause-begins c = knows_none c.args.fields.now

pub returns-clause-seeing : goal.returns-clause-seeing
returns-clause-seeing c = may_be_found c.args.fields.now c.tell_linked.ensures c.tell_few.ensures

pub returns-clause-behind : goal.returns-clause-behind
returns-clause-behind c = may_be_found_behind c.args.fields.now c.tell_linked.ensures c.tell_few.ensures
