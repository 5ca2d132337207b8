use Rattle.std.proofs.Common.{take}
use Rattle.kb_report_text.specs.Tables.{AreNamesOfMore}
use Rattle.kb_report_text.proofs.naming.shared_names.Given as goal

abbrev pub invariant-loop-field : goal.invariant-loop-field
invariant-loop-field l = AreNamesOfMore 0 (take l.field-index l.fields) l.met × AreNamesOfMore 1 (take l.field-index l.fields) l.shared
