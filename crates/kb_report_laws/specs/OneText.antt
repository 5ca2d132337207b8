-- When reports have texts that tell them apart.
use Rattle.std.specs.Prelude.{◌≡◌}
use Rattle.std.specs.List.{AllByRecursion}
use Rattle.kb_class.specs.declared.ids.MethodId.{MethodId}
use Rattle.kb_classes.specs.World.{World}
use Rattle.kb_picture.specs.WellFormed.{IsWellFormed}
use Rattle.kb_picture.specs.declared.path.Path.{Path}
use Rattle.kb_report_text.specs.declared.report.Report.{Report}
use Rattle.kb_report_text.specs.Report.{report_text}
use Rattle.kb_report_text.specs.Ranges.{ReportFits}

-- the path is well-formed for some method of the world
pub record IsSound (world : World) (path : Path) : Type 0 where
  pub method : MethodId
  pub formed : IsWellFormed world method path

-- the paths of the report are well-formed, and its numbers are in the ranges of their types
pub record IsReport (world : World) (report : Report) : Type 0 where
  pub ranges : ReportFits report
  pub leaves : AllByRecursion (IsSound world) report.leaves

-- no two reports have one text
abbrev pub HaveOwnTexts : World → Type 0
HaveOwnTexts world = (one other : Report) → IsReport world one → IsReport world other → report_text world one ≡ report_text world other → one ≡ other
