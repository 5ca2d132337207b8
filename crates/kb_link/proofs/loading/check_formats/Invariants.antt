use Rattle.std.proofs.Common.{take}
use Rattle.std.specs.List.{AllByRecursion}
use Rattle.kb_link.specs.Links.{KeepsFormat}
use Rattle.kb_link.proofs.loading.check_formats.Given as goal

abbrev pub invariant-loop-file : goal.invariant-loop-file
invariant-loop-file l = AllByRecursion KeepsFormat (take l.file l.given)
