use Rattle.std.proofs.Common.{◌≡◌, length}
use Rattle.std.specs.List.{list_all}
use Rattle.kb_test_lines.specs.Lines.{listed_below}
use Rattle.kb_test_lines.proofs.words.Limits.has_listed.Given as goal

abbrev pub invariant-loop-rest : goal.invariant-loop-rest
invariant-loop-rest l = list_all (listed_below l.self) l.rest ≡ list_all (listed_below l.self) l.objects

abbrev pub decreases-loop-rest : goal.decreases-loop-rest
decreases-loop-rest l = length l.rest
