use Rattle.std.proofs.Common.{length}
use Rattle.kb_class.specs.declared.ids.MethodId.{MethodId}
use Rattle.kb_picture.specs.Carried.{EachPath}
use Rattle.kb_report_tests.specs.Tests.{IsCarried, literals_in, tests_of}
use Rattle.kb_report_tests.proofs.TestTexts.{IsBehind, tests_on}
use Rattle.kb_report_tests.proofs.text.tests_text.Given as goal

abbrev pub invariant-loop-rest : goal.invariant-loop-rest
invariant-loop-rest l =
    IsBehind (literals_in l.world) (tests_of l.world l.report) (tests_on l.world l.report l.rest) l.text.items
    × ((id : MethodId) × EachPath (IsCarried l.world id) l.rest)

abbrev pub decreases-loop-rest : goal.decreases-loop-rest
decreases-loop-rest l = length l.rest
