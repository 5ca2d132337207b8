use Rattle.std.proofs.Common.{◌≡◌, take}
use Rattle.kb_report_tests.proofs.text.copied_objects.Given as goal

abbrev pub invariant-loop-object : goal.invariant-loop-object
invariant-loop-object l = l.copied ≡ take l.object-index l.objects
