-- What comes of the runs of tests.
use Rattle.std.specs.Prelude.{◌≡◌}
use Rattle.kb_class.specs.declared.ids.MethodId.{MethodId}
use Rattle.kb_classes.specs.World.{World}
use Rattle.kb_test.specs.declared.test_case.Test.{Test}
use Rattle.kb_replay.specs.declared.replays.Replayed.{Replayed}
use Rattle.kb_replay.specs.declared.workers.Assigned.{Assigned}
use Rattle.kb_replay.specs.declared.workers.Outcome.{Outcome}
use Rattle.kb_replay.specs.Replays.{Says}

abbrev pub test_of : Assigned → Test
test_of one = one.test

abbrev pub method_of : Assigned → MethodId
method_of one = one.id

abbrev pub test_with : Outcome → Test
test_with outcome = outcome.test

abbrev pub verdict_of : Outcome → Replayed
verdict_of outcome = outcome.replayed

-- the test is the one that was assigned, with what its run by its method says
abbrev pub IsOutcome : World → Assigned → Outcome → Type 0
IsOutcome world one outcome = (outcome.test ≡ one.test) × Says world one.id one.test outcome.replayed
