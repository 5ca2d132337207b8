-- The tests of a replay: what refuses them, and how the program ends.
use Rattle.std.specs.Prelude.{◌≡◌, ℕ, ◌+◌, Bool, true, false, cond, nat_eq, List, [], ◌∷◌}
use Rattle.kb_class.specs.declared.ids.MethodId.{MethodId}
use Rattle.kb_classes.specs.World.{World}
use Rattle.kb_replay.specs.declared.checks.BadTest.{BadTest}
use Rattle.kb_replay.specs.declared.checks.ReplayStop.{ReplayStop}
use Rattle.kb_replay.specs.declared.checks.ReplayStop.TheVariants.{TestMethod, TestTypes, Reach, NoMemory}
use Rattle.kb_replay.specs.declared.replays.Replayed.{Replayed}
use Rattle.kb_replay.specs.declared.replays.Replayed.TheVariants.{Passes, Differs}
use Rattle.kb_replay.specs.Replays.{IsRunnable, StopsAt, run_in, stated}
use Rattle.kb_test.specs.declared.test_case.Test.{Test}
use Rattle.kb_refusals.specs.declared.refusal.Refusal.{Refusal}
use Rattle.kb_refusals.specs.declared.refusal.Refusal.TheVariants.{Text as TextRefused}
use Rattle.kb_refusals.specs.declared.refusal.TextRefusal.TheVariants as texts
use Rattle.kiasan.specs.declared.refusals.Stop.{Stop}
use Rattle.kiasan.specs.declared.refusals.Stop.TheVariants.{Refused}
use Rattle.kiasan.specs.declared.refusals.Stop.TheVariants as stops
use Rattle.kb_refusals.specs.declared.status.Status.{Status}
use Rattle.kb_refusals.specs.declared.status.Status.TheVariants as statuses
use Rattle.kiasan.specs.Refusals.{link_refusal}

-- ---- what refuses tests

-- the refusal of the test of that number, from 0; what its method reaches is refused as for an exploration
abbrev pub test_refusal : ℕ → ReplayStop → Stop
test_refusal number TestMethod = Refused (TextRefused (texts.NoTestMethod number))
test_refusal number TestTypes = Refused (TextRefused (texts.IllTypedTest number))
test_refusal number (Reach refusal) = link_refusal refusal
test_refusal number NoMemory = stops.NoMemory

-- What refuses tests: the first of them that is not run.
abbrev pub RefusesTests : World → List Test → Refusal → Type 0
RefusesTests world tests refusal = (bad : BadTest) × StopsAt world tests bad × (test_refusal bad.number bad.stop ≡ Refused refusal)

-- ---- verdicts

-- The test ends as it says, where the machine runs that method.
abbrev pub EndsAsStated : World → MethodId → Test → Type 0
EndsAsStated world id test = run_in world id test ≡ stated test

-- the machine may run it by that method, and it ends as it says
abbrev pub RunsAsStated : World → MethodId → Test → Type 0
RunsAsStated world id test = IsRunnable world test id × EndsAsStated world id test

abbrev pub passes : Replayed → Bool
passes Passes = true
passes (Differs ending heap) = false

-- how many tests pass, and how many do not
abbrev pub count_passes : List Replayed → ℕ
count_passes [] = 0
count_passes (verdict ∷ verdicts) = cond (passes verdict) 1 0 + count_passes verdicts

abbrev pub count_differs : List Replayed → ℕ
count_differs [] = 0
count_differs (verdict ∷ verdicts) = cond (passes verdict) 0 1 + count_differs verdicts

-- Differs exactly where a test does not pass
abbrev pub replay_status : List Replayed → Status
replay_status verdicts = cond (nat_eq (count_differs verdicts) 0) statuses.Complete statuses.Differs
