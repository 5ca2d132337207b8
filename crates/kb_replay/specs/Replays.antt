-- Which tests may be run, what stops one, and what the machine's run says of it.
use Rattle.std.specs.Prelude.{◌≡◌, ◌≢◌, ℕ, Bool, true, List, [], ◌∷◌, ◌++◌, length, Some, slice_get}
use Rattle.kb_class.specs.declared.ids.MethodId.{MethodId}
use Rattle.kb_classes.specs.declared.refusal.LinkRefusal.TheVariants as links
use Rattle.kb_link.specs.Targets.{IsTargetOf}
use Rattle.kb_classes.specs.World.{World}
use Rattle.kb_semantics.specs.Config.{Ended}
use Rattle.kb_semantics.specs.Inputs.{IsTypeCorrect}
use Rattle.kb_semantics.specs.Step.{run_of}
use Rattle.kb_test.specs.declared.test_case.Test.{Test}
use Rattle.kb_world.specs.Reach.{IsAccepted, Refuses}
use Rattle.kb_replay.specs.declared.checks.BadTest.{BadTest}
use Rattle.kb_replay.specs.declared.checks.ReplayStop.{ReplayStop}
use Rattle.kb_replay.specs.declared.checks.ReplayStop.TheVariants.{TestMethod, TestTypes, Reach, NoMemory}
use Rattle.kb_replay.specs.declared.replays.Replayed.{Replayed}
use Rattle.kb_replay.specs.declared.replays.Replayed.TheVariants.{Passes, Differs}

-- ---- what may be run

-- the target names the method, and the input is one of it
pub record IsFit (world : World) (test : Test) (id : MethodId) : Type 0 where
  pub found : IsTargetOf world test.target id
  pub correct : IsTypeCorrect world id test.input

-- all that the method reaches can be carried out too
pub record IsRunnable (world : World) (test : Test) (id : MethodId) : Type 0 where
  pub fit : IsFit world test id
  pub accepted : IsAccepted world id

abbrev pub AreRunnable : World → List Test → List MethodId → Type 0
AreRunnable world [] [] = Unit {0}
AreRunnable world (test ∷ tests) (id ∷ ids) = IsRunnable world test id × AreRunnable world tests ids
AreRunnable world [] (id ∷ ids) = ⊥
AreRunnable world (test ∷ tests) [] = ⊥

-- What stops a test: there is no such method; or its input is none of the method; or, with both as they should be, what the
-- method reaches is refused. Memory may run out for each.
abbrev pub Stops : World → Test → ReplayStop → Type 0
Stops world test TestMethod = (id : MethodId) → IsTargetOf world test.target id → ⊥
Stops world test TestTypes = (id : MethodId) × IsTargetOf world test.target id × (IsTypeCorrect world id test.input → ⊥)
Stops world test (Reach refusal) = (id : MethodId) × IsFit world test id × (refusal ≢ links.NoMemory) × Refuses world test.target refusal
Stops world test NoMemory = Unit {0}

-- the first test that is stopped, by how many stand before it
pub record StopsAt (world : World) (tests : List Test) (bad : BadTest) : Type 0 where
  pub before : List Test
  pub test : Test
  pub after : List Test
  pub tests_are : tests ≡ before ++ test ∷ after
  pub number_is : bad.number ≡ length before
  pub ids : List MethodId
  pub good : AreRunnable world before ids
  pub stops : Stops world test bad.stop

-- the number is marked in a table of flags
abbrev pub IsMarked : List Bool → ℕ → Type 0
IsMarked flags number = slice_get flags number ≡ Some true

-- the methods of marked numbers can be run, with all that they reach
abbrev pub AreAccepted : World → List Bool → Type 0
AreAccepted world flags = (id : MethodId) → IsMarked flags id.0 → IsAccepted world id

-- ---- what the run says

-- the run of a test by a method
abbrev pub run_in : World → MethodId → Test → Ended
run_in world id test = run_of (record { world = world; bounds = test.bounds }) id test.input

-- the ending and the heap that a test states
abbrev pub stated : Test → Ended
stated test = record { ending = test.ending; heap = test.heap }

-- A test passes where its run ends as it states and leaves the heap that it states. Else it differs, with the ending and the
-- heap of the run.
abbrev pub Says : World → MethodId → Test → Replayed → Type 0
Says world id test Passes = run_in world id test ≡ stated test
Says world id test (Differs ending heap) = (run_in world id test ≡ record { ending = ending; heap = heap }) × (run_in world id test ≢ stated test)

-- so says the run of the test by the method that its target names
abbrev pub IsReplayed : World → Test → Replayed → Type 0
IsReplayed world test replayed = (id : MethodId) × IsRunnable world test id × Says world id test replayed

abbrev pub AreReplayed : World → List Test → List Replayed → Type 0
AreReplayed world [] [] = Unit {0}
AreReplayed world (test ∷ tests) (replayed ∷ others) = IsReplayed world test replayed × AreReplayed world tests others
AreReplayed world [] (replayed ∷ others) = ⊥
AreReplayed world (test ∷ tests) [] = ⊥
