-- How a sample is answered: its target has that text, its job is one that is built, and each of its tests passes.
use Rattle.std.proofs.Common.{◌≡◌, ℕ, ◌*◌, ◌<◌, ◌≤◌, List, [], ◌∷◌, length, codes, Err, refl, ◌∙◌, ap, arith}
use Rattle.std.specs.List.{AllByRecursion}
use Rattle.kb_class.specs.declared.ids.MethodId.{MethodId}
use Rattle.kb_link.specs.Links.{IsLinked}
use Rattle.kb_classes.specs.World.{World}
use Rattle.kb_names.specs.Descriptors.{IsType}
use Rattle.kb_names.specs.Targets.{IsTarget, SpellsTarget}
use Rattle.kb_names.specs.declared.class_names.Spelling.TheVariants.{Escaped}
use Rattle.kb_names.specs.declared.types.JType.TheVariants.{Int}
use Rattle.kb_picture.specs.declared.path.Path.{Path}
use Rattle.kb_replay.specs.declared.replays.Replayed.{Replayed}
use Rattle.kb_replay.specs.declared.replays.Replayed.TheVariants.{Passes}
use Rattle.kb_replay.specs.Replays.{AreReplayed, AreRunnable}
use Rattle.kb_replay.proofs.OneAnswer.{one_replay}
use Rattle.kb_report_tests.specs.Tests.{literals_in}
use Rattle.kb_test.specs.declared.reading.TestRefusal.{TestRefusal}
use Rattle.kb_test.specs.declared.reading.TestRefusal.TheVariants as texts
use Rattle.kb_test.specs.declared.test_case.Test.{Test}
use Rattle.kb_test.specs.Refusals.{ReadsTests}
use Rattle.kb_test.specs.Tests.{SpellsTests}
use Rattle.kb_words.specs.Orders.{AreBounds, IsJob, default_bounds}
use Rattle.kiasan.specs.declared.refusals.Stop.{Stop}
use Rattle.kiasan.specs.declared.refusals.Stop.TheVariants.{Refused, ReadFault, NoMemory}
use Rattle.kiasan.specs.Answers.{RefusesNothing}
use Rattle.kiasan.specs.Orders.{IsBuiltJob}
use Rattle.kiasan.specs.Refusals.{Gives, tests_refusal}
use Rattle.kiasan.specs.Samples.{sample_job, sample_line, sample_target}
use Rattle.kiasan.specs.Tests.{RefusesTests, RunsAsStated, count_passes}
use Rattle.kiasan.proofs.OneReply.{tests_apart}

-- ---- what is explored

is_int : IsType Escaped Int
is_int = let none : 0 ≤ 255 = omega arith in record { base = tt; dims = none }

not_empty : (byte : ℕ) (bytes : List ℕ) → byte ∷ bytes ≡ [] → ⊥
not_empty byte bytes e = cc

target_is : IsTarget sample_target
target_is =
    let a : 97 < 256 = omega arith in
    let e : 101 < 256 = omega arith in
    let l : 108 < 256 = omega arith in
    let m : 109 < 256 = omega arith in
    let n : 110 < 256 = omega arith in
    let p : 112 < 256 = omega arith in
    let r : 114 < 256 = omega arith in
    let s : 83 < 256 = omega arith in
    let u : 117 < 256 = omega arith in
    record {
      class = (not_empty 83 (codes "ample"), (s, (a, (m, (p, (l, (e, tt)))))));
      name = (r, (u, (n, tt)));
      kind = record { params = (is_int, (is_int, (is_int, (is_int, tt)))); result = is_int };
    }

-- the text is that of the target
pub sample_spelled : SpellsTarget sample_target (codes "Sample.run(IIII)I")
sample_spelled = (target_is, refl)

sample_bounds : AreBounds default_bounds
sample_bounds =
    let followed : 3 ≤ 16 = omega arith in
    let alloc : 16 ≤ 1024 = omega arith in
    let loops : 10 ≤ 1000 = omega arith in
    let some_depth : 1 ≤ 16 = omega arith in
    let depth : 16 ≤ 256 = omega arith in
    let some_steps : 1 ≤ 2000 = omega arith in
    let steps : 2000 ≤ 100000 = omega arith in
    record { k = followed; array = followed; alloc = alloc; loops = loops; some_depth = some_depth; depth = depth; some_steps = some_steps; steps = steps }

-- the job's numbers lie in their ranges
pub sample_built : IsBuiltJob sample_job
sample_built =
    let some_paths : 1 ≤ 100 = omega arith in
    let paths : 100 ≤ 100000 = omega arith in
    let some_budget : 1 ≤ 20000 = omega arith in
    let budget : 20000 ≤ 100000 = omega arith in
    let derived : 100 * 20000 ≤ 2000000 = omega arith in
    let numbers : IsJob sample_job =
    record { target = target_is; bounds = sample_bounds; some_paths = some_paths; paths = paths; some_budget = some_budget; budget = budget; derived = derived } in
    record { numbers = numbers; lazy = refl }

-- ---- tests that are written are read

-- the text that is read is the one that was written
pub spelled_as : (world : World) (tests : List Test) (written text : List ℕ) (literals : ℕ) → literals ≡ literals_in world → text ≡ written →
    SpellsTests (literals_in world) tests written → SpellsTests literals tests text
spelled_as world tests written text literals many is spelled = rw (many, is) spelled

pub written_read : {A : Type 0} (Fine : A → Type 0) (refusal : TestRefusal) (tests : List Test) (stop : Stop) → ReadsTests (Err refusal) tests → stop ≡ tests_refusal refusal →
    Gives {A = A} ⊥ RefusesNothing Fine (Err stop)
written_read Fine (texts.TestLine number) tests stop read is = absurd read
written_read Fine texts.NoMemory tests stop read is = rw is tt

-- ---- tests that end as they state pass

-- the method of each test
abbrev same_methods : MethodId → List Test → List MethodId
same_methods id [] = []
same_methods id (test ∷ tests) = id ∷ same_methods id tests

runnable : (world : World) (id : MethodId) (tests : List Test) → AllByRecursion (RunsAsStated world id) tests → AreRunnable world tests (same_methods id tests)
runnable world id [] runs = tt
runnable world id (test ∷ tests) runs = (runs.0.0, runnable world id tests runs.1)

-- none of them is refused
pub none_refused : {A B : Type 0} (Fine : A → Type 0) (Passing : B → Type 0) (world : World) → IsLinked world → (id : MethodId) (tests : List Test) →
    AllByRecursion (RunsAsStated world id) tests → (stop : Stop) → Gives {A = A} ⊥ (RefusesTests world tests) Fine (Err stop) → Gives {A = B} ⊥ RefusesNothing Passing (Err stop)
none_refused Fine Passing world linked id tests runs (Refused refusal) refuses =
    absurd (tests_apart world linked tests refusal (same_methods id tests) refuses (runnable world id tests runs))
none_refused Fine Passing world linked id tests runs ReadFault wrong = wrong
none_refused Fine Passing world linked id tests runs NoMemory none = tt

abbrev all_passes : List Test → List Replayed
all_passes [] = []
all_passes (test ∷ tests) = Passes ∷ all_passes tests

passing : (world : World) (id : MethodId) (tests : List Test) → AllByRecursion (RunsAsStated world id) tests → AreReplayed world tests (all_passes tests)
passing world id [] runs = tt
passing world id (test ∷ tests) runs = ((id, runs.0.0, runs.0.1), passing world id tests runs.1)

count_all : (tests : List Test) → count_passes (all_passes tests) ≡ length tests
count_all [] = refl
count_all (test ∷ tests) = omega (arith, count_all tests)

-- their verdicts are that each passes
pub each_passes : (world : World) → IsLinked world → (id : MethodId) (tests : List Test) → AllByRecursion (RunsAsStated world id) tests → (verdicts : List Replayed) →
    AreReplayed world tests verdicts → count_passes verdicts ≡ length tests
each_passes world linked id tests runs verdicts are =
    ap (λ (vs : List Replayed). count_passes vs) (one_replay world linked tests verdicts (all_passes tests) are (passing world id tests runs)) ∙ count_all tests

-- the line is told by equal parts
pub line_as : (blocks : ℕ) (paths leaves : List Path) (tests count : ℕ) (replayed verdicts : List Replayed) → paths ≡ leaves → tests ≡ count → replayed ≡ verdicts →
    sample_line blocks paths tests (count_passes replayed) ≡ sample_line blocks leaves count (count_passes verdicts)
line_as blocks paths leaves tests count replayed verdicts e f g = rw (e, f, g) refl
