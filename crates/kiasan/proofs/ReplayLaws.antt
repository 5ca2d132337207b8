-- How a replay is refused, and how its verdicts are counted.
use Rattle.std.proofs.Common.{◌≡◌, ℕ, ◌+◌, ◌≤◌, List, [], ◌∷◌, length, Err, refl, subst, arith, true, false}
use Rattle.kb_classes.specs.World.{World}
use Rattle.kb_classes.specs.declared.refusal.LinkRefusal.{LinkRefusal}
use Rattle.kb_classes.specs.declared.refusal.LinkRefusal.TheVariants as links
use Rattle.kb_replay.specs.declared.checks.BadTest.{BadTest}
use Rattle.kb_replay.specs.declared.checks.ReplayStop.{ReplayStop}
use Rattle.kb_replay.specs.declared.checks.ReplayStop.TheVariants.{TestMethod, TestTypes, Reach, NoMemory}
use Rattle.kb_replay.specs.declared.replays.Replayed.{Replayed}
use Rattle.kb_replay.specs.declared.replays.Replayed.TheVariants.{Passes, Differs as DiffersFrom}
use Rattle.kb_replay.specs.Replays.{AreRunnable, StopsAt}
use Rattle.kb_test.specs.declared.test_case.Test.{Test}
use Rattle.kb_report_tests.specs.Tests.{literals_in}
use Rattle.kiasan.specs.declared.refusals.Stop.{Stop}
use Rattle.kiasan.specs.declared.refusals.Stop.TheVariants.{Refused, ReadFault, NoMemory as NoRoom}
use Rattle.kiasan.specs.Refusals.{Gives, link_refusal}
use Rattle.kiasan.specs.Answers.{AreTestsOf, Carries, EndsReplay, Last, RepliesReplay, Stage, TextRefuses}
use Rattle.kiasan.proofs.StageLaws.{stage_stops}
use Rattle.kiasan.specs.Tests.{RefusesTests, test_refusal, passes, count_passes, count_differs}

-- ---- refusals

-- what stops a test is told, unless memory ran out
told : {A : Type 0} (world : World) (tests : List Test) (bad : BadTest) (Fine : A → Type 0) → StopsAt world tests bad → (stop : Stop) →
    test_refusal bad.number bad.stop ≡ stop → (stop ≡ ReadFault → ⊥) → Gives {A = A} ⊥ (RefusesTests world tests) Fine (Err stop)
told world tests bad Fine is (Refused refusal) e other = (bad, is, e)
told world tests bad Fine is ReadFault e other = other refl
told world tests bad Fine is NoRoom e other = tt

abbrev fault_or : Stop → Type 0
fault_or (Refused refusal) = Unit {0}
fault_or ReadFault = ⊥
fault_or NoRoom = Unit {0}

link_no_fault : (refusal : LinkRefusal) → fault_or (link_refusal refusal)
link_no_fault (links.NoMethod of) = tt
link_no_fault (links.NoField of at) = tt
link_no_fault (links.Missing name) = tt
link_no_fault (links.Outside of at what) = tt
link_no_fault (links.Initialiser name) = tt
link_no_fault links.NoMemory = tt
link_no_fault links.TooMany = tt
link_no_fault (links.BadName file entry) = tt
link_no_fault (links.BadDescriptor file entry) = tt
link_no_fault (links.TwoMembers file entry) = tt
link_no_fault (links.Twice name) = tt
link_no_fault (links.Circle name) = tt
link_no_fault (links.BadSuper name) = tt
link_no_fault (links.SplitPackage name method) = tt

no_fault : (number : ℕ) (stop : ReplayStop) → fault_or (test_refusal number stop)
no_fault number TestMethod = tt
no_fault number TestTypes = tt
no_fault number (Reach refusal) = link_no_fault refusal
no_fault number NoMemory = tt

pub tests_stop : {A : Type 0} (world : World) (tests : List Test) (bad : BadTest) (Fine : A → Type 0) → StopsAt world tests bad →
    Gives {A = A} ⊥ (RefusesTests world tests) Fine (Err (test_refusal bad.number bad.stop))
tests_stop world tests bad Fine is =
    told world tests bad Fine is (test_refusal bad.number bad.stop) refl (λ e. subst fault_or e (no_fault bad.number bad.stop))

-- what the text is refused for, the replay is
pub text_stops : (bytes : List ℕ) (world : World) (literals : ℕ) (stop : Stop) → literals ≡ literals_in world →
    Gives {A = List Test} ⊥ (TextRefuses literals bytes) (AreTestsOf literals bytes) (Err stop) → Carries ⊥ (RepliesReplay bytes world) (Err stop)
unfolding RepliesReplay
text_stops bytes world literals stop same given =
    stage_stops ⊥ ⊥ (TextRefuses (literals_in world) bytes) (AreTestsOf (literals_in world) bytes)
    (λ tests. Stage (RefusesTests world tests) (AreRunnable world tests) (λ ids. Last (EndsReplay world tests))) stop (λ wrong. wrong)
    (subst (λ (n : ℕ). Gives {A = List Test} ⊥ (TextRefuses n bytes) (AreTestsOf n bytes) (Err stop)) same given)

-- ---- counting

-- so many of the verdicts before the rest differ
pub record AreCounted (rest all : List Replayed) (count : ℕ) : Type 0 where
  pub counted : count + count_differs rest ≡ count_differs all
  pub within : count + length rest ≤ length all

pub passes_and_differs : (verdicts : List Replayed) → count_passes verdicts + count_differs verdicts ≡ length verdicts
passes_and_differs [] = refl
passes_and_differs (Passes ∷ verdicts) = omega (arith, passes_and_differs verdicts)
passes_and_differs (DiffersFrom ending heap ∷ verdicts) = omega (arith, passes_and_differs verdicts)

pub none_counted : (verdicts : List Replayed) → AreCounted verdicts verdicts 0
none_counted verdicts = record { counted = omega arith; within = omega arith }

pub pass_counted : (verdict : Replayed) (rest all : List Replayed) (count : ℕ) → AreCounted (verdict ∷ rest) all count → passes verdict ≡ true → AreCounted rest all count
pass_counted verdict rest all count so_far pass =
    let counted : count + (0 + count_differs rest) ≡ count_differs all = rw pass at so_far.counted in
    record { counted = omega (arith, counted); within = omega (arith, so_far.within) }

pub differ_counted : (verdict : Replayed) (rest all : List Replayed) (count : ℕ) → AreCounted (verdict ∷ rest) all count → passes verdict ≡ false → AreCounted rest all (count + 1)
differ_counted verdict rest all count so_far fail =
    let counted : count + (1 + count_differs rest) ≡ count_differs all = rw fail at so_far.counted in
    record { counted = omega (arith, counted); within = omega (arith, so_far.within) }

pub others_pass : (rest all : List Replayed) (count : ℕ) → AreCounted rest all count → length rest ≡ 0 → count_passes all + count ≡ length all
others_pass [] all count so_far end = omega (arith, so_far.counted, passes_and_differs all)
others_pass (verdict ∷ rest) all count so_far end = absurd (omega (arith, end))
