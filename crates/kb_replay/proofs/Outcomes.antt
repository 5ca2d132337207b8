-- Tests with their methods, and what comes of them.
use Rattle.std.proofs.Common.{◌≡◌, List, [], ◌∷◌, map, refl, sym, ap, ◌∙◌, subst}
use Rattle.std.specs.List.{All}
use Rattle.std.proofs.lemmas.List.Elements.{All-nil, All-cons}
use Rattle.kb_class.specs.declared.ids.MethodId.{MethodId}
use Rattle.kb_classes.specs.World.{World}
use Rattle.kb_test.specs.declared.test_case.Test.{Test}
use Rattle.kb_replay.specs.declared.replays.Replayed.{Replayed}
use Rattle.kb_replay.specs.declared.workers.Assigned.{Assigned}
use Rattle.kb_replay.specs.declared.workers.Outcome.{Outcome}
use Rattle.kb_workers.specs.Mapped.{AreMapped}
use Rattle.kb_replay.specs.Replays.{AreReplayed, AreRunnable, IsRunnable}
use Rattle.kb_replay.specs.Outcomes.{IsOutcome, test_of, method_of, test_with, verdict_of}

module _ (world : World) where
  each_runnable : (assigned : List Assigned) → AreRunnable world (map test_of assigned) (map method_of assigned) → All (λ (one : Assigned). IsRunnable world one.test one.id) assigned
  each_runnable [] are = All-nil _
  each_runnable (one ∷ assigned) are = All-cons (λ (one : Assigned). IsRunnable world one.test one.id) one assigned are.0 (each_runnable assigned are.1)

  pub all_runnable : (tests : List Test) (methods : List MethodId) (assigned : List Assigned) → map test_of assigned ≡ tests → map method_of assigned ≡ methods → AreRunnable world tests methods
      → All (λ (one : Assigned). IsRunnable world one.test one.id) assigned
  all_runnable tests methods assigned same ids are =
      each_runnable assigned (subst (λ (ms : List MethodId). AreRunnable world (map test_of assigned) ms) (sym ids) (subst (λ (ts : List Test). AreRunnable world ts methods) (sym same) are))

  same_tests : (assigned : List Assigned) (outcomes : List Outcome) → AreMapped (IsOutcome world) assigned outcomes → map test_with outcomes ≡ map test_of assigned
  same_tests [] [] are = refl
  same_tests [] (outcome ∷ outcomes) are = absurd are
  same_tests (one ∷ assigned) [] are = absurd are
  same_tests (one ∷ assigned) (outcome ∷ outcomes) are = ap (λ (test : Test). test ∷ map test_with outcomes) are.0.0 ∙ ap (λ (tests : List Test). one.test ∷ tests) (same_tests assigned outcomes are.1)

  pub tests_back : (tests back : List Test) (assigned : List Assigned) (outcomes : List Outcome) → map test_of assigned ≡ tests → AreMapped (IsOutcome world) assigned outcomes
      → back ≡ map test_with outcomes → back ≡ tests
  tests_back tests back assigned outcomes same are is = is ∙ same_tests assigned outcomes are ∙ same

  each_replayed : (assigned : List Assigned) (outcomes : List Outcome) → AreRunnable world (map test_of assigned) (map method_of assigned) → AreMapped (IsOutcome world) assigned outcomes
      → AreReplayed world (map test_of assigned) (map verdict_of outcomes)
  each_replayed [] [] runnable are = tt
  each_replayed [] (outcome ∷ outcomes) runnable are = absurd are
  each_replayed (one ∷ assigned) [] runnable are = absurd are
  each_replayed (one ∷ assigned) (outcome ∷ outcomes) runnable are = ((one.id, runnable.0, are.0.1), each_replayed assigned outcomes runnable.1 are.1)

  pub outcomes_replayed : (tests : List Test) (methods : List MethodId) (replayed : List Replayed) (assigned : List Assigned) (outcomes : List Outcome) → map test_of assigned ≡ tests
      → map method_of assigned ≡ methods → AreRunnable world tests methods → AreMapped (IsOutcome world) assigned outcomes → replayed ≡ map verdict_of outcomes → AreReplayed world tests replayed
  outcomes_replayed tests methods replayed assigned outcomes same ids runnable are is =
      let here : AreRunnable world (map test_of assigned) (map method_of assigned) =
      subst (λ (ms : List MethodId). AreRunnable world (map test_of assigned) ms) (sym ids) (subst (λ (ts : List Test). AreRunnable world ts methods) (sym same) runnable) in
      subst (AreReplayed world tests) (sym is) (subst (λ (ts : List Test). AreReplayed world ts (map verdict_of outcomes)) same (each_replayed assigned outcomes here are))
