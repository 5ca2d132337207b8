-- How tests are found fit one after another.
use Rattle.std.proofs.Common.{◌≡◌, ◌⊎◌, inl, inr, ℕ, zero, suc, ◌+◌, ◌<◌, ◌≤◌, Bool, List, [], ◌∷◌, ◌++◌, length, take, drop, get_or, refl, sym, ◌∙◌, ap, subst, arith, drop-cons}
use Rattle.std.proofs.lemmas.List.{take_all, take-append-drop}
use Rattle.std.proofs.Math.Seq.{take-suc}
use Rattle.kb_class.specs.declared.ids.MethodId.{MethodId}
use Rattle.kb_link.specs.Targets.{IsTargetOf}
use Rattle.kb_classes.specs.World.{World}
use Rattle.kb_semantics.specs.Inputs.{IsTypeCorrect}
use Rattle.kb_test.specs.declared.test_case.Test.{Test}
use Rattle.kb_world.specs.Reach.{IsAccepted}
use Rattle.kb_replay.specs.declared.checks.ReplayStop.{ReplayStop}
use Rattle.kb_replay.specs.Replays.{IsFit, IsRunnable, AreRunnable, Stops, StopsAt, IsMarked, AreAccepted}

runnable_more : (world : World) (tests : List Test) (ids : List MethodId) (test : Test) (id : MethodId) → AreRunnable world tests ids
    → IsRunnable world test id → AreRunnable world (tests ++ test ∷ []) (ids ++ id ∷ [])
runnable_more world [] [] test id are is = (is, tt)
runnable_more world (x ∷ tests) (i ∷ ids) test id are is = (are.0, runnable_more world tests ids test id are.1 is)
runnable_more world [] (i ∷ ids) test id are is = absurd are
runnable_more world (x ∷ tests) [] test id are is = absurd are

pub as_many : (world : World) (tests : List Test) (ids : List MethodId) → AreRunnable world tests ids → length tests ≡ length ids
as_many world [] [] are = refl
as_many world (x ∷ tests) (i ∷ ids) are = ap suc (as_many world tests ids are.1)
as_many world [] (i ∷ ids) are = absurd are
as_many world (x ∷ tests) [] are = absurd are

pub runnable_next : (world : World) (tests : List Test) (ids : List MethodId) (i : ℕ) (test : Test) (id : MethodId) → i < length tests → test ≡ get_or tests i test
    → AreRunnable world (take i tests) ids → IsRunnable world test id → AreRunnable world (take (i + 1) tests) (ids ++ id ∷ [])
runnable_next world tests ids i test id inside at are is =
    let next : i + 1 ≡ suc i = omega arith in
    rw (next, take-suc tests i test inside, ← at) (runnable_more world (take i tests) ids test id are is)

pub all_runnable : (world : World) (tests : List Test) (ids : List MethodId) (i : ℕ) → length tests < i + 1 → AreRunnable world (take i tests) ids → AreRunnable world tests ids
all_runnable world tests ids i end are = subst (λ (ts : List Test). AreRunnable world ts ids) (take_all i tests (omega (arith, end))) are

pub first_stop : (world : World) (tests : List Test) (ids : List MethodId) (i : ℕ) (test : Test) (number : ℕ) (stop : ReplayStop) → i < length tests → test ≡ get_or tests i test
    → AreRunnable world (take i tests) ids → number ≡ length ids → Stops world test stop → StopsAt world tests (record { number = number; stop = stop })
first_stop world tests ids i test number stop inside at are n stops =
    let next : suc i ≡ i + 1 = omega arith in
    let behind : drop i tests ≡ test ∷ drop (i + 1) tests =
    drop-cons tests i test inside ∙ ap (λ (x : Test). x ∷ drop (suc i) tests) (sym at) ∙ ap (λ (n : ℕ). test ∷ drop n tests) next in
    record {
      before = take i tests;
      test = test;
      after = drop (i + 1) tests;
      tests_are = sym (take-append-drop i tests) ∙ ap (λ (rest : List Test). take i tests ++ rest) behind;
      number_is = n ∙ sym (as_many world (take i tests) ids are);
      ids = ids;
      good = are;
      stops = stops;
    }

-- ---- marks

same_id : (a b : MethodId) → a.0 ≡ b.0 → a ≡ b
same_id a b e = λ i. record { 0 = e i }

-- one method more is marked, which is accepted
pub marked_more : (world : World) (flags now : List Bool) (id : MethodId) → AreAccepted world flags → IsAccepted world id
    → ((n : ℕ) → IsMarked now n → (n ≡ id.0) ⊎ IsMarked flags n) → AreAccepted world now
marked_more world flags now id are is more other at =
    elim (more other.0 at) [ inl e ↦ subst (IsAccepted world) (sym (same_id other id e)) is | inr marked ↦ are other marked ]

-- ---- one test

-- a method that was reached before
pub runnable_marked : (world : World) (flags : List Bool) (test : Test) (id : MethodId) → AreAccepted world flags → IsFit world test id → IsMarked flags id.0
    → IsRunnable world test id
runnable_marked world flags test id are fit marked = record { fit = fit; accepted = are id marked }

-- the method that reach gives is the one that the target names
pub accepted_here : (world : World) (test : Test) (id reached : MethodId) → ((other : MethodId) → IsTargetOf world test.target other → other ≡ id)
    → IsTargetOf world test.target reached → IsAccepted world reached → IsAccepted world id
accepted_here world test id reached alone found accepted = subst (IsAccepted world) (alone reached found) accepted

pub runnable_here : (world : World) (test : Test) (id reached : MethodId) → IsFit world test id → ((other : MethodId) → IsTargetOf world test.target other → other ≡ id)
    → IsTargetOf world test.target reached → IsAccepted world reached → IsRunnable world test id
runnable_here world test id reached fit alone found accepted = record { fit = fit; accepted = accepted_here world test id reached alone found accepted }
