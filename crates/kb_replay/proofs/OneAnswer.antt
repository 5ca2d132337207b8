-- Tests have one answer in a linked world, but that memory may run out.
use Rattle.std.proofs.Common.{◌≡◌, ℕ, suc, List, [], ◌∷◌, ◌++◌, length, refl, sym, ◌∙◌, ap, subst}
use Rattle.std.specs.List.{AllByRecursion}
use Rattle.kb_class.specs.declared.ids.MethodId.{MethodId}
use Rattle.kb_classes.specs.declared.refusal.LinkRefusal.{LinkRefusal}
use Rattle.kb_link.specs.Links.{IsLinked}
use Rattle.kb_link.specs.Targets.{IsTargetOf}
use Rattle.kb_classes.specs.World.{World}
use Rattle.kb_link.proofs.TargetLaws.{one_declared}
use Rattle.kb_names.specs.declared.types.Target.{Target}
use Rattle.kb_semantics.specs.Config.{Ended}
use Rattle.kb_semantics.specs.Inputs.{IsTypeCorrect}
use Rattle.kb_test.specs.declared.test_case.Test.{Test}
use Rattle.kb_world.proofs.ReachLaws.{one_refusal, refused_or_accepted}
use Rattle.kb_replay.specs.declared.checks.BadTest.{BadTest}
use Rattle.kb_replay.specs.declared.checks.ReplayStop.{ReplayStop}
use Rattle.kb_replay.specs.declared.checks.ReplayStop.TheVariants.{TestMethod, TestTypes, Reach, NoMemory}
use Rattle.kb_replay.specs.declared.replays.Replayed.{Replayed}
use Rattle.kb_replay.specs.declared.replays.Replayed.TheVariants.{Passes, Differs}
use Rattle.kb_replay.specs.Replays.{IsRunnable, AreRunnable, Stops, StopsAt, Says, AreReplayed}

-- ---- the first of a list

all_at : {A : Type 0} (P : A → Type 0) (xs : List A) (x : A) (ys : List A) → AllByRecursion P (xs ++ x ∷ ys) → P x
all_at P [] x ys all = all.0
all_at P (z ∷ xs) x ys all = all_at P xs x ys all.1

-- the first that is bad is one
same_first : {A : Type 0} (Good Bad : A → Type 0) → ((x : A) → Good x → Bad x → ⊥) → (xs ys : List A) (x y : A) (us vs : List A) → AllByRecursion Good xs → AllByRecursion Good ys
    → Bad x → Bad y → xs ++ x ∷ us ≡ ys ++ y ∷ vs → (length xs ≡ length ys) × (x ≡ y)
same_first Good Bad apart [] [] x y us vs p q b c e = let same : x ≡ y = cc in (refl, same)
same_first Good Bad apart [] (z ∷ ys) x y us vs p q b c e = let same : x ≡ z = cc in absurd (apart z q.0 (subst Bad same b))
same_first Good Bad apart (z ∷ xs) [] x y us vs p q b c e = let same : z ≡ y = cc in absurd (apart y (subst Good same p.0) c)
same_first Good Bad apart (z ∷ xs) (w ∷ ys) x y us vs p q b c e =
    let tails : xs ++ x ∷ us ≡ ys ++ y ∷ vs = cc in
    let rest = same_first Good Bad apart xs ys x y us vs p.1 q.1 b c tails in
    (ap suc rest.0, rest.1)

-- ---- one test

one_id : (world : World) (target : Target) → IsLinked world → (a b : MethodId) → IsTargetOf world target a → IsTargetOf world target b → a ≡ b
one_id world target linked a b p q = one_declared world linked.names linked.loaded.methods target a b p.declared q.declared

-- the input is one of the other method too, since they are one
correct_there : (world : World) → IsLinked world → (test : Test) (a b : MethodId) → IsTargetOf world test.target a → IsTargetOf world test.target b
    → IsTypeCorrect world a test.input → IsTypeCorrect world b test.input
correct_there world linked test a b p q correct =
    subst (λ (i : MethodId). IsTypeCorrect world i test.input) (one_id world test.target linked a b p q) correct

abbrev pub IsFine : World → Test → Type 0
IsFine world test = (id : MethodId) × IsRunnable world test id

-- something else stops it than memory that ran out
abbrev pub IsStopped : World → Test → Type 0
IsStopped world test = (stop : ReplayStop) × (stop ≡ NoMemory → ⊥) × Stops world test stop

fine_or_stopped : (world : World) → IsLinked world → (test : Test) → IsFine world test → IsStopped world test → ⊥
fine_or_stopped world linked test (id, run) (TestMethod, some, stops) = stops id run.fit.found
fine_or_stopped world linked test (id, run) (TestTypes, some, stops) =
    stops.2 (correct_there world linked test id stops.0 run.fit.found stops.1 run.fit.correct)
fine_or_stopped world linked test (id, run) (Reach refusal, some, stops) =
    refused_or_accepted world linked test.target refusal id stops.3 stops.2 run.fit.found run.accepted
fine_or_stopped world linked test (id, run) (NoMemory, some, stops) = some refl

pub one_stop : (world : World) → IsLinked world → (test : Test) (a b : ReplayStop) → Stops world test a → Stops world test b → (a ≡ NoMemory → ⊥) → (b ≡ NoMemory → ⊥) → a ≡ b
one_stop world linked test TestMethod TestMethod p q some more = refl
one_stop world linked test TestMethod TestTypes p q some more = absurd (p q.0 q.1)
one_stop world linked test TestMethod (Reach r) p q some more = absurd (p q.0 q.1.found)
one_stop world linked test TestTypes TestMethod p q some more = absurd (q p.0 p.1)
one_stop world linked test TestTypes TestTypes p q some more = refl
one_stop world linked test TestTypes (Reach r) p q some more = absurd (p.2 (correct_there world linked test q.0 p.0 q.1.found p.1 q.1.correct))
one_stop world linked test (Reach r) TestMethod p q some more = absurd (q p.0 p.1.found)
one_stop world linked test (Reach r) TestTypes p q some more = absurd (q.2 (correct_there world linked test p.0 q.0 p.1.found q.1 p.1.correct))
one_stop world linked test (Reach r) (Reach s) p q some more = ap (λ (x : LinkRefusal). Reach x) (one_refusal world linked test.target r s p.3 q.3 p.2 q.2)
one_stop world linked test NoMemory b p q some more = absurd (some refl)
one_stop world linked test TestMethod NoMemory p q some more = absurd (more refl)
one_stop world linked test TestTypes NoMemory p q some more = absurd (more refl)
one_stop world linked test (Reach r) NoMemory p q some more = absurd (more refl)

-- ---- several tests

each_fine : (world : World) (tests : List Test) (ids : List MethodId) → AreRunnable world tests ids → AllByRecursion (IsFine world) tests
each_fine world [] [] are = tt
each_fine world (t ∷ tests) (i ∷ ids) are = ((i, are.0), each_fine world tests ids are.1)
each_fine world [] (i ∷ ids) are = absurd are
each_fine world (t ∷ tests) [] are = absurd are

same_bad : (a b : BadTest) → a.number ≡ b.number → a.stop ≡ b.stop → a ≡ b
same_bad a b e f = λ i. record { number = e i; stop = f i }

pub one_bad_test : (world : World) → IsLinked world → (tests : List Test) (a b : BadTest) → StopsAt world tests a → StopsAt world tests b
    → (a.stop ≡ NoMemory → ⊥) → (b.stop ≡ NoMemory → ⊥) → a ≡ b
one_bad_test world linked tests a b p q some more =
    let same = same_first (IsFine world) (IsStopped world) (fine_or_stopped world linked) p.before q.before p.test q.test p.after q.after
    (each_fine world p.before p.ids p.good) (each_fine world q.before q.ids q.good) (a.stop, some, p.stops) (b.stop, more, q.stops)
    (sym p.tests_are ∙ q.tests_are) in
    same_bad a b (p.number_is ∙ same.0 ∙ sym q.number_is)
    (one_stop world linked q.test a.stop b.stop (subst (λ (t : Test). Stops world t a.stop) same.1 p.stops) q.stops some more)

pub stopped_or_runnable : (world : World) → IsLinked world → (tests : List Test) (bad : BadTest) (ids : List MethodId) → StopsAt world tests bad
    → (bad.stop ≡ NoMemory → ⊥) → AreRunnable world tests ids → ⊥
stopped_or_runnable world linked tests bad ids p some are =
    fine_or_stopped world linked p.test (all_at (IsFine world) p.before p.test p.after (subst (AllByRecursion (IsFine world)) p.tests_are (each_fine world tests ids are)))
    (bad.stop, some, p.stops)

pub one_ids : (world : World) → IsLinked world → (tests : List Test) (xs ys : List MethodId) → AreRunnable world tests xs → AreRunnable world tests ys → xs ≡ ys
one_ids world linked [] [] [] a b = refl
one_ids world linked [] (x ∷ xs) ys a b = absurd a
one_ids world linked [] [] (y ∷ ys) a b = absurd b
one_ids world linked (t ∷ tests) [] ys a b = absurd a
one_ids world linked (t ∷ tests) (x ∷ xs) [] a b = absurd b
one_ids world linked (t ∷ tests) (x ∷ xs) (y ∷ ys) a b =
    let first : x ≡ y = one_id world t.target linked x y a.0.fit.found b.0.fit.found in
    let rest : xs ≡ ys = one_ids world linked tests xs ys a.1 b.1 in
    rw (first, rest) refl

-- ---- runs

one_saying : (world : World) (id : MethodId) (test : Test) (x y : Replayed) → Says world id test x → Says world id test y → x ≡ y
one_saying world id test Passes Passes a b = refl
one_saying world id test Passes (Differs ending heap) a b = absurd (b.1 a)
one_saying world id test (Differs ending heap) Passes a b = absurd (a.1 b)
one_saying world id test (Differs ending heap) (Differs other last) a b =
    let same = sym a.0 ∙ b.0 in
    let endings : ending ≡ other = ap (λ (e : Ended). e.ending) same in
    let heaps : heap ≡ last = ap (λ (e : Ended). e.heap) same in
    rw (endings, heaps) refl

pub one_replay : (world : World) → IsLinked world → (tests : List Test) (xs ys : List Replayed) → AreReplayed world tests xs → AreReplayed world tests ys → xs ≡ ys
one_replay world linked [] [] [] a b = refl
one_replay world linked [] (x ∷ xs) ys a b = absurd a
one_replay world linked [] [] (y ∷ ys) a b = absurd b
one_replay world linked (t ∷ tests) [] ys a b = absurd a
one_replay world linked (t ∷ tests) (x ∷ xs) [] a b = absurd b
one_replay world linked (t ∷ tests) (x ∷ xs) (y ∷ ys) a b =
    let ids : a.0.0 ≡ b.0.0 = one_id world t.target linked a.0.0 b.0.0 a.0.1.fit.found b.0.1.fit.found in
    let first : x ≡ y = one_saying world b.0.0 t x y (subst (λ (i : MethodId). Says world i t x) ids a.0.2) b.0.2 in
    let rest : xs ≡ ys = one_replay world linked tests xs ys a.1 b.1 in
    rw (first, rest) refl
