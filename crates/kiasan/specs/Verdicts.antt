-- The text of a replay.
use Rattle.std.specs.Prelude.{ℕ, ◌+◌, List, [], ◌∷◌, ◌++◌, length, codes}
use Rattle.std.specs.Fmt.{decimal}
use Rattle.kb_test.specs.declared.test_case.Test.{Test}
use Rattle.kb_test.specs.Writing.{run_text}
use Rattle.kb_replay.specs.declared.replays.Replayed.{Replayed}
use Rattle.kb_replay.specs.declared.replays.Replayed.TheVariants.{Passes, Differs}
use Rattle.kb_refusals.specs.Texts.{line}
use Rattle.kiasan.specs.Tests.{count_passes, count_differs}

-- The lines on a test: whether it passes, and how its run ended and what heap it left where it does not.
unfoldable pub verdict_text : ℕ → ℕ → Test → Replayed → List ℕ
verdict_text literals number test Passes = line (codes "test " ∷ decimal number ∷ codes " passes" ∷ [])
verdict_text literals number test (Differs ending heap) =
    line (codes "test " ∷ decimal number ∷ codes " differs" ∷ []) ++ run_text (length test.input.heap.objects) literals ending heap.objects

-- the lines on the tests, numbered from n on
unfoldable pub verdicts_text : ℕ → ℕ → List Replayed → List Test → List ℕ
verdicts_text literals n [] tests = []
verdicts_text literals n (verdict ∷ verdicts) [] = []
verdicts_text literals n (verdict ∷ verdicts) (test ∷ tests) = verdict_text literals n test verdict ++ verdicts_text literals (n + 1) verdicts tests

unfoldable pub replay_total : List Replayed → List ℕ
replay_total verdicts =
    line (codes "tests " ∷ decimal (length verdicts) ∷ codes " passed " ∷ decimal (count_passes verdicts) ∷ codes " differed " ∷ decimal (count_differs verdicts) ∷ [])

-- The text of a replay in a world of so many literals: the lines on each test, in order, and a total.
unfoldable pub replay_text : ℕ → List Test → List Replayed → List ℕ
replay_text literals tests verdicts = verdicts_text literals 0 verdicts tests ++ replay_total verdicts
