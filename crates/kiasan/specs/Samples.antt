-- The sample: for what its method is explored, what of its tests is told, and the line that tells it.
use Rattle.std.specs.Prelude.{◌≡◌, ℕ, List, [], ◌∷◌, ◌++◌, codes, length, Some}
use Rattle.std.specs.Fmt.{decimal}
use Rattle.kb_asm.specs.Class.{IsAssembled}
use Rattle.kb_classes.specs.World.{World}
use Rattle.kb_names.specs.declared.types.JType.TheVariants.{Int}
use Rattle.kb_names.specs.declared.types.Target.{Target}
use Rattle.kb_picture.specs.declared.choice.Init.TheVariants.{Lazy}
use Rattle.kb_picture.specs.declared.path.Path.{Path}
use Rattle.kb_replay.specs.declared.replays.Replayed.{Replayed}
use Rattle.kb_replay.specs.declared.workers.Ran.{Ran}
use Rattle.kb_replay.specs.Replays.{AreReplayed}
use Rattle.kb_report_text.specs.declared.report.Report.{Report}
use Rattle.kb_report_text.specs.Report.{kinds_text}
use Rattle.kb_report_tests.specs.Tests.{tests_of}
use Rattle.kb_sample.specs.Sample.{sample_text}
use Rattle.kb_test.specs.declared.test_case.Test.{Test}
use Rattle.kb_words.specs.declared.orders.Job.{Job}
use Rattle.kb_words.specs.Orders.{default_bounds}
use Rattle.kiasan.specs.declared.answer.Contents.{Contents}
use Rattle.kiasan.specs.Tests.{count_passes}

-- ---- what is explored

-- Sample.run(IIII)I
abbrev pub sample_target : Target
sample_target = record {
  class = codes "Sample";
  name = codes "run";
  kind = record { params = Int ∷ Int ∷ Int ∷ Int ∷ []; result = Some Int };
}

-- the method is explored lazily, within the bounds that stand where no option gives one, up to 100 paths, and each question to the
-- solver has a budget of 20000
abbrev pub sample_job : Job
sample_job = record { target = sample_target; init = Lazy; bounds = default_bounds; paths = 100; budget = 20000; files = [] }

-- an order's contents are one class file, of the text of the sample of so many blocks
pub record IsSampleMade (blocks : ℕ) (contents : Contents) : Type 0 where
  pub bytes : List ℕ
  pub assembled : IsAssembled (sample_text blocks) bytes
  pub texts_are : contents.texts ≡ []
  pub classes_are : contents.classes ≡ bytes ∷ []

-- what was run are these tests, and each of them passes
pub record ArePassed (world : World) (tests : List Test) (ran : Ran) : Type 0 where
  pub tests_are : ran.tests ≡ tests
  pub verdicts_are : AreReplayed world tests ran.replayed
  pub each_passes : count_passes ran.replayed ≡ length tests

-- ---- what is told

unfoldable pub blocks_text : ℕ → ℕ → List ℕ
blocks_text blocks paths = codes "sample " ++ (decimal blocks ++ (codes " paths " ++ decimal paths))

unfoldable pub passed_text : ℕ → ℕ → List ℕ
passed_text tests passed = codes " tests " ++ (decimal tests ++ (codes " passed " ++ (decimal passed ++ codes "\n")))

-- how many blocks and paths there are, how many paths of each kind, how many tests, and how many of them pass
unfoldable pub sample_line : ℕ → List Path → ℕ → ℕ → List ℕ
sample_line blocks paths tests passed = blocks_text blocks (length paths) ++ (kinds_text paths ++ passed_text tests passed)

-- The line on a report of the sample: each of its tests was run, and each passes.
pub record IsSampleLine (blocks : ℕ) (world : World) (report : Report) (text : List ℕ) : Type 0 where
  pub verdicts : List Replayed
  pub verdicts_are : AreReplayed world (tests_of world report) verdicts
  pub each_passes : count_passes verdicts ≡ length (tests_of world report)
  pub text_is : text ≡ sample_line blocks report.leaves (length (tests_of world report)) (count_passes verdicts)
