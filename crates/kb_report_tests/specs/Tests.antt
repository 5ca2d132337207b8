-- The tests of the paths of a report.
use Rattle.std.specs.Prelude.{◌≡◌, ℕ, List, [], ◌∷◌, length}
use Rattle.std.specs.List.{flat_map}
use Rattle.kb_class.specs.declared.ids.MethodId.{MethodId}
use Rattle.kb_picture.specs.Carried.{CarriesInstance}
use Rattle.kb_classes.specs.World.{World}
use Rattle.kb_picture.specs.declared.path.Ended.{Ended}
use Rattle.kb_picture.specs.declared.path.Leaf.{Leaf}
use Rattle.kb_picture.specs.declared.path.Leaf.TheVariants.{Ended as EndedLeaf, Cut, Undecided, Open}
use Rattle.kb_picture.specs.declared.path.Path.{Path}
use Rattle.kb_picture.specs.Endings.{ending_of, final_heap_of, stated_end}
use Rattle.kb_picture.specs.WellFormed.{IsWellFormed}
use Rattle.kb_report_text.specs.declared.report.Report.{Report}
use Rattle.kb_test.specs.declared.test_case.Test.{Test}
use Rattle.kb_test_laws.specs.Texts.{EndHasTexts}

-- how many string literals a world has
abbrev pub literals_in : World → ℕ
literals_in world = length world.literals

-- the test of an ended path in its world: its input, and the ending and the heap that it states for that input
abbrev pub test_of : World → Report → Path → Ended → Test
test_of world report path ended = record {
  target = report.target;
  bounds = report.bounds.run;
  input = ended.input;
  ending = ending_of world path ended ended.input;
  heap = final_heap_of world path ended ended.input;
}

-- the tests of a path: one, where it has ended
abbrev pub path_tests : World → Report → Path → Leaf → List Test
path_tests world report path (EndedLeaf ended) = test_of world report path ended ∷ []
path_tests world report path (Cut bound input) = []
path_tests world report path (Undecided log) = []
path_tests world report path Open = []

-- the tests of a report: that of each ended path, in order
abbrev pub tests_of : World → Report → List Test
tests_of world report = flat_map (λ (path : Path). path_tests world report path path.leaf) report.leaves

-- what an ended path states of the input that it carries names nothing without a text
abbrev pub StatesTexts : World → Path → Type 0
StatesTexts world path = (ended : Ended) → path.leaf ≡ EndedLeaf ended → EndHasTexts (stated_end world path ended ended.input)

-- The input that a path carries is one of its instances, the path is well-formed, and what it states of that input has texts.
abbrev pub IsCarried : World → MethodId → Path → Type 0
IsCarried world id path = CarriesInstance world id path × IsWellFormed world id path × StatesTexts world path
