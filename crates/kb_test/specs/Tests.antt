-- Tests, and the texts that spell them.
use Rattle.std.specs.Prelude.{ℕ, ◌+◌, ◌<◌, ◌≤◌, ◌≡◌, None, Some, List, [], ◌∷◌, ◌++◌, length, map, take, drop, replicate}
use Rattle.std.specs.Int.RustNames.{FitsSigned}
use mir.Syntax.{w32}
use Rattle.kb_grammar.specs.Lines.{lines_text}
use Rattle.kb_names.specs.Targets.{IsTarget}
use Rattle.kb_names.specs.declared.types.ExactType.{ExactType}
use Rattle.kb_heap.specs.declared.heap.Value.{Value}
use Rattle.kb_heap.specs.declared.heap.Value.TheVariants.{Int, Null, Ref}
use Rattle.kb_heap.specs.declared.heap.Object.{Object}
use Rattle.kb_heap.specs.declared.heap.Heap.{Heap}
use Rattle.kb_heap.specs.Heap.{literal}
use Rattle.kb_heap.specs.declared.bounds.Bound.TheVariants.{K, Array, Alloc, Loops, Depth, Steps}
use Rattle.kb_heap.specs.declared.ending.Ending.{Ending}
use Rattle.kb_heap.specs.declared.ending.Ending.TheVariants.{Returned, Threw, IllTyped, Past}
use Rattle.kb_heap_words.specs.Words.{IsExact, IsPlace}
use Rattle.kb_test_lines.specs.Lines.{bound_of, IsRunBounds, texts_of}
use Rattle.kb_test.specs.Scripts.{AreScripts, scripts_lines}
use Rattle.kb_test_lines.specs.declared.words.Reference.{Reference}
use Rattle.kb_test_lines.specs.declared.words.Reference.TheVariants.{Input, Literal, Made}
use Rattle.kb_test_lines.specs.declared.words.Word.{Word}
use Rattle.kb_test_lines.specs.declared.words.Word.TheVariants.{Int as int_word, Null as null_word, Object as object_word}
use Rattle.kb_test_lines.specs.declared.lines.Listed.{Listed}
use Rattle.kb_test_lines.specs.declared.outcomes.Outcome.{Outcome}
use Rattle.kb_test_lines.specs.declared.outcomes.Outcome.TheVariants.{Returns, Throws, IllTyped as ill_typed_at, Past as past_bound}
use Rattle.kb_test.specs.declared.script.Script.{Script}
use Rattle.kb_test.specs.declared.test_case.Test.{Test}

-- The objects of the final heap: those of the input, then the literals, then those of the run. So with so many input
-- objects and so many literals this is the number of an object in the heap.
abbrev pub number_of : ℕ → ℕ → Reference → ℕ
number_of inputs literals (Input number) = number
number_of inputs literals (Literal number) = inputs + number
number_of inputs literals (Made number) = inputs + literals + number

abbrev pub value_of : ℕ → ℕ → Word → Value
value_of inputs literals (int_word number) = Int number
value_of inputs literals null_word = Null
value_of inputs literals (object_word reference) = Ref (number_of inputs literals reference)

abbrev pub values_of : ℕ → ℕ → List Word → List Value
values_of inputs literals words = map (value_of inputs literals) words

abbrev pub object_of : ℕ → ℕ → Listed → Object
object_of inputs literals listed = record { kind = listed.kind; values = values_of inputs literals listed.values }

abbrev pub objects_of : ℕ → ℕ → List Listed → List Object
objects_of inputs literals listed = map (object_of inputs literals) listed

-- the input objects with their last values
abbrev pub last_objects : ℕ → ℕ → List Listed → List (List Word) → List Object
last_objects inputs literals (listed ∷ others) (words ∷ outs) = record { kind = listed.kind; values = values_of inputs literals words } ∷ last_objects inputs literals others outs
last_objects inputs literals [] outs = []
last_objects inputs literals (listed ∷ others) [] = []

abbrev pub ending_of : ℕ → ℕ → Outcome → Ending
ending_of inputs literals (Returns None) = Returned None
ending_of inputs literals (Returns (Some word)) = Returned (Some (value_of inputs literals word))
ending_of inputs literals (Throws reference) = Threw (number_of inputs literals reference)
ending_of inputs literals (ill_typed_at place) = IllTyped place
ending_of inputs literals (past_bound bound) = Past (bound_of bound)

-- so many literals, which no text lists
abbrev pub literal_objects : ℕ → List Object
literal_objects literals = replicate literals literal

abbrev pub final_heap_of : ℕ → ℕ → Script → Heap
final_heap_of inputs literals script = record {
  objects = last_objects inputs literals script.inputs script.outs ++ (literal_objects literals ++ objects_of inputs literals script.news);
}

-- the test of that text, where there are so many input objects
abbrev pub test_with : ℕ → ℕ → Script → Test
test_with inputs literals script = record {
  target = script.target;
  bounds = script.bounds;
  input = record { heap = record { objects = objects_of inputs literals script.inputs }; args = values_of inputs literals script.args };
  ending = ending_of inputs literals script.outcome;
  heap = final_heap_of inputs literals script;
}

abbrev pub test_of : ℕ → Script → Test
test_of literals script = test_with (length script.inputs) literals script

abbrev pub tests_of : ℕ → List Script → List Test
tests_of literals scripts = map (test_of literals) scripts

-- the text is that of these tests, in a world of so many literals
pub record SpellsTests (literals : ℕ) (tests : List Test) (text : List ℕ) : Type 0 where
  pub scripts : List Script
  pub are : AreScripts literals scripts
  pub tests_are : tests ≡ tests_of literals scripts
  pub is : text ≡ lines_text (texts_of (scripts_lines scripts))

abbrev pub IsTestsText : ℕ → List ℕ → Type 0
IsTestsText literals text = (tests : List Test) × SpellsTests literals tests text

-- ---- which tests have a text

-- a value of a heap of so many objects
abbrev pub IsValue : ℕ → Value → Type 0
IsValue objects (Int number) = FitsSigned w32 number
IsValue objects Null = Unit {0}
IsValue objects (Ref object) = object < objects

abbrev pub AreValues : ℕ → List Value → Type 0
AreValues objects [] = Unit {0}
AreValues objects (value ∷ values) = IsValue objects value × AreValues objects values

-- objects with exact types that have texts, and values of a heap of so many objects
abbrev pub AreObjects : ℕ → List Object → Type 0
AreObjects objects [] = Unit {0}
AreObjects objects (object ∷ others) = (IsExact object.kind × AreValues objects object.values) × AreObjects objects others

abbrev pub kinds_of : List Object → List ExactType
kinds_of objects = map (λ (object : Object). object.kind) objects

-- an ending that has a text, in a heap of so many objects: the bounds of an exploration have none
abbrev pub IsEnding : ℕ → Ending → Type 0
IsEnding objects (Returned None) = Unit {0}
IsEnding objects (Returned (Some value)) = IsValue objects value
IsEnding objects (Threw object) = object < objects
IsEnding objects (IllTyped place) = IsPlace place
IsEnding objects (Past K) = ⊥
IsEnding objects (Past Array) = ⊥
IsEnding objects (Past Alloc) = Unit {0}
IsEnding objects (Past Loops) = Unit {0}
IsEnding objects (Past Depth) = Unit {0}
IsEnding objects (Past Steps) = Unit {0}

-- The heap begins with that many input objects and goes on with that many literals. All its objects and the ending have texts.
pub record IsFinal (inputs literals : ℕ) (how : Ending) (heap : Heap) : Type 0 where
  pub inputs_there : inputs ≤ length heap.objects
  pub literals_there : take literals (drop inputs heap.objects) ≡ literal_objects literals
  pub objects : AreObjects (length heap.objects) heap.objects
  pub ending : IsEnding (length heap.objects) how

-- a test that has a text in a world of so many literals
pub record IsTest (literals : ℕ) (test : Test) : Type 0 where
  pub target : IsTarget test.target
  pub bounds : IsRunBounds test.bounds
  pub args : AreValues (length test.heap.objects) test.input.args
  pub inputs : AreObjects (length test.heap.objects) test.input.heap.objects
  pub kinds : kinds_of (take (length test.input.heap.objects) test.heap.objects) ≡ kinds_of test.input.heap.objects
  pub final : IsFinal (length test.input.heap.objects) literals test.ending test.heap

abbrev pub AreTests : ℕ → List Test → Type 0
AreTests literals [] = Unit {0}
AreTests literals (test ∷ tests) = IsTest literals test × AreTests literals tests
