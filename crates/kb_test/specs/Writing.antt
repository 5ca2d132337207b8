-- What is written of a test: the text that says it.
use Rattle.std.specs.Prelude.{ℕ, ◌+◌, ◌-◌, nat_lt, if◌then◌else◌, None, Some, List, ◌∷◌, ◌++◌, length, map, take, drop, codes}
use Rattle.kb_grammar.specs.Lines.{lines_text}
use Rattle.kb_heap.specs.declared.heap.Value.{Value}
use Rattle.kb_heap.specs.declared.heap.Value.TheVariants.{Int, Null, Ref}
use Rattle.kb_heap.specs.declared.heap.Object.{Object}
use Rattle.kb_heap.specs.declared.ending.Ending.{Ending}
use Rattle.kb_heap.specs.declared.ending.Ending.TheVariants.{Returned, Threw, IllTyped, Past}
use Rattle.kb_test_lines.specs.Words.{reference_text, word_text}
use Rattle.kb_heap_words.specs.Words.{place_text, bound_name}
use Rattle.kb_test_lines.specs.Lines.{texts_of}
use Rattle.kb_test.specs.Scripts.{in_lines, out_lines, new_lines}
use Rattle.kb_test_lines.specs.declared.words.Reference.{Reference}
use Rattle.kb_test_lines.specs.declared.words.Reference.TheVariants.{Input, Literal, Made}
use Rattle.kb_test_lines.specs.declared.words.Word.{Word}
use Rattle.kb_test_lines.specs.declared.words.Word.TheVariants.{Int as int_word, Null as null_word, Object as object_word}
use Rattle.kb_test_lines.specs.declared.lines.Listed.{Listed}
use Rattle.kb_test_lines.specs.declared.lines.Line.{Line}
use Rattle.kb_test_lines.specs.declared.lines.Line.TheVariants.{Method, Limit, Arg}
use Rattle.kb_test.specs.declared.test_case.Test.{Test}

-- the object of that number in a heap, of which so many are input objects and so many behind them literals
abbrev pub reference_of : ℕ → ℕ → ℕ → Reference
reference_of inputs literals object =
    if nat_lt object inputs then Input object
    else if nat_lt (object - inputs) literals then Literal (object - inputs)
    else Made (object - inputs - literals)

abbrev pub word_of : ℕ → ℕ → Value → Word
word_of inputs literals (Int number) = int_word number
word_of inputs literals Null = null_word
word_of inputs literals (Ref object) = object_word (reference_of inputs literals object)

abbrev pub words_of : ℕ → ℕ → List Value → List Word
words_of inputs literals values = map (word_of inputs literals) values

abbrev pub listed_of : ℕ → ℕ → Object → Listed
listed_of inputs literals object = record { kind = object.kind; values = words_of inputs literals object.values }

abbrev pub listeds_of : ℕ → ℕ → List Object → List Listed
listeds_of inputs literals objects = map (listed_of inputs literals) objects

-- the last values of the input objects, and the objects of the run
abbrev pub outs_of : ℕ → ℕ → List Object → List (List Word)
outs_of inputs literals objects = map (λ (object : Object). words_of inputs literals object.values) (take inputs objects)

abbrev pub news_of : ℕ → ℕ → List Object → List Listed
news_of inputs literals objects = listeds_of inputs literals (drop (inputs + literals) objects)

-- How a run has ended. An ending past a bound of explorations, which no run has and no test may state, is written by its word too.
unfoldable pub ending_text : ℕ → ℕ → Ending → List ℕ
ending_text inputs literals (Returned None) = codes "returns"
ending_text inputs literals (Returned (Some value)) = codes "returns " ++ word_text (word_of inputs literals value)
ending_text inputs literals (Threw object) = codes "throws " ++ reference_text (reference_of inputs literals object)
ending_text inputs literals (IllTyped place) = codes "illtyped " ++ place_text place
ending_text inputs literals (Past bound) = codes "past " ++ bound_name bound

-- the lines on the objects of the heap that a run leaves
abbrev pub heap_lines : ℕ → ℕ → List Object → List Line
heap_lines inputs literals objects = out_lines 0 (outs_of inputs literals objects) ++ new_lines 0 (news_of inputs literals objects)

-- The text on the end of a run over so many input objects: its ending, the last values of the input objects, and the objects of
-- the run.
abbrev pub run_text : ℕ → ℕ → Ending → List Object → List ℕ
run_text inputs literals ending objects = lines_text (ending_text inputs literals ending ∷ texts_of (heap_lines inputs literals objects))

-- what stands before the ending
abbrev pub first_lines : ℕ → ℕ → Test → List Line
first_lines inputs literals test =
    Method test.target ∷ Limit test.bounds ∷ (map Arg (words_of inputs literals test.input.args) ++ in_lines 0 (listeds_of inputs literals test.input.heap.objects))

abbrev pub text_with : ℕ → ℕ → Test → List ℕ
text_with inputs literals test = lines_text (texts_of (first_lines inputs literals test)) ++ (run_text inputs literals test.ending test.heap.objects ++ codes "end\n")

-- the text of the test
abbrev pub test_text : ℕ → Test → List ℕ
test_text literals test = text_with (length test.input.heap.objects) literals test
