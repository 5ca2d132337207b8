-- The endings that a test may state, as its text writes them.
use Rattle.std.proofs.Common.{◌≡◌, ℕ, Option, None, Some, List, [], ◌∷◌, ◌++◌, length, map, sym, ◌∙◌, ap, append_assoc}
use Rattle.std.specs.Prelude.{codes}
use Rattle.kb_grammar.specs.Lines.{lines_text}
use Rattle.kb_grammar.proofs.LineLaws.{lines_text-++}
use Rattle.kb_heap.specs.declared.bounds.Bound.TheVariants.{K, Array, Alloc, Loops, Depth, Steps}
use Rattle.kb_heap.specs.declared.ending.Ending.{Ending}
use Rattle.kb_heap.specs.declared.ending.Ending.TheVariants.{Returned, Threw, IllTyped, Past}
use Rattle.kb_test_lines.specs.declared.outcomes.RunBound.TheVariants.{Alloc as alloc_bound, Loops as loops_bound, Depth as depth_bound, Steps as steps_bound}
use Rattle.kb_test_lines.specs.declared.outcomes.Outcome.{Outcome}
use Rattle.kb_test_lines.specs.declared.outcomes.Outcome.TheVariants.{Returns, Throws, IllTyped as ill_typed_at, Past as past_bound}
use Rattle.kb_test_lines.specs.declared.lines.Line.{Line}
use Rattle.kb_test_lines.specs.declared.lines.Line.TheVariants.{Method, Limit, Arg, Ends, End}
use Rattle.kb_test.specs.declared.script.Script.{Script}
use Rattle.kb_test.specs.declared.test_case.Test.{Test}
use Rattle.kb_test_lines.specs.Lines.{outcome_text, line_text, texts_of}
use Rattle.kb_test.specs.Scripts.{in_lines, out_lines, new_lines, script_lines}
use Rattle.kb_test.specs.Writing.{reference_of, word_of, words_of, listeds_of, outs_of, news_of, ending_text, heap_lines, run_text, first_lines, text_with, test_text}
use Rattle.kb_test_lines.proofs.Texts.{texts_of-++}

-- what a text says of the ending, if a test may state it
abbrev pub outcome_of : ℕ → ℕ → Ending → Option Outcome
outcome_of inputs literals (Returned None) = Some (Returns None)
outcome_of inputs literals (Returned (Some value)) = Some (Returns (Some (word_of inputs literals value)))
outcome_of inputs literals (Threw object) = Some (Throws (reference_of inputs literals object))
outcome_of inputs literals (IllTyped place) = Some (ill_typed_at place)
outcome_of inputs literals (Past K) = None
outcome_of inputs literals (Past Array) = None
outcome_of inputs literals (Past Alloc) = Some (past_bound alloc_bound)
outcome_of inputs literals (Past Loops) = Some (past_bound loops_bound)
outcome_of inputs literals (Past Depth) = Some (past_bound depth_bound)
outcome_of inputs literals (Past Steps) = Some (past_bound steps_bound)

-- what the text of a test says, where its ending is written so
abbrev pub script_with : ℕ → ℕ → Outcome → Test → Script
script_with inputs literals outcome test = record {
  target = test.target;
  bounds = test.bounds;
  args = words_of inputs literals test.input.args;
  inputs = listeds_of inputs literals test.input.heap.objects;
  outcome = outcome;
  outs = outs_of inputs literals test.heap.objects;
  news = news_of inputs literals test.heap.objects;
}

abbrev pub script_of : ℕ → Outcome → Test → Script
script_of literals outcome test = script_with (length test.input.heap.objects) literals outcome test

same_ending : (inputs literals : ℕ) (ending : Ending) (outcome : Outcome) → outcome_of inputs literals ending ≡ Some outcome → ending_text inputs literals ending ≡ outcome_text outcome
unfolding ending_text outcome_text
same_ending inputs literals (Returned None) outcome e = let same : Returns None ≡ outcome = cc in ap outcome_text same
same_ending inputs literals (Returned (Some value)) outcome e = let same : Returns (Some (word_of inputs literals value)) ≡ outcome = cc in ap outcome_text same
same_ending inputs literals (Threw object) outcome e = let same : Throws (reference_of inputs literals object) ≡ outcome = cc in ap outcome_text same
same_ending inputs literals (IllTyped place) outcome e = let same : ill_typed_at place ≡ outcome = cc in ap outcome_text same
same_ending inputs literals (Past K) outcome e = absurd cc
same_ending inputs literals (Past Array) outcome e = absurd cc
same_ending inputs literals (Past Alloc) outcome e = let same : past_bound alloc_bound ≡ outcome = cc in ap outcome_text same
same_ending inputs literals (Past Loops) outcome e = let same : past_bound loops_bound ≡ outcome = cc in ap outcome_text same
same_ending inputs literals (Past Depth) outcome e = let same : past_bound depth_bound ≡ outcome = cc in ap outcome_text same
same_ending inputs literals (Past Steps) outcome e = let same : past_bound steps_bound ≡ outcome = cc in ap outcome_text same

-- the text of a test is that of the lines that say it
pub test_text-is : (literals : ℕ) (test : Test) (outcome : Outcome) → outcome_of (length test.input.heap.objects) literals test.ending ≡ Some outcome
    → test_text literals test ≡ lines_text (texts_of (script_lines (script_of literals outcome test)))
unfolding line_text
test_text-is literals test outcome written =
    ap (λ (l : List ℕ). lines_text (texts_of first) ++ (lines_text (l ∷ texts_of heap) ++ 101 ∷ 110 ∷ 100 ∷ 10 ∷ [])) (same_ending count literals test.ending outcome written)
    ∙ ap (λ (l : List ℕ). lines_text (texts_of first) ++ l)
    (sym (lines_text-++ (outcome_text outcome ∷ texts_of heap) (texts_of (End ∷ []))) ∙ ap (λ (ls : List (List ℕ)). lines_text (outcome_text outcome ∷ ls)) (sym (texts_of-++ heap (End ∷ []))))
    ∙ sym (lines_text-++ (texts_of first) (texts_of last))
    ∙ ap lines_text (sym (texts_of-++ first last))
    ∙ ap (λ (ls : List Line). lines_text (texts_of ls)) all_lines
  where
    count : ℕ
    count = length test.input.heap.objects

    args : List Line
    args = map Arg (words_of count literals test.input.args)

    ins : List Line
    ins = in_lines 0 (listeds_of count literals test.input.heap.objects)

    first : List Line
    first = first_lines count literals test

    heap : List Line
    heap = heap_lines count literals test.heap.objects

    last : List Line
    last = Ends outcome ∷ (heap ++ End ∷ [])

    all_lines : first ++ last ≡ script_lines (script_of literals outcome test)
    all_lines =
        ap (λ (ls : List Line). Method test.target ∷ Limit test.bounds ∷ ls)
        (append_assoc args ins last
        ∙ ap (λ (ls : List Line). args ++ (ins ++ Ends outcome ∷ ls)) (append_assoc (out_lines 0 (outs_of count literals test.heap.objects)) (new_lines 0 (news_of count literals test.heap.objects)) (End ∷ [])))

-- the text of a test, piece by piece behind another
text_of_parts : (old one two run end : List ℕ) (args ins : List Line)
    → (((((old ++ (one ++ 10 ∷ [])) ++ (two ++ 10 ∷ [])) ++ lines_text (texts_of args)) ++ lines_text (texts_of ins)) ++ run) ++ end
    ≡ old ++ ((one ++ 10 ∷ (two ++ 10 ∷ lines_text (texts_of (args ++ ins)))) ++ (run ++ end))
text_of_parts old one two run end args ins = rw (texts_of-++ args ins, lines_text-++ (texts_of args) (texts_of ins)) (simp append_assoc)

pub test_written : (literals count : ℕ) (test : Test) (old : List ℕ) → count ≡ length test.input.heap.objects
    → (((((old ++ (line_text (Method test.target) ++ 10 ∷ [])) ++ (line_text (Limit test.bounds) ++ 10 ∷ [])) ++ lines_text (texts_of (map Arg (words_of count literals test.input.args))))
    ++ lines_text (texts_of (in_lines 0 (listeds_of count literals test.input.heap.objects)))) ++ run_text count literals test.ending test.heap.objects) ++ codes "end\n"
    ≡ old ++ test_text literals test
test_written literals count test old e =
    text_of_parts old (line_text (Method test.target)) (line_text (Limit test.bounds)) (run_text count literals test.ending test.heap.objects) (codes "end\n")
    (map Arg (words_of count literals test.input.args)) (in_lines 0 (listeds_of count literals test.input.heap.objects))
    ∙ ap (λ (n : ℕ). old ++ text_with n literals test) e
