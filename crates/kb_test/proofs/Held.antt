-- Tests that a text spells are such as have texts.
use Rattle.std.proofs.Common.{◌≡◌, ◌≢◌, ℕ, zero, suc, ◌+◌, ◌<◌, true, None, Some, List, [], ◌∷◌, ◌++◌, length, length-append, take, drop, refl, sym, ◌∙◌, ap, arith, subst}
use Rattle.std.specs.List.{list_all}
use Rattle.std.proofs.lemmas.Bool.{ltb-true}
use Rattle.std.proofs.lemmas.List.{length-map, length-replicate}
use Rattle.std.proofs.Math.Seq.{drop-append_seam, take-append_seam}
use Rattle.kb_names.specs.declared.types.ExactType.{ExactType}
use Rattle.kb_heap.specs.declared.heap.Object.{Object}
use Rattle.kb_test_lines.specs.declared.words.Reference.{Reference}
use Rattle.kb_test_lines.specs.declared.words.Reference.TheVariants.{Input, Literal, Made}
use Rattle.kb_test_lines.specs.declared.words.Word.{Word}
use Rattle.kb_test_lines.specs.declared.words.Word.TheVariants.{Int, Null, Object as object_word}
use Rattle.kb_test_lines.specs.declared.words.Limits.{Limits}
use Rattle.kb_test_lines.specs.declared.lines.Listed.{Listed}
use Rattle.kb_test_lines.specs.declared.outcomes.RunBound.TheVariants.{Alloc, Loops, Depth, Steps}
use Rattle.kb_test_lines.specs.declared.outcomes.Outcome.{Outcome}
use Rattle.kb_test_lines.specs.declared.outcomes.Outcome.TheVariants.{Returns, Throws, IllTyped, Past}
use Rattle.kb_test.specs.declared.script.Script.{Script}
use Rattle.kb_test.specs.declared.test_case.Test.{Test}
use Rattle.kb_test_lines.specs.Words.{IsWord, AreWords, AreWordLists, is_below, word_below, words_below}
use Rattle.kb_heap_words.specs.Words.{IsExact}
use Rattle.kb_test_lines.specs.Lines.{AreListed, IsOutcome, listed_below, outcome_below}
use Rattle.kb_test.specs.Scripts.{limits_of, IsScript, AreScripts}
use Rattle.kb_heap.specs.Heap.{literal}
use Rattle.kb_test.specs.Tests.{number_of, value_of, values_of, object_of, objects_of, last_objects, ending_of, literal_objects, test_of, tests_of, SpellsTests, IsValue, AreValues, AreObjects, kinds_of, IsEnding, IsTest, AreTests}
use Rattle.kb_test.proofs.Steps.{both, AreBelow, are_below}
use Rattle.kb_test.proofs.OneText.{last_many}

module _ (inputs literals made : ℕ) where
  abbrev limits : Limits
  limits = record { inputs = inputs; literals = literals; made = made }

  abbrev total : ℕ
  total = inputs + literals + made

  number_there : (reference : Reference) → is_below limits reference ≡ true → number_of inputs literals reference < total
  number_there (Input number) h = omega (arith, ltb-true number inputs h)
  number_there (Literal number) h = omega (arith, ltb-true number literals h)
  number_there (Made number) h = omega (arith, ltb-true number made h)

  value_there : (word : Word) → IsWord word → word_below limits word ≡ true → IsValue total (value_of inputs literals word)
  value_there (Int number) is h = is
  value_there Null is h = tt
  value_there (object_word reference) is h = number_there reference h

  values_there : (words : List Word) → AreWords words → words_below limits words ≡ true → AreValues total (values_of inputs literals words)
  values_there [] are h = tt
  values_there (word ∷ words) are h =
      let parts = both (word_below limits word) (words_below limits words) h in
      (value_there word are.0 parts.0, values_there words are.1 parts.1)

  objects_there : (listeds : List Listed) → AreListed listeds → list_all (listed_below limits) listeds ≡ true → AreObjects total (objects_of inputs literals listeds)
  objects_there [] are h = tt
  objects_there (listed ∷ others) are h =
      let parts = both (listed_below limits listed) (list_all (listed_below limits) others) h in
      ((are.0.0, values_there listed.values are.0.1 parts.0), objects_there others are.1 parts.1)

  last_there : (listeds : List Listed) (lists : List (List Word)) → AreListed listeds → AreWordLists lists → list_all (words_below limits) lists ≡ true
      → AreObjects total (last_objects inputs literals listeds lists)
  last_there [] lists are good h = tt
  last_there (listed ∷ others) [] are good h = tt
  last_there (listed ∷ others) (words ∷ lists) are good h =
      let parts = both (words_below limits words) (list_all (words_below limits) lists) h in
      ((are.0.0, values_there words good.0 parts.0), last_there others lists are.1 good.1 parts.1)

  ending_there : (outcome : Outcome) → IsOutcome outcome → outcome_below limits outcome ≡ true → IsEnding total (ending_of inputs literals outcome)
  ending_there (Returns None) is h = tt
  ending_there (Returns (Some word)) is h = value_there word is h
  ending_there (Throws reference) is h = number_there reference h
  ending_there (IllTyped place) is h = is
  ending_there (Past Alloc) is h = tt
  ending_there (Past Loops) is h = tt
  ending_there (Past Depth) is h = tt
  ending_there (Past Steps) is h = tt

-- an object keeps its type
kinds_last : (inputs literals : ℕ) (listeds : List Listed) (lists : List (List Word)) → length lists ≡ length listeds
    → kinds_of (last_objects inputs literals listeds lists) ≡ kinds_of (objects_of inputs literals listeds)
kinds_last inputs literals [] lists e = refl
kinds_last inputs literals (listed ∷ others) [] e = absurd (omega (arith, e))
kinds_last inputs literals (listed ∷ others) (words ∷ lists) e = ap (λ (ks : List ExactType). listed.kind ∷ ks) (kinds_last inputs literals others lists (omega (arith, e)))

-- ---- literals

not_empty : (byte : ℕ) (bytes : List ℕ) → byte ∷ bytes ≢ []
not_empty byte bytes e = cc

string_is : IsExact literal.kind
string_is = (
  not_empty 106 _,
  (omega arith, (omega arith, (omega arith, (omega arith, (omega arith, (omega arith, (omega arith, (omega arith, (omega arith, (omega arith, (omega arith, (omega arith, (omega arith, (omega arith, (omega arith, (omega arith, tt)))))))))))))))),
)

pub literals_are : (objects literals : ℕ) → AreObjects objects (literal_objects literals)
literals_are objects zero = tt
literals_are objects (suc literals) = ((string_is, tt), literals_are objects literals)

AreObjects-++ : (objects : ℕ) (xs ys : List Object) → AreObjects objects xs → AreObjects objects ys → AreObjects objects (xs ++ ys)
AreObjects-++ objects [] ys p q = q
AreObjects-++ objects (x ∷ xs) ys p q = (p.0, AreObjects-++ objects xs ys p.1 q)

-- ---- tests

module _ (literals : ℕ) (script : Script) (is : IsScript literals script) where
  abbrev count : ℕ
  count = length script.inputs

  abbrev last : List Object
  last = last_objects count literals script.inputs script.outs

  abbrev made : List Object
  made = objects_of count literals script.news

  abbrev heap : List Object
  heap = last ++ (literal_objects literals ++ made)

  below : AreBelow (limits_of literals script) script
  below = are_below (limits_of literals script) script is.there

  many : length last ≡ count
  many = last_many count literals script.inputs script.outs is.as_many

  all_of : length heap ≡ total count literals (length script.news)
  all_of = omega (arith, many, length-append last (literal_objects literals ++ made), length-append (literal_objects literals) made, length-replicate literals literal, length-map script.news (object_of count literals))

  inputs_are : length (objects_of count literals script.inputs) ≡ count
  inputs_are = length-map script.inputs (object_of count literals)

  in_front : take count heap ≡ last
  in_front = ap (λ (n : ℕ). take n heap) (sym many) ∙ take-append_seam last (literal_objects literals ++ made)

  behind : take literals (drop count heap) ≡ literal_objects literals
  behind =
      ap (λ (n : ℕ). take literals (drop n heap)) (sym many) ∙ ap (take literals) (drop-append_seam last (literal_objects literals ++ made))
      ∙ ap (λ (n : ℕ). take n (literal_objects literals ++ made)) (sym (length-replicate literals literal)) ∙ take-append_seam (literal_objects literals) made

  is_test : IsTest literals (test_of literals script)
  is_test = record {
    target = is.target;
    bounds = is.bounds;
    args = subst (λ (n : ℕ). AreValues n (values_of count literals script.args)) (sym all_of) (values_there count literals (length script.news) script.args is.args below.args);
    inputs = subst (λ (n : ℕ). AreObjects n (objects_of count literals script.inputs)) (sym all_of) (objects_there count literals (length script.news) script.inputs is.inputs below.inputs);
    kinds = ap (λ (n : ℕ). kinds_of (take n heap)) inputs_are ∙ ap kinds_of in_front ∙ kinds_last count literals script.inputs script.outs is.as_many;
    final = record {
      inputs_there = omega (arith, inputs_are, all_of);
      literals_there = ap (λ (n : ℕ). take literals (drop n heap)) inputs_are ∙ behind;
      objects = subst (λ (n : ℕ). AreObjects n heap) (sym all_of)
          (AreObjects-++ (total count literals (length script.news)) last (literal_objects literals ++ made)
          (last_there count literals (length script.news) script.inputs script.outs is.inputs is.outs below.outs)
          (AreObjects-++ (total count literals (length script.news)) (literal_objects literals) made (literals_are (total count literals (length script.news)) literals)
          (objects_there count literals (length script.news) script.news is.news below.news)));
      ending = subst (λ (n : ℕ). IsEnding n (ending_of count literals script.outcome)) (sym all_of)
          (ending_there count literals (length script.news) script.outcome is.outcome below.outcome);
    };
  }

are_tests : (literals : ℕ) (scripts : List Script) → AreScripts literals scripts → AreTests literals (tests_of literals scripts)
are_tests literals [] are = tt
are_tests literals (script ∷ scripts) are = (is_test literals script are.0, are_tests literals scripts are.1)

pub tests_are_held : (literals : ℕ) (tests : List Test) (text : List ℕ) → SpellsTests literals tests text → AreTests literals tests
tests_are_held literals tests text spells = subst (AreTests literals) (sym spells.tests_are) (are_tests literals spells.scripts spells.are)
