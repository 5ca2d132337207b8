-- What is written of a test is a text of it.
use Rattle.std.proofs.Common.{◌≡◌, ℕ, zero, suc, ◌+◌, ◌-◌, ◌<◌, ◌≤◌, ◌^◌, Bool, true, false, ◌&&◌, if◌then◌else◌, Option, None, Some, List, [], ◌∷◌, ◌++◌, length, length-append, map, take, drop, refl, sym, ◌∙◌, ap, arith, append_assoc, append-nil, subst}
use Rattle.std.specs.Prelude.{nat_lt, slice_get, replicate, ℤ, IsTrue, IsSome, IfSome}
use Rattle.std.specs.List.{list_all, flat_map}
use Rattle.std.proofs.lemmas.Bool.{ltb-true, lt-ltb}
use Rattle.std.proofs.lemmas.Bool.Decides.{nat_tests}
use Rattle.std.proofs.lemmas.List.{take-append-drop, length-map, length-take-le, length-drop, drop-drop}
use Rattle.std.proofs.lemmas.Option.{slice_get-get_or}
use Rattle.kb_grammar.specs.Lines.{lines_text}
use Rattle.kb_names.specs.declared.types.ExactType.{ExactType}
use Rattle.kb_names.specs.declared.types.ExactType.TheVariants.{Class}
use Rattle.kb_names.specs.declared.types.Target.{Target}
use Rattle.kb_heap.specs.declared.heap.Value.{Value}
use Rattle.kb_heap.specs.declared.heap.Value.TheVariants.{Int, Null, Ref}
use Rattle.kb_heap.specs.declared.heap.Object.{Object}
use Rattle.kb_heap.specs.declared.heap.Heap.{Heap}
use Rattle.kb_heap.specs.declared.heap.Input.{Input}
use Rattle.kb_heap.specs.declared.bounds.RunBounds.{RunBounds}
use Rattle.kb_heap.specs.declared.bounds.Bound.TheVariants.{K, Array, Alloc, Loops, Depth, Steps}
use Rattle.kb_heap.specs.declared.ending.Ending.{Ending}
use Rattle.kb_heap.specs.declared.ending.Ending.TheVariants.{Returned, Threw, IllTyped, Past}
use Rattle.kb_test_lines.specs.declared.words.Reference.{Reference}
use Rattle.kb_test_lines.specs.declared.words.Reference.TheVariants.{Input as input_object, Literal, Made}
use Rattle.kb_test_lines.specs.declared.words.Word.{Word}
use Rattle.kb_test_lines.specs.declared.words.Word.TheVariants.{Object as object_word}
use Rattle.kb_test_lines.specs.declared.words.Limits.{Limits}
use Rattle.kb_test_lines.specs.declared.lines.Listed.{Listed}
use Rattle.kb_test_lines.specs.declared.outcomes.RunBound.TheVariants.{Alloc as alloc_bound, Loops as loops_bound, Depth as depth_bound, Steps as steps_bound}
use Rattle.kb_test_lines.specs.declared.outcomes.Outcome.{Outcome}
use Rattle.kb_test_lines.specs.declared.outcomes.Outcome.TheVariants.{Returns, Throws, IllTyped as ill_typed_at, Past as past_bound}
use Rattle.kb_test_lines.specs.declared.lines.Line.{Line}
use Rattle.kb_test.specs.declared.script.Script.{Script}
use Rattle.kb_test.specs.declared.test_case.Test.{Test}
use Rattle.kb_test_lines.specs.Words.{IsReference, IsWord, AreWords, AreWordLists, is_below, word_below, words_below}
use Rattle.kb_test_lines.specs.Lines.{AreListed, IsOutcome, listed_below, outcome_below, texts_of}
use Rattle.kb_test.specs.Scripts.{script_lines, script_below, limits_of, IsScript, scripts_lines}
use Rattle.kb_test.specs.Tests.{number_of, value_of, values_of, object_of, objects_of, last_objects, ending_of, literal_objects, test_of, SpellsTests, IsValue, AreValues, AreObjects, kinds_of, IsEnding, IsFinal, IsTest}
use Rattle.kb_test.specs.Writing.{reference_of, word_of, words_of, listed_of, listeds_of, outs_of, news_of, test_text}
use Rattle.kb_test.proofs.Stated.{outcome_of, script_of, test_text-is}
use Rattle.kb_test.specs.Refusals.{Appends}
use Rattle.kb_grammar.proofs.LineLaws.{lines_text-++}
use Rattle.kb_test.proofs.Steps.{and_both, is_below_all}

-- ---- numbers, there and back

module _ (inputs literals : ℕ) where
  number_back : (object : ℕ) → number_of inputs literals (reference_of inputs literals object) ≡ object
  number_back object = go (nat_lt object inputs) refl (nat_lt (object - inputs) literals) refl
    where
      go : (first : Bool) → nat_lt object inputs ≡ first → (second : Bool) → nat_lt (object - inputs) literals ≡ second
          → number_of inputs literals (if first then input_object object else if second then Literal (object - inputs) else Made (object - inputs - literals)) ≡ object
      go true e second f = refl
      go false e true f = behind e
        where
          behind : nat_lt object inputs ≡ false → inputs + (object - inputs) ≡ object
          behind h = grind (arith, nat_tests)
      go false e false f = behind e f
        where
          behind : nat_lt object inputs ≡ false → nat_lt (object - inputs) literals ≡ false → inputs + literals + (object - inputs - literals) ≡ object
          behind h k = grind (arith, nat_tests)

  value_back : (value : Value) → value_of inputs literals (word_of inputs literals value) ≡ value
  value_back (Int number) = refl
  value_back Null = refl
  value_back (Ref object) = ap (λ (n : ℕ). Ref n) (number_back object)

  values_back : (values : List Value) → values_of inputs literals (words_of inputs literals values) ≡ values
  values_back [] = refl
  values_back (value ∷ values) = ap (λ (v : Value). v ∷ values_of inputs literals (words_of inputs literals values)) (value_back value) ∙ ap (λ (vs : List Value). value ∷ vs) (values_back values)

  object_back : (object : Object) → object_of inputs literals (listed_of inputs literals object) ≡ object
  object_back object = ap (λ (vs : List Value). (let made : Object = record { kind = object.kind; values = vs } in made)) (values_back object.values)

  objects_back : (objects : List Object) → objects_of inputs literals (listeds_of inputs literals objects) ≡ objects
  objects_back [] = refl
  objects_back (object ∷ objects) =
      ap (λ (o : Object). o ∷ objects_of inputs literals (listeds_of inputs literals objects)) (object_back object) ∙ ap (λ (os : List Object). object ∷ os) (objects_back objects)

  -- input objects that have kept their types
  last_back : (firsts lasts : List Object) → kinds_of lasts ≡ kinds_of firsts
      → last_objects inputs literals (listeds_of inputs literals firsts) (map (λ (object : Object). words_of inputs literals object.values) lasts) ≡ lasts
  last_back [] [] e = refl
  last_back [] (last ∷ lasts) e = absurd cc
  last_back (first ∷ firsts) [] e = refl
  last_back (first ∷ firsts) (last ∷ lasts) e =
      let kind : last.kind ≡ first.kind = cc in
      let kinds : kinds_of lasts ≡ kinds_of firsts = cc in
      let others : List (List Word) = map (λ (object : Object). words_of inputs literals object.values) lasts in
      ap (λ (k : ExactType). (let made : Object = record { kind = k; values = values_of inputs literals (words_of inputs literals last.values) } in made) ∷ last_objects inputs literals (listeds_of inputs literals firsts) others) (sym kind)
      ∙ ap (λ (o : Object). o ∷ last_objects inputs literals (listeds_of inputs literals firsts) others) (object_back last)
      ∙ ap (λ (os : List Object). last ∷ os) (last_back firsts lasts kinds)

  ending_back : (ending : Ending) (outcome : Outcome) → outcome_of inputs literals ending ≡ Some outcome → ending_of inputs literals outcome ≡ ending
  ending_back (Returned None) outcome e = let same : Returns None ≡ outcome = cc in ap (ending_of inputs literals) (sym same)
  ending_back (Returned (Some value)) outcome e =
      let same : Returns (Some (word_of inputs literals value)) ≡ outcome = cc in
      ap (ending_of inputs literals) (sym same) ∙ ap (λ (v : Value). Returned (Some v)) (value_back value)
  ending_back (Threw object) outcome e =
      let same : Throws (reference_of inputs literals object) ≡ outcome = cc in
      ap (ending_of inputs literals) (sym same) ∙ ap (λ (n : ℕ). Threw n) (number_back object)
  ending_back (IllTyped place) outcome e = let same : ill_typed_at place ≡ outcome = cc in ap (ending_of inputs literals) (sym same)
  ending_back (Past K) outcome e = absurd cc
  ending_back (Past Array) outcome e = absurd cc
  ending_back (Past Alloc) outcome e = let same : past_bound alloc_bound ≡ outcome = cc in ap (ending_of inputs literals) (sym same)
  ending_back (Past Loops) outcome e = let same : past_bound loops_bound ≡ outcome = cc in ap (ending_of inputs literals) (sym same)
  ending_back (Past Depth) outcome e = let same : past_bound depth_bound ≡ outcome = cc in ap (ending_of inputs literals) (sym same)
  ending_back (Past Steps) outcome e = let same : past_bound steps_bound ≡ outcome = cc in ap (ending_of inputs literals) (sym same)

  -- ---- what is named is there

  module _ (objects : ℕ) (numbered : objects ≤ 2 ^ 32) where
    abbrev made_limits : Limits
    made_limits = record { inputs = inputs; literals = literals; made = objects - (inputs + literals) }

    reference_is : (object : ℕ) → object < objects → IsReference (reference_of inputs literals object)
    reference_is object lt = go (nat_lt object inputs) (nat_lt (object - inputs) literals)
      where
        go : (first second : Bool) → IsReference (if first then input_object object else if second then Literal (object - inputs) else Made (object - inputs - literals))
        go true second = omega (arith, lt, numbered)
        go false true = omega (arith, lt, numbered)
        go false false = omega (arith, lt, numbered)

    reference_below : (object : ℕ) → object < objects → is_below made_limits (reference_of inputs literals object) ≡ true
    reference_below object lt = go (nat_lt object inputs) refl (nat_lt (object - inputs) literals) refl
      where
        go : (first : Bool) → nat_lt object inputs ≡ first → (second : Bool) → nat_lt (object - inputs) literals ≡ second
            → is_below made_limits (if first then input_object object else if second then Literal (object - inputs) else Made (object - inputs - literals)) ≡ true
        go true e second f = e
        go false e true f = f
        go false e false f = lt-ltb (object - inputs - literals) (objects - (inputs + literals)) (grind (arith, nat_tests))

    word_is : (value : Value) → IsValue objects value → IsWord (word_of inputs literals value)
    word_is (Int number) h = h
    word_is Null h = tt
    word_is (Ref object) h = reference_is object h

    words_are : (values : List Value) → AreValues objects values → AreWords (words_of inputs literals values)
    words_are [] h = tt
    words_are (value ∷ values) h = (word_is value h.0, words_are values h.1)

    word_there : (value : Value) → IsValue objects value → word_below made_limits (word_of inputs literals value) ≡ true
    word_there (Int number) h = refl
    word_there Null h = refl
    word_there (Ref object) h = reference_below object h

    words_there : (values : List Value) → AreValues objects values → words_below made_limits (words_of inputs literals values) ≡ true
    words_there [] h = refl
    words_there (value ∷ values) h = and_both (word_below made_limits (word_of inputs literals value)) _ (word_there value h.0) (words_there values h.1)

    listed_are : (all : List Object) → AreObjects objects all → AreListed (listeds_of inputs literals all)
    listed_are [] h = tt
    listed_are (object ∷ all) h = ((h.0.0, words_are object.values h.0.1), listed_are all h.1)

    listed_there : (all : List Object) → AreObjects objects all → list_all (listed_below made_limits) (listeds_of inputs literals all) ≡ true
    listed_there [] h = refl
    listed_there (object ∷ all) h = and_both (listed_below made_limits (listed_of inputs literals object)) _ (words_there object.values h.0.1) (listed_there all h.1)

    lists_are : (all : List Object) → AreObjects objects all → AreWordLists (map (λ (object : Object). words_of inputs literals object.values) all)
    lists_are [] h = tt
    lists_are (object ∷ all) h = (words_are object.values h.0.1, lists_are all h.1)

    lists_there : (all : List Object) → AreObjects objects all → list_all (words_below made_limits) (map (λ (object : Object). words_of inputs literals object.values) all) ≡ true
    lists_there [] h = refl
    lists_there (object ∷ all) h = and_both (words_below made_limits (words_of inputs literals object.values)) _ (words_there object.values h.0.1) (lists_there all h.1)

    abbrev Good : Outcome → Type 0
    Good outcome = IsOutcome outcome × (outcome_below made_limits outcome ≡ true)

    outcome_is : (ending : Ending) (outcome : Outcome) → IsEnding objects ending → outcome_of inputs literals ending ≡ Some outcome → Good outcome
    outcome_is (Returned None) outcome h e = let same : Returns None ≡ outcome = cc in subst Good same (tt, refl)
    outcome_is (Returned (Some value)) outcome h e = let same : Returns (Some (word_of inputs literals value)) ≡ outcome = cc in subst Good same (word_is value h, word_there value h)
    outcome_is (Threw object) outcome h e = let same : Throws (reference_of inputs literals object) ≡ outcome = cc in subst Good same (reference_is object h, reference_below object h)
    outcome_is (IllTyped place) outcome h e = let same : ill_typed_at place ≡ outcome = cc in subst Good same (h, refl)
    outcome_is (Past K) outcome h e = absurd h
    outcome_is (Past Array) outcome h e = absurd h
    outcome_is (Past Alloc) outcome h e = let same : past_bound alloc_bound ≡ outcome = cc in subst Good same (tt, refl)
    outcome_is (Past Loops) outcome h e = let same : past_bound loops_bound ≡ outcome = cc in subst Good same (tt, refl)
    outcome_is (Past Depth) outcome h e = let same : past_bound depth_bound ≡ outcome = cc in subst Good same (tt, refl)
    outcome_is (Past Steps) outcome h e = let same : past_bound steps_bound ≡ outcome = cc in subst Good same (tt, refl)

-- ---- lists of objects

AreObjects-take : (objects n : ℕ) (all : List Object) → AreObjects objects all → AreObjects objects (take n all)
AreObjects-take objects zero all h = tt
AreObjects-take objects (suc n) [] h = tt
AreObjects-take objects (suc n) (object ∷ all) h = (h.0, AreObjects-take objects n all h.1)

AreObjects-drop : (objects n : ℕ) (all : List Object) → AreObjects objects all → AreObjects objects (drop n all)
AreObjects-drop objects zero all h = h
AreObjects-drop objects (suc n) [] h = tt
AreObjects-drop objects (suc n) (object ∷ all) h = AreObjects-drop objects n all h.1

-- an ending that has a text has an outcome
pub some_outcome : (inputs literals objects : ℕ) (ending : Ending) → IsEnding objects ending → (outcome : Outcome) × (outcome_of inputs literals ending ≡ Some outcome)
some_outcome inputs literals objects (Returned None) h = (_, refl)
some_outcome inputs literals objects (Returned (Some value)) h = (_, refl)
some_outcome inputs literals objects (Threw object) h = (_, refl)
some_outcome inputs literals objects (IllTyped place) h = (_, refl)
some_outcome inputs literals objects (Past K) h = absurd h
some_outcome inputs literals objects (Past Array) h = absurd h
some_outcome inputs literals objects (Past Alloc) h = (_, refl)
some_outcome inputs literals objects (Past Loops) h = (_, refl)
some_outcome inputs literals objects (Past Depth) h = (_, refl)
some_outcome inputs literals objects (Past Steps) h = (_, refl)

drop_twice : (inputs literals : ℕ) (xs : List Object) → drop literals (drop inputs xs) ≡ drop (inputs + literals) xs
drop_twice inputs literals xs = drop-drop literals inputs xs ∙ ap (λ (n : ℕ). drop n xs) (omega arith)

-- the heap in its parts
heap_parts : (inputs literals : ℕ) (objects : List Object) → take literals (drop inputs objects) ≡ literal_objects literals
    → take inputs objects ++ (literal_objects literals ++ drop (inputs + literals) objects) ≡ objects
heap_parts inputs literals objects there =
    ap (λ (os : List Object). take inputs objects ++ (os ++ drop (inputs + literals) objects)) (sym there)
    ∙ ap (λ (os : List Object). take inputs objects ++ (take literals (drop inputs objects) ++ os)) (sym (drop_twice inputs literals objects))
    ∙ ap (λ (os : List Object). take inputs objects ++ os) (take-append-drop literals (drop inputs objects))
    ∙ take-append-drop inputs objects

abbrev test_from : Target → RunBounds → List Object → List Value → Ending → List Object → Test
test_from target bounds objects args ending last =
    record { target = target; bounds = bounds; input = record { heap = record { objects = objects }; args = args }; ending = ending; heap = record { objects = last } }

module _ (literals : ℕ) (test : Test) (outcome : Outcome) (is : IsTest literals test) (written : outcome_of (length test.input.heap.objects) literals test.ending ≡ Some outcome) where
  abbrev count : ℕ
  count = length test.input.heap.objects

  -- the test of the text that is written
  test_back : test ≡ test_of literals (script_of literals outcome test)
  test_back = sym (same_count (length-map test.input.heap.objects (listed_of count literals)) ∙ back)
    where
      read : ℕ → Test
      read inputs =
          test_from test.target test.bounds (objects_of inputs literals (listeds_of count literals test.input.heap.objects)) (values_of inputs literals (words_of count literals test.input.args)) (ending_of inputs literals outcome)
          (last_objects inputs literals (listeds_of count literals test.input.heap.objects) (outs_of count literals test.heap.objects) ++ (literal_objects literals ++ objects_of inputs literals (news_of count literals test.heap.objects)))

      same_count : {n : ℕ} → n ≡ count → read n ≡ read count
      same_count e = ap read e

      back : read count ≡ test
      back =
          ap (λ (os : List Object). test_from test.target test.bounds os (values_of count literals (words_of count literals test.input.args)) (ending_of count literals outcome)
          (last_objects count literals (listeds_of count literals test.input.heap.objects) (outs_of count literals test.heap.objects) ++ (literal_objects literals ++ objects_of count literals (news_of count literals test.heap.objects)))) (objects_back count literals test.input.heap.objects)
          ∙ ap (λ (vs : List Value). test_from test.target test.bounds test.input.heap.objects vs (ending_of count literals outcome)
          (last_objects count literals (listeds_of count literals test.input.heap.objects) (outs_of count literals test.heap.objects) ++ (literal_objects literals ++ objects_of count literals (news_of count literals test.heap.objects)))) (values_back count literals test.input.args)
          ∙ ap (λ (e : Ending). test_from test.target test.bounds test.input.heap.objects test.input.args e
          (last_objects count literals (listeds_of count literals test.input.heap.objects) (outs_of count literals test.heap.objects) ++ (literal_objects literals ++ objects_of count literals (news_of count literals test.heap.objects)))) (ending_back count literals test.ending outcome written)
          ∙ ap (λ (os : List Object). test_from test.target test.bounds test.input.heap.objects test.input.args test.ending (os ++ (literal_objects literals ++ objects_of count literals (news_of count literals test.heap.objects))))
          (last_back count literals test.input.heap.objects (take count test.heap.objects) is.kinds)
          ∙ ap (λ (os : List Object). test_from test.target test.bounds test.input.heap.objects test.input.args test.ending (take count test.heap.objects ++ (literal_objects literals ++ os)))
          (objects_back count literals (drop (count + literals) test.heap.objects))
          ∙ ap (test_from test.target test.bounds test.input.heap.objects test.input.args test.ending) (heap_parts count literals test.heap.objects is.final.literals_there)

  script_is : length test.heap.objects ≤ 2 ^ 32 → IsScript literals (script_of literals outcome test)
  script_is numbered = record {
    target = is.target;
    bounds = is.bounds;
    args = words_are count literals all numbered test.input.args is.args;
    inputs = listed_are count literals all numbered test.input.heap.objects is.inputs;
    outcome = end.0;
    outs = lists_are count literals all numbered (take count test.heap.objects) firsts;
    news = listed_are count literals all numbered (drop (count + literals) test.heap.objects) lasts;
    numbered_inputs = omega (arith, many, is.final.inputs_there, numbered);
    numbered_news = omega (arith, made, numbered);
    as_many = length-map (take count test.heap.objects) _ ∙ length-take-le count test.heap.objects is.final.inputs_there ∙ sym many;
    there = subst (λ (limits : Limits). IsTrue (script_below limits (script_of literals outcome test))) (sym limits_are) below;
  }
    where
      all : ℕ
      all = length test.heap.objects

      firsts : AreObjects all (take count test.heap.objects)
      firsts = AreObjects-take all count test.heap.objects is.final.objects

      lasts : AreObjects all (drop (count + literals) test.heap.objects)
      lasts = AreObjects-drop all (count + literals) test.heap.objects is.final.objects

      end : IsOutcome outcome × (outcome_below (made_limits count literals all numbered) outcome ≡ true)
      end = outcome_is count literals all numbered test.ending outcome is.final.ending written

      many : length (listeds_of count literals test.input.heap.objects) ≡ count
      many = length-map test.input.heap.objects (listed_of count literals)

      made : length (news_of count literals test.heap.objects) ≡ all - (count + literals)
      made = length-map (drop (count + literals) test.heap.objects) (listed_of count literals) ∙ length-drop (count + literals) test.heap.objects

      limits_are : limits_of literals (script_of literals outcome test) ≡ made_limits count literals all numbered
      limits_are =
          ap (λ (n : ℕ). (let limits : Limits = record { inputs = n; literals = literals; made = length (news_of count literals test.heap.objects) } in limits)) many
          ∙ ap (λ (n : ℕ). (let limits : Limits = record { inputs = count; literals = literals; made = n } in limits)) made

      below : script_below (made_limits count literals all numbered) (script_of literals outcome test) ≡ true
      below = is_below_all (made_limits count literals all numbered) (script_of literals outcome test) (record {
        args = words_there count literals all numbered test.input.args is.args;
        inputs = listed_there count literals all numbered test.input.heap.objects is.inputs;
        outcome = end.1;
        outs = lists_there count literals all numbered (take count test.heap.objects) firsts;
        news = listed_there count literals all numbered (drop (count + literals) test.heap.objects) lasts;
      })

  -- the text is that of the test
  pub spelled : length test.heap.objects ≤ 2 ^ 32 → SpellsTests literals (test ∷ []) (test_text literals test)
  spelled numbered = record {
    scripts = script_of literals outcome test ∷ [];
    are = (script_is numbered, tt);
    tests_are = ap (λ (t : Test). t ∷ []) test_back;
    is = test_text-is literals test outcome written ∙ ap (λ (ls : List Line). lines_text (texts_of ls)) (sym (append-nil (script_lines (script_of literals outcome test))));
  }

-- a heap without an object of that number has no more objects
pub numbered : (objects : List Object) → slice_get objects 4294967295 ≡ None → length objects ≤ 2 ^ 32
numbered objects none = go (nat_lt 4294967295 (length objects)) refl
  where
    go : (b : Bool) → nat_lt 4294967295 (length objects) ≡ b → length objects ≤ 2 ^ 32
    go true e =
        let some = slice_get-get_or objects 4294967295 (record { kind = Class []; values = [] }) (ltb-true 4294967295 (length objects) e) in
        absurd (not_both none some)
      where
        not_both : {o : Option Object} {x : Object} → o ≡ None → o ≡ Some x → ⊥
        not_both p q = cc
    go false e = grind (arith, nat_tests)

pub appended : (literals : ℕ) (test : Test) → IsTest literals test → length test.heap.objects ≤ 2 ^ 32 → (old new : List ℕ) → new ≡ old ++ test_text literals test
    → Appends literals (test ∷ []) old new
appended literals test is few old new e =
    let some = some_outcome (length test.input.heap.objects) literals (length test.heap.objects) test.ending is.final.ending in
    record { text = test_text literals test; spelled = spelled literals test some.0 is some.1 few; is = e }
