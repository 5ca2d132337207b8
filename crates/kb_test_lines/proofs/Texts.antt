-- Texts and the bytes that they lack: a word has no space, a line no line feed.
use Rattle.std.proofs.Common.{◌≡◌, ◌≢◌, ℕ, ◌<◌, ◌≤◌, ◌^◌, true, None, Some, List, [], ◌∷◌, ◌++◌, refl, ap, arith}
use Rattle.std.specs.Prelude.{codes}
use Rattle.std.specs.Fmt.{decimal}
use Rattle.kb_names.specs.Targets.{target_text}
use Rattle.kb_heap.specs.declared.bounds.RunBounds.{RunBounds}
use Rattle.kb_heap.specs.declared.ending.Place.{Place}
use Rattle.kb_grammar.specs.Lines.{Lacks, AreLines}
use Rattle.kb_grammar.proofs.WordLaws.{Lacks-++}
use Rattle.kb_heap_words.specs.Words.{exact_text, place_text, bound_name, IsPlace}
use Rattle.kb_heap_words.proofs.Lacking.{IsGap, lacks, lacks_is, digits_lack, signed_lacks, above, high_lacks, target_lacks, line_feed}
use Rattle.kb_heap_words.proofs.WordLaws.{exact_lacks, place_lacks}
use Rattle.kb_test_lines.specs.declared.words.Reference.{Reference}
use Rattle.kb_test_lines.specs.declared.words.Reference.TheVariants.{Input, Literal, Made}
use Rattle.kb_test_lines.specs.declared.words.Word.{Word}
use Rattle.kb_test_lines.specs.declared.words.Word.TheVariants.{Int, Null, Object}
use Rattle.kb_test_lines.specs.declared.lines.Listed.{Listed}
use Rattle.kb_test_lines.specs.declared.outcomes.RunBound.{RunBound}
use Rattle.kb_test_lines.specs.declared.outcomes.RunBound.TheVariants.{Alloc, Loops, Depth, Steps}
use Rattle.kb_test_lines.specs.declared.outcomes.Outcome.{Outcome}
use Rattle.kb_test_lines.specs.declared.outcomes.Outcome.TheVariants.{Returns, Throws, IllTyped, Past}
use Rattle.kb_test_lines.specs.declared.lines.Line.{Line}
use Rattle.kb_test_lines.specs.declared.lines.Line.TheVariants.{Method, Limit, Arg, In, Ends, Out, New, End}
use Rattle.kb_test_lines.specs.Words.{reference_text, word_text, words_text, IsReference, IsWord, AreWords}
use Rattle.kb_test_lines.specs.Lines.{listed_text, bounds_text, bound_of, outcome_text, line_text, IsListed, IsRunBounds, IsOutcome, IsLine, texts_of}

module _ (low : ℕ) (gap : IsGap low) where
  lettered : (letter number : ℕ) → 36 ≤ letter → number < 2 ^ 32 → Lacks low (letter ∷ decimal number)
  lettered letter number high small = (above letter low gap.low high, digits_lack low number gap.apart small)

  pub reference_lacks : (reference : Reference) → IsReference reference → Lacks low (reference_text reference)
  unfolding reference_text
  reference_lacks (Input number) h = lettered 105 number (omega arith) h
  reference_lacks (Literal number) h = lettered 115 number (omega arith) h
  reference_lacks (Made number) h = lettered 110 number (omega arith) h

  pub word_lacks : (word : Word) → IsWord word → Lacks low (word_text word)
  unfolding word_text
  word_lacks (Int number) h = signed_lacks low number gap.apart h
  word_lacks Null h = high_lacks low gap.low (codes "null") refl
  word_lacks (Object reference) h = reference_lacks reference h

-- ---- lines

ten : (bytes : List ℕ) → lacks 10 bytes ≡ true → Lacks 10 bytes
ten bytes h = lacks_is 10 bytes h

words_lack : (words : List Word) → AreWords words → Lacks 10 (words_text words)
words_lack [] are = tt
words_lack (word ∷ words) are =
    let gap : 32 ≢ 10 = omega arith in
    (gap, Lacks-++ 10 (word_text word) (words_text words) (word_lacks 10 line_feed word are.0) (words_lack words are.1))

listed_lacks : (listed : Listed) → IsListed listed → Lacks 10 (listed_text listed)
listed_lacks listed is = Lacks-++ 10 (exact_text listed.kind) (words_text listed.values) (exact_lacks 10 line_feed listed.kind) (words_lack listed.values is.1)

digits : (number : ℕ) → number < 2 ^ 32 → Lacks 10 (decimal number)
digits number small = digits_lack 10 number line_feed.apart small

bounds_lack : (bounds : RunBounds) → IsRunBounds bounds → Lacks 10 (bounds_text bounds)
unfolding bounds_text
bounds_lack bounds is =
    Lacks-++ 10 (codes "bounds alloc ") _ (ten (codes "bounds alloc ") refl) (Lacks-++ 10 (decimal bounds.alloc) _ (digits bounds.alloc (omega (arith, is.alloc)))
    (Lacks-++ 10 (codes " loops ") _ (ten (codes " loops ") refl) (Lacks-++ 10 (decimal bounds.loops) _ (digits bounds.loops (omega (arith, is.loops)))
    (Lacks-++ 10 (codes " depth ") _ (ten (codes " depth ") refl) (Lacks-++ 10 (decimal bounds.depth) _ (digits bounds.depth (omega (arith, is.depth)))
    (Lacks-++ 10 (codes " steps ") (decimal bounds.steps) (ten (codes " steps ") refl) (digits bounds.steps (omega (arith, is.steps)))))))))

bound_lacks : (bound : RunBound) → Lacks 10 (bound_name (bound_of bound))
unfolding bound_name
bound_lacks Alloc = ten (codes "alloc") refl
bound_lacks Loops = ten (codes "loops") refl
bound_lacks Depth = ten (codes "depth") refl
bound_lacks Steps = ten (codes "steps") refl

ill_typed_lacks : (place : Place) → IsPlace place → Lacks 10 (place_text place)
ill_typed_lacks place is = let gap : 32 ≢ 10 = omega arith in place_lacks 10 line_feed gap place is.1

outcome_lacks : (outcome : Outcome) → IsOutcome outcome → Lacks 10 (outcome_text outcome)
unfolding outcome_text
outcome_lacks (Returns None) is = ten (codes "returns") refl
outcome_lacks (Returns (Some word)) is = Lacks-++ 10 (codes "returns ") (word_text word) (ten (codes "returns ") refl) (word_lacks 10 line_feed word is)
outcome_lacks (Throws reference) is = Lacks-++ 10 (codes "throws ") (reference_text reference) (ten (codes "throws ") refl) (reference_lacks 10 line_feed reference is)
outcome_lacks (IllTyped place) is = Lacks-++ 10 (codes "illtyped ") (place_text place) (ten (codes "illtyped ") refl) (ill_typed_lacks place is)
outcome_lacks (Past bound) is = Lacks-++ 10 (codes "past ") (bound_name (bound_of bound)) (ten (codes "past ") refl) (bound_lacks bound)

numbered_lacks : (front : List ℕ) (number : ℕ) (rest : List ℕ) → Lacks 10 front → number < 2 ^ 32 → Lacks 10 rest → Lacks 10 (front ++ (decimal number ++ rest))
numbered_lacks front number rest p small q = Lacks-++ 10 front (decimal number ++ rest) p (Lacks-++ 10 (decimal number) rest (digits number small) q)

line_lacks : (line : Line) → IsLine line → Lacks 10 (line_text line)
unfolding line_text
line_lacks (Method target) is = Lacks-++ 10 (codes "test ") (target_text target) (ten (codes "test ") refl) (target_lacks 10 line_feed target)
line_lacks (Limit bounds) is = bounds_lack bounds is
line_lacks (Arg word) is = Lacks-++ 10 (codes "arg ") (word_text word) (ten (codes "arg ") refl) (word_lacks 10 line_feed word is)
line_lacks (In number listed) is =
    numbered_lacks (codes "in i") number (32 ∷ listed_text listed) (ten (codes "in i") refl) is.0 (let gap : 32 ≢ 10 = omega arith in (gap, listed_lacks listed is.1))
line_lacks (Ends outcome) is = outcome_lacks outcome is
line_lacks (Out number words) is = numbered_lacks (codes "out i") number (words_text words) (ten (codes "out i") refl) is.0 (words_lack words is.1)
line_lacks (New number listed) is =
    numbered_lacks (codes "new n") number (32 ∷ listed_text listed) (ten (codes "new n") refl) is.0 (let gap : 32 ≢ 10 = omega arith in (gap, listed_lacks listed is.1))
line_lacks End is = ten (codes "end") refl

-- each line is one that may stand in a text
abbrev pub AllLines : List Line → Type 0
AllLines [] = Unit {0}
AllLines (line ∷ lines) = IsLine line × AllLines lines

pub are_lines : (lines : List Line) → AllLines lines → AreLines (texts_of lines)
are_lines [] are = tt
are_lines (line ∷ lines) are = (line_lacks line are.0, are_lines lines are.1)

pub AllLines-++ : (xs ys : List Line) → AllLines xs → AllLines ys → AllLines (xs ++ ys)
AllLines-++ [] ys p q = q
AllLines-++ (x ∷ xs) ys p q = (p.0, AllLines-++ xs ys p.1 q)

pub texts_of-++ : (xs ys : List Line) → texts_of (xs ++ ys) ≡ texts_of xs ++ texts_of ys
texts_of-++ [] ys = refl
texts_of-++ (x ∷ xs) ys = ap (λ (ls : List (List ℕ)). line_text x ∷ ls) (texts_of-++ xs ys)
