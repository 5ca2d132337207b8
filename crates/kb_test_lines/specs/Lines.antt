-- The lines of a test, one by one.
use Rattle.std.specs.Prelude.{ℕ, ◌<◌, ◌≤◌, ◌^◌, ◌≡◌, Bool, true, None, Some, List, [], ◌∷◌, ◌++◌, map, codes}
use Rattle.std.specs.Fmt.{decimal}
use Rattle.kb_names.specs.Targets.{target_text, IsTarget}
use Rattle.kb_names.specs.declared.types.Target.{Target}
use Rattle.kb_heap.specs.declared.bounds.Bound.{Bound}
use Rattle.kb_heap.specs.declared.bounds.Bound.TheVariants as of_all
use Rattle.kb_heap.specs.declared.bounds.RunBounds.{RunBounds}
use Rattle.kb_heap.specs.declared.ending.Place.{Place}
use Rattle.kb_heap_words.specs.Words.{exact_text, place_text, bound_name, IsExact, IsPlace}
use Rattle.kb_test_lines.specs.Words.{reference_text, word_text, words_text, IsReference, IsWord, AreWords, is_below, word_below, words_below}
use Rattle.kb_test_lines.specs.declared.words.Word.{Word}
use Rattle.kb_test_lines.specs.declared.words.Limits.{Limits}
use Rattle.kb_test_lines.specs.declared.lines.Listed.{Listed}
use Rattle.kb_test_lines.specs.declared.outcomes.RunBound.{RunBound}
use Rattle.kb_test_lines.specs.declared.outcomes.RunBound.TheVariants.{Alloc, Loops, Depth, Steps}
use Rattle.kb_test_lines.specs.declared.outcomes.Outcome.{Outcome}
use Rattle.kb_test_lines.specs.declared.outcomes.Outcome.TheVariants.{Returns, Throws, IllTyped, Past}
use Rattle.kb_test_lines.specs.declared.lines.Line.{Line}
use Rattle.kb_test_lines.specs.declared.lines.Line.TheVariants.{Method, Limit, Arg, In, Ends, Out, New, End}

-- an object: its exact type, and the value of each slot or element
abbrev pub listed_text : Listed → List ℕ
listed_text listed = exact_text listed.kind ++ words_text listed.values

abbrev pub IsListed : Listed → Type 0
IsListed listed = IsExact listed.kind × AreWords listed.values

abbrev pub AreListed : List Listed → Type 0
AreListed [] = Unit {0}
AreListed (listed ∷ others) = IsListed listed × AreListed others

abbrev pub SpellsListed : Listed → List ℕ → Type 0
SpellsListed listed text = IsListed listed × (text ≡ listed_text listed)

-- the bounds that a test may have
pub record IsRunBounds (bounds : RunBounds) : Type 0 where
  pub alloc : bounds.alloc ≤ 1024
  pub loops : bounds.loops ≤ 1000
  pub some_depth : 1 ≤ bounds.depth
  pub depth : bounds.depth ≤ 256
  pub some_steps : 1 ≤ bounds.steps
  pub steps : bounds.steps ≤ 100000

unfoldable pub bounds_text : RunBounds → List ℕ
bounds_text bounds = codes "bounds alloc " ++ (decimal bounds.alloc ++ (codes " loops " ++ (decimal bounds.loops
    ++ (codes " depth " ++ (decimal bounds.depth ++ (codes " steps " ++ decimal bounds.steps))))))

abbrev pub SpellsBounds : RunBounds → List ℕ → Type 0
SpellsBounds bounds text = IsRunBounds bounds × (text ≡ bounds_text bounds)

-- bounds in whatever ranges, each of 32 bits
pub record IsAnyBounds (bounds : RunBounds) : Type 0 where
  pub alloc : bounds.alloc < 2 ^ 32
  pub loops : bounds.loops < 2 ^ 32
  pub depth : bounds.depth < 2 ^ 32
  pub steps : bounds.steps < 2 ^ 32

abbrev pub SpellsAnyBounds : RunBounds → List ℕ → Type 0
SpellsAnyBounds bounds text = IsAnyBounds bounds × (text ≡ bounds_text bounds)

-- an instruction that does not fit
abbrev pub SpellsPlaceLine : Place → List ℕ → Type 0
SpellsPlaceLine place text = IsPlace place × (text ≡ codes "illtyped " ++ place_text place)

-- a bound of runs as one of all bounds
abbrev pub bound_of : RunBound → Bound
bound_of Alloc = of_all.Alloc
bound_of Loops = of_all.Loops
bound_of Depth = of_all.Depth
bound_of Steps = of_all.Steps

abbrev pub SpellsPastLine : RunBound → List ℕ → Type 0
SpellsPastLine bound text = text ≡ codes "past " ++ bound_name (bound_of bound)

-- how the run ends
unfoldable pub outcome_text : Outcome → List ℕ
outcome_text (Returns None) = codes "returns"
outcome_text (Returns (Some word)) = codes "returns " ++ word_text word
outcome_text (Throws reference) = codes "throws " ++ reference_text reference
outcome_text (IllTyped place) = codes "illtyped " ++ place_text place
outcome_text (Past bound) = codes "past " ++ bound_name (bound_of bound)

abbrev pub IsOutcome : Outcome → Type 0
IsOutcome (Returns None) = Unit {0}
IsOutcome (Returns (Some word)) = IsWord word
IsOutcome (Throws reference) = IsReference reference
IsOutcome (IllTyped place) = IsPlace place
IsOutcome (Past bound) = Unit {0}

abbrev pub SpellsOutcome : Outcome → List ℕ → Type 0
SpellsOutcome outcome text = IsOutcome outcome × (text ≡ outcome_text outcome)

-- the same of an ending that names no method
abbrev pub IsPlain : Outcome → Type 0
IsPlain (Returns value) = Unit {0}
IsPlain (Throws reference) = Unit {0}
IsPlain (IllTyped place) = ⊥
IsPlain (Past bound) = Unit {0}

abbrev pub SpellsPlainOutcome : Outcome → List ℕ → Type 0
SpellsPlainOutcome outcome text = IsPlain outcome × SpellsOutcome outcome text

-- a line: the method, the bounds, an argument, an input object, how the run ends, the last values of an input object,
-- an object of the run, the last line
unfoldable pub line_text : Line → List ℕ
line_text (Method target) = codes "test " ++ target_text target
line_text (Limit bounds) = bounds_text bounds
line_text (Arg word) = codes "arg " ++ word_text word
line_text (In number listed) = codes "in i" ++ (decimal number ++ (codes " " ++ listed_text listed))
line_text (Ends outcome) = outcome_text outcome
line_text (Out number words) = codes "out i" ++ (decimal number ++ words_text words)
line_text (New number listed) = codes "new n" ++ (decimal number ++ (codes " " ++ listed_text listed))
line_text End = codes "end"

abbrev pub IsLine : Line → Type 0
IsLine (Method target) = IsTarget target
IsLine (Limit bounds) = IsRunBounds bounds
IsLine (Arg word) = IsWord word
IsLine (In number listed) = (number < 2 ^ 32) × IsListed listed
IsLine (Ends outcome) = IsOutcome outcome
IsLine (Out number words) = (number < 2 ^ 32) × AreWords words
IsLine (New number listed) = (number < 2 ^ 32) × IsListed listed
IsLine End = Unit {0}

abbrev pub SpellsLine : Line → List ℕ → Type 0
SpellsLine line text = IsLine line × (text ≡ line_text line)

-- a line of one kind
abbrev pub SpellsMethodLine : Target → List ℕ → Type 0
SpellsMethodLine target text = SpellsLine (Method target) text

abbrev pub SpellsArgLine : Word → List ℕ → Type 0
SpellsArgLine word text = SpellsLine (Arg word) text

-- a number behind that front, and an object behind the number
abbrev pub SpellsObjectLine : List ℕ → ℕ × Listed → List ℕ → Type 0
SpellsObjectLine front parts text = (parts.0 < 2 ^ 32) × (IsListed parts.1 × (text ≡ front ++ (decimal parts.0 ++ 32 ∷ listed_text parts.1)))

abbrev pub SpellsOutLine : ℕ × List Word → List ℕ → Type 0
SpellsOutLine parts text = SpellsLine (Out parts.0 parts.1) text

-- a line that lists an object or its last values
abbrev pub IsHeapLine : Line → Type 0
IsHeapLine (Method target) = ⊥
IsHeapLine (Limit bounds) = ⊥
IsHeapLine (Arg word) = ⊥
IsHeapLine (In number listed) = Unit {0}
IsHeapLine (Ends outcome) = ⊥
IsHeapLine (Out number words) = Unit {0}
IsHeapLine (New number listed) = Unit {0}
IsHeapLine End = ⊥

abbrev pub SpellsHeapLine : Line → List ℕ → Type 0
SpellsHeapLine line text = IsHeapLine line × SpellsLine line text

-- the numbers of objects are below their limits
abbrev pub listed_below : Limits → Listed → Bool
listed_below limits listed = words_below limits listed.values

abbrev pub outcome_below : Limits → Outcome → Bool
outcome_below limits (Returns None) = true
outcome_below limits (Returns (Some word)) = word_below limits word
outcome_below limits (Throws reference) = is_below limits reference
outcome_below limits (IllTyped place) = true
outcome_below limits (Past bound) = true

-- the texts of lines
abbrev pub texts_of : List Line → List (List ℕ)
texts_of lines = map line_text lines
