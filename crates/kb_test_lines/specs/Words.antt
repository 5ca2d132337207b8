-- How the text of a test writes a value: an int, null, or an object by its kind and its number among its kind.
use Rattle.std.specs.Prelude.{ℕ, ◌<◌, ◌^◌, ◌≡◌, Bool, true, nat_lt, List, [], ◌∷◌, ◌++◌, codes}
use Rattle.std.specs.List.{flat_map, list_all, AllByRecursion}
use Rattle.std.specs.Fmt.{decimal, signed_decimal}
use Rattle.std.specs.Int.RustNames.{FitsSigned}
use mir.Syntax.{w32}
use Rattle.kb_test_lines.specs.declared.words.Reference.{Reference}
use Rattle.kb_test_lines.specs.declared.words.Reference.TheVariants.{Input, Literal, Made}
use Rattle.kb_test_lines.specs.declared.words.Word.{Word}
use Rattle.kb_test_lines.specs.declared.words.Word.TheVariants.{Int, Null, Object}
use Rattle.kb_test_lines.specs.declared.words.Limits.{Limits}

-- `i` with the number of an input object, `s` with that of a literal, `n` with that of an object of the run
unfoldable pub reference_text : Reference → List ℕ
reference_text (Input number) = codes "i" ++ decimal number
reference_text (Literal number) = codes "s" ++ decimal number
reference_text (Made number) = codes "n" ++ decimal number

unfoldable pub word_text : Word → List ℕ
word_text (Int number) = signed_decimal number
word_text Null = codes "null"
word_text (Object reference) = reference_text reference

-- the words, each with a space before it
abbrev pub words_text : List Word → List ℕ
words_text words = flat_map (λ word. codes " " ++ word_text word) words

-- an object's number has 32 bits
abbrev pub IsReference : Reference → Type 0
IsReference (Input number) = number < 2 ^ 32
IsReference (Literal number) = number < 2 ^ 32
IsReference (Made number) = number < 2 ^ 32

abbrev pub IsWord : Word → Type 0
IsWord (Int number) = FitsSigned w32 number
IsWord Null = Unit {0}
IsWord (Object reference) = IsReference reference

abbrev pub AreWords : List Word → Type 0
AreWords words = AllByRecursion IsWord words

abbrev pub AreWordLists : List (List Word) → Type 0
AreWordLists [] = Unit {0}
AreWordLists (words ∷ lists) = AreWords words × AreWordLists lists

abbrev pub SpellsReference : Reference → List ℕ → Type 0
SpellsReference reference text = IsReference reference × (text ≡ reference_text reference)

abbrev pub SpellsWord : Word → List ℕ → Type 0
SpellsWord word text = IsWord word × (text ≡ word_text word)

abbrev pub SpellsReferenceBehind : List ℕ → Reference → List ℕ → Type 0
SpellsReferenceBehind front reference text = IsReference reference × (text ≡ front ++ reference_text reference)

abbrev pub SpellsWordBehind : List ℕ → Word → List ℕ → Type 0
SpellsWordBehind front word text = IsWord word × (text ≡ front ++ word_text word)

abbrev pub SpellsWords : List Word → List ℕ → Type 0
SpellsWords words text = AreWords words × (text ≡ words_text words)

-- the object's number is below the limit of its kind
abbrev pub is_below : Limits → Reference → Bool
is_below limits (Input number) = nat_lt number limits.inputs
is_below limits (Literal number) = nat_lt number limits.literals
is_below limits (Made number) = nat_lt number limits.made

abbrev pub word_below : Limits → Word → Bool
word_below limits (Int number) = true
word_below limits Null = true
word_below limits (Object reference) = is_below limits reference

abbrev pub words_below : Limits → List Word → Bool
words_below limits words = list_all (word_below limits) words
