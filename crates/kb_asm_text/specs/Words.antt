-- Lines as words, with one space between two.
use Rattle.std.specs.Prelude.{◌≡◌, ◌≢◌, ℕ, List, [], ◌∷◌, ◌++◌, Option, None, Some}
use Rattle.kb_grammar.specs.Lines.{Lacks}

-- the words with one space between two
abbrev pub joined : List (List ℕ) → List ℕ
joined [] = []
joined (word ∷ []) = word
joined (word ∷ next ∷ words) = word ++ 32 ∷ joined (next ∷ words)

-- none of the words has a space
abbrev pub AreWords : List (List ℕ) → Type 0
AreWords [] = Unit {0}
AreWords (word ∷ words) = Lacks 32 word × AreWords words

-- the line is these words
pub record IsOfWords (words : List (List ℕ)) (line : List ℕ) : Type 0 where
  pub some : words ≢ []
  pub are_words : AreWords words
  pub is : line ≡ joined words

-- so many words, of which that holds
abbrev pub OneWord : (List ℕ → Type 0) → List (List ℕ) → Type 0
OneWord S (word ∷ []) = S word
OneWord S _ = ⊥

abbrev pub TwoWords : (List ℕ → List ℕ → Type 0) → List (List ℕ) → Type 0
TwoWords S (first ∷ second ∷ []) = S first second
TwoWords S _ = ⊥

abbrev pub ThreeWords : (List ℕ → List ℕ → List ℕ → Type 0) → List (List ℕ) → Type 0
ThreeWords S (first ∷ second ∷ third ∷ []) = S first second third
ThreeWords S _ = ⊥

abbrev pub FourWords : (List ℕ → List ℕ → List ℕ → List ℕ → Type 0) → List (List ℕ) → Type 0
FourWords S (first ∷ second ∷ third ∷ fourth ∷ []) = S first second third fourth
FourWords S _ = ⊥

abbrev pub FiveWords : (List ℕ → List ℕ → List ℕ → List ℕ → List ℕ → Type 0) → List (List ℕ) → Type 0
FiveWords S (first ∷ second ∷ third ∷ fourth ∷ fifth ∷ []) = S first second third fourth fifth
FiveWords S _ = ⊥

-- a word, of which that holds, and others, of which that holds
abbrev pub FirstWord : (List ℕ → List (List ℕ) → Type 0) → List (List ℕ) → Type 0
FirstWord S (first ∷ others) = S first others
FirstWord S [] = ⊥

-- a word for each value
abbrev pub EachWord : {A : Type 0} → (A → List ℕ → Type 0) → List A → List (List ℕ) → Type 0
EachWord S [] words = words ≡ []
EachWord S (value ∷ values) words = FirstWord (λ first others. S value first × EachWord S values others) words

-- what a reader of words may answer: what they spell, or none where they spell nothing
abbrev pub IsReadAs : {A : Type 0} → (A → List (List ℕ) → Type 0) → List (List ℕ) → Option A → Type 0
IsReadAs Spells words (Some value) = Spells value words
IsReadAs Spells words None = (value : _) → Spells value words → ⊥
