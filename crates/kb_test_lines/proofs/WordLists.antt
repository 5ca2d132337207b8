-- Several values in one text, each behind a space.
use Rattle.std.proofs.Common.{◌≡◌, ℕ, List, [], ◌∷◌, ◌++◌, sym, ◌∙◌, ap}
use Rattle.kb_grammar.specs.Lines.{Lacks, IsTail}
use Rattle.kb_grammar.proofs.WordLaws.{same_behind, same_first}
use Rattle.kb_grammar.proofs.ListLaws.{IsReadSoFar, one_more, no_item}
use Rattle.kb_test_lines.specs.declared.words.Word.{Word}
use Rattle.kb_test_lines.specs.Words.{word_text, IsWord, SpellsWord, SpellsWords}
use Rattle.kb_test_lines.proofs.SameWords.{lacks_space, spaced_word, words_apart}

-- so many values are read, and the rest is left
abbrev pub AreReadSoFar : List Word → List ℕ → List ℕ → Type 0
AreReadSoFar read rest text = IsReadSoFar IsWord spaced_word read rest text

-- what is left is neither nothing nor behind a space
pub no_gap : (read : List Word) (rest text : List ℕ) → ((others : List ℕ) → rest ≡ 32 ∷ others → ⊥) → (rest ≡ [] → ⊥)
    → AreReadSoFar read rest text → (all : List Word) → SpellsWords all text → ⊥
no_gap read rest text gap some so_far all spells =
    no_item 32 IsWord spaced_word words_apart read rest text (λ word left is tail e. gap (word_text word ++ left) e) some so_far all spells.0 spells.1

-- a word that spells no value
pub no_word : (read : List Word) (rest others word behind text : List ℕ) → Lacks 32 word → IsTail 32 behind → rest ≡ 32 ∷ others → others ≡ word ++ behind → ((value : Word) → SpellsWord value word → ⊥)
    → AreReadSoFar read rest text → (all : List Word) → SpellsWords all text → ⊥
no_word read rest others word behind text p q gap e none so_far all spells =
    no_item 32 IsWord spaced_word words_apart read rest text other some so_far all spells.0 spells.1
  where
    other : (value : Word) (left : List ℕ) → IsWord value → IsTail 32 left → rest ≡ 32 ∷ (word_text value ++ left) → ⊥
    other value left is tail begins =
        let tails : word ++ behind ≡ word_text value ++ left = same_behind (32 ∷ []) (word ++ behind) (word_text value ++ left) (ap (λ (l : List ℕ). 32 ∷ l) (sym e) ∙ sym gap ∙ begins) in
        let parts = same_first 32 word (word_text value) behind left p (lacks_space value is) q tail tails in
        none value (is, parts.0)

    some : rest ≡ [] → ⊥
    some nothing = let here : 32 ∷ others ≡ [] = sym gap ∙ nothing in cc

-- one value more
pub one_word_more : (read longer : List Word) (value : Word) (rest left word behind text : List ℕ) → IsTail 32 behind → rest ≡ 32 ∷ left → left ≡ word ++ behind → SpellsWord value word
    → longer ≡ read ++ value ∷ [] → AreReadSoFar read rest text → AreReadSoFar longer behind text
one_word_more read longer value rest left word behind text tail gap e spells longer_is so_far =
    one_more 32 IsWord spaced_word words_apart read longer value rest behind text spells.0 tail
    (gap ∙ ap (λ (l : List ℕ). 32 ∷ l) (e ∙ ap (λ (w : List ℕ). w ++ behind) spells.1)) longer_is so_far
