-- One word spells one value.
use Rattle.std.proofs.Common.{◌≡◌, ◌≢◌, ℕ, ◌<◌, ◌≤◌, ◌^◌, List, [], ◌∷◌, ◌++◌, Option, None, Some, refl, sym, ◌∙◌, ap, arith}
use Rattle.std.specs.Prelude.{codes, ℤ, pos, negsuc, slice_index}
use Rattle.std.specs.Int.RustNames.{FitsSigned}
use mir.Syntax.{w32}
use Rattle.std.specs.Fmt.{decimal, signed_decimal}
use Rattle.std.proofs.lemmas.Int.{ints}
use Rattle.std.proofs.lemmas.Fmt.{decimal_injective, signed_decimal_injective}
use Rattle.kb_grammar.specs.Numbers.{with_digit, with_digits}
use Rattle.kb_grammar.proofs.WordLaws.{same_behind, same_first}
use Rattle.kb_grammar.proofs.NumberLaws.{decimal_read, int_mag}
use Rattle.kb_grammar.proofs.ListLaws.{AreApart, same_items}
use Rattle.kb_grammar.specs.Lines.{Lacks, IsTail}
use Rattle.kb_test_lines.specs.declared.words.Reference.{Reference}
use Rattle.kb_test_lines.specs.declared.words.Reference.TheVariants.{Input, Literal, Made}
use Rattle.kb_test_lines.specs.declared.words.Word.{Word}
use Rattle.kb_test_lines.specs.declared.words.Word.TheVariants.{Int, Null, Object}
use Rattle.kb_heap_words.proofs.Lacking.{space}
use Rattle.kb_test_lines.specs.Words.{reference_text, word_text, words_text, IsReference, IsWord, AreWords}
use Rattle.kb_test_lines.proofs.Texts.{word_lacks}

pub unlike : (x y : ℕ) → x ≢ y → x ≡ y → ⊥
unlike x y ne e = ne e

-- the texts have other bytes at that place
pub differs : (at : ℕ) (xs ys : List ℕ) → slice_index xs at ≢ slice_index ys at → xs ≡ ys → ⊥
differs at xs ys ne e = ne (ap (λ (l : List ℕ). slice_index l at) e)

-- a number has no letters
no_letter : (number letter : ℕ) (rest : List ℕ) → number ≤ 4294967295 → with_digit 4294967295 0 letter ≡ None → decimal number ≡ letter ∷ rest → ⊥
no_letter number letter rest small none e =
    let read : with_digits 4294967295 0 (decimal number) ≡ Some number = decimal_read 4294967295 number (omega arith) small in
    let other : with_digits 4294967295 0 (decimal number) ≡ None = ap (with_digits 4294967295 0) e ∙ ap (λ (o : Option ℕ). follow o) none in
    not_both other read
  where
    follow : Option ℕ → Option ℕ
    follow None = None
    follow (Some n) = with_digits 4294967295 n rest

    not_both : {o : Option ℕ} → o ≡ None → o ≡ Some number → ⊥
    not_both p q = cc

pub number_no_letter : (number : ℤ) (letter : ℕ) (rest : List ℕ) → FitsSigned w32 number → with_digit 4294967295 0 letter ≡ None → letter ≢ 45 → signed_decimal number ≡ letter ∷ rest → ⊥
number_no_letter (pos n) letter rest h none ne e = no_letter n letter rest (omega (arith, ints, h)) none e
number_no_letter (negsuc n) letter rest h none ne e = let head : 45 ≡ letter = cc in ne (sym head)

pub same_number : (front : List ℕ) (a b : ℕ) → a < 2 ^ 32 → b < 2 ^ 32 → front ++ decimal a ≡ front ++ decimal b → a ≡ b
same_number front a b p q e = decimal_injective a b (omega (arith, p)) (omega (arith, q)) (same_behind front (decimal a) (decimal b) e)

pub same_reference : (a b : Reference) → IsReference a → IsReference b → reference_text a ≡ reference_text b → a ≡ b
unfolding reference_text
same_reference (Input a) (Input b) p q e = ap (λ (n : ℕ). Input n) (same_number (codes "i") a b p q e)
same_reference (Input a) (Literal b) p q e = absurd (unlike 105 115 (omega arith) (ap (λ (l : List ℕ). slice_index l 0) e))
same_reference (Input a) (Made b) p q e = absurd (unlike 105 110 (omega arith) (ap (λ (l : List ℕ). slice_index l 0) e))
same_reference (Literal a) (Input b) p q e = absurd (unlike 115 105 (omega arith) (ap (λ (l : List ℕ). slice_index l 0) e))
same_reference (Literal a) (Literal b) p q e = ap (λ (n : ℕ). Literal n) (same_number (codes "s") a b p q e)
same_reference (Literal a) (Made b) p q e = absurd (unlike 115 110 (omega arith) (ap (λ (l : List ℕ). slice_index l 0) e))
same_reference (Made a) (Input b) p q e = absurd (unlike 110 105 (omega arith) (ap (λ (l : List ℕ). slice_index l 0) e))
same_reference (Made a) (Literal b) p q e = absurd (unlike 110 115 (omega arith) (ap (λ (l : List ℕ). slice_index l 0) e))
same_reference (Made a) (Made b) p q e = ap (λ (n : ℕ). Made n) (same_number (codes "n") a b p q e)

int_no_reference : (number : ℤ) (reference : Reference) → FitsSigned w32 number → signed_decimal number ≡ reference_text reference → ⊥
unfolding reference_text
int_no_reference number (Input n) h e = number_no_letter number 105 (decimal n) h refl (omega arith) e
int_no_reference number (Literal n) h e = number_no_letter number 115 (decimal n) h refl (omega arith) e
int_no_reference number (Made n) h e = number_no_letter number 110 (decimal n) h refl (omega arith) e

null_no_reference : (reference : Reference) → IsReference reference → codes "null" ≡ reference_text reference → ⊥
unfolding reference_text
null_no_reference (Input n) h e = unlike 110 105 (omega arith) (ap (λ (l : List ℕ). slice_index l 0) e)
null_no_reference (Literal n) h e = unlike 110 115 (omega arith) (ap (λ (l : List ℕ). slice_index l 0) e)
null_no_reference (Made n) h e = no_letter n 117 (codes "ll") (omega (arith, h)) refl (sym (same_behind (codes "n") (codes "ull") (decimal n) e))

pub same_word : (a b : Word) → IsWord a → IsWord b → word_text a ≡ word_text b → a ≡ b
unfolding word_text
same_word (Int a) (Int b) p q e = ap (λ (z : ℤ). Int z) (signed_decimal_injective a b (int_mag a p) (int_mag b q) e)
same_word (Int a) Null p q e = absurd (number_no_letter a 110 (codes "ull") p refl (omega arith) e)
same_word (Int a) (Object b) p q e = absurd (int_no_reference a b p e)
same_word Null (Int b) p q e = absurd (number_no_letter b 110 (codes "ull") q refl (omega arith) (sym e))
same_word Null Null p q e = refl
same_word Null (Object b) p q e = absurd (null_no_reference b q e)
same_word (Object a) (Int b) p q e = absurd (int_no_reference b a q (sym e))
same_word (Object a) Null p q e = absurd (null_no_reference a p (sym e))
same_word (Object a) (Object b) p q e = ap (λ (r : Reference). Object r) (same_reference a b p q e)

pub words_tail : (words : List Word) → IsTail 32 (words_text words)
words_tail [] = tt
words_tail (word ∷ words) = refl

pub lacks_space : (word : Word) → IsWord word → Lacks 32 (word_text word)
lacks_space word is = word_lacks 32 space word is

-- the first of several words
pub same_first_word : (a b : Word) (us vs : List ℕ) → IsWord a → IsWord b → IsTail 32 us → IsTail 32 vs → word_text a ++ us ≡ word_text b ++ vs → (a ≡ b) × (us ≡ vs)
same_first_word a b us vs p q h k e =
    let parts = same_first 32 (word_text a) (word_text b) us vs (lacks_space a p) (lacks_space b q) h k e in
    (same_word a b p q parts.0, parts.1)

-- each word of a list with a space before it
abbrev pub spaced_word : Word → List ℕ
spaced_word word = codes " " ++ word_text word

pub words_apart : AreApart 32 IsWord spaced_word
words_apart = record {
  begins = λ word. (word_text word, refl);
  same = λ a b us vs p q h k e. same_first_word a b us vs p q h k (same_behind (32 ∷ []) (word_text a ++ us) (word_text b ++ vs) e);
}

pub same_words : (xs ys : List Word) → AreWords xs → AreWords ys → words_text xs ≡ words_text ys → xs ≡ ys
same_words = same_items 32 IsWord spaced_word words_apart
