-- A text that was found, as a test and as a fact.
use Rattle.std.proofs.Common.{◌≡◌, ℕ, true, List, Option, Some, None, ap}
use Rattle.std.proofs.lemmas.Slice.Eq.{bytes_eq-Decides}
use Rattle.kb_classfile.specs.Pool.{is_text}

pub text_is : (text : List ℕ) (found : Option (List ℕ)) → is_text text found ≡ true → found ≡ Some text
text_is text None e = absurd cc
text_is text (Some found) e = ap (λ (t : List ℕ). Some t) ((bytes_eq-Decides found text).0 e)

some_is : (a b : List ℕ) → Some a ≡ Some b → a ≡ b
some_is a b e = cc

pub is_the_text : (text : List ℕ) (found : Option (List ℕ)) → found ≡ Some text → is_text text found ≡ true
is_the_text text None e = absurd cc
is_the_text text (Some found) e = (bytes_eq-Decides found text).1 (some_is found text e)
