-- The number that a word spells.
use Rattle.std.proofs.Common.{◌≡◌, ◌≢◌, ◌<◌, ◌≤◌, ◌^◌, ℕ, zero, suc, Bool, true, false, List, Option, Some, None, if◌then◌else◌, refl, sym, ◌∙◌, ap, arith}
use Rattle.std.specs.Fmt.{decimal}
use Rattle.std.specs.Str.{bytes_eq}
use Rattle.std.proofs.lemmas.Fmt.{decimal_injective}
use Rattle.std.proofs.lemmas.Slice.Eq.{bytes_eq-Decides}
use Rattle.kb_grammar.specs.Lines.{IsRead}
use Rattle.kb_grammar.specs.Numbers.{SpellsWithin}
use Rattle.kb_words.specs.Options.{spelled_up_to}

spelled : (most number : ℕ) (word : List ℕ) → most < 2 ^ 32 → number ≤ most → word ≡ decimal number → spelled_up_to most word ≡ Some number
unfolding spelled_up_to
spelled zero zero word small within is = rw ((bytes_eq-Decides word (decimal 0)).1 is) refl
spelled zero (suc number) word small within is = absurd (omega (arith, within))
spelled (suc most) number word small within is = go (λ less. spelled most number word (omega (arith, small)) less is) (bytes_eq word (decimal (suc most))) refl
  where
    go : (number ≤ most → spelled_up_to most word ≡ Some number) → (b : Bool) → bytes_eq word (decimal (suc most)) ≡ b → (if b then Some (suc most) else spelled_up_to most word) ≡ Some number
    go rest true e =
        let same : decimal (suc most) ≡ decimal number = sym ((bytes_eq-Decides word (decimal (suc most))).0 e) ∙ is in
        ap Some (decimal_injective (suc most) number (omega (arith, small)) (omega (arith, small, within)) same)
    go rest false e =
        let other : number ≢ suc most = λ same. (
        let both : true ≡ false = sym ((bytes_eq-Decides word (decimal (suc most))).1 (is ∙ ap decimal same)) ∙ e in
        cc) in
        rest (omega (arith, within, other))

none_spelled : (most : ℕ) (word : List ℕ) → ((number : ℕ) → SpellsWithin most number word → ⊥) → spelled_up_to most word ≡ None
unfolding spelled_up_to
none_spelled zero word none = go (bytes_eq word (decimal 0)) refl
  where
    go : (b : Bool) → bytes_eq word (decimal 0) ≡ b → if◌then◌else◌ {A = Option ℕ} b (Some 0) None ≡ None
    go true e = absurd (none 0 (omega arith, (bytes_eq-Decides word (decimal 0)).0 e))
    go false e = refl
none_spelled (suc most) word none =
    go (none_spelled most word (λ number spells. none number (omega (arith, spells.0), spells.1))) (bytes_eq word (decimal (suc most))) refl
  where
    go : spelled_up_to most word ≡ None → (b : Bool) → bytes_eq word (decimal (suc most)) ≡ b → (if b then Some (suc most) else spelled_up_to most word) ≡ None
    go rest true e = absurd (none (suc most) (omega arith, (bytes_eq-Decides word (decimal (suc most))).0 e))
    go rest false e = rest

-- what is read of a word is the number that it spells
pub read_spelled : (most : ℕ) (word : List ℕ) (read : Option ℕ) → most < 2 ^ 32 → IsRead (SpellsWithin most) word read → spelled_up_to most word ≡ read
read_spelled most word (Some number) small is = spelled most number word small is.0 is.1
read_spelled most word None small is = none_spelled most word is
