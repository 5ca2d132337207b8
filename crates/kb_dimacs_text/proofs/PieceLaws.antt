-- A text and its first piece.
use Rattle.std.proofs.Common.{◌≡◌, ℕ, suc, ◌+◌, ◌-◌, ◌<◌, ◌≤◌, Bool, true, false, List, [], ◌∷◌, ◌++◌, length, take, drop, get_or, sym, ◌∙◌, ap, subst, arith, length-drop}
use Rattle.std.specs.List.{All, slice_split}
use Rattle.std.proofs.Math.Seq.{drop-cons}
use Rattle.std.proofs.lemmas.List.{take-append-drop, take_all}
use Rattle.std.proofs.lemmas.List.Splits.{slice_split_at, slice_split_none}
use Rattle.std.proofs.lemmas.Grind.{common_steps}

rest_of : (text : List ℕ) (at : ℕ) → take (length text - (at + 1)) (drop (at + 1) text) ≡ drop (suc at) text
rest_of text at = grind (arith, common_steps)

pub cut_at : (p : ℕ → Bool) (text : List ℕ) (at : ℕ) → at < length text → All (λ b. p b ≡ false) (take at text) → p (get_or text at 0) ≡ true
    → (slice_split p text ≡ take at text ∷ slice_split p (take (length text - (at + 1)) (drop (at + 1) text)))
    × (length (take (length text - (at + 1)) (drop (at + 1) text)) < length text)
cut_at p text at lt lacks ends =
    let whole : take at text ++ get_or text at 0 ∷ drop (suc at) text ≡ text = ap (λ (l : List ℕ). take at text ++ l) (sym (drop-cons text at 0 lt)) ∙ take-append-drop at text in (
      ap (slice_split p) (sym whole) ∙ (slice_split_at p (take at text) (get_or text at 0) (drop (suc at) text) lacks ends
          ∙ ap (λ (l : List ℕ). take at text ∷ slice_split p l) (sym (rest_of text at))),
      omega (arith, ap length (rest_of text at), length-drop (suc at) text),
    )

pub uncut : (p : ℕ → Bool) (text : List ℕ) (at : ℕ) → length text ≤ at → All (λ b. p b ≡ false) (take at text) → slice_split p text ≡ text ∷ []
uncut p text at le lacks = slice_split_none p text (subst (All (λ b. p b ≡ false)) (take_all at text le) lacks)
