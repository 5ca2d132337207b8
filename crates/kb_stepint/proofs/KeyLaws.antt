-- The keys of a switch, one by one.
use Rattle.std.proofs.Common.{◌≡◌, ℕ, zero, suc, ◌+◌, ℤ, pos, ◌+ℤ◌, w32, to_z, of_z, FitsSigned, Bool, true, false, List, [], ◌∷◌, ◌++◌, length, drop, filter, slice_get, Some, refl, sym, ap, ◌∙◌, arith}
use Rattle.std.proofs.lemmas.Int.{ints, to_z-of_z}
use Rattle.std.proofs.lemmas.List.{append_assoc}
use Rattle.kb_picture.specs.declared.choice.Choice.{Choice}
use Rattle.kb_picture.specs.declared.choice.Choice.TheVariants.{Key, Default}
use Rattle.kb_semantics.specs.Comparisons.{table_keys}
use Rattle.kb_terms.specs.declared.node.TermId.{TermId}
use Rattle.kb_ways.specs.declared.condition.Side.TheVariants.{Term, Number}
use Rattle.kb_ways.specs.Asked.{equal_sides}
use Rattle.kb_stepint.specs.Choices.{keys_from}

-- the entry at a place, and what is behind it
pub drop_at : {A : Type 0} (xs : List A) (i : ℕ) (x : A) → slice_get xs i ≡ Some x → drop i xs ≡ x ∷ drop (suc i) xs
drop_at [] i x e = absurd cc
drop_at (y ∷ ys) zero x e = let same : y ≡ x = cc in ap (λ z. z ∷ ys) same
drop_at (y ∷ ys) (suc i) x e = drop_at ys i x e

-- a table's key of a place
pub table_at : (targets : List ℕ) (low : ℤ) (place target : ℕ) → slice_get targets place ≡ Some target → slice_get (table_keys low targets) place ≡ Some (low +ℤ pos place, target)
table_at [] low place target e = absurd cc
table_at (first ∷ targets) low zero target e =
    let same : first ≡ target = cc in
    let none : low ≡ low +ℤ pos 0 = omega (arith, ints) in
    ap (λ (k : ℤ × ℕ). Some k) (ap (λ (z : ℤ). (z, first)) none ∙ ap (λ (t : ℕ). (low +ℤ pos 0, t)) same)
table_at (first ∷ targets) low (suc place) target e =
    let more : (low +ℤ pos 1) +ℤ pos place ≡ low +ℤ pos (suc place) = omega (arith, ints) in
    table_at targets (low +ℤ pos 1) place target e ∙ ap (λ (z : ℤ). Some (z, target)) more

pub table_many : (targets : List ℕ) (low : ℤ) → length (table_keys low targets) ≡ length targets
table_many [] low = refl
table_many (target ∷ targets) low = ap suc (table_many targets (low +ℤ pos 1))

-- a number that a word holds is compared as it is
pub of_number : (x : TermId) (z : ℤ) (so : Bool) → FitsSigned w32 z → equal_sides (Term x) (Number (to_z w32 (of_z w32 z))) so ≡ equal_sides (Term x) (Number z) so
of_number x z so fits = ap (λ (v : ℤ). equal_sides (Term x) (Number v) so) (to_z-of_z w32 z fits)

-- ---- the alternatives, one by one

pub filter_first : {A : Type 0} (p : A → Bool) (x : A) (xs : List A) → filter p (x ∷ xs) ≡ filter p (x ∷ []) ++ filter p xs
filter_first p x xs = go (p x) refl where
  go : (b : Bool) → p x ≡ b → filter p (x ∷ xs) ≡ filter p (x ∷ []) ++ filter p xs
  go true e = rw e refl
  go false e = rw e refl

module _ (p : Choice → Bool) (keys : List (ℤ × ℕ)) where
  pub one_key_more : (place : ℕ) (key : ℤ × ℕ) (before after all : List Choice) → slice_get keys place ≡ Some key → after ≡ before ++ filter p (Key place ∷ [])
      → before ++ filter p (keys_from place (drop place keys)) ≡ all → after ++ filter p (keys_from (place + 1) (drop (suc place) keys)) ≡ all
  one_key_more place key before after all there pushed earlier =
      let rest = filter p (keys_from (place + 1) (drop (suc place) keys)) in
      let parts : filter p (keys_from place (drop place keys)) ≡ filter p (Key place ∷ []) ++ rest =
      ap (λ (l : List (ℤ × ℕ)). filter p (keys_from place l)) (drop_at keys place key there) ∙ filter_first p (Key place) (keys_from (place + 1) (drop (suc place) keys)) in
      ap (λ (l : List Choice). l ++ rest) pushed ∙ append_assoc before (filter p (Key place ∷ [])) rest ∙ ap (λ (l : List Choice). before ++ l) (sym parts) ∙ earlier

  drop_whole : {A : Type 0} (xs : List A) → drop (length xs) xs ≡ []
  drop_whole [] = refl
  drop_whole (x ∷ xs) = drop_whole xs

  pub all_keys : (before all : List Choice) → before ++ filter p (keys_from (length keys) (drop (length keys) keys)) ≡ all → before ++ filter p (Default ∷ []) ≡ all
  all_keys before all e = ap (λ (l : List (ℤ × ℕ)). before ++ filter p (keys_from (length keys) l)) (sym (drop_whole keys)) ∙ e
