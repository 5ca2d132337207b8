-- A switch by the place in a table goes where the switch by its keys does.
use Rattle.std.proofs.Common.{◌≡◌, ◌≢◌, ℕ, zero, suc, ℤ, pos, ◌+ℤ◌, ◌<ℤ◌, ◌≤ℤ◌, ◌-ℤ◌, unsigned_abs, Bool, true, false, List, [], ◌∷◌, refl, arith}
use Rattle.std.specs.List.{slice_index_or}
use Rattle.std.specs.Ordering.{int_eq}
use Rattle.std.proofs.lemmas.Bool.Decides.{Decides-int_eq}
use Rattle.std.proofs.lemmas.Int.{ints}
use Rattle.kb_semantics.specs.Comparisons.{switch_target, table_keys}

same_int : (a b : ℤ) → a ≡ b → int_eq a b ≡ true
same_int a b e = (Decides-int_eq a b).1 e

other_int : (a b : ℤ) → a ≢ b → int_eq a b ≡ false
other_int a b h = go (int_eq a b) refl where
  go : (t : Bool) → int_eq a b ≡ t → t ≡ false
  go true e = absurd (h ((Decides-int_eq a b).0 e))
  go false e = refl

-- below the table
pub table_below : (targets : List ℕ) (value low : ℤ) (default : ℕ) → value <ℤ low → switch_target value (table_keys low targets) default ≡ default
table_below [] value low default below = refl
table_below (target ∷ targets) value low default below =
    let other : int_eq value low ≡ false = other_int value low (λ e. absurd (omega (arith, ints, e, below))) in
    let further : value <ℤ (low +ℤ pos 1) = omega (arith, ints, below) in
    rw other (table_below targets value (low +ℤ pos 1) default further)

-- from its lowest key on
pub table_at : (targets : List ℕ) (value low : ℤ) (place default : ℕ) → value ≡ low +ℤ pos place → switch_target value (table_keys low targets) default ≡ slice_index_or targets place default
table_at [] value low place default e = refl
table_at (target ∷ targets) value low zero default e =
    let same : int_eq value low ≡ true = same_int value low (omega (arith, ints, e)) in
    rw same refl
table_at (target ∷ targets) value low (suc place) default e =
    let other : int_eq value low ≡ false = other_int value low (λ same. absurd (omega (arith, ints, e, same))) in
    let further : value ≡ (low +ℤ pos 1) +ℤ pos place = omega (arith, ints, e) in
    rw other (table_at targets value (low +ℤ pos 1) place default further)

-- where the key is that place behind the lowest one
pub table_from : (targets : List ℕ) (value low : ℤ) (default : ℕ) → low ≤ℤ value → switch_target value (table_keys low targets) default ≡ slice_index_or targets (unsigned_abs (value -ℤ low)) default
table_from targets value low default above =
    let place : value ≡ low +ℤ pos (unsigned_abs (value -ℤ low)) = omega (arith, ints, above) in
    table_at targets value low (unsigned_abs (value -ℤ low)) default place
