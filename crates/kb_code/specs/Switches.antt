-- What the switches of code keep, however it is written (JVMS 8 section 6.5, tableswitch and lookupswitch).
use Rattle.std.specs.Prelude.{ℕ, ◌^◌, ℤ, pos, ◌+ℤ◌, ◌-ℤ◌, int_lt, Bool, true, List, [], ◌∷◌, nat_le, ◌&&◌}

-- the int of a pair
abbrev pub key_of : {A : Type 0} → ℤ × A → ℤ
key_of pair = pair.0

-- whether the int of each item is above that of the one before it
abbrev pub are_above : {A : Type 0} → (A → ℤ) → ℤ → List A → Bool
are_above key low [] = true
are_above key low (item ∷ items) = int_lt low (key item) && are_above key (key item) items

abbrev pub are_rising : {A : Type 0} → (A → ℤ) → List A → Bool
are_rising key [] = true
are_rising key (item ∷ items) = are_above key (key item) items

-- whether a tableswitch with so many targets from the lowest int on has one at least, and its highest int is an int
abbrev pub is_table : ℤ → ℕ → Bool
is_table low count = nat_le 1 count && int_lt (low +ℤ pos count -ℤ pos 1) (pos (2 ^ 31))
