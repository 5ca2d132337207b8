-- Numbers and lists spell what they were made of.
use Rattle.std.proofs.Common.{ℕ, ◌+◌, ◌<◌, ◌^◌, ℤ, List, [], ◌∷◌, ◌++◌, length, refl, sym, arith}
use Rattle.std.specs.Int.{w8, w16, w32, cast_unsigned}
use Rattle.std.specs.Int.RustNames.{FitsSigned}
use Rattle.std.specs.List.{flat_map}
use Rattle.std.proofs.lemmas.Int.{ints, to_z-of_z}
use Rattle.kb_grammar.specs.Grammar.{Piece, ◌⊳◌, IsNumber, Each}
use Rattle.kb_classfile.specs.Spelling.{SpellsTable}
use Rattle.kb_code.specs.Listing.{IsByte, IsShort, IsInt}
use Rattle.kb_writer.specs.Numbers.{u2, u4, byte, short, int}
use Rattle.kb_writer.specs.Pieces.{Anywhere, EachSpelled}
use Rattle.kb_writer.specs.Files.{table}

-- ---- numbers

pub u1_spells : (n at : ℕ) → IsNumber 1 n at (n ∷ [])
u1_spells n at = (refl, omega arith)

pub u2_spells : (n at : ℕ) → n < 2 ^ 16 → IsNumber 2 n at (u2 n)
u2_spells n at fits = (refl, omega (arith, fits))

pub u4_spells : (n at : ℕ) → n < 2 ^ 32 → IsNumber 4 n at (u4 n)
u4_spells n at fits = (refl, omega (arith, fits))

pub byte_spells : (z : ℤ) (at : ℕ) → FitsSigned w8 z → IsByte z at (byte z)
byte_spells z at fits = (cast_unsigned w8 z, sym (to_z-of_z w8 z fits), u1_spells (cast_unsigned w8 z) at)

pub short_spells : (z : ℤ) (at : ℕ) → FitsSigned w16 z → IsShort z at (short z)
short_spells z at fits =
    let few : cast_unsigned w16 z < 2 ^ 16 = omega (arith, ints, fits) in
    (cast_unsigned w16 z, sym (to_z-of_z w16 z fits), u2_spells (cast_unsigned w16 z) at few)

pub int_spells : (z : ℤ) (at : ℕ) → FitsSigned w32 z → IsInt z at (int z)
int_spells z at fits =
    let few : cast_unsigned w32 z < 2 ^ 32 = omega (arith, ints, fits) in
    (cast_unsigned w32 z, sym (to_z-of_z w32 z fits), u4_spells (cast_unsigned w32 z) at few)

-- ---- one behind the other

pub joined : (S T : Piece) (at : ℕ) (a b : List ℕ) → S at a → T (at + length a) b → (S ⊳ T) at (a ++ b)
joined S T at a b s t = record { front = a; back = b; parts = refl; begins = s; ends = t }

pub joined_anywhere : (S T : Piece) (a b : List ℕ) → Anywhere S a → Anywhere T b → Anywhere (S ⊳ T) (a ++ b)
joined_anywhere S T a b s t at = joined S T at a b (s at) (t (at + length a))

pub each_spells : {A : Type 0} (S : A → Piece) (f : A → List ℕ) (xs : List A) (at : ℕ) → EachSpelled S f xs → Each S xs at (flat_map f xs)
each_spells S f [] at h = refl
each_spells S f (x ∷ xs) at h = joined (S x) (Each S xs) at (f x) (flat_map f xs) (h.0 at) (each_spells S f xs (at + length (f x)) h.1)

pub table_spells : {A : Type 0} (S : A → Piece) (f : A → List ℕ) (xs : List A) → length xs < 2 ^ 16 → EachSpelled S f xs → Anywhere (SpellsTable S xs) (table f xs)
table_spells S f xs few h at =
    joined (IsNumber 2 (length xs)) (Each S xs) at (u2 (length xs)) (flat_map f xs) (u2_spells (length xs) at few) (each_spells S f xs (at + length (u2 (length xs))) h)
