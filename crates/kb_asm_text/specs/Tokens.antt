-- The words of assembler texts: flags and bytes in hexadecimal, labels, names, types, numbers.
use Rattle.std.specs.Prelude.{◌≡◌, ◌≢◌, ℕ, ◌+◌, ◌*◌, ◌<◌, ℤ, Bool, IsTrue, nat_lt, ◌||◌, List, [], ◌∷◌, if◌then◌else◌}
use Rattle.std.specs.List.{list_all}
use Rattle.std.specs.Int.RustNames.{FitsSigned}
use mir.Syntax.{w8, w16}
use Rattle.kb_grammar.specs.Numbers.{SpellsInt}
use Rattle.kb_names.specs.Escapes.{is_between, SpellsName}
use Rattle.kb_names.specs.Descriptors.{SpellsType}
use Rattle.kb_names.specs.declared.class_names.Spelling.TheVariants.{Escaped}
use Rattle.kb_names.specs.declared.types.JType.{JType}
use Rattle.kb_names.specs.declared.types.JType.TheVariants as types
use Rattle.kb_asm_text.specs.declared.line.ClassRef.{ClassRef}
use Rattle.kb_asm_text.specs.declared.line.ClassRef.TheVariants as refs

-- a digit in base 16, in lower case
abbrev pub low_digit : ℕ → ℕ
low_digit digit = if nat_lt digit 10 then 48 + digit else 87 + digit

abbrev pub IsDigit : ℕ → ℕ → Type 0
IsDigit digit letter = (digit < 16) × (letter ≡ low_digit digit)

-- the byte of two digits
pub record IsPair (byte first second : ℕ) : Type 0 where
  pub high : ℕ
  pub low : ℕ
  pub first_is : IsDigit high first
  pub second_is : IsDigit low second
  pub is : byte ≡ 16 * high + low

-- a byte as two digits
abbrev pub SpellsByteHex : ℕ → List ℕ → Type 0
SpellsByteHex byte (first ∷ second ∷ []) = IsPair byte first second
SpellsByteHex byte _ = ⊥

-- flags as four digits
pub record IsFlags (flags first second third fourth : ℕ) : Type 0 where
  pub high : ℕ
  pub low : ℕ
  pub high_is : IsPair high first second
  pub low_is : IsPair low third fourth
  pub is : flags ≡ 256 * high + low

abbrev pub SpellsFlags : ℕ → List ℕ → Type 0
SpellsFlags flags (first ∷ second ∷ third ∷ fourth ∷ []) = IsFlags flags first second third fourth
SpellsFlags flags _ = ⊥

-- a letter or a digit
abbrev pub is_label_byte : ℕ → Bool
is_label_byte byte = is_between 97 122 byte || is_between 65 90 byte || is_between 48 57 byte

-- a label, as it is
pub record SpellsLabel (label word : List ℕ) : Type 0 where
  pub is : word ≡ label
  pub some : label ≢ []
  pub bytes : IsTrue (list_all is_label_byte label)

-- a name or a string that is not empty; there is no empty word
abbrev pub SpellsText : List ℕ → List ℕ → Type 0
SpellsText name word = SpellsName name word × (name ≢ [])

-- what a handler catches: the word any stands for each class, and so names none
abbrev pub SpellsAny : List ℕ → Type 0
SpellsAny word = word ≡ 97 ∷ 110 ∷ 121 ∷ []

-- an int of one byte, and of two
abbrev pub SpellsByteInt : ℤ → List ℕ → Type 0
SpellsByteInt number word = FitsSigned w8 number × SpellsInt number word

abbrev pub SpellsShortInt : ℤ → List ℕ → Type 0
SpellsShortInt number word = FitsSigned w16 number × SpellsInt number word

abbrev pub IsArray : JType → Type 0
IsArray (types.Array component) = Unit {0}
IsArray _ = ⊥

-- a class by its name, or an array type by its descriptor
abbrev pub SpellsClassRef : ClassRef → List ℕ → Type 0
SpellsClassRef (refs.Class name) word = SpellsText name word
SpellsClassRef (refs.Array of) word = SpellsType Escaped of word × IsArray of
