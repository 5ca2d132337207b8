-- Bytes that the words of a line lack: a space, a line feed, and the signs that part a name from what stands behind it.
use Rattle.std.proofs.Common.{◌≡◌, ◌≢◌, ℕ, zero, suc, ◌+◌, ◌<◌, ◌≤◌, ◌^◌, ◌/◌, ◌%◌, Bool, true, false, if◌then◌else◌, Option, None, Some, List, [], ◌∷◌, ◌++◌, refl, ap, ◌∙◌, arith, eq-eqb}
use Rattle.std.specs.Prelude.{ℤ, pos, negsuc, replicate, not, nat_le, nat_lt, ◌==◌, ◌&&◌}
use Rattle.std.proofs.lemmas.Bool.{leb-true}
use Rattle.std.proofs.lemmas.Bool.Decides.{Decides-ltb, nat_tests}
use Rattle.std.specs.List.{flat_map}
use Rattle.std.specs.Fmt.{decimal, signed_decimal}
use Rattle.std.specs.Int.RustNames.{FitsSigned}
use mir.Syntax.{w32}
use Rattle.std.proofs.lemmas.Fmt.{decimal_by_steps}
use Rattle.std.proofs.lemmas.Int.{ints}
use Rattle.kb_grammar.specs.Lines.{Lacks}
use Rattle.kb_grammar.proofs.WordLaws.{Lacks-++}
use Rattle.kb_names.specs.Shape.{Base, bool_base, byte_base, char_base, short_base, int_base, long_base, float_base, double_base, class_base}
use Rattle.kb_names.specs.Types.{shape_of}
use Rattle.kb_names.specs.Escapes.{is_plain, hex_digit, byte_text, name_text}
use Rattle.kb_names.specs.Descriptors.{base_text, type_text, result_text, method_text}
use Rattle.kb_names.specs.Targets.{target_text}
use Rattle.kb_names.specs.declared.class_names.Spelling.TheVariants.{Escaped}
use Rattle.kb_names.specs.declared.types.JType.{JType}
use Rattle.kb_names.specs.declared.types.Target.{Target}
use Rattle.kb_names.proofs.Choices.{true_and}

-- ---- words that are written out

abbrev pub lacks : ℕ → List ℕ → Bool
lacks byte [] = true
lacks byte (first ∷ others) = not (first == byte) && lacks byte others

differ : (first byte : ℕ) → not (first == byte) ≡ true → first ≢ byte
differ first byte e same =
    let is : (first == byte) ≡ true = eq-eqb first byte same in
    cc

pub lacks_is : (byte : ℕ) (text : List ℕ) → lacks byte text ≡ true → Lacks byte text
lacks_is byte [] e = tt
lacks_is byte (first ∷ others) e =
    let both = true_and (not (first == byte)) (lacks byte others) e in
    (differ first byte both.0, lacks_is byte others both.1)

-- ---- names and numbers

-- a byte that is none of the plain ones and stands in no number
pub record IsApart (byte : ℕ) : Type 0 where
  pub plain : is_plain byte ≡ false
  pub percent : 37 ≢ byte
  pub sign : 45 ≢ byte
  pub digit : (digit : ℕ) → digit < 10 → 48 + digit ≢ byte

-- of a count of items
pub count_lacks : (byte number : ℕ) → IsApart byte → number < 2 ^ 64 → Lacks byte (decimal number)
count_lacks byte number apart small =
    decimal_by_steps (λ (m : ℕ) (ds : List ℕ). Lacks byte ds)
    (λ m h. (apart.digit m h, tt))
    (λ m ds h before. Lacks-++ byte ds ((48 + m % 10) ∷ []) before (apart.digit (m % 10) (omega arith), tt))
    number small

pub digits_lack : (byte number : ℕ) → IsApart byte → number < 2 ^ 32 → Lacks byte (decimal number)
digits_lack byte number apart small = count_lacks byte number apart (omega (arith, small))

pub signed_lacks : (byte : ℕ) (z : ℤ) → IsApart byte → FitsSigned w32 z → Lacks byte (signed_decimal z)
signed_lacks byte (pos n) apart fits = digits_lack byte n apart (omega (arith, ints, fits))
signed_lacks byte (negsuc n) apart fits = (apart.sign, digits_lack byte (suc n) apart (omega (arith, ints, fits)))

-- whatever number the digit is of
hex_lacks : (byte : ℕ) → IsApart byte → byte < 65 → (digit : ℕ) → hex_digit digit ≢ byte
hex_lacks byte apart low digit = go (nat_lt digit 10) refl
  where
    go : (small : Bool) → nat_lt digit 10 ≡ small → (if small then 48 + digit else 55 + digit) ≢ byte
    go true is = apart.digit digit ((Decides-ltb digit 10).0 is)
    go false is = λ same. let large : 10 ≤ digit = grind (arith, nat_tests, is) in omega (arith, low, same, large)

byte_lacks : (byte : ℕ) → IsApart byte → byte < 65 → (b : ℕ) → Lacks byte (byte_text b)
byte_lacks byte apart low b = go (is_plain b) refl
  where
    go : (t : Bool) → is_plain b ≡ t → Lacks byte (if t then b ∷ [] else 37 ∷ hex_digit (b / 16) ∷ hex_digit (b % 16) ∷ [])
    go true e = ((λ same. let other : is_plain b ≡ false = ap is_plain same ∙ apart.plain in cc), tt)
    go false e = (apart.percent, (hex_lacks byte apart low (b / 16), (hex_lacks byte apart low (b % 16), tt)))

-- of a byte below the letters
pub name_lacks : (byte : ℕ) → IsApart byte → byte < 65 → (name : List ℕ) → Lacks byte (name_text name)
name_lacks byte apart low [] = tt
name_lacks byte apart low (b ∷ name) = Lacks-++ byte (byte_text b) (name_text name) (byte_lacks byte apart low b) (name_lacks byte apart low name)

-- ---- types

-- a byte that stands in no type either: a line feed, and a space
pub record IsGap (byte : ℕ) : Type 0 where
  pub apart : IsApart byte
  pub low : byte < 36

pub above : (letter byte : ℕ) → byte < 36 → 36 ≤ letter → letter ≢ byte
above letter byte low high = omega (arith, low, high)

-- words of letters and the like
abbrev pub are_high : List ℕ → Bool
are_high [] = true
are_high (first ∷ others) = nat_le 36 first && are_high others

pub high_lacks : (byte : ℕ) → byte < 36 → (text : List ℕ) → are_high text ≡ true → Lacks byte text
high_lacks byte low [] e = tt
high_lacks byte low (first ∷ others) e =
    let both = true_and (nat_le 36 first) (are_high others) e in
    (above first byte low (leb-true 36 first both.0), high_lacks byte low others both.1)

module _ (byte : ℕ) (gap : IsGap byte) where
  letter : (at : ℕ) → 36 ≤ at → Lacks byte (at ∷ [])
  letter at high = (above at byte gap.low high, tt)

  pub gap_in_name : (name : List ℕ) → Lacks byte (name_text name)
  gap_in_name name = name_lacks byte gap.apart (omega (arith, gap.low)) name

  base_lacks : (base : Base) → Lacks byte (base_text Escaped base)
  base_lacks bool_base = letter 90 (omega arith)
  base_lacks byte_base = letter 66 (omega arith)
  base_lacks char_base = letter 67 (omega arith)
  base_lacks short_base = letter 83 (omega arith)
  base_lacks int_base = letter 73 (omega arith)
  base_lacks long_base = letter 74 (omega arith)
  base_lacks float_base = letter 70 (omega arith)
  base_lacks double_base = letter 68 (omega arith)
  base_lacks (class_base name) = (above 76 byte gap.low (omega arith), Lacks-++ byte (name_text name) (59 ∷ []) (gap_in_name name) (letter 59 (omega arith)))

  dims_lack : (dims : ℕ) → Lacks byte (replicate dims 91)
  dims_lack zero = tt
  dims_lack (suc dims) = (above 91 byte gap.low (omega arith), dims_lack dims)

  pub type_lacks : (type : JType) → Lacks byte (type_text Escaped type)
  type_lacks type = Lacks-++ byte (replicate (shape_of type).dims 91) (base_text Escaped (shape_of type).base) (dims_lack (shape_of type).dims) (base_lacks (shape_of type).base)

  types_lack : (types : List JType) → Lacks byte (flat_map (type_text Escaped) types)
  types_lack [] = tt
  types_lack (type ∷ types) = Lacks-++ byte (type_text Escaped type) (flat_map (type_text Escaped) types) (type_lacks type) (types_lack types)

  result_lacks : (result : Option JType) → Lacks byte (result_text Escaped result)
  result_lacks None = letter 86 (omega arith)
  result_lacks (Some type) = type_lacks type

  pub target_lacks : (target : Target) → Lacks byte (target_text target)
  target_lacks target =
      Lacks-++ byte (name_text target.class) (46 ∷ (name_text target.name ++ method_text Escaped target.kind)) (gap_in_name target.class) (
        above 46 byte gap.low (omega arith),
        Lacks-++ byte (name_text target.name) (method_text Escaped target.kind) (gap_in_name target.name) (
          above 40 byte gap.low (omega arith),
          Lacks-++ byte (flat_map (type_text Escaped) target.kind.params) (41 ∷ result_text Escaped target.kind.result)
              (types_lack target.kind.params) (above 41 byte gap.low (omega arith), result_lacks target.kind.result),
        ),
      )

-- ---- the bytes

pub space : IsGap 32
space = record { apart = record { plain = refl; percent = omega arith; sign = omega arith; digit = λ digit lt. omega arith }; low = omega arith }

pub line_feed : IsGap 10
line_feed = record { apart = record { plain = refl; percent = omega arith; sign = omega arith; digit = λ digit lt. omega arith }; low = omega arith }

-- `(`, `.`, `:` and `;`
pub opening : IsApart 40
opening = record { plain = refl; percent = omega arith; sign = omega arith; digit = λ digit lt. omega arith }

pub dot : IsApart 46
dot = record { plain = refl; percent = omega arith; sign = omega arith; digit = λ digit lt. omega arith }

pub colon : IsApart 58
colon = record { plain = refl; percent = omega arith; sign = omega arith; digit = λ digit lt. omega (arith, lt) }

pub semicolon : IsApart 59
semicolon = record { plain = refl; percent = omega arith; sign = omega arith; digit = λ digit lt. omega (arith, lt) }

-- `[` and `]`
pub bracket : IsApart 91
bracket = record { plain = refl; percent = omega arith; sign = omega arith; digit = λ digit lt. omega (arith, lt) }

pub bracket_end : IsApart 93
bracket_end = record { plain = refl; percent = omega arith; sign = omega arith; digit = λ digit lt. omega (arith, lt) }
