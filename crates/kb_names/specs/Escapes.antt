-- How names are written in texts: a byte that is not plain as a % and its two digits.
use Rattle.std.specs.Prelude.{◌≡◌, ℕ, ◌+◌, ◌-◌, ◌*◌, ◌/◌, ◌%◌, Bool, ◌==◌, ◌&&◌, ◌||◌, nat_lt, nat_le, if◌then◌else◌, Option, Some, None, List, [], ◌∷◌, ◌++◌, is_some}
use Rattle.std.specs.Option.{option_map, option_and_then}
use Rattle.std.specs.List.{flat_map}
use Rattle.kb_names.specs.Bytes.{AreBytes}
use Rattle.kb_names.specs.declared.name_texts.NameStage.{NameStage}
use Rattle.kb_names.specs.declared.name_texts.NameStage.TheVariants.{Plain, Percent, High}

abbrev pub is_between : ℕ → ℕ → ℕ → Bool
is_between low high byte = nat_le low byte && nat_le byte high

-- a letter, a digit, or one of _ $ / < > -
abbrev pub is_plain : ℕ → Bool
is_plain byte =
    is_between 97 122 byte || is_between 65 90 byte || is_between 48 57 byte
    || byte == 95 || byte == 36 || byte == 47 || byte == 60 || byte == 62 || byte == 45

-- a digit in base 16, in upper case
abbrev pub hex_digit : ℕ → ℕ
hex_digit digit = if nat_lt digit 10 then 48 + digit else 55 + digit

abbrev pub byte_text : ℕ → List ℕ
byte_text byte = if is_plain byte then byte ∷ [] else 37 ∷ hex_digit (byte / 16) ∷ hex_digit (byte % 16) ∷ []

-- the one spelling of a name
abbrev pub name_text : List ℕ → List ℕ
name_text name = flat_map byte_text name

-- the digit of that letter
abbrev pub hex_value : ℕ → Option ℕ
hex_value byte =
    if is_between 48 57 byte then Some (byte - 48)
    else if is_between 65 70 byte then Some (byte - 55)
    else None

-- the text spells the name
abbrev pub SpellsName : List ℕ → List ℕ → Type 0
SpellsName name text = AreBytes name × (text ≡ name_text name)

-- the text is that of a name
abbrev pub IsNameText : List ℕ → Type 0
IsNameText text = (name : List ℕ) × SpellsName name text

-- the byte of two digits
abbrev pub pair_value : ℕ → ℕ → Option ℕ
pair_value first second =
    option_and_then (λ high. option_map (λ low. 16 * high + low) (hex_value second)) (hex_value first)

-- the name with a byte that is escaped
abbrev pub with_escaped : List ℕ → ℕ → Option NameStage
with_escaped name byte = if is_plain byte then None else Some (Plain (name ++ byte ∷ []))

-- how a reader of names goes on from byte to byte
unfoldable pub name_step : NameStage → ℕ → Option NameStage
name_step (Plain name) byte =
    if byte == 37 then Some (Percent name)
    else if is_plain byte then Some (Plain (name ++ byte ∷ []))
    else None
name_step (Percent name) byte = if is_some (hex_value byte) then Some (High name byte) else None
name_step (High name first) byte = option_and_then (λ value. with_escaped name value) (pair_value first byte)

-- the name that is read, if the text may end here
abbrev pub name_read : NameStage → Option (List ℕ)
name_read (Plain name) = Some name
name_read stage = None
