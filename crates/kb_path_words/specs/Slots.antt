-- Slots as the lines of a report name them. Which slot of an object a field is, and whether its class declares another field of its
-- name, is said by a world; here stands what is said by the words alone.
use Rattle.std.specs.Prelude.{◌≡◌, ℕ, List, [], ◌++◌, codes, Option, None, Some}
use Rattle.std.specs.Fmt.{decimal}
use Rattle.kb_names.specs.Bytes.{AreBytes}
use Rattle.kb_names.specs.Descriptors.{type_text, IsType}
use Rattle.kb_names.specs.Escapes.{name_text}
use Rattle.kb_names.specs.declared.class_names.Spelling.TheVariants.{Escaped}
use Rattle.kb_names.specs.declared.types.JType.{JType}
use Rattle.kb_path_words.specs.declared.slots.FieldWord.{FieldWord}
use Rattle.kb_path_words.specs.declared.slots.SlotWord.{SlotWord}
use Rattle.kb_path_words.specs.declared.slots.SlotWord.TheVariants.{Arg, Field, Element}
use Rattle.kb_path_words.specs.Ranges.{IsSmall}

-- a descriptor behind a colon, if there is one (JVMS 8 section 4.3.2)
abbrev pub kind_text : Option JType → List ℕ
kind_text None = []
kind_text (Some kind) = codes ":" ++ type_text Escaped kind

abbrev pub HasKind : Option JType → Type 0
HasKind None = Unit {0}
HasKind (Some kind) = IsType Escaped kind

abbrev pub SpellsKind : Option JType → List ℕ → Type 0
SpellsKind kind text = HasKind kind × (text ≡ kind_text kind)

-- a field: the class that declares it, its name, and its descriptor if it stands there
unfoldable pub field_text : FieldWord → List ℕ
field_text field = name_text field.class ++ (codes "." ++ (name_text field.name ++ kind_text field.kind))

pub record IsField (field : FieldWord) : Type 0 where
  pub class : AreBytes field.class
  pub name : AreBytes field.name
  pub kind : HasKind field.kind

abbrev pub SpellsField : FieldWord → List ℕ → Type 0
SpellsField field text = IsField field × (text ≡ field_text field)

-- a slot: an argument, a field of an object of the picture or an element of one
unfoldable pub slot_text : SlotWord → List ℕ
slot_text (Arg number) = codes "a" ++ decimal number
slot_text (Field object field) = codes "o" ++ (decimal object ++ (codes "." ++ field_text field))
slot_text (Element array index) = codes "o" ++ (decimal array ++ (codes "[" ++ (decimal index ++ codes "]")))

abbrev pub IsSlot : SlotWord → Type 0
IsSlot (Arg number) = IsSmall number
IsSlot (Field object field) = IsSmall object × IsField field
IsSlot (Element array index) = IsSmall array × IsSmall index

abbrev pub SpellsSlot : SlotWord → List ℕ → Type 0
SpellsSlot slot text = IsSlot slot × (text ≡ slot_text slot)

-- the same of fields alone, and of elements alone
abbrev pub SpellsFieldOf : ℕ × FieldWord → List ℕ → Type 0
SpellsFieldOf parts text = SpellsSlot (Field parts.0 parts.1) text

abbrev pub SpellsElement : ℕ × ℕ → List ℕ → Type 0
SpellsElement parts text = SpellsSlot (Element parts.0 parts.1) text
