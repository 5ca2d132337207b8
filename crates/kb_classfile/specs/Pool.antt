-- Looking into the constant pool (JVMS 8 section 4.4), and what its entries name.
use Rattle.std.specs.Prelude.{◌≡◌, ℕ, zero, suc, ◌+◌, Bool, true, false, List, [], ◌∷◌, Option, Some, None, slice_get, IsTrue, if◌then◌else◌}
use Rattle.std.specs.Option.{option_and_then}
use Rattle.std.specs.Str.{bytes_eq}
use Rattle.kb_classfile.specs.declared.file.PoolEntry.{PoolEntry}
use Rattle.kb_classfile.specs.declared.file.PoolEntry.TheVariants as entries
use Rattle.kb_classfile.specs.declared.file.ClassFile.{ClassFile}
use Rattle.kb_classfile.specs.declared.pool.EntryKind.{EntryKind}
use Rattle.kb_classfile.specs.declared.pool.EntryKind.TheVariants as kinds
use Rattle.kb_classfile.specs.declared.pool.Reference.{Reference}
use Rattle.kb_classfile.specs.declared.refusal.ClassRefusal.{ClassRefusal}
use Rattle.kb_classfile.specs.declared.refusal.ClassRefusal.TheVariants as refusals

-- the bytes of a Utf8 entry (JVMS 8 section 4.4.7)
abbrev pub text_of : PoolEntry → Option (List ℕ)
text_of (entries.Utf8 text) = Some text
text_of _ = None

-- the entry of the name of a Class entry (JVMS 8 section 4.4.1)
abbrev pub name_index_of : PoolEntry → Option ℕ
name_index_of (entries.Class name) = Some name
name_index_of _ = None

-- the bytes of the Utf8 entry with that number
abbrev pub utf8_in : List PoolEntry → ℕ → Option (List ℕ)
utf8_in pool index = option_and_then text_of (slice_get pool index)

-- the bytes of the name of the Class entry with that number
abbrev pub class_name_in : List PoolEntry → ℕ → Option (List ℕ)
class_name_in pool index = option_and_then (utf8_in pool) (option_and_then name_index_of (slice_get pool index))

abbrev pub utf8_of : ClassFile → ℕ → Option (List ℕ)
utf8_of file index = utf8_in file.pool index

abbrev pub class_name_of : ClassFile → ℕ → Option (List ℕ)
class_name_of file index = class_name_in file.pool index

-- ---- numbers that name entries

-- the entry with that number; there is none with the number 0
abbrev pub entry_at : List PoolEntry → ℕ → Option PoolEntry
entry_at pool zero = None
entry_at pool (suc before) = slice_get pool (suc before)

-- whether an entry is of the kind
abbrev pub is_of_kind : EntryKind → PoolEntry → Bool
is_of_kind kinds.Text (entries.Utf8 text) = true
is_of_kind kinds.Class (entries.Class name) = true
is_of_kind kinds.NameType (entries.NameType name kind) = true
is_of_kind _ _ = false

-- the number names an entry of the kind
pub record NamesEntry (kind : EntryKind) (pool : List PoolEntry) (index : ℕ) : Type 0 where
  pub entry : PoolEntry
  pub there : entry_at pool index ≡ Some entry
  pub right : IsTrue (is_of_kind kind entry)

-- the entries that an entry names are there, each of the kind that its tag asks for (JVMS 8 sections 4.4.1 to 4.4.6)
abbrev pub RefersWell : List PoolEntry → PoolEntry → Type 0
RefersWell pool (entries.Class name) = NamesEntry kinds.Text pool name
RefersWell pool (entries.Str text) = NamesEntry kinds.Text pool text
RefersWell pool (entries.Field class name_type) = NamesEntry kinds.Class pool class × NamesEntry kinds.NameType pool name_type
RefersWell pool (entries.Method class name_type) = NamesEntry kinds.Class pool class × NamesEntry kinds.NameType pool name_type
RefersWell pool (entries.InterfaceMethod class name_type) = NamesEntry kinds.Class pool class × NamesEntry kinds.NameType pool name_type
RefersWell pool (entries.NameType name kind) = NamesEntry kinds.Text pool name × NamesEntry kinds.Text pool kind
RefersWell pool _ = Unit {0}

-- ---- references: numbers with their offsets in the file, and what they must name

-- the class, and the name and type, of a field or method
abbrev pub member_references : ℕ → ℕ → ℕ → List Reference
member_references at class name_type =
    record { at = at + 1; index = class; kind = kinds.Class } ∷ record { at = at + 3; index = name_type; kind = kinds.NameType } ∷ []

-- the references of an entry whose tag has the offset `at`, in the order of the file
abbrev pub references_of : ℕ → PoolEntry → List Reference
references_of at (entries.Class name) = record { at = at + 1; index = name; kind = kinds.Text } ∷ []
references_of at (entries.Str text) = record { at = at + 1; index = text; kind = kinds.Text } ∷ []
references_of at (entries.Field class name_type) = member_references at class name_type
references_of at (entries.Method class name_type) = member_references at class name_type
references_of at (entries.InterfaceMethod class name_type) = member_references at class name_type
references_of at (entries.NameType name kind) =
    record { at = at + 1; index = name; kind = kinds.Text } ∷ record { at = at + 3; index = kind; kind = kinds.Text } ∷ []
references_of at _ = []

-- the fault of a reference to this entry, if there is one
abbrev pub fault_at : Reference → Option PoolEntry → Option ClassRefusal
fault_at reference None = Some (refusals.PoolIndex reference.at reference.index)
fault_at reference (Some entry) = if is_of_kind reference.kind entry then None else Some (refusals.PoolKind reference.at reference.index)

-- the fault of a reference: its number names no entry, or one of another kind
abbrev pub fault_of : List PoolEntry → Reference → Option ClassRefusal
fault_of pool reference = fault_at reference (entry_at pool reference.index)

-- a fault, or else the other
abbrev pub fault_or : Option ClassRefusal → Option ClassRefusal → Option ClassRefusal
fault_or (Some fault) other = Some fault
fault_or None other = other

-- the first fault of these references
abbrev pub first_fault_of : List PoolEntry → List Reference → Option ClassRefusal
first_fault_of pool [] = None
first_fault_of pool (reference ∷ others) = fault_or (fault_of pool reference) (first_fault_of pool others)

-- ---- texts

-- whether a text was found, and is this one
abbrev pub is_text : List ℕ → Option (List ℕ) → Bool
is_text text (Some found) = bytes_eq found text
is_text text None = false
