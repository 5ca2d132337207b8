-- The texts of a constant pool by numbers, and what its entries name (JVMS 8 sections 4.4.1, 4.4.2 and 4.4.6).
use Rattle.std.specs.Prelude.{◌≡◌, ℕ, List, Option, Some, None, slice_get, slice_index_or}
use Rattle.std.specs.Option.{option_and_then}
use Rattle.kb_classfile.specs.declared.file.Field.{Field}
use Rattle.kb_classfile.specs.declared.file.Method.{Method as ClassMethod}
use Rattle.kb_classfile.specs.declared.file.PoolEntry.{PoolEntry}
use Rattle.kb_classfile.specs.declared.file.PoolEntry.TheVariants as entries
use Rattle.kb_classfile.specs.Pool.{utf8_in, text_of, name_index_of}
use Rattle.kb_numbers.specs.declared.pairs.Pair.{Pair}
use Rattle.kb_numbers.specs.declared.pairs.EntryNumbers.{EntryNumbers}

-- ---- a row of the numbers of the texts

-- the number is that of the entry's text, if it has one
abbrev pub HasNumber : List (List ℕ) → PoolEntry → ℕ → Type 0
HasNumber texts entry number = (text : List ℕ) → text_of entry ≡ Some text → slice_get texts number ≡ Some text

-- the row has the number of each text of the pool
abbrev pub IsTextRow : List (List ℕ) → List PoolEntry → List ℕ → Type 0
IsTextRow texts pool row = (index : ℕ) (text : List ℕ) → utf8_in pool index ≡ Some text → slice_get texts (slice_index_or row index 0) ≡ Some text

-- ---- members by the entries of their names and descriptors

abbrev pub pair_at : List ℕ → ℕ → ℕ → Pair
pair_at row name kind = record { name = slice_index_or row name 0; kind = slice_index_or row kind 0 }

abbrev pub method_pair : List ℕ → ClassMethod → Pair
method_pair row method = pair_at row method.name method.kind

abbrev pub field_pair : List ℕ → Field → Pair
field_pair row field = pair_at row field.name field.kind

-- ---- what entries name

-- the entries of the name and of the descriptor of a NameAndType entry
abbrev pub name_type_of : PoolEntry → Option (ℕ × ℕ)
name_type_of (entries.NameType name kind) = Some (name, kind)
name_type_of _ = None

-- the entry of the name of the Class entry of that number
abbrev pub class_index : List PoolEntry → ℕ → Option ℕ
class_index pool index = option_and_then name_index_of (slice_get pool index)

-- those of the NameAndType entry of that number
abbrev pub name_type_at : List PoolEntry → ℕ → Option (ℕ × ℕ)
name_type_at pool index = option_and_then name_type_of (slice_get pool index)

abbrev pub named_by : List ℕ → Option ℕ → Option (ℕ × ℕ) → Option EntryNumbers
named_by row (Some class) (Some parts) = Some (record { class = slice_index_or row class 0; member = pair_at row parts.0 parts.1 })
named_by row _ _ = None

-- the member of one entry, sought in the type of the other
abbrev pub numbers_by : List PoolEntry → List ℕ → ℕ → ℕ → Option EntryNumbers
numbers_by pool row class name_type = named_by row (class_index pool class) (name_type_at pool name_type)

-- what an entry names, if it names a member
abbrev pub entry_numbers : List PoolEntry → List ℕ → PoolEntry → Option EntryNumbers
entry_numbers pool row (entries.Field class name_type) = numbers_by pool row class name_type
entry_numbers pool row (entries.Method class name_type) = numbers_by pool row class name_type
entry_numbers pool row (entries.InterfaceMethod class name_type) = numbers_by pool row class name_type
entry_numbers pool row _ = None
