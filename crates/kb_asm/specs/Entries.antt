-- What an entry of a constant pool says, told by its number, with the entries that it names (The Java Virtual Machine
-- Specification, Java SE 8 Edition, section 4.4).
use Rattle.std.specs.Prelude.{◌≡◌, ℕ, List, Some}
use Rattle.kb_classfile.specs.declared.file.PoolEntry.{PoolEntry}
use Rattle.kb_classfile.specs.declared.file.PoolEntry.TheVariants as entries
use Rattle.kb_classfile.specs.Pool.{entry_at}
use Rattle.kb_asm_pool.specs.Says.{Says, text, int, class, string, name_type, member}
use Rattle.kb_asm_pool.specs.Entries.{member_entry}

-- a text (section 4.4.7)
abbrev pub SaysText : List PoolEntry → List ℕ → ℕ → Type 0
SaysText pool bytes number = entry_at pool number ≡ Some (entries.Utf8 bytes)

-- a class or an array type of that name (section 4.4.1)
abbrev pub SaysClass : List PoolEntry → List ℕ → ℕ → Type 0
SaysClass pool name number = (at : ℕ) × (entry_at pool number ≡ Some (entries.Class at)) × SaysText pool name at

-- a name and a descriptor (section 4.4.6)
abbrev pub SaysNameType : List PoolEntry → List ℕ → List ℕ → ℕ → Type 0
SaysNameType pool name kind number =
    (first second : ℕ) × (entry_at pool number ≡ Some (entries.NameType first second)) × SaysText pool name first × SaysText pool kind second

-- the entry with the number says it
abbrev pub EntrySays : List PoolEntry → Says → ℕ → Type 0
EntrySays pool (text bytes) number = SaysText pool bytes number
EntrySays pool (int value) number = entry_at pool number ≡ Some (entries.Integer value)
EntrySays pool (class name) number = SaysClass pool name number
EntrySays pool (string of) number = (at : ℕ) × (entry_at pool number ≡ Some (entries.Str at)) × SaysText pool of at
EntrySays pool (name_type name kind) number = SaysNameType pool name kind number
EntrySays pool (member of owner name kind) number =
    (first second : ℕ) × (entry_at pool number ≡ Some (member_entry of first second)) × SaysClass pool owner first × SaysNameType pool name kind second
