-- Constant pools, entry by entry (The Java Virtual Machine Specification, Java SE 8 Edition, section 4.4).
use Rattle.std.specs.Prelude.{ℕ, ◌+◌, List, ◌∷◌, map, position, Option, None, Some}
use Rattle.kb_classfile.specs.declared.file.PoolEntry.{PoolEntry}
use Rattle.kb_classfile.specs.declared.file.PoolEntry.TheVariants as entries
use Rattle.kb_asm_pool.specs.declared.items.ReferenceKind.{ReferenceKind}
use Rattle.kb_asm_pool.specs.declared.items.ReferenceKind.TheVariants as kinds
use Rattle.kb_asm_pool.specs.Says.{Says, text, int, class, string, name_type, member, same}

abbrev pub number_at : Option ℕ → ℕ
number_at None = 0
number_at (Some place) = place + 1

-- the number of an entry, from 1, or 0 where it is not there
abbrev pub number_in : List Says → Says → ℕ
number_in says one = number_at (position (same one) says)

abbrev pub member_entry : ReferenceKind → ℕ → ℕ → PoolEntry
member_entry kinds.Field owner of = entries.Field owner of
member_entry kinds.Method owner of = entries.Method owner of
member_entry kinds.InterfaceMethod owner of = entries.InterfaceMethod owner of

-- the entry that says it, by the numbers of others
abbrev pub entry_of : List Says → Says → PoolEntry
entry_of says (text bytes) = entries.Utf8 bytes
entry_of says (int number) = entries.Integer number
entry_of says (class name) = entries.Class (number_in says (text name))
entry_of says (string of) = entries.Str (number_in says (text of))
entry_of says (name_type name kind) = entries.NameType (number_in says (text name)) (number_in says (text kind))
entry_of says (member of owner name kind) = member_entry of (number_in says (class owner)) (number_in says (name_type name kind))

-- the entries by their numbers, behind the number 0
abbrev pub entries_of : List Says → List PoolEntry
entries_of says = entries.Skipped ∷ map (entry_of says) says
