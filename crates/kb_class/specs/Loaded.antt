-- A class as the tables that it keeps tell it: for a number of the constant pool, the type that the text there names, and the
-- type of a field or method that it describes, where they were read.
use Rattle.std.specs.Prelude.{◌↔◌, ℕ, ℤ, List, [], map, Option, Some, None, option_and_then, slice_get, unwrap_or, IsSome}
use Rattle.std.specs.List.{AllByRecursion}
use Rattle.kb_classfile.specs.declared.file.ClassFile.{ClassFile}
use Rattle.kb_classfile.specs.declared.file.PoolEntry.{PoolEntry}
use Rattle.kb_classfile.specs.declared.file.PoolEntry.TheVariants as entries
use Rattle.kb_classfile.specs.Pool.{utf8_in, class_name_of}
use Rattle.kb_names.specs.declared.types.ExactType.{ExactType}
use Rattle.kb_class.specs.declared.members.MemberKind.{MemberKind}
use Rattle.kb_class.specs.declared.loaded.Origin.{Origin}
use Rattle.kb_class.specs.declared.loaded.Origin.TheVariants.{File, Platform}
use Rattle.kb_class.specs.declared.entries.ReferenceKind.{ReferenceKind}
use Rattle.kb_class.specs.declared.entries.ReferenceKind.TheVariants as references
use Rattle.kb_class.specs.Class.{Member, Sought, Entry, IntEntry, TextEntry, TypeEntry, MemberEntry, FieldEntry, MethodEntry, InterfaceMethodEntry, OtherEntry, Class}
use Rattle.kb_class.specs.Naming.{Has, HasKind}

-- what the table has at a number
abbrev pub told_at : {A : Type 0} → List (Option A) → ℕ → Option A
told_at table number = option_and_then (λ told. told) (slice_get table number)

-- ---- parts of entries

abbrev pub class_type : List (Option ExactType) → PoolEntry → Option ExactType
class_type types (entries.Class name) = told_at types name
class_type types _ = None

-- the type of the Class entry of that number
abbrev pub type_in : List PoolEntry → List (Option ExactType) → ℕ → Option ExactType
type_in pool types number = option_and_then (class_type types) (slice_get pool number)

abbrev pub member_told : Option (List ℕ) → Option MemberKind → Option Member
member_told (Some name) (Some kind) = Some (record { name = name; kind = kind })
member_told _ _ = None

abbrev pub entry_member : List PoolEntry → List (Option MemberKind) → PoolEntry → Option Member
entry_member pool kinds (entries.NameType name kind) = member_told (utf8_in pool name) (told_at kinds kind)
entry_member pool kinds _ = None

-- the name and type of the NameAndType entry of that number
abbrev pub member_in : List PoolEntry → List (Option MemberKind) → ℕ → Option Member
member_in pool kinds number = option_and_then (entry_member pool kinds) (slice_get pool number)

-- ---- what an entry stands for, and OtherEntry where a part of it is not told

abbrev pub text_told : Option (List ℕ) → Entry
text_told (Some text) = TextEntry text
text_told None = OtherEntry

abbrev pub type_told : Option ExactType → Entry
type_told (Some type) = TypeEntry type
type_told None = OtherEntry

abbrev pub name_type_told : Option Member → Entry
name_type_told (Some member) = MemberEntry member
name_type_told None = OtherEntry

abbrev pub reference_told : (ExactType → Member → Entry) → Option ExactType → Option Member → Entry
reference_told made (Some type) (Some member) = made type member
reference_told made _ _ = OtherEntry

abbrev pub entry_told : List PoolEntry → List (Option ExactType) → List (Option MemberKind) → PoolEntry → Entry
entry_told pool types kinds (entries.Integer value) = IntEntry value
entry_told pool types kinds (entries.Str text) = text_told (utf8_in pool text)
entry_told pool types kinds (entries.Class name) = type_told (told_at types name)
entry_told pool types kinds (entries.NameType name kind) = name_type_told (member_told (utf8_in pool name) (told_at kinds kind))
entry_told pool types kinds (entries.Field class name_type) =
    reference_told FieldEntry (type_in pool types class) (member_in pool kinds name_type)
entry_told pool types kinds (entries.Method class name_type) =
    reference_told MethodEntry (type_in pool types class) (member_in pool kinds name_type)
entry_told pool types kinds (entries.InterfaceMethod class name_type) =
    reference_told InterfaceMethodEntry (type_in pool types class) (member_in pool kinds name_type)
entry_told pool types kinds _ = OtherEntry

-- the text of a String entry
abbrev pub told_text : List PoolEntry → Option PoolEntry → Option (List ℕ)
told_text pool (Some (entries.Str text)) = utf8_in pool text
told_text pool _ = None

abbrev pub told_int : Option PoolEntry → Option ℤ
told_int (Some (entries.Integer value)) = Some value
told_int _ = None

abbrev pub sought_told : ReferenceKind → Option ExactType → Option Member → Option Sought
sought_told what (Some type) (Some member) = Some (record { what = what; class = type; member = member })
sought_told what _ _ = None

-- what an entry of a field or method names
abbrev pub told_reference : List PoolEntry → List (Option ExactType) → List (Option MemberKind) → Option PoolEntry → Option Sought
told_reference pool types kinds (Some (entries.Field class name_type)) = sought_told references.Field (type_in pool types class) (member_in pool kinds name_type)
told_reference pool types kinds (Some (entries.Method class name_type)) = sought_told references.Method (type_in pool types class) (member_in pool kinds name_type)
told_reference pool types kinds (Some (entries.InterfaceMethod class name_type)) = sought_told references.InterfaceMethod (type_in pool types class) (member_in pool kinds name_type)
told_reference pool types kinds _ = None

-- ---- the class

abbrev pub entries_of : Origin → List (Option ExactType) → List (Option MemberKind) → List Entry
entries_of (File file) types kinds = map (entry_told file.pool types kinds) file.pool
entries_of (Platform interfaces) types kinds = []

abbrev pub interface_of : ClassFile → ℕ → List ℕ
interface_of file index = unwrap_or (class_name_of file index) []

abbrev pub interfaces_of : Origin → List (List ℕ)
interfaces_of (File file) = map (interface_of file) file.interfaces
interfaces_of (Platform interfaces) = interfaces

abbrev pub file_of : Origin → Option ClassFile
file_of (File file) = Some file
file_of (Platform interfaces) = None

-- each entry of an interface names a class
abbrev pub HasInterfaces : Origin → Type 0
HasInterfaces (File file) = AllByRecursion (λ index. IsSome (class_name_of file index)) file.interfaces
HasInterfaces (Platform interfaces) = Unit {0}

-- the tables have what the class names in its Class entries and in its descriptors
pub record IsIndexed (class : Class) (types : List (Option ExactType)) (kinds : List (Option MemberKind)) : Type 0 where
  pub named : (type : ExactType) → Has types (Some type) ↔ Has class.entries (TypeEntry type)
  pub described : (kind : MemberKind) → Has kinds (Some kind) ↔ HasKind class kind
