-- What a class keeps while it is loaded: tables over the constant pool, of the texts that are named in one role.
use Rattle.std.specs.Prelude.{◌≡◌, ℕ, ◌≤◌, ◌⊎◌, List, ◌++◌, map, length, Option, Some, None, IsSome, IfSome, option_map, filter_map, slice_set}
use Rattle.std.specs.List.{AllByRecursion}
use Rattle.kb_classfile.specs.declared.file.ClassFile.{ClassFile}
use Rattle.kb_classfile.specs.declared.file.Code.{Code}
use Rattle.kb_classfile.specs.declared.file.Field.{Field}
use Rattle.kb_classfile.specs.declared.file.Method.{Method as ClassMethod}
use Rattle.kb_classfile.specs.declared.file.PoolEntry.{PoolEntry}
use Rattle.kb_classfile.specs.declared.file.PoolEntry.TheVariants as entries
use Rattle.kb_classfile.specs.declared.pool.EntryKind.TheVariants as kinds
use Rattle.kb_classfile.specs.Pool.{utf8_in, utf8_of, name_index_of, NamesEntry, RefersWell}
use Rattle.kb_names.specs.declared.types.JType.{JType}
use Rattle.kb_names.specs.declared.types.MethodType.{MethodType}
use Rattle.kb_names.specs.declared.class_names.Spelling.TheVariants.{Raw}
use Rattle.kb_names.specs.Descriptors.{SpellsType, SpellsMethod}
use Rattle.kb_class.specs.declared.members.MemberKind.{MemberKind}
use Rattle.kb_class.specs.declared.members.MemberKind.TheVariants as member_kinds
use Rattle.kb_class.specs.Loading.{HasText}
use Rattle.kb_class.specs.Loaded.{told_at}
use Rattle.kb_class.specs.Naming.{Has}

-- ---- the numbers of texts that are named in one role

-- the names of Class entries
abbrev pub type_numbers : List PoolEntry → List ℕ
type_numbers pool = filter_map name_index_of pool

abbrev pub field_name_index : Field → ℕ
field_name_index field = field.name

abbrev pub method_name_index : ClassMethod → ℕ
method_name_index method = method.name

-- the names of fields and of methods
abbrev pub name_numbers : ClassFile → List ℕ
name_numbers file = map field_name_index file.fields ++ map method_name_index file.methods

abbrev pub kind_index_of : PoolEntry → Option ℕ
kind_index_of (entries.NameType name kind) = Some kind
kind_index_of _ = None

abbrev pub field_index : Field → ℕ
field_index field = field.kind

abbrev pub method_index : ClassMethod → ℕ
method_index method = method.kind

-- the descriptors of NameAndType entries, of fields and of methods
abbrev pub kind_numbers : ClassFile → List ℕ
kind_numbers file = (filter_map kind_index_of file.pool ++ map field_index file.fields) ++ map method_index file.methods

-- the number that a String entry names its text by, where a text stands there
abbrev pub literal_index_of : List PoolEntry → PoolEntry → Option ℕ
literal_index_of pool (entries.Str text) = option_map (λ (found : List ℕ). text) (utf8_in pool text)
literal_index_of pool _ = None

-- the texts of String entries (JVMS 8 section 4.4.3)
abbrev pub literal_numbers : List PoolEntry → List ℕ
literal_numbers pool = filter_map (literal_index_of pool) pool

-- ---- tables

-- a name is spelled by its own bytes
abbrev pub SpellsItself : List ℕ → List ℕ → Type 0
SpellsItself name text = name ≡ text

-- some value is spelled by the text
abbrev pub IsSpelling : {A : Type 0} → (A → List ℕ → Type 0) → List ℕ → Type 0
IsSpelling {A = A} Spells text = (value : A) × Spells value text

-- the Utf8 entry of that number spells some value
abbrev pub IsSpelled : {A : Type 0} → (A → List ℕ → Type 0) → List PoolEntry → ℕ → Type 0
IsSpelled Spells pool number = HasText pool number (IsSpelling Spells)

-- At each of these numbers, and at no other, the table has what the Utf8 entry there spells.
pub record IsTable {A : Type 0} (Spells : A → List ℕ → Type 0) (pool : List PoolEntry) (numbers : List ℕ) (table : List (Option A)) : Type 0 where
  pub size : length table ≡ length pool
  pub right : (number : ℕ) (value : A) → told_at table number ≡ Some value → Has numbers number × HasText pool number (Spells value)
  pub whole : (number : ℕ) → Has numbers number → (value : A) × (told_at table number ≡ Some value)

-- what the Utf8 entry of that number spells is at the number after that, and nothing else is changed
abbrev pub Puts : {A : Type 0} → (A → List ℕ → Type 0) → List PoolEntry → ℕ → List (Option A) → List (Option A) → Type 0
Puts {A = A} Spells pool number before after =
    (IsSome (told_at before number) × (after ≡ before))
    ⊎ ((value : A) × HasText pool number (Spells value) × (after ≡ slice_set before number (Some value)))

-- ---- what is known of a file that some bytes spell

-- its code is of 1 to 65,535 bytes
abbrev pub HasSize : Code → Type 0
HasSize code = (1 ≤ length code.bytes) × (length code.bytes ≤ 65535)

pub record IsSound (file : ClassFile) : Type 0 where
  pub references : AllByRecursion (RefersWell file.pool) file.pool
  pub own : NamesEntry kinds.Class file.pool file.this
  pub above : NamesEntry kinds.Class file.pool file.parent
  pub interfaces_are : AllByRecursion (NamesEntry kinds.Class file.pool) file.interfaces
  pub sizes : AllByRecursion (λ method. IfSome method.code HasSize) file.methods

-- ---- members whose names and descriptors are in the tables

pub record IsFieldTold (file : ClassFile) (names : List (Option (List ℕ))) (described : List (Option MemberKind)) (field : Field) : Type 0 where
  pub name : List ℕ
  pub named : told_at names field.name ≡ Some name
  pub named_so : utf8_of file field.name ≡ Some name
  pub type : JType
  pub told : told_at described field.kind ≡ Some (member_kinds.Field type)
  pub spelled : HasText file.pool field.kind (SpellsType Raw type)

pub record IsMethodTold (file : ClassFile) (names : List (Option (List ℕ))) (described : List (Option MemberKind)) (method : ClassMethod) : Type 0 where
  pub name : List ℕ
  pub named : told_at names method.name ≡ Some name
  pub named_so : utf8_of file method.name ≡ Some name
  pub type : MethodType
  pub told : told_at described method.kind ≡ Some (member_kinds.Method type)
  pub spelled : HasText file.pool method.kind (SpellsMethod Raw type)
  pub sized : IfSome method.code HasSize
