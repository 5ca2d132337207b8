-- The bytes of a class file without attributes but Code (The Java Virtual Machine Specification, Java SE 8 Edition, chapter
-- 4), and which class files have them.
use Rattle.std.specs.Prelude.{◌≡◌, ℕ, ◌<◌, ◌≤◌, ◌^◌, ◌⊎◌, List, [], ◌∷◌, ◌++◌, drop, length, Option, Some, None, slice_get, codes}
use Rattle.std.specs.Int.{w32}
use Rattle.std.specs.Int.RustNames.{FitsSigned}
use Rattle.std.specs.List.{AllByRecursion, flat_map}
use Rattle.kb_classfile.specs.declared.file.PoolEntry.{PoolEntry}
use Rattle.kb_classfile.specs.declared.file.PoolEntry.TheVariants as entries
use Rattle.kb_classfile.specs.declared.file.Code.{Code}
use Rattle.kb_classfile.specs.declared.file.Field.{Field}
use Rattle.kb_classfile.specs.declared.file.Handler.{Handler}
use Rattle.kb_classfile.specs.declared.file.Method.{Method}
use Rattle.kb_classfile.specs.declared.file.ClassFile.{ClassFile}
use Rattle.kb_classfile.specs.declared.pool.EntryKind.TheVariants as kinds
use Rattle.kb_classfile.specs.Pool.{utf8_in, NamesEntry, RefersWell}
use Rattle.kb_classfile.specs.Spelling.{magic}
use Rattle.kb_writer.specs.Numbers.{u2, u4, int}

-- ---- what can be written

-- a list whose count has two bytes
abbrev pub IsTable : {A : Type 0} → (A → Type 0) → List A → Type 0
IsTable P xs = (length xs < 2 ^ 16) × AllByRecursion P xs

-- An entry that is written. Long, Double and Float are none of them, and neither are those that invokedynamic asks for.
abbrev pub IsWritten : PoolEntry → Type 0
IsWritten (entries.Utf8 text) = length text < 2 ^ 16
IsWritten entries.Wide = ⊥
IsWritten entries.Second = ⊥
IsWritten entries.Skipped = ⊥
IsWritten _ = Unit {0}

-- the entries from the number 1 on are written, and each names entries of the right kinds
pub record IsWritablePool (pool : List PoolEntry) : Type 0 where
  pub zeroth : slice_get pool 0 ≡ Some entries.Skipped
  pub most : length pool < 2 ^ 16
  pub written : AllByRecursion IsWritten (drop 1 pool)
  pub references : AllByRecursion (RefersWell pool) pool

-- the class that a handler catches, or 0 for any
abbrev pub IsWritableHandler : List PoolEntry → Handler → Type 0
IsWritableHandler pool handler = (handler.catch ≡ 0) ⊎ NamesEntry kinds.Class pool handler.catch

-- the counts of bytes and of handlers have two bytes
abbrev pub HasSizes : Code → Type 0
HasSizes code = (length code.bytes < 2 ^ 16) × (length code.handlers < 2 ^ 16)

-- the code, and that the number `name` is that of the text Code
pub record IsWritableCode (name : ℕ) (pool : List PoolEntry) (code : Code) : Type 0 where
  pub named : utf8_in pool name ≡ Some (codes "Code")
  pub some : 1 ≤ length code.bytes
  pub sizes : HasSizes code
  pub handlers : AllByRecursion (IsWritableHandler pool) code.handlers

abbrev pub IfCode : (Code → Type 0) → Option Code → Type 0
IfCode P None = Unit {0}
IfCode P (Some code) = P code

pub record IsWritableField (pool : List PoolEntry) (field : Field) : Type 0 where
  pub name : NamesEntry kinds.Text pool field.name
  pub kind : NamesEntry kinds.Text pool field.kind

pub record IsWritableMethod (code_name : ℕ) (pool : List PoolEntry) (method : Method) : Type 0 where
  pub name : NamesEntry kinds.Text pool method.name
  pub kind : NamesEntry kinds.Text pool method.kind
  pub code : IfCode (IsWritableCode code_name pool) method.code

-- the class file can be written, where `code_name` is the number of the text Code, if a method has code
pub record IsWritable (code_name : ℕ) (file : ClassFile) : Type 0 where
  pub least : 45 ≤ file.major
  pub latest : file.major ≤ 52
  pub pool : IsWritablePool file.pool
  pub this : NamesEntry kinds.Class file.pool file.this
  pub parent : NamesEntry kinds.Class file.pool file.parent
  pub interfaces : IsTable (NamesEntry kinds.Class file.pool) file.interfaces
  pub fields : IsTable (IsWritableField file.pool) file.fields
  pub methods : IsTable (IsWritableMethod code_name file.pool) file.methods

-- ---- the bytes

-- a list behind its count
abbrev pub table : {A : Type 0} → (A → List ℕ) → List A → List ℕ
table f xs = u2 (length xs) ++ flat_map f xs

-- bytes behind their count
abbrev pub sized : List ℕ → List ℕ
sized bytes = u4 (length bytes) ++ bytes

-- an entry: its tag, and what stands behind it (JVMS 8 table 4.4-A)
unfoldable pub entry_bytes : PoolEntry → List ℕ
entry_bytes (entries.Utf8 text) = 1 ∷ (u2 (length text) ++ text)
entry_bytes (entries.Integer value) = 3 ∷ int value
entry_bytes (entries.Class name) = 7 ∷ u2 name
entry_bytes (entries.Str text) = 8 ∷ u2 text
entry_bytes (entries.Field class name_type) = 9 ∷ (u2 class ++ u2 name_type)
entry_bytes (entries.Method class name_type) = 10 ∷ (u2 class ++ u2 name_type)
entry_bytes (entries.InterfaceMethod class name_type) = 11 ∷ (u2 class ++ u2 name_type)
entry_bytes (entries.NameType name kind) = 12 ∷ (u2 name ++ u2 kind)
entry_bytes _ = []

-- the pool: the count is one more than the numbers of entries
unfoldable pub pool_bytes : List PoolEntry → List ℕ
pool_bytes pool = u2 (length pool) ++ flat_map entry_bytes (drop 1 pool)

unfoldable pub handler_bytes : Handler → List ℕ
handler_bytes handler = u2 handler.start ++ u2 handler.end ++ u2 handler.target ++ u2 handler.catch

-- the content of a Code attribute, which has no attributes (JVMS 8 section 4.7.3)
unfoldable pub content_bytes : Code → List ℕ
content_bytes code =
    u2 code.max_stack ++ u2 code.max_locals ++ sized code.bytes ++ table handler_bytes code.handlers ++ u2 0

-- the attributes of a method: its code, behind their count, its name and its length
unfoldable pub code_bytes : ℕ → Option Code → List ℕ
code_bytes code_name None = u2 0
code_bytes code_name (Some code) = u2 1 ++ u2 code_name ++ sized (content_bytes code)

unfoldable pub field_bytes : Field → List ℕ
field_bytes field = u2 field.access ++ u2 field.name ++ u2 field.kind ++ u2 0

unfoldable pub method_bytes : ℕ → Method → List ℕ
method_bytes code_name method = u2 method.access ++ u2 method.name ++ u2 method.kind ++ code_bytes code_name method.code

-- what stands before the pool: the minor version is 0
abbrev pub head_bytes : ℕ → List ℕ
head_bytes major = u4 magic ++ u2 0 ++ u2 major

-- a class file
unfoldable pub class_bytes : ℕ → ClassFile → List ℕ
class_bytes code_name file =
    head_bytes file.major ++ pool_bytes file.pool ++ u2 file.access ++ u2 file.this ++ u2 file.parent
    ++ table u2 file.interfaces ++ table field_bytes file.fields ++ table (method_bytes code_name) file.methods ++ u2 0

-- ---- numbers within their types: each has two bytes, and the ints of Integer entries are ints

abbrev pub FitsEntry : PoolEntry → Type 0
FitsEntry (entries.Integer value) = FitsSigned w32 value
FitsEntry (entries.Class name) = name < 2 ^ 16
FitsEntry (entries.Str text) = text < 2 ^ 16
FitsEntry (entries.Field class name_type) = (class < 2 ^ 16) × (name_type < 2 ^ 16)
FitsEntry (entries.Method class name_type) = (class < 2 ^ 16) × (name_type < 2 ^ 16)
FitsEntry (entries.InterfaceMethod class name_type) = (class < 2 ^ 16) × (name_type < 2 ^ 16)
FitsEntry (entries.NameType name kind) = (name < 2 ^ 16) × (kind < 2 ^ 16)
FitsEntry _ = Unit {0}

abbrev pub FitsHandler : Handler → Type 0
FitsHandler handler = (handler.start < 2 ^ 16) × (handler.end < 2 ^ 16) × (handler.target < 2 ^ 16) × (handler.catch < 2 ^ 16)

abbrev pub FitsCode : Code → Type 0
FitsCode code = (code.max_stack < 2 ^ 16) × (code.max_locals < 2 ^ 16) × AllByRecursion FitsHandler code.handlers

abbrev pub FitsField : Field → Type 0
FitsField field = (field.access < 2 ^ 16) × (field.name < 2 ^ 16) × (field.kind < 2 ^ 16)

abbrev pub FitsMethod : Method → Type 0
FitsMethod method = (method.access < 2 ^ 16) × (method.name < 2 ^ 16) × (method.kind < 2 ^ 16) × IfCode FitsCode method.code

abbrev pub FitsIndex : ℕ → Type 0
FitsIndex index = index < 2 ^ 16

-- the numbers of the class file, and that of the text Code
pub record Fits (code_name : ℕ) (file : ClassFile) : Type 0 where
  pub name : code_name < 2 ^ 16
  pub major : file.major < 2 ^ 16
  pub pool : AllByRecursion FitsEntry (drop 1 file.pool)
  pub access : file.access < 2 ^ 16
  pub this : file.this < 2 ^ 16
  pub parent : file.parent < 2 ^ 16
  pub interfaces : AllByRecursion FitsIndex file.interfaces
  pub fields : AllByRecursion FitsField file.fields
  pub methods : AllByRecursion FitsMethod file.methods
