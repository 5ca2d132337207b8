-- The class file format (JVMS 8 chapter 4): which bytes spell a class file. Numbers have the highest byte first. Each item
-- kind is a definition of its own. What is skipped may be anything.
use Rattle.std.specs.Prelude.{◌≡◌, ◌≢◌, ℕ, ◌≤◌, ◌⊎◌, Bool, true, false, List, [], ◌∷◌, length, drop, Option, Some, None, slice_get, codes}
use Rattle.std.specs.List.{AllByRecursion}
use Rattle.std.specs.Int.{w32, cast_signed}
use Rattle.kb_grammar.specs.Grammar.{Piece, ◌⊳◌, IsNothing, Never, IsRun, IsRunOf, IsNumber, IsAny, Each, IsSized}
use Rattle.kb_classfile.specs.declared.file.PoolEntry.{PoolEntry}
use Rattle.kb_classfile.specs.declared.file.PoolEntry.TheVariants as entries
use Rattle.kb_classfile.specs.declared.file.Code.{Code}
use Rattle.kb_classfile.specs.declared.file.Field.{Field}
use Rattle.kb_classfile.specs.declared.file.Handler.{Handler}
use Rattle.kb_classfile.specs.declared.file.Method.{Method}
use Rattle.kb_classfile.specs.declared.file.ClassFile.{ClassFile}
use Rattle.kb_classfile.specs.declared.pool.EntryKind.{EntryKind}
use Rattle.kb_classfile.specs.declared.pool.EntryKind.TheVariants as kinds
use Rattle.kb_classfile.specs.Pool.{utf8_in, NamesEntry, RefersWell}

-- a number of one, two or four bytes, the u1, u2 and u4 of the format
abbrev pub IsU1 : ℕ → Piece
IsU1 n = IsNumber 1 n

abbrev pub IsU2 : ℕ → Piece
IsU2 n = IsNumber 2 n

abbrev pub IsU4 : ℕ → Piece
IsU4 n = IsNumber 4 n

-- a list after its count
abbrev pub SpellsTable : {A : Type 0} → (A → Piece) → List A → Piece
SpellsTable S xs = IsU2 (length xs) ⊳ Each S xs

-- ---- the constant pool (section 4.4)

-- the class, and the name and type, of a field or method (section 4.4.2)
abbrev pub SpellsMember : ℕ → ℕ → ℕ → ℕ → Piece
SpellsMember tag own class name_type at bytes = (tag ≡ own) × (IsU2 class ⊳ IsU2 name_type) at bytes

-- What stands behind the tag of an entry. A Float is not looked at, and so are MethodHandle, MethodType and InvokeDynamic.
abbrev pub SpellsInfo : ℕ → PoolEntry → Piece
SpellsInfo tag (entries.Utf8 text) at bytes = (tag ≡ 1) × (IsU2 (length text) ⊳ IsRun text) at bytes
SpellsInfo tag (entries.Integer value) at bytes = (tag ≡ 3) × (n : ℕ) × (value ≡ cast_signed w32 n) × IsU4 n at bytes
SpellsInfo tag entries.Wide at bytes = ((tag ≡ 5) ⊎ (tag ≡ 6)) × IsAny (IsRunOf 8) at bytes
SpellsInfo tag entries.Second at bytes = ⊥
SpellsInfo tag (entries.Class name) at bytes = (tag ≡ 7) × IsU2 name at bytes
SpellsInfo tag (entries.Str text) at bytes = (tag ≡ 8) × IsU2 text at bytes
SpellsInfo tag (entries.Field class name_type) at bytes = SpellsMember tag 9 class name_type at bytes
SpellsInfo tag (entries.Method class name_type) at bytes = SpellsMember tag 10 class name_type at bytes
SpellsInfo tag (entries.InterfaceMethod class name_type) at bytes = SpellsMember tag 11 class name_type at bytes
SpellsInfo tag (entries.NameType name kind) at bytes = SpellsMember tag 12 name kind at bytes
SpellsInfo tag entries.Skipped at bytes =
    ((tag ≡ 4) × IsAny IsU4 at bytes) ⊎  -- Float
    ((tag ≡ 15) × (IsAny IsU1 ⊳ IsAny IsU2) at bytes) ⊎  -- MethodHandle
    ((tag ≡ 16) × IsAny IsU2 at bytes) ⊎  -- MethodType
    ((tag ≡ 18) × (IsAny IsU2 ⊳ IsAny IsU2) at bytes)  -- InvokeDynamic

-- an entry: its tag, and what stands behind it
abbrev pub SpellsEntry : PoolEntry → Piece
SpellsEntry entry at bytes = (tag : ℕ) × (IsU1 tag ⊳ SpellsInfo tag entry) at bytes

abbrev pub is_wide : PoolEntry → Bool
is_wide entries.Wide = true
is_wide _ = false

-- the second number of a Long or Double, which has no bytes of its own (section 4.4.5), and then the others
abbrev pub SpellsSecond : PoolEntry → Piece → Piece
SpellsSecond entries.Second Others = Others
SpellsSecond _ Others = Never

-- Entries by their numbers. Where the first of them is due to be a second number, `due` is true; a Long or Double may be
-- the last, and then its second number is none.
abbrev pub SpellsEntries : Bool → List PoolEntry → Piece
SpellsEntries due [] = IsNothing
SpellsEntries true (entry ∷ others) = SpellsSecond entry (SpellsEntries false others)
SpellsEntries false (entry ∷ others) = SpellsEntry entry ⊳ SpellsEntries (is_wide entry) others

-- The count is one more than the numbers of entries, which begin with 1. A count of 0 stands for no entries too.
abbrev pub SpellsPoolCount : ℕ → Piece
SpellsPoolCount count at bytes = IsU2 count at bytes ⊎ ((count ≡ 1) × IsU2 0 at bytes)

pub record SpellsPool (pool : List PoolEntry) (at : ℕ) (bytes : List ℕ) : Type 0 where
  pub zeroth : slice_get pool 0 ≡ Some entries.Skipped
  pub items : (SpellsPoolCount (length pool) ⊳ SpellsEntries false (drop 1 pool)) at bytes
  pub references : AllByRecursion (RefersWell pool) pool

-- the number of an entry of the kind
abbrev pub SpellsIndex : EntryKind → List PoolEntry → ℕ → Piece
SpellsIndex kind pool index at bytes = NamesEntry kind pool index × IsU2 index at bytes

-- ---- attributes (section 4.7)

-- an attribute: the number of its name, and its content
pub record Attribute : Type 0 where
  pub name : ℕ
  pub content : List ℕ

abbrev pub SpellsAttribute : List PoolEntry → Attribute → Piece
SpellsAttribute pool attribute = SpellsIndex kinds.Text pool attribute.name ⊳ IsSized 4 (IsRun attribute.content)

-- attributes that are skipped, whatever they are, behind their count
abbrev pub SpellsAttributes : List PoolEntry → Piece
SpellsAttributes pool = IsAny (SpellsTable (SpellsAttribute pool))

-- the length of the code, 1 to 65,535, and the code
pub record SpellsInstructions (code : List ℕ) (at : ℕ) (bytes : List ℕ) : Type 0 where
  pub some : 1 ≤ length code
  pub most : length code ≤ 65535
  pub items : (IsU4 (length code) ⊳ IsRun code) at bytes

-- the class that a handler catches, or 0 for any
abbrev pub SpellsCatch : List PoolEntry → ℕ → Piece
SpellsCatch pool index at bytes = ((index ≡ 0) ⊎ NamesEntry kinds.Class pool index) × IsU2 index at bytes

-- a row of the handler table
abbrev pub SpellsHandler : List PoolEntry → Handler → Piece
SpellsHandler pool handler = IsU2 handler.start ⊳ IsU2 handler.end ⊳ IsU2 handler.target ⊳ SpellsCatch pool handler.catch

-- the content of a Code attribute (section 4.7.3)
abbrev pub SpellsCode : List PoolEntry → Code → Piece
SpellsCode pool code =
    IsU2 code.max_stack ⊳ IsU2 code.max_locals ⊳ SpellsInstructions code.bytes
    ⊳ SpellsTable (SpellsHandler pool) code.handlers ⊳ SpellsAttributes pool

-- the number of a Utf8 entry that says Code, or that says anything else
abbrev pub SpellsCodeName : List PoolEntry → ℕ → Piece
SpellsCodeName pool index at bytes = (utf8_in pool index ≡ Some (codes "Code")) × SpellsIndex kinds.Text pool index at bytes

abbrev pub SpellsOtherName : List PoolEntry → ℕ → Piece
SpellsOtherName pool index at bytes = (utf8_in pool index ≢ Some (codes "Code")) × SpellsIndex kinds.Text pool index at bytes

-- an attribute of a method: its code, or one that is skipped
abbrev pub SpellsMethodAttribute : List PoolEntry → Option Code → Piece
SpellsMethodAttribute pool (Some code) = IsAny (SpellsCodeName pool) ⊳ IsSized 4 (SpellsCode pool code)
SpellsMethodAttribute pool None = IsAny (SpellsOtherName pool) ⊳ IsSized 4 (IsAny IsRun)

abbrev pub IsNone : {A : Type 0} → Option A → Type 0
IsNone x = x ≡ None

-- the code of attributes, one of which is code at the most
abbrev pub HaveCode : List (Option Code) → Option Code → Type 0
HaveCode [] code = code ≡ None
HaveCode (None ∷ others) code = HaveCode others code
HaveCode (Some found ∷ others) code = (code ≡ Some found) × AllByRecursion IsNone others

-- the attributes of a method, behind their count
pub record SpellsMethodAttributes (pool : List PoolEntry) (code : Option Code) (at : ℕ) (bytes : List ℕ) : Type 0 where
  pub attributes : List (Option Code)
  pub items : SpellsTable (SpellsMethodAttribute pool) attributes at bytes
  pub has_code : HaveCode attributes code

-- ---- members and the class

-- a field (section 4.5)
abbrev pub SpellsField : List PoolEntry → Field → Piece
SpellsField pool field =
    IsU2 field.access ⊳ SpellsIndex kinds.Text pool field.name ⊳ SpellsIndex kinds.Text pool field.kind ⊳ SpellsAttributes pool

-- a method (section 4.6)
abbrev pub SpellsMethod : List PoolEntry → Method → Piece
SpellsMethod pool method =
    IsU2 method.access ⊳ SpellsIndex kinds.Text pool method.name ⊳ SpellsIndex kinds.Text pool method.kind
    ⊳ SpellsMethodAttributes pool method.code

-- The version (section 4.1): any minor version, and the major versions up to that of Java 8.
pub record SpellsVersion (major : ℕ) (at : ℕ) (bytes : List ℕ) : Type 0 where
  pub least : 45 ≤ major
  pub most : major ≤ 52
  pub items : (IsAny IsU2 ⊳ IsU2 major) at bytes

-- the number that each class file begins with
abbrev pub magic : ℕ
magic = 0xCAFEBABE

-- a class file (section 4.1) as a piece
abbrev pub SpellsClass : ClassFile → Piece
SpellsClass file =
    IsU4 magic ⊳ SpellsVersion file.major ⊳ SpellsPool file.pool ⊳ IsU2 file.access
    ⊳ SpellsIndex kinds.Class file.pool file.this ⊳ SpellsIndex kinds.Class file.pool file.parent
    ⊳ SpellsTable (SpellsIndex kinds.Class file.pool) file.interfaces ⊳ SpellsTable (SpellsField file.pool) file.fields
    ⊳ SpellsTable (SpellsMethod file.pool) file.methods ⊳ SpellsAttributes file.pool

-- The bytes, all of them, spell the class file.
abbrev pub Spells : ClassFile → List ℕ → Type 0
Spells file bytes = SpellsClass file 0 bytes

-- the most bytes that are read
abbrev pub most_bytes : ℕ
most_bytes = 1048576

-- the bytes spell the class file, and are not too many
pub record IsClassFile (file : ClassFile) (bytes : List ℕ) : Type 0 where
  pub spelled : Spells file bytes
  pub limit : length bytes ≤ most_bytes
