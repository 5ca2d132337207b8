-- The class that a class file is: what the numbers of its constant pool name is put in their place (JVMS 8 sections 4.1, 4.4
-- to 4.7.3).
use Rattle.std.specs.Prelude.{◌≡◌, ℕ, ◌≤◌, List, [], ◌∷◌, length, map, Option, Some, None, slice_get}
use Rattle.std.specs.List.{AllZip}
use Rattle.kb_classfile.specs.declared.file.ClassFile.{ClassFile}
use Rattle.kb_classfile.specs.declared.file.Code.{Code}
use Rattle.kb_classfile.specs.declared.file.Field.{Field}
use Rattle.kb_classfile.specs.declared.file.Method.{Method as ClassMethod}
use Rattle.kb_classfile.specs.declared.file.PoolEntry.{PoolEntry}
use Rattle.kb_classfile.specs.declared.file.PoolEntry.TheVariants as entries
use Rattle.kb_classfile.specs.Pool.{utf8_in, utf8_of, class_name_of}
use Rattle.kb_code.specs.declared.listing.Listing.{Listing}
use Rattle.kb_code.specs.Listing.{IsLaidOut}
use Rattle.kb_names.specs.declared.types.ExactType.{ExactType}
use Rattle.kb_names.specs.declared.types.ExactType.TheVariants as exact
use Rattle.kb_names.specs.declared.types.JType.TheVariants as types
use Rattle.kb_names.specs.declared.class_names.Spelling.TheVariants.{Raw}
use Rattle.kb_names.specs.Types.{shape_of}
use Rattle.kb_names.specs.Descriptors.{MayStand, SpellsType, SpellsMethod}
use Rattle.kb_class.specs.declared.given.GivenClass.{GivenClass}
use Rattle.kb_class.specs.declared.members.MemberKind.{MemberKind}
use Rattle.kb_class.specs.declared.members.MemberKind.TheVariants as kinds
use Rattle.kb_class.specs.declared.members.FieldInfo.{FieldInfo}
use Rattle.kb_class.specs.declared.members.MethodInfo.{MethodInfo}
use Rattle.kb_class.specs.declared.members.MethodCode.{MethodCode}
use Rattle.kb_class.specs.Given.{handlers_of}
use Rattle.kb_class.specs.Class.{Member, Entry, IntEntry, TextEntry, TypeEntry, MemberEntry, FieldEntry, MethodEntry, InterfaceMethodEntry, OtherEntry, Class}

-- ---- texts

-- the text is the name of the class, or the descriptor of the array type (section 4.4.1)
abbrev pub SpellsExact : ExactType → List ℕ → Type 0
SpellsExact (exact.Class name) text = MayStand Raw text × (name ≡ text)
SpellsExact (exact.Array component) text = SpellsType Raw (types.Array (shape_of component)) text

-- the text is the descriptor of the field or method (section 4.3)
abbrev pub SpellsKind : MemberKind → List ℕ → Type 0
SpellsKind (kinds.Field type) text = SpellsType Raw type text
SpellsKind (kinds.Method kind) text = SpellsMethod Raw kind text

-- ---- entries of the constant pool (section 4.4)

-- the Utf8 entry of that number is such a text
abbrev pub HasText : List PoolEntry → ℕ → (List ℕ → Type 0) → Type 0
HasText pool index Is = (text : List ℕ) × (utf8_in pool index ≡ Some text) × Is text

-- the Class entry of that number names the type
abbrev pub NamesType : List PoolEntry → ℕ → ExactType → Type 0
NamesType pool index type = (name : ℕ) × (slice_get pool index ≡ Some (entries.Class name)) × HasText pool name (SpellsExact type)

-- the entries of a name and of a descriptor name the member
pub record NamesMember (pool : List PoolEntry) (name kind : ℕ) (member : Member) : Type 0 where
  pub named : utf8_in pool name ≡ Some member.name
  pub typed : HasText pool kind (SpellsKind member.kind)

-- a class's entry, and one of a name and type, name the type and the member that is sought in it
pub record Refers (pool : List PoolEntry) (class name_type : ℕ) (type : ExactType) (member : Member) : Type 0 where
  pub sought : NamesType pool class type
  pub name : ℕ
  pub kind : ℕ
  pub there : slice_get pool name_type ≡ Some (entries.NameType name kind)
  pub names : NamesMember pool name kind member

-- what an entry of the pool stands for
abbrev pub StandsFor : List PoolEntry → PoolEntry → Entry → Type 0
StandsFor pool (entries.Integer value) entry = entry ≡ IntEntry value
StandsFor pool (entries.Str text) entry = (bytes : List ℕ) × (utf8_in pool text ≡ Some bytes) × (entry ≡ TextEntry bytes)
StandsFor pool (entries.Class name) entry = (type : ExactType) × HasText pool name (SpellsExact type) × (entry ≡ TypeEntry type)
StandsFor pool (entries.NameType name kind) entry = (member : Member) × NamesMember pool name kind member × (entry ≡ MemberEntry member)
StandsFor pool (entries.Field class name_type) entry =
    (type : ExactType) × (member : Member) × Refers pool class name_type type member × (entry ≡ FieldEntry type member)
StandsFor pool (entries.Method class name_type) entry =
    (type : ExactType) × (member : Member) × Refers pool class name_type type member × (entry ≡ MethodEntry type member)
StandsFor pool (entries.InterfaceMethod class name_type) entry =
    (type : ExactType) × (member : Member) × Refers pool class name_type type member × (entry ≡ InterfaceMethodEntry type member)
StandsFor pool _ entry = entry ≡ OtherEntry

-- ---- members

-- a field of the file (section 4.5)
pub record IsFieldOf (file : ClassFile) (field : Field) (info : FieldInfo) : Type 0 where
  pub access : info.access ≡ field.access
  pub name : utf8_of file field.name ≡ Some info.name
  pub kind : HasText file.pool field.kind (SpellsType Raw info.kind)

-- the code of a method, with its listing (section 4.7.3)
pub record IsCodeWith (code : Code) (listing : Listing) (info : MethodCode) : Type 0 where
  pub max_stack : info.max_stack ≡ code.max_stack
  pub max_locals : info.max_locals ≡ code.max_locals
  pub size : info.size ≡ length code.bytes
  pub listed : info.listing ≡ listing
  pub handlers : info.handlers ≡ handlers_of code

-- the code of a method that has some
abbrev pub IsCodeOf : Option Code → Option Listing → Option MethodCode → Type 0
IsCodeOf None None None = Unit {0}
IsCodeOf (Some code) (Some listing) (Some info) = IsCodeWith code listing info
IsCodeOf _ _ _ = ⊥

-- a method of the file of the class with that number (section 4.6)
pub record IsMethodOf (id : ℕ) (file : ClassFile) (method : ClassMethod) (listing : Option Listing) (info : MethodInfo) : Type 0 where
  pub class : info.class.0 ≡ id
  pub access : info.access ≡ method.access
  pub name : utf8_of file method.name ≡ Some info.name
  pub kind : HasText file.pool method.kind (SpellsMethod Raw info.kind)
  pub code : IsCodeOf method.code listing info.code

abbrev pub AreMethodsOf : ℕ → ClassFile → List ClassMethod → List (Option Listing) → List MethodInfo → Type 0
AreMethodsOf id file [] [] [] = Unit {0}
AreMethodsOf id file (method ∷ methods) (listing ∷ listings) (info ∷ infos) =
    IsMethodOf id file method listing info × AreMethodsOf id file methods listings infos
AreMethodsOf id file _ _ _ = ⊥

-- The code of a method that is given: 1 to 65,535 bytes, and a listing that begins at their beginning, with offsets that rise
-- up to their end (section 4.7.3).
pub record IsWhole (code : MethodCode) : Type 0 where
  pub some : 1 ≤ code.size
  pub most : code.size ≤ 65535
  pub laid_out : IsLaidOut code.listing.items code.size

-- ---- the class

-- The class of that number is the one that is given.
pub record IsClassOf (id : ℕ) (given : GivenClass) (class : Class) : Type 0 where
  pub name : class_name_of given.file given.file.this ≡ Some class.name
  pub access : class.access ≡ given.file.access
  pub parent : (parent : List ℕ) × (class_name_of given.file given.file.parent ≡ Some parent) × (class.parent ≡ Some parent)
  pub interfaces : map (class_name_of given.file) given.file.interfaces ≡ map (λ name. Some name) class.interfaces
  pub fields : AllZip (IsFieldOf given.file) given.file.fields class.fields
  pub methods : AreMethodsOf id given.file given.file.methods given.listings class.methods
  pub entries : AllZip (StandsFor given.file.pool) given.file.pool class.entries
  pub file : class.file ≡ Some given.file
