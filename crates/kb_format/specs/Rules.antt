-- Rules of names, descriptors and members that a class file keeps (JVMS 8 sections 4.2, 4.3, 4.5 and 4.6). Texts are compared
-- as bytes. What is asked of names is less than sections 4.2.1 and 4.2.2 ask: own rule.
use Rattle.std.specs.Prelude.{◌≢◌, ℕ, ◌≤◌, ◌⊎◌, List, [], ◌∷◌, map, Option, Some, None}
use Rattle.std.specs.List.{AllByRecursion}
use Rattle.kb_classfile.specs.declared.file.ClassFile.{ClassFile}
use Rattle.kb_classfile.specs.declared.file.Field.{Field}
use Rattle.kb_classfile.specs.declared.file.Method.{Method as ClassMethod}
use Rattle.kb_classfile.specs.declared.file.PoolEntry.{PoolEntry}
use Rattle.kb_classfile.specs.declared.file.PoolEntry.TheVariants as entries
use Rattle.kb_classfile.specs.Pool.{utf8_of}
use Rattle.kb_names.specs.declared.types.JType.{JType}
use Rattle.kb_names.specs.declared.class_names.Spelling.TheVariants.{Raw}
use Rattle.kb_names.specs.Types.{shape_of}
use Rattle.kb_names.specs.Descriptors.{MayStand, SpellsType, IsTypeText, IsMethodText}

-- ---- texts

-- a text was found, and is such
abbrev pub IsFound : (List ℕ → Type 0) → Option (List ℕ) → Type 0
IsFound Is None = ⊥
IsFound Is (Some text) = Is text

abbrev pub IsNotEmpty : List ℕ → Type 0
IsNotEmpty text = text ≢ []

-- the descriptor of an array type
pub record IsArrayText (text : List ℕ) : Type 0 where
  pub type : JType
  pub spells : SpellsType Raw type text
  pub array : 1 ≤ (shape_of type).dims

-- the name of a class or interface as it may stand in a descriptor, or an array's descriptor (sections 4.2.1 and 4.4.1)
abbrev pub IsEntryName : List ℕ → Type 0
IsEntryName text = MayStand Raw text ⊎ IsArrayText text

-- the descriptor of a field or of a method
abbrev pub IsDescriptor : List ℕ → Type 0
IsDescriptor text = IsTypeText Raw text ⊎ IsMethodText Raw text

-- ---- names

-- the name that an entry of the pool gives a class, or a field or method, may be one
abbrev pub HasEntryName : ClassFile → PoolEntry → Type 0
HasEntryName file (entries.Class name) = IsFound IsEntryName (utf8_of file name)
HasEntryName file (entries.NameType name kind) = IsFound IsNotEmpty (utf8_of file name)
HasEntryName file _ = Unit {0}

abbrev pub HasFieldName : ClassFile → Field → Type 0
HasFieldName file field = IsFound IsNotEmpty (utf8_of file field.name)

abbrev pub HasMethodName : ClassFile → ClassMethod → Type 0
HasMethodName file method = IsFound IsNotEmpty (utf8_of file method.name)

-- Each name may be one: a Class entry's is that of a class or array, and no field, method or NameAndType entry has an empty one.
pub record HasAllowedNames (file : ClassFile) : Type 0 where
  pub entries : AllByRecursion (HasEntryName file) file.pool
  pub fields : AllByRecursion (HasFieldName file) file.fields
  pub methods : AllByRecursion (HasMethodName file) file.methods

-- ---- descriptors

abbrev pub HasEntryType : ClassFile → PoolEntry → Type 0
HasEntryType file (entries.NameType name kind) = IsFound IsDescriptor (utf8_of file kind)
HasEntryType file _ = Unit {0}

abbrev pub HasFieldType : ClassFile → Field → Type 0
HasFieldType file field = IsFound (IsTypeText Raw) (utf8_of file field.kind)

abbrev pub HasMethodType : ClassFile → ClassMethod → Type 0
HasMethodType file method = IsFound (IsMethodText Raw) (utf8_of file method.kind)

-- Each field has the descriptor of a type, each method that of a method, and each NameAndType entry one of either.
pub record HasDescriptors (file : ClassFile) : Type 0 where
  pub entries : AllByRecursion (HasEntryType file) file.pool
  pub fields : AllByRecursion (HasFieldType file) file.fields
  pub methods : AllByRecursion (HasMethodType file) file.methods

-- ---- names that are given once

-- x is none of these
abbrev pub IsNoneOf : {A : Type 0} → List A → A → Type 0
IsNoneOf xs x = AllByRecursion (λ y. x ≢ y) xs

-- no two of these are equal
abbrev pub AllDiffer : {A : Type 0} → List A → Type 0
AllDiffer [] = Unit {0}
AllDiffer (x ∷ xs) = IsNoneOf xs x × AllDiffer xs

-- a field or a method by its name and descriptor
abbrev pub Member : Type 0
Member = Option (List ℕ) × Option (List ℕ)

abbrev pub field_of : ClassFile → Field → Member
field_of file field = (utf8_of file field.name, utf8_of file field.kind)

abbrev pub member_of : ClassFile → ClassMethod → Member
member_of file method = (utf8_of file method.name, utf8_of file method.kind)

-- no two fields, and no two methods, have one name and descriptor
pub record HasDifferentMembers (file : ClassFile) : Type 0 where
  pub fields : AllDiffer (map (field_of file) file.fields)
  pub methods : AllDiffer (map (member_of file) file.methods)

-- what each class file keeps of these rules
pub record KeepsRules (file : ClassFile) : Type 0 where
  pub names : HasAllowedNames file
  pub descriptors : HasDescriptors file
  pub members : HasDifferentMembers file
