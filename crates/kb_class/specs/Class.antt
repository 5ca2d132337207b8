-- Classes in plain terms: names and types in place of the numbers of a constant pool (JVMS 8 sections 4.1 and 4.4).
use Rattle.std.specs.Prelude.{ℕ, ℤ, List, Option, Some, None}
use Rattle.kb_classfile.specs.declared.file.ClassFile.{ClassFile}
use Rattle.kb_names.specs.declared.types.ExactType.{ExactType}
use Rattle.kb_class.specs.declared.members.MemberKind.{MemberKind}
use Rattle.kb_class.specs.declared.members.FieldInfo.{FieldInfo}
use Rattle.kb_class.specs.declared.members.MethodInfo.{MethodInfo}
use Rattle.kb_class.specs.declared.entries.ReferenceKind.{ReferenceKind}
use Rattle.kb_class.specs.declared.entries.ReferenceKind.TheVariants as references

-- a field or a method by its name and type
pub record Member : Type 0 where
  pub name : List ℕ
  pub kind : MemberKind

-- What an entry of the constant pool stands for.
pub data Entry : Type 0 where
  IntEntry : ℤ → Entry
  -- a string constant, by its text
  TextEntry : List ℕ → Entry
  -- a class, an interface or an array type
  TypeEntry : ExactType → Entry
  -- a name and a type
  MemberEntry : Member → Entry
  -- a field or a method of a class, or a method of an interface, by the type that it is sought in
  FieldEntry : ExactType → Member → Entry
  MethodEntry : ExactType → Member → Entry
  InterfaceMethodEntry : ExactType → Member → Entry
  OtherEntry : Entry

-- A class or an interface. `entries` has what each number of the constant pool stands for, OtherEntry at 0; a class without
-- a file has none.
pub record Class : Type 0 where
  pub name : List ℕ
  pub access : ℕ
  pub parent : Option (List ℕ)
  pub interfaces : List (List ℕ)
  pub fields : List FieldInfo
  pub methods : List MethodInfo
  pub entries : List Entry
  pub file : Option ClassFile

-- the type of a Class entry
abbrev pub type_of_entry : Option Entry → Option ExactType
type_of_entry (Some (TypeEntry type)) = Some type
type_of_entry _ = None

-- the text of a String entry
abbrev pub text_of_entry : Option Entry → Option (List ℕ)
text_of_entry (Some (TextEntry text)) = Some text
text_of_entry _ = None

-- the int of an Integer entry
abbrev pub int_of_entry : Option Entry → Option ℤ
int_of_entry (Some (IntEntry value)) = Some value
int_of_entry _ = None

-- a field or a method that is sought in a type
pub record Sought : Type 0 where
  pub what : ReferenceKind
  pub class : ExactType
  pub member : Member

-- what a Fieldref, Methodref or InterfaceMethodref entry names
abbrev pub reference_of_entry : Option Entry → Option Sought
reference_of_entry (Some (FieldEntry type member)) = Some (record { what = references.Field; class = type; member = member })
reference_of_entry (Some (MethodEntry type member)) = Some (record { what = references.Method; class = type; member = member })
reference_of_entry (Some (InterfaceMethodEntry type member)) = Some (record { what = references.InterfaceMethod; class = type; member = member })
reference_of_entry _ = None
