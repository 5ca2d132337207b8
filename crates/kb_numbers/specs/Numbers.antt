-- What numbers stand for (JVMS 8 sections 4.4.6, 4.5 and 4.6): a pair of numbers stands for a name and a type by the places of
-- two texts, those of the name and of the type's descriptor, in a list of different texts. So two members have one pair exactly
-- where they have one name and one type.
use Rattle.std.specs.Prelude.{◌≡◌, ℕ, ◌+◌, ◌<◌, ◌^◌, List, [], ◌∷◌, length, Option, Some, None, slice_get}
use Rattle.std.specs.List.{AllByRecursion, AllZip}
use Rattle.kb_classfile.specs.declared.file.ClassFile.{ClassFile}
use Rattle.kb_classfile.specs.declared.file.Method.{Method as ClassMethod}
use Rattle.kb_classfile.specs.Pool.{utf8_of}
use Rattle.kb_names.specs.Descriptors.{IsMethodType, SpellsMethod}
use Rattle.kb_names.specs.declared.types.MethodType.{MethodType}
use Rattle.kb_names.specs.declared.class_names.Spelling.TheVariants.{Raw}
use Rattle.kb_texts.specs.Texts.{AreDistinct}
use Rattle.kb_class.specs.Class.{Class, Sought, reference_of_entry}
use Rattle.kb_class.specs.Loaded.{told_at}
use Rattle.kb_class.specs.Loading.{HasText, SpellsExact, SpellsKind, IsFieldOf, StandsFor as EntryStandsFor}
use Rattle.kb_class.specs.declared.members.MemberKind.{MemberKind}
use Rattle.kb_class.specs.declared.members.MemberKind.TheVariants as kinds
use Rattle.kb_class.specs.declared.members.FieldInfo.{FieldInfo}
use Rattle.kb_class.specs.declared.members.MethodInfo.{MethodInfo}
use Rattle.kb_numbers.specs.declared.pairs.Pair.{Pair}
use Rattle.kb_numbers.specs.declared.pairs.EntryNumbers.{EntryNumbers}
use Rattle.kb_numbers.specs.declared.numbering.Numbers.{Numbers}
use Rattle.kb_numbers.specs.Members.{MemberNumbers, method_pairs, methods_of}
use Rattle.kb_numbers.specs.Typed.{AreEnds, IsTyped, IsTypedMethod}
pub use Rattle.kb_numbers.specs.Types.{HasTextAt}

-- ---- pairs

-- The pair stands for the name and the type.
pub record StandsFor (texts : List (List ℕ)) (pair : Pair) (name : List ℕ) (kind : MemberKind) : Type 0 where
  pub named : slice_get texts pair.name ≡ Some name
  pub typed : HasTextAt texts pair.kind (SpellsKind kind)

-- that of a method, and of a field
abbrev pub IsMethodPair : List (List ℕ) → MethodInfo → Pair → Type 0
IsMethodPair texts method pair = StandsFor texts pair method.name (kinds.Method method.kind)

abbrev pub IsFieldPair : List (List ℕ) → FieldInfo → Pair → Type 0
IsFieldPair texts field pair = StandsFor texts pair field.name (kinds.Field field.kind)

-- The numbers are those of what an entry names: of the type in which it is sought, and of the member.
pub record Names (texts : List (List ℕ)) (told : EntryNumbers) (sought : Sought) : Type 0 where
  pub class : HasTextAt texts told.class (SpellsExact sought.class)
  pub member : StandsFor texts told.member sought.member.name sought.member.kind

-- ---- classes

-- Numbers of the members that a class declares, and of those that the entries of its constant pool name.
pub record AreNumbers (texts : List (List ℕ)) (class : Class) (own : MemberNumbers) : Type 0 where
  pub each_method : AllZip (IsMethodPair texts) class.methods own.methods
  pub each_field : AllZip (IsFieldPair texts) class.fields own.fields
  pub each_entry : (entry : ℕ) (sought : Sought) → reference_of_entry (slice_get class.entries entry) ≡ Some sought
      → (told : EntryNumbers) × (told_at own.entries entry ≡ Some told) × Names texts told sought

-- the same where the class's first method has that number
pub record IsNumbered (texts : List (List ℕ)) (first : ℕ) (class : Class) (own : MemberNumbers) : Type 0 where
  pub first_is : own.first ≡ first
  pub numbers : AreNumbers texts class own

-- those of these classes, where so many methods are before
abbrev pub AreNumberedFrom : List (List ℕ) → ℕ → List Class → List MemberNumbers → Type 0
AreNumberedFrom texts first [] [] = Unit {0}
AreNumberedFrom texts first (class ∷ classes) (own ∷ numbers) =
    IsNumbered texts first class own × AreNumberedFrom texts (first + length class.methods) classes numbers
AreNumberedFrom texts first _ _ = ⊥

-- The numbers of the members of these classes; no text has two numbers, and the number of the descriptor of a method's type is
-- told by the parts of the type. Every number that is told so is that of the type's descriptor.
pub record AreNumbered (classes : List Class) (numbers : Numbers) : Type 0 where
  pub distinct : AreDistinct numbers.texts
  pub few : length numbers.texts < 2 ^ 32
  pub each : AreNumberedFrom numbers.texts 0 classes numbers.classes.items
  pub typed : AllZip (IsTypedMethod numbers.texts numbers.types) (methods_of classes) (method_pairs numbers.classes.items)
  pub ends : AreEnds numbers.texts numbers.types

-- The pair has the number of the name, and that which is told by the parts of the type.
abbrev pub IsPairOf : Numbers → List ℕ → MethodType → Pair → Type 0
IsPairOf numbers name kind pair = (slice_get numbers.texts pair.name ≡ Some name) × IsTyped numbers.texts numbers.types kind pair.kind

-- ---- what is known of a class that is numbered

-- a method by the entries of its name and of its descriptor
pub record IsMethodNamed (file : ClassFile) (method : ClassMethod) (info : MethodInfo) : Type 0 where
  pub name : utf8_of file method.name ≡ Some info.name
  pub kind : HasText file.pool method.kind (SpellsMethod Raw info.kind)

-- the class has the members and the entries of the file
pub record IsOfFile (class : Class) (file : ClassFile) : Type 0 where
  pub of_methods : AllZip (IsMethodNamed file) file.methods class.methods
  pub of_fields : AllZip (IsFieldOf file) file.fields class.fields
  pub of_entries : AllZip (EntryStandsFor file.pool) file.pool class.entries

-- a type that has a descriptor
abbrev pub IsWritten : MethodInfo → Type 0
IsWritten method = IsMethodType Raw method.kind

-- A class of a file has its members and entries; one without a file has no fields and no entries, and methods with descriptors.
abbrev pub HasTextsBy : Class → Option ClassFile → Type 0
HasTextsBy class (Some file) = IsOfFile class file
HasTextsBy class None = (class.fields ≡ []) × (class.entries ≡ []) × AllByRecursion IsWritten class.methods

abbrev pub HasTexts : Class → Type 0
HasTexts class = HasTextsBy class class.file
