-- The names and types of each class of a world of class files that bytes spell.
use Rattle.std.proofs.Common.{◌≡◌, ℕ, zero, suc, ◌+◌, List, [], ◌∷◌, Option, Some, slice_get, option_and_then, sym, ap, subst, ◌∙◌, arith}
use Rattle.std.specs.List.{AllByRecursion}
use Rattle.kb_names.specs.Bytes.{AreBytes}
use Rattle.kb_names.specs.Descriptors.{IsClassName, IsMethodType}
use Rattle.kb_names.specs.declared.class_names.Spelling.TheVariants.{Escaped}
use Rattle.kb_names.specs.declared.types.ExactType.{ExactType}
use Rattle.kb_names.proofs.Choices.{passed}
use Rattle.kb_classfile.specs.declared.file.ClassFile.{ClassFile}
use Rattle.kb_classfile.specs.declared.file.Method.{Method as ClassMethod}
use Rattle.kb_classfile.specs.declared.file.PoolEntry.{PoolEntry}
use Rattle.kb_classfile.specs.declared.file.PoolEntry.TheVariants as entries
use Rattle.kb_classfile.specs.Pool.{name_index_of, utf8_in}
use Rattle.kb_code.specs.declared.listing.Listing.{Listing}
use Rattle.kb_format.specs.Rules.{IsEntryName, IsFound, HasEntryName}
use Rattle.kb_class.specs.declared.given.GivenClass.{GivenClass}
use Rattle.kb_class.specs.declared.members.MemberKind.{MemberKind}
use Rattle.kb_class.specs.declared.members.MemberKind.TheVariants as kinds
use Rattle.kb_class.specs.declared.members.MethodInfo.{MethodInfo}
use Rattle.kb_class.specs.Class.{Class, Member, Entry, TypeEntry, MemberEntry, type_of_entry, TextEntry, FieldEntry, MethodEntry, InterfaceMethodEntry}
use Rattle.kb_class.specs.Loading.{SpellsExact, SpellsKind, HasText, StandsFor, IsFieldOf, IsMethodOf, AreMethodsOf, IsClassOf}
use Rattle.kb_class.specs.Naming.{HasKind, OfField, OfMethod, OfEntry}
use Rattle.kb_class.proofs.Lists.{all_has, has_zipped}
use Rattle.kb_link.specs.Links.{KeepsFormat, AreClassesOf}
use Rattle.kb_classes.proofs.Places.{zip_back}
use Rattle.kb_heap_words.specs.Words.{IsExact}
use Rattle.kb_test_laws.specs.Texts.{IsOfBytes}
use Rattle.kb_test_laws.proofs.ByteLaws.{file_texts}
use Rattle.kb_test_laws.proofs.DescriptorLaws.{KindHasText, kind_spelled, exact_spelled, entry_name_some}

-- the class with that number is that of a file that keeps the rules and is spelled by bytes
pub record IsOwn (number : ℕ) (class : Class) : Type 0 where
  pub given : GivenClass
  pub keeps : KeepsFormat given
  pub of_bytes : IsOfBytes given
  pub is : IsClassOf number given class

pub own_at : (first : ℕ) (given : List GivenClass) (classes : List Class) (place : ℕ) (class : Class) → AllByRecursion KeepsFormat given → AllByRecursion IsOfBytes given
    → AreClassesOf first given classes → slice_get classes place ≡ Some class → IsOwn (first + place) class
own_at first given [] place class keep of are at = absurd cc
own_at first [] (c ∷ classes) place class keep of are at = absurd are
own_at first (g ∷ given) (c ∷ classes) zero class keep of are at =
    let same : c ≡ class = cc in
    let sum : first ≡ first + 0 = omega arith in
    record { given = g; keeps = keep.0; of_bytes = of.0; is = subst (λ (k : Class). IsClassOf (first + 0) g k) same (subst (λ (n : ℕ). IsClassOf n g c) sum are.0) }
own_at first (g ∷ given) (c ∷ classes) (suc place) class keep of are at =
    let sum : suc first + place ≡ first + suc place = omega arith in
    subst (λ (n : ℕ). IsOwn n class) sum (own_at (suc first) given classes place class keep.1 of.1 are.1 at)

-- ---- of entries that name other things

class_entry : (entry : PoolEntry) (name : ℕ) → name_index_of entry ≡ Some name → entry ≡ entries.Class name
class_entry (entries.Class found) name e = let same : found ≡ name = cc in ap (λ (n : ℕ). entries.Class n) same
class_entry _ name e = absurd cc

type_entry : (entry : Option Entry) (type : ExactType) → type_of_entry entry ≡ Some type → entry ≡ Some (TypeEntry type)
type_entry (Some (TypeEntry found)) type e = let same : found ≡ type = cc in ap (λ (t : ExactType). Some (TypeEntry t)) same
type_entry _ type e = absurd cc

-- the entry of the pool that a type stands for names it
names_type : (pool : List PoolEntry) (entry : PoolEntry) (type : ExactType) → StandsFor pool entry (TypeEntry type) → (name : ℕ) × HasText pool name (SpellsExact type)
names_type pool (entries.Class name) type stands =
    let same : stands.0 ≡ type = (let both : TypeEntry type ≡ TypeEntry stands.0 = stands.2 in cc) in
    (name, subst (λ (t : ExactType). HasText pool name (SpellsExact t)) same stands.1)
names_type pool (entries.Integer value) type stands = absurd cc
names_type pool (entries.Str text) type stands = (let e : TypeEntry type ≡ TextEntry stands.0 = stands.2 in absurd cc)
names_type pool (entries.NameType name kind) type stands = (let e : TypeEntry type ≡ MemberEntry stands.0 = stands.2 in absurd cc)
names_type pool (entries.Field class name_type) type stands = (let e : TypeEntry type ≡ FieldEntry stands.0 stands.1 = stands.3 in absurd cc)
names_type pool (entries.Method class name_type) type stands = (let e : TypeEntry type ≡ MethodEntry stands.0 stands.1 = stands.3 in absurd cc)
names_type pool (entries.InterfaceMethod class name_type) type stands = (let e : TypeEntry type ≡ InterfaceMethodEntry stands.0 stands.1 = stands.3 in absurd cc)
names_type pool _ type stands = absurd cc

-- and of a member
names_member : (pool : List PoolEntry) (entry : PoolEntry) (member : Member) → StandsFor pool entry (MemberEntry member) → (kind : ℕ) × HasText pool kind (SpellsKind member.kind)
names_member pool (entries.NameType name kind) member stands =
    let same : stands.0 ≡ member = (let both : MemberEntry member ≡ MemberEntry stands.0 = stands.2 in cc) in
    (kind, subst (λ (m : Member). HasText pool kind (SpellsKind m.kind)) same stands.1.typed)
names_member pool (entries.Integer value) member stands = absurd cc
names_member pool (entries.Str text) member stands = (let e : MemberEntry member ≡ TextEntry stands.0 = stands.2 in absurd cc)
names_member pool (entries.Class name) member stands = (let e : MemberEntry member ≡ TypeEntry stands.0 = stands.2 in absurd cc)
names_member pool (entries.Field class name_type) member stands = (let e : MemberEntry member ≡ FieldEntry stands.0 stands.1 = stands.3 in absurd cc)
names_member pool (entries.Method class name_type) member stands = (let e : MemberEntry member ≡ MethodEntry stands.0 stands.1 = stands.3 in absurd cc)
names_member pool (entries.InterfaceMethod class name_type) member stands = (let e : MemberEntry member ≡ InterfaceMethodEntry stands.0 stands.1 = stands.3 in absurd cc)
names_member pool _ member stands = absurd cc

-- the method at a place is one of the file
method_of : (id : ℕ) (file : ClassFile) (methods : List ClassMethod) (listings : List (Option Listing)) (infos : List MethodInfo) (place : ℕ) (info : MethodInfo)
    → AreMethodsOf id file methods listings infos → slice_get infos place ≡ Some info → (method : ClassMethod) × (listing : Option Listing) × IsMethodOf id file method listing info
method_of id file methods listings [] place info are at = absurd cc
method_of id file [] [] (i ∷ infos) place info are at = absurd are
method_of id file [] (l ∷ listings) (i ∷ infos) place info are at = absurd are
method_of id file (m ∷ methods) [] (i ∷ infos) place info are at = absurd are
method_of id file (m ∷ methods) (l ∷ listings) (i ∷ infos) zero info are at =
    let same : i ≡ info = cc in
    (m, l, subst (λ (k : MethodInfo). IsMethodOf id file m l k) same are.0)
method_of id file (m ∷ methods) (l ∷ listings) (i ∷ infos) (suc place) info are at = method_of id file methods listings infos place info are.1 at

-- ---- of a class with a file

module _ (number : ℕ) (class : Class) (own : IsOwn number class) where
  abbrev file : ClassFile
  file = own.given.file

  of_bytes : (index : ℕ) (text : List ℕ) → utf8_in file.pool index ≡ Some text → AreBytes text
  of_bytes = file_texts file own.of_bytes.bytes own.of_bytes.are_bytes own.of_bytes.spelled

  kind_has_text : (index : ℕ) (kind : MemberKind) → HasText file.pool index (SpellsKind kind) → KindHasText kind
  kind_has_text index kind has = kind_spelled kind has.0 has.2 (of_bytes index has.0 has.1)

  pub name_has_text : IsClassName Escaped class.name
  name_has_text =
      let text = passed (utf8_in file.pool) (option_and_then name_index_of (slice_get file.pool file.this)) class.name own.is.name in
      let entry = passed name_index_of (slice_get file.pool file.this) text.0 text.1 in
      let at : slice_get file.pool file.this ≡ Some (entries.Class text.0) = entry.1 ∙ ap (λ (e : PoolEntry). Some e) (class_entry entry.0 text.0 entry.2) in
      let allowed : IsFound IsEntryName (utf8_in file.pool text.0) = all_has (HasEntryName file) file.pool (entries.Class text.0) own.keeps.names.entries (file.this, at) in
      (entry_name_some class.name (subst (IsFound IsEntryName) text.2 allowed), of_bytes text.0 class.name text.2)

  pub entry_has_text : (place : ℕ) (type : ExactType) → type_of_entry (slice_get class.entries place) ≡ Some type → IsExact type
  entry_has_text place type at =
      let found = zip_back (StandsFor file.pool) file.pool class.entries place (TypeEntry type) own.is.entries (type_entry (slice_get class.entries place) type at) in
      let named = names_type file.pool found.0 type found.2 in
      exact_spelled type named.1.0 named.1.2 (of_bytes named.0 named.1.0 named.1.1)

  pub method_name : (place : ℕ) (info : MethodInfo) → slice_get class.methods place ≡ Some info → AreBytes info.name
  method_name place info at =
      let found = method_of number file file.methods own.given.listings class.methods place info own.is.methods at in
      of_bytes found.0.name info.name found.2.name

  pub method_kind : (place : ℕ) (info : MethodInfo) → slice_get class.methods place ≡ Some info → IsMethodType Escaped info.kind
  method_kind place info at =
      let found = method_of number file file.methods own.given.listings class.methods place info own.is.methods at in
      kind_has_text found.0.kind (kinds.Method info.kind) found.2.kind

  -- each descriptor of the class has a text
  pub described : (kind : MemberKind) → HasKind class kind → KindHasText kind
  described kind (OfField field has e) =
      let found = has_zipped (IsFieldOf file) file.fields class.fields field own.is.fields has in
      subst KindHasText (sym e) (kind_has_text found.0.kind (kinds.Field field.kind) found.2.kind)
  described kind (OfMethod method has e) = subst KindHasText (sym e) (method_kind has.0 method has.1)
  described kind (OfEntry member has e) =
      let found = has_zipped (StandsFor file.pool) file.pool class.entries (MemberEntry member) own.is.entries has in
      let named = names_member file.pool found.0 member found.2 in
      subst KindHasText (sym e) (kind_has_text named.0 member.kind named.1)
