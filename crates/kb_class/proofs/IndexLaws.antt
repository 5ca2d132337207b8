-- The tables of a class have what it names and describes.
use Rattle.std.proofs.Common.{◌≡◌, ℕ, ◌⊎◌, inl, inr, List, [], ◌∷◌, ◌++◌, map, filter_map, Option, Some, None, refl, sym, ap, subst, ◌∙◌}
use Rattle.std.specs.List.{AllZip}
use Rattle.kb_classfile.specs.declared.file.ClassFile.{ClassFile}
use Rattle.kb_classfile.specs.declared.file.Method.{Method as ClassMethod}
use Rattle.kb_classfile.specs.declared.file.PoolEntry.{PoolEntry}
use Rattle.kb_classfile.specs.declared.file.PoolEntry.TheVariants as entries
use Rattle.kb_classfile.specs.Pool.{utf8_in, name_index_of}
use Rattle.kb_code.specs.declared.listing.Listing.{Listing}
use Rattle.kb_names.specs.declared.types.ExactType.{ExactType}
use Rattle.kb_class.specs.declared.members.MemberKind.{MemberKind}
use Rattle.kb_class.specs.declared.members.MemberKind.TheVariants as kinds
use Rattle.kb_class.specs.declared.members.MethodInfo.{MethodInfo}
use Rattle.kb_class.specs.Class.{Member, Entry, TypeEntry, MemberEntry, FieldEntry, MethodEntry, InterfaceMethodEntry, Class}
use Rattle.kb_class.specs.Naming.{Has, HasKind, OfField, OfMethod, OfEntry}
use Rattle.kb_class.specs.Loading.{SpellsExact, SpellsKind, HasText, StandsFor, IsFieldOf, IsMethodOf, AreMethodsOf}
use Rattle.kb_class.specs.Loaded.{told_at, type_in, member_in, member_told, text_told, type_told, name_type_told, reference_told, entry_told, IsIndexed}
use Rattle.kb_class.specs.Tables.{type_numbers, kind_index_of, field_index, method_index, kind_numbers, IsTable}
use Rattle.kb_class.proofs.Lists.{has_none, has_first, has_later, has_cases, has_left, has_right, has_either, map_has, has_mapped, has_filtered, zip_has, has_zipped}
use Rattle.kb_class.proofs.Spellings.{one_kind}
use Rattle.kb_class.proofs.TableLaws.{told_stands, stands_told}
use Rattle.kb_class.proofs.PoolLaws.{text_one}

-- ---- methods with their listings

pub methods_have : (id : ℕ) (file : ClassFile) (methods : List ClassMethod) (listings : List (Option Listing)) (infos : List MethodInfo) (method : ClassMethod)
    → AreMethodsOf id file methods listings infos → Has methods method → (listing : Option Listing) × (info : MethodInfo) × Has infos info × IsMethodOf id file method listing info
methods_have id file [] listings infos method are has = absurd (has_none method has)
methods_have id file (m ∷ methods) [] infos method are has = absurd are
methods_have id file (m ∷ methods) (l ∷ listings) [] method are has = absurd are
methods_have id file (m ∷ methods) (l ∷ listings) (i ∷ infos) method are has =
    elim (has_cases m method methods has) [
      | inl same ↦ (l, i, has_first i infos, subst (λ (x : ClassMethod). IsMethodOf id file x l i) same are.0)
      | inr later ↦ (let found = methods_have id file methods listings infos method are.1 later in (found.0, found.1, has_later i found.1 infos found.2, found.3))
    ]

pub have_method : (id : ℕ) (file : ClassFile) (methods : List ClassMethod) (listings : List (Option Listing)) (infos : List MethodInfo) (info : MethodInfo)
    → AreMethodsOf id file methods listings infos → Has infos info → (method : ClassMethod) × (listing : Option Listing) × Has methods method × IsMethodOf id file method listing info
have_method id file methods listings [] info are has = absurd (has_none info has)
have_method id file [] [] (i ∷ infos) info are has = absurd are
have_method id file [] (l ∷ listings) (i ∷ infos) info are has = absurd are
have_method id file (m ∷ methods) [] (i ∷ infos) info are has = absurd are
have_method id file (m ∷ methods) (l ∷ listings) (i ∷ infos) info are has =
    elim (has_cases i info infos has) [
      | inl same ↦ (m, l, has_first m methods, subst (λ (x : MethodInfo). IsMethodOf id file m l x) same are.0)
      | inr later ↦ (let found = have_method id file methods listings infos info are.1 later in (found.0, found.1, has_later m found.0 methods found.2, found.3))
    ]

-- ---- entries that name types and members

some_type_told : (o : Option ExactType) (type : ExactType) → type_told o ≡ TypeEntry type → o ≡ Some type
some_type_told None type e = absurd cc
some_type_told (Some found) type e =
    let same : found ≡ type = cc in
    ap (λ (t : ExactType). Some t) same

no_text_type : (o : Option (List ℕ)) (type : ExactType) → text_told o ≡ TypeEntry type → ⊥
no_text_type None type e = absurd cc
no_text_type (Some text) type e = absurd cc

no_member_type : (o : Option Member) (type : ExactType) → name_type_told o ≡ TypeEntry type → ⊥
no_member_type None type e = absurd cc
no_member_type (Some member) type e = absurd cc

no_text_member : (o : Option (List ℕ)) (member : Member) → text_told o ≡ MemberEntry member → ⊥
no_text_member None member e = absurd cc
no_text_member (Some text) member e = absurd cc

no_type_member : (o : Option ExactType) (member : Member) → type_told o ≡ MemberEntry member → ⊥
no_type_member None member e = absurd cc
no_type_member (Some type) member e = absurd cc

-- neither is a reference
abbrev IsNeither : Entry → Type 0
IsNeither told = ((type : ExactType) → told ≡ TypeEntry type → ⊥) × ((member : Member) → told ≡ MemberEntry member → ⊥)

field_neither : (o : Option ExactType) (p : Option Member) → IsNeither (reference_told FieldEntry o p)
field_neither None p = ((λ type e. absurd cc), (λ member e. absurd cc))
field_neither (Some type) None = ((λ type e. absurd cc), (λ member e. absurd cc))
field_neither (Some type) (Some member) = ((λ type e. absurd cc), (λ member e. absurd cc))

method_neither : (o : Option ExactType) (p : Option Member) → IsNeither (reference_told MethodEntry o p)
method_neither None p = ((λ type e. absurd cc), (λ member e. absurd cc))
method_neither (Some type) None = ((λ type e. absurd cc), (λ member e. absurd cc))
method_neither (Some type) (Some member) = ((λ type e. absurd cc), (λ member e. absurd cc))

interface_method_neither : (o : Option ExactType) (p : Option Member) → IsNeither (reference_told InterfaceMethodEntry o p)
interface_method_neither None p = ((λ type e. absurd cc), (λ member e. absurd cc))
interface_method_neither (Some type) None = ((λ type e. absurd cc), (λ member e. absurd cc))
interface_method_neither (Some type) (Some member) = ((λ type e. absurd cc), (λ member e. absurd cc))

some_member_told : (o : Option Member) (member : Member) → name_type_told o ≡ MemberEntry member → o ≡ Some member
some_member_told None member e = absurd cc
some_member_told (Some found) member e =
    let same : found ≡ member = cc in
    ap (λ (m : Member). Some m) same

member_parts : (name : Option (List ℕ)) (kind : Option MemberKind) (member : Member) → member_told name kind ≡ Some member → kind ≡ Some member.kind
member_parts None kind member e = absurd cc
member_parts (Some name) None member e = absurd cc
member_parts (Some name) (Some kind) member e =
    let made : Member = record { name = name; kind = kind } in
    let same : made ≡ member = cc in
    ap (λ (m : Member). Some m.kind) same

module _ (pool : List PoolEntry) (types : List (Option ExactType)) (told_kinds : List (Option MemberKind)) where
  type_of_class : (entry : PoolEntry) (type : ExactType) → entry_told pool types told_kinds entry ≡ TypeEntry type → (name : ℕ) × (entry ≡ entries.Class name) × (told_at types name ≡ Some type)
  type_of_class (entries.Class name) type e = (name, refl, some_type_told (told_at types name) type e)
  type_of_class (entries.Utf8 text) type e = absurd cc
  type_of_class (entries.Integer value) type e = absurd cc
  type_of_class entries.Wide type e = absurd cc
  type_of_class entries.Second type e = absurd cc
  type_of_class (entries.Str text) type e = absurd (no_text_type (utf8_in pool text) type e)
  type_of_class (entries.Field class name_type) type e = absurd ((field_neither (type_in pool types class) (member_in pool told_kinds name_type)).0 type e)
  type_of_class (entries.Method class name_type) type e = absurd ((method_neither (type_in pool types class) (member_in pool told_kinds name_type)).0 type e)
  type_of_class (entries.InterfaceMethod class name_type) type e = absurd ((interface_method_neither (type_in pool types class) (member_in pool told_kinds name_type)).0 type e)
  type_of_class (entries.NameType name kind) type e = absurd (no_member_type (member_told (utf8_in pool name) (told_at told_kinds kind)) type e)
  type_of_class entries.Skipped type e = absurd cc

  kind_of_member : (entry : PoolEntry) (member : Member) → entry_told pool types told_kinds entry ≡ MemberEntry member → (kind : ℕ) × (told_at told_kinds kind ≡ Some member.kind)
  kind_of_member (entries.NameType name kind) member e =
      (kind, member_parts (utf8_in pool name) (told_at told_kinds kind) member (some_member_told (member_told (utf8_in pool name) (told_at told_kinds kind)) member e))
  kind_of_member (entries.Utf8 text) member e = absurd cc
  kind_of_member (entries.Integer value) member e = absurd cc
  kind_of_member entries.Wide member e = absurd cc
  kind_of_member entries.Second member e = absurd cc
  kind_of_member (entries.Str text) member e = absurd (no_text_member (utf8_in pool text) member e)
  kind_of_member (entries.Class name) member e = absurd (no_type_member (told_at types name) member e)
  kind_of_member (entries.Field class name_type) member e = absurd ((field_neither (type_in pool types class) (member_in pool told_kinds name_type)).1 member e)
  kind_of_member (entries.Method class name_type) member e = absurd ((method_neither (type_in pool types class) (member_in pool told_kinds name_type)).1 member e)
  kind_of_member (entries.InterfaceMethod class name_type) member e = absurd ((interface_method_neither (type_in pool types class) (member_in pool told_kinds name_type)).1 member e)
  kind_of_member entries.Skipped member e = absurd cc

-- ---- entries that name texts

pub named_by_class : (entry : PoolEntry) (name : ℕ) → name_index_of entry ≡ Some name → entry ≡ entries.Class name
named_by_class (entries.Class found) name e =
    let same : found ≡ name = cc in
    ap (λ (n : ℕ). entries.Class n) same
named_by_class (entries.Utf8 text) name e = absurd cc
named_by_class (entries.Integer value) name e = absurd cc
named_by_class entries.Wide name e = absurd cc
named_by_class entries.Second name e = absurd cc
named_by_class (entries.Str text) name e = absurd cc
named_by_class (entries.Field class name_type) name e = absurd cc
named_by_class (entries.Method class name_type) name e = absurd cc
named_by_class (entries.InterfaceMethod class name_type) name e = absurd cc
named_by_class (entries.NameType own kind) name e = absurd cc
named_by_class entries.Skipped name e = absurd cc

pub described_by_member : (entry : PoolEntry) (kind : ℕ) → kind_index_of entry ≡ Some kind → (name : ℕ) × (entry ≡ entries.NameType name kind)
described_by_member (entries.NameType name found) kind e =
    let same : found ≡ kind = cc in
    (name, ap (λ (k : ℕ). entries.NameType name k) same)
described_by_member (entries.Utf8 text) kind e = absurd cc
described_by_member (entries.Integer value) kind e = absurd cc
described_by_member entries.Wide kind e = absurd cc
described_by_member entries.Second kind e = absurd cc
described_by_member (entries.Class name) kind e = absurd cc
described_by_member (entries.Str text) kind e = absurd cc
described_by_member (entries.Field class name_type) kind e = absurd cc
described_by_member (entries.Method class name_type) kind e = absurd cc
described_by_member (entries.InterfaceMethod class name_type) kind e = absurd cc
described_by_member entries.Skipped kind e = absurd cc

-- a number of a descriptor, by the three places where one stands
pub among_numbers : (file : ClassFile) (number : ℕ) → Has (kind_numbers file) number
    → Has (filter_map kind_index_of file.pool) number ⊎ (Has (map field_index file.fields) number ⊎ Has (map method_index file.methods) number)
among_numbers file number has =
    elim (has_either (filter_map kind_index_of file.pool ++ map field_index file.fields) (map method_index file.methods) number has) [
      | inl h ↦ elim (has_either (filter_map kind_index_of file.pool) (map field_index file.fields) number h) [ inl e ↦ inl e | inr f ↦ inr (inl f) ]
      | inr m ↦ inr (inr m)
    ]

-- ---- the tables of a class

module _ (id : ℕ) (file : ClassFile) (listings : List (Option Listing)) (class : Class) (types : List (Option ExactType)) (told_kinds : List (Option MemberKind))
    (typed : IsTable SpellsExact file.pool (type_numbers file.pool) types) (described : IsTable SpellsKind file.pool (kind_numbers file) told_kinds)
    (entries_are : class.entries ≡ map (entry_told file.pool types told_kinds) file.pool)
    (fields_are : AllZip (IsFieldOf file) file.fields class.fields) (methods_are : AreMethodsOf id file file.methods listings class.methods)
    (stand : AllZip (StandsFor file.pool) file.pool class.entries) where
  table_names : (type : ExactType) → Has types (Some type) → Has class.entries (TypeEntry type)
  table_names type has =
      let told : told_at types has.0 ≡ Some type = stands_told types has.0 type has.1 in
      let right = typed.right has.0 type told in
      let entry = has_filtered name_index_of file.pool has.0 right.0 in
      let class_there : Has file.pool (entries.Class has.0) = subst (λ (e : PoolEntry). Has file.pool e) (named_by_class entry.0 has.0 entry.2) entry.1 in
      let there = map_has (entry_told file.pool types told_kinds) file.pool (entries.Class has.0) class_there in
      rw entries_are (subst (λ (o : Option ExactType). Has (map (entry_told file.pool types told_kinds) file.pool) (type_told o)) told there)

  names_table : (type : ExactType) → Has class.entries (TypeEntry type) → Has types (Some type)
  names_table type has =
      let entry = has_mapped (entry_told file.pool types told_kinds) file.pool (TypeEntry type) (subst (λ (es : List Entry). Has es (TypeEntry type)) entries_are has) in
      let class_there = type_of_class file.pool types told_kinds entry.0 type entry.2 in
      (class_there.0, told_stands types class_there.0 type class_there.2)

  one_at : (number : ℕ) (a b : MemberKind) → HasText file.pool number (SpellsKind a) → HasText file.pool number (SpellsKind b) → a ≡ b
  one_at number a b has other = text_one SpellsKind file.pool number a b (one_kind a b) has other

  entry_described : (number : ℕ) (kind : MemberKind) → HasText file.pool number (SpellsKind kind) → Has (filter_map kind_index_of file.pool) number → HasKind class kind
  entry_described number kind text has =
      let entry = has_filtered kind_index_of file.pool number has in
      let is = described_by_member entry.0 number entry.2 in
      let there : Has file.pool (entries.NameType is.0 number) = subst (λ (e : PoolEntry). Has file.pool e) is.1 entry.1 in
      let found = zip_has (StandsFor file.pool) file.pool class.entries (entries.NameType is.0 number) stand there in
      let member : Member = found.2.0 in
      OfEntry member (subst (λ (e : Entry). Has class.entries e) found.2.2 found.1) (one_at number kind member.kind text found.2.1.typed)

  field_described : (number : ℕ) (kind : MemberKind) → HasText file.pool number (SpellsKind kind) → Has (map field_index file.fields) number → HasKind class kind
  field_described number kind text has =
      let field = has_mapped field_index file.fields number has in
      let info = zip_has (IsFieldOf file) file.fields class.fields field.0 fields_are field.1 in
      let own : HasText file.pool number (SpellsKind (kinds.Field info.0.kind)) = subst (λ (n : ℕ). HasText file.pool n (SpellsKind (kinds.Field info.0.kind))) field.2 info.2.kind in
      OfField info.0 info.1 (one_at number kind (kinds.Field info.0.kind) text own)

  method_described : (number : ℕ) (kind : MemberKind) → HasText file.pool number (SpellsKind kind) → Has (map method_index file.methods) number → HasKind class kind
  method_described number kind text has =
      let method = has_mapped method_index file.methods number has in
      let info = methods_have id file file.methods listings class.methods method.0 methods_are method.1 in
      let own : HasText file.pool number (SpellsKind (kinds.Method info.1.kind)) = subst (λ (n : ℕ). HasText file.pool n (SpellsKind (kinds.Method info.1.kind))) method.2 info.3.kind in
      OfMethod info.1 info.2 (one_at number kind (kinds.Method info.1.kind) text own)

  table_describes : (kind : MemberKind) → Has told_kinds (Some kind) → HasKind class kind
  table_describes kind has =
      let right = described.right has.0 kind (stands_told told_kinds has.0 kind has.1) in
      elim (among_numbers file has.0 right.0) [
        | inl e ↦ entry_described has.0 kind right.1 e
        | inr m ↦ elim m [ inl f ↦ field_described has.0 kind right.1 f | inr n ↦ method_described has.0 kind right.1 n ]
      ]

  -- what the table has at the number of a descriptor is what it spells
  told_there : (number : ℕ) (kind : MemberKind) → Has (kind_numbers file) number → HasText file.pool number (SpellsKind kind) → Has told_kinds (Some kind)
  told_there number kind has text =
      let told = described.whole number has in
      let same : told.0 ≡ kind = one_at number told.0 kind (described.right number told.0 told.1).1 text in
      (number, told_stands told_kinds number kind (told.1 ∙ ap (λ (k : MemberKind). Some k) same))

  describes_table : (kind : MemberKind) → HasKind class kind → Has told_kinds (Some kind)
  describes_table kind (OfField info has is) =
      let field = has_zipped (IsFieldOf file) file.fields class.fields info fields_are has in
      let number : Has (kind_numbers file) field.0.kind = has_left _ _ field.0.kind (has_right (filter_map kind_index_of file.pool) _ field.0.kind (map_has field_index file.fields field.0 field.1)) in
      subst (λ (k : MemberKind). Has told_kinds (Some k)) (sym is) (told_there field.0.kind (kinds.Field info.kind) number field.2.kind)
  describes_table kind (OfMethod info has is) =
      let method = have_method id file file.methods listings class.methods info methods_are has in
      let number : Has (kind_numbers file) method.0.kind = has_right (filter_map kind_index_of file.pool ++ map field_index file.fields) _ method.0.kind (map_has method_index file.methods method.0 method.2) in
      subst (λ (k : MemberKind). Has told_kinds (Some k)) (sym is) (told_there method.0.kind (kinds.Method info.kind) number method.3.kind)
  describes_table kind (OfEntry member has is) =
      let entry = has_mapped (entry_told file.pool types told_kinds) file.pool (MemberEntry member) (subst (λ (es : List Entry). Has es (MemberEntry member)) entries_are has) in
      let told = kind_of_member file.pool types told_kinds entry.0 member entry.2 in
      subst (λ (k : MemberKind). Has told_kinds (Some k)) (sym is) (told.0, told_stands told_kinds told.0 member.kind told.1)

  pub indexed : IsIndexed class types told_kinds
  indexed = record {
    named = λ type. (table_names type, names_table type);
    described = λ kind. (table_describes kind, describes_table kind);
  }
