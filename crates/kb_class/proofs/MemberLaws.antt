-- What the rules of names and descriptors give the tables, and what the tables give fields and methods.
use Rattle.std.proofs.Common.{◌≡◌, ℕ, ◌≤◌, inl, inr, List, [], ◌∷◌, ◌++◌, map, filter_map, length, Option, Some, None, IsSome, IfSome, unwrap_or, refl, sym, ap, subst, ◌∙◌, arith}
use Rattle.std.specs.List.{AllByRecursion}
use Rattle.kb_classfile.specs.declared.file.ClassFile.{ClassFile}
use Rattle.kb_classfile.specs.declared.file.Code.{Code}
use Rattle.kb_classfile.specs.declared.file.Field.{Field}
use Rattle.kb_classfile.specs.declared.file.Method.{Method as ClassMethod}
use Rattle.kb_classfile.specs.declared.file.PoolEntry.{PoolEntry}
use Rattle.kb_classfile.specs.declared.file.PoolEntry.TheVariants as entries
use Rattle.kb_classfile.specs.declared.pool.EntryKind.TheVariants as entry_kinds
use Rattle.kb_classfile.specs.Pool.{utf8_in, class_name_of, name_index_of, NamesEntry}
use Rattle.kb_code.specs.declared.listing.Listing.{Listing}
use Rattle.kb_code.proofs.Listings.{listed_laid_out}
use Rattle.kb_names.specs.declared.class_names.Spelling.TheVariants.{Raw}
use Rattle.kb_names.specs.Descriptors.{IsTypeText, IsMethodText}
use Rattle.kb_format.specs.Rules.{IsFound, IsNotEmpty, IsEntryName, IsDescriptor, HasEntryName, HasFieldName, HasMethodName, HasEntryType, HasFieldType, HasMethodType, KeepsRules}
use Rattle.kb_class.specs.declared.given.GivenClass.{GivenClass}
use Rattle.kb_class.specs.declared.members.MemberKind.{MemberKind}
use Rattle.kb_class.specs.declared.members.MethodInfo.{MethodInfo}
use Rattle.kb_class.specs.declared.members.MethodCode.{MethodCode}
use Rattle.kb_class.specs.Class.{Class}
use Rattle.kb_class.specs.Naming.{Has}
use Rattle.kb_class.specs.Given.{IsListing, AreListings, IsGiven}
use Rattle.kb_class.specs.Loading.{SpellsExact, SpellsKind, AreMethodsOf, IsCodeOf, IsClassOf, IsWhole}
use Rattle.kb_class.specs.Loaded.{told_at, interface_of}
use Rattle.kb_class.specs.Tables.{type_numbers, field_name_index, method_name_index, name_numbers, SpellsItself, kind_index_of, field_index, method_index, kind_numbers, IsSpelled, IsTable, IsFieldTold, IsMethodTold, HasSize, IsSound}
use Rattle.kb_class.proofs.Lists.{has_left, has_right, has_either, map_has, has_mapped, has_filtered, all_has, all_by_has}
use Rattle.kb_class.proofs.Spellings.{entry_named, kind_described, kind_of_type, kind_of_method}
use Rattle.kb_class.proofs.PoolLaws.{found_text, same_some, class_named}
use Rattle.kb_class.proofs.IndexLaws.{named_by_class, described_by_member, among_numbers}
use Rattle.kb_class.proofs.Sound.{spelled_sound}

pub some_is : {A : Type 0} (o : Option A) (x : A) → o ≡ Some x → IsSome o
some_is o x e = rw e refl

module _ (file : ClassFile) (rules : KeepsRules file) where
  -- each name of a Class entry spells a type
  pub types_spelled : AllByRecursion (IsSpelled SpellsExact file.pool) (type_numbers file.pool)
  types_spelled = all_by_has (IsSpelled SpellsExact file.pool) (type_numbers file.pool) each where
    each : (number : ℕ) → Has (type_numbers file.pool) number → IsSpelled SpellsExact file.pool number
    each number has =
        let entry = has_filtered name_index_of file.pool number has in
        let there : Has file.pool (entries.Class number) = subst (λ (e : PoolEntry). Has file.pool e) (named_by_class entry.0 number entry.2) entry.1 in
        let text = found_text IsEntryName (utf8_in file.pool number) (all_has (HasEntryName file) file.pool (entries.Class number) rules.names.entries there) in
        (text.0, text.1, entry_named text.0 text.2)

  type_text : (number : ℕ) → IsFound (IsTypeText Raw) (utf8_in file.pool number) → IsSpelled SpellsKind file.pool number
  type_text number is =
      let text = found_text (IsTypeText Raw) (utf8_in file.pool number) is in
      (text.0, text.1, kind_described text.0 (inl text.2))

  method_text : (number : ℕ) → IsFound (IsMethodText Raw) (utf8_in file.pool number) → IsSpelled SpellsKind file.pool number
  method_text number is =
      let text = found_text (IsMethodText Raw) (utf8_in file.pool number) is in
      (text.0, text.1, kind_described text.0 (inr text.2))

  entry_text : (number : ℕ) → Has (filter_map kind_index_of file.pool) number → IsSpelled SpellsKind file.pool number
  entry_text number has =
      let entry = has_filtered kind_index_of file.pool number has in
      let is = described_by_member entry.0 number entry.2 in
      let there : Has file.pool (entries.NameType is.0 number) = subst (λ (e : PoolEntry). Has file.pool e) is.1 entry.1 in
      let text = found_text IsDescriptor (utf8_in file.pool number) (all_has (HasEntryType file) file.pool (entries.NameType is.0 number) rules.descriptors.entries there) in
      (text.0, text.1, kind_described text.0 text.2)

  -- each descriptor spells a kind
  pub kinds_spelled : AllByRecursion (IsSpelled SpellsKind file.pool) (kind_numbers file)
  kinds_spelled = all_by_has (IsSpelled SpellsKind file.pool) (kind_numbers file) each where
    field_text : (number : ℕ) → Has (map field_index file.fields) number → IsSpelled SpellsKind file.pool number
    field_text number has =
        let field = has_mapped field_index file.fields number has in
        subst (IsSpelled SpellsKind file.pool) field.2 (type_text field.0.kind (all_has (HasFieldType file) file.fields field.0 rules.descriptors.fields field.1))

    own_text : (number : ℕ) → Has (map method_index file.methods) number → IsSpelled SpellsKind file.pool number
    own_text number has =
        let method = has_mapped method_index file.methods number has in
        subst (IsSpelled SpellsKind file.pool) method.2 (method_text method.0.kind (all_has (HasMethodType file) file.methods method.0 rules.descriptors.methods method.1))

    each : (number : ℕ) → Has (kind_numbers file) number → IsSpelled SpellsKind file.pool number
    each number has =
        elim (among_numbers file number has) [
          | inl e ↦ entry_text number e
          | inr m ↦ elim m [ inl f ↦ field_text number f | inr n ↦ own_text number n ]
        ]

  -- each name of a field or method is a text
  pub names_spelled : AllByRecursion (IsSpelled SpellsItself file.pool) (name_numbers file)
  names_spelled = all_by_has (IsSpelled SpellsItself file.pool) (name_numbers file) each where
    name_text : (number : ℕ) → IsFound IsNotEmpty (utf8_in file.pool number) → IsSpelled SpellsItself file.pool number
    name_text number is =
        let text = found_text IsNotEmpty (utf8_in file.pool number) is in
        (text.0, text.1, (text.0, refl))

    each : (number : ℕ) → Has (name_numbers file) number → IsSpelled SpellsItself file.pool number
    each number has =
        elim (has_either (map field_name_index file.fields) (map method_name_index file.methods) number has) [
          | inl h ↦
              let field = has_mapped field_name_index file.fields number h in
              subst (IsSpelled SpellsItself file.pool) field.2 (name_text field.0.name (all_has (HasFieldName file) file.fields field.0 rules.names.fields field.1))
          | inr h ↦
              let method = has_mapped method_name_index file.methods number h in
              subst (IsSpelled SpellsItself file.pool) method.2 (name_text method.0.name (all_has (HasMethodName file) file.methods method.0 rules.names.methods method.1))
        ]

  module _ (names : List (Option (List ℕ))) (called : IsTable SpellsItself file.pool (name_numbers file) names)
      (table : List (Option MemberKind)) (described : IsTable SpellsKind file.pool (kind_numbers file) table) where
    -- the name that the table has is the text
    name_of : (number : ℕ) → Has (name_numbers file) number → (name : List ℕ) × (told_at names number ≡ Some name) × (utf8_in file.pool number ≡ Some name)
    name_of number has =
        let told = called.whole number has in
        let right = (called.right number told.0 told.1).1 in
        (told.0, told.1, right.1 ∙ ap (λ (n : List ℕ). Some n) (sym right.2))

    field_told : (field : Field) → Has file.fields field → IsFieldTold file names table field
    field_told field has =
        let number : Has (kind_numbers file) field.kind = has_left _ _ field.kind (has_right (filter_map kind_index_of file.pool) _ field.kind (map_has field_index file.fields field has)) in
        let told = described.whole field.kind number in
        let right = (described.right field.kind told.0 told.1).1 in
        let text = found_text (IsTypeText Raw) (utf8_in file.pool field.kind) (all_has (HasFieldType file) file.fields field rules.descriptors.fields has) in
        let is : IsTypeText Raw right.0 = subst (IsTypeText Raw) (same_some (utf8_in file.pool field.kind) text.0 right.0 text.1 right.1) text.2 in
        let kind = kind_of_type told.0 right.0 right.2 is in
        let name = name_of field.name (has_left _ _ field.name (map_has field_name_index file.fields field has)) in
        record {
          name = name.0;
          named = name.1;
          named_so = name.2;
          type = kind.0;
          told = told.1 ∙ ap (λ (k : MemberKind). Some k) kind.1;
          spelled = (right.0, right.1, kind.2);
        }

    pub fields_told : AllByRecursion (IsFieldTold file names table) file.fields
    fields_told = all_by_has (IsFieldTold file names table) file.fields field_told

    method_told : IsSound file → (method : ClassMethod) → Has file.methods method → IsMethodTold file names table method
    method_told sound method has =
        let number : Has (kind_numbers file) method.kind = has_right (filter_map kind_index_of file.pool ++ map field_index file.fields) _ method.kind (map_has method_index file.methods method has) in
        let told = described.whole method.kind number in
        let right = (described.right method.kind told.0 told.1).1 in
        let text = found_text (IsMethodText Raw) (utf8_in file.pool method.kind) (all_has (HasMethodType file) file.methods method rules.descriptors.methods has) in
        let is : IsMethodText Raw right.0 = subst (IsMethodText Raw) (same_some (utf8_in file.pool method.kind) text.0 right.0 text.1 right.1) text.2 in
        let kind = kind_of_method told.0 right.0 right.2 is in
        let name = name_of method.name (has_right (map field_name_index file.fields) _ method.name (map_has method_name_index file.methods method has)) in
        record {
          name = name.0;
          named = name.1;
          named_so = name.2;
          type = kind.0;
          told = told.1 ∙ ap (λ (k : MemberKind). Some k) kind.1;
          spelled = (right.0, right.1, kind.2);
          sized = all_has (λ (m : ClassMethod). IfSome m.code HasSize) file.methods method sound.sizes has;
        }

    pub methods_told : IsSound file → AllByRecursion (IsMethodTold file names table) file.methods
    methods_told sound = all_by_has (IsMethodTold file names table) file.methods (method_told sound)

  -- ---- interfaces

  -- each entry of an interface names a class
  pub interfaces_found : IsSound file → AllByRecursion (λ (index : ℕ). IsSome (class_name_of file index)) file.interfaces
  interfaces_found sound = all_by_has (λ (index : ℕ). IsSome (class_name_of file index)) file.interfaces (λ index has.
      let found = class_named file index rules (all_has (NamesEntry entry_kinds.Class file.pool) file.interfaces index sound.interfaces_are has) in
      some_is (class_name_of file index) found.0 found.1)

found_name : (o : Option (List ℕ)) → IsSome o → o ≡ Some (unwrap_or o [])
found_name None is = absurd cc
found_name (Some name) is = refl

pub interfaces_named : (file : ClassFile) (indices : List ℕ) → AllByRecursion (λ (index : ℕ). IsSome (class_name_of file index)) indices
    → map (class_name_of file) indices ≡ map (λ (name : List ℕ). Some name) (map (interface_of file) indices)
interfaces_named file [] all = refl
interfaces_named file (index ∷ indices) all =
    let first : class_name_of file index ≡ Some (interface_of file index) = found_name (class_name_of file index) all.0 in
    let rest : map (class_name_of file) indices ≡ map (λ (name : List ℕ). Some name) (map (interface_of file) indices) = interfaces_named file indices all.1 in
    rw (first, rest) refl

-- ---- code

code_whole : (code : Option Code) (listing : Option Listing) (info : Option MethodCode) → IfSome code HasSize → IsListing code listing → IsCodeOf code listing info → IfSome info IsWhole
code_whole None None None sized listed is = tt
code_whole None None (Some i) sized listed is = absurd is
code_whole None (Some l) info sized listed is = absurd listed
code_whole (Some c) None info sized listed is = absurd listed
code_whole (Some c) (Some l) None sized listed is = absurd is
code_whole (Some c) (Some l) (Some i) sized listed is = record {
  some = subst (λ (n : ℕ). 1 ≤ n) (sym is.size) sized.0;
  most = subst (λ (n : ℕ). n ≤ 65535) (sym is.size) sized.1;
  laid_out = rw (is.size, is.listed) (listed_laid_out l.items c.bytes listed.instructions);
}

methods_whole : (id : ℕ) (file : ClassFile) (methods : List ClassMethod) (listings : List (Option Listing)) (infos : List MethodInfo)
    → AllByRecursion (λ (m : ClassMethod). IfSome m.code HasSize) methods → AreListings methods listings → AreMethodsOf id file methods listings infos
    → AllByRecursion (λ (i : MethodInfo). IfSome i.code IsWhole) infos
methods_whole id file methods listings [] sizes listed are = tt
methods_whole id file [] [] (i ∷ infos) sizes listed are = absurd are
methods_whole id file [] (l ∷ listings) (i ∷ infos) sizes listed are = absurd are
methods_whole id file (m ∷ methods) [] (i ∷ infos) sizes listed are = absurd are
methods_whole id file (m ∷ methods) (l ∷ listings) (i ∷ infos) sizes listed are =
    (code_whole m.code l i.code sizes.0 listed.0 are.0.code, methods_whole id file methods listings infos sizes.1 listed.1 are.1)

pub given_code_whole : (id : ℕ) (given : GivenClass) (class : Class) → IsGiven given → IsClassOf id given class → AllByRecursion (λ (i : MethodInfo). IfSome i.code IsWhole) class.methods
given_code_whole id given class is loaded =
    methods_whole id given.file given.file.methods given.listings class.methods (spelled_sound given.file is.bytes is.spelled).sizes is.listed loaded.methods

-- where no listing is left, no method is
pub no_methods : (id : ℕ) (file : ClassFile) (methods : List ClassMethod) (listings : List (Option Listing)) → length listings ≡ 0 → AreListings methods listings
    → AreMethodsOf id file methods listings []
no_methods id file [] [] none listed = tt
no_methods id file [] (l ∷ listings) none listed = absurd listed
no_methods id file (m ∷ methods) [] none listed = absurd listed
no_methods id file (m ∷ methods) (l ∷ listings) none listed = absurd (omega (arith, none))
