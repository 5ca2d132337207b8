-- Numbers of a class by those of the texts of its constant pool.
use Rattle.std.proofs.Common.{◌≡◌, ℕ, zero, suc, List, [], ◌∷◌, map, Option, Some, None, slice_get, slice_index_or, refl, sym, ap, subst, ◌∙◌}
use Rattle.std.specs.List.{AllZip}
use Rattle.std.specs.Option.{option_and_then}
use Rattle.std.proofs.lemmas.Option.{same_Some, none-some}
use Rattle.kb_classfile.specs.declared.file.ClassFile.{ClassFile}
use Rattle.kb_classfile.specs.declared.file.Field.{Field}
use Rattle.kb_classfile.specs.declared.file.PoolEntry.{PoolEntry}
use Rattle.kb_classfile.specs.declared.file.PoolEntry.TheVariants as entries
use Rattle.kb_classfile.specs.Pool.{utf8_in, name_index_of}
use Rattle.kb_names.specs.declared.types.ExactType.{ExactType}
use Rattle.kb_class.specs.declared.entries.ReferenceKind.TheVariants as references
use Rattle.kb_class.specs.Class.{Class, Member, Sought, Entry, IntEntry, TextEntry, TypeEntry, MemberEntry, OtherEntry, reference_of_entry}
use Rattle.kb_class.specs.Loaded.{told_at}
use Rattle.kb_class.specs.Loading.{HasText, SpellsExact, SpellsKind, Refers, IsFieldOf, StandsFor as EntryStandsFor}
use Rattle.kb_class.specs.declared.members.FieldInfo.{FieldInfo}
use Rattle.kb_class.specs.declared.members.MethodInfo.{MethodInfo}
use Rattle.kb_class.specs.declared.members.MemberKind.{MemberKind}
use Rattle.kb_class.specs.declared.members.MemberKind.TheVariants as kinds
use Rattle.kb_texts.specs.Texts.{Keeps}
use Rattle.kb_numbers.specs.declared.pairs.Pair.{Pair}
use Rattle.kb_numbers.specs.declared.pairs.EntryNumbers.{EntryNumbers}
use Rattle.kb_numbers.specs.Members.{MemberNumbers}
use Rattle.kb_numbers.specs.Numbers.{HasTextAt, StandsFor, IsMethodPair, IsFieldPair, Names, IsNumbered, IsMethodNamed, IsOfFile}
use Rattle.kb_numbers.specs.Pools.{HasNumber, IsTextRow, pair_at, method_pair, field_pair, name_type_of, class_index, name_type_at, named_by, numbers_by, entry_numbers}
use Rattle.kb_numbers.proofs.ZipLaws.{zip_mapped}

-- ---- the row of a pool

pub number_on : (before after : List (List ℕ)) (entry : PoolEntry) (number : ℕ) → Keeps before after → HasNumber before entry number → HasNumber after entry number
number_on before after entry number keeps has text at = keeps number text (has text at)

pub row_whole : (texts : List (List ℕ)) (pool : List PoolEntry) (row : List ℕ) → AllZip (HasNumber texts) pool row → IsTextRow texts pool row
row_whole texts [] [] each index text at = absurd (none-some text at)
row_whole texts [] (n ∷ row) each index text at = absurd each
row_whole texts (p ∷ pool) [] each index text at = absurd each
row_whole texts (p ∷ pool) (n ∷ row) each zero text at = each.0 text at
row_whole texts (p ∷ pool) (n ∷ row) each (suc index) text at = row_whole texts pool row each.1 index text at

module _ (texts : List (List ℕ)) (pool : List PoolEntry) (row : List ℕ) (is : IsTextRow texts pool row) where
  text_there : (index : ℕ) (Is : List ℕ → Type 0) → HasText pool index Is → HasTextAt texts (slice_index_or row index 0) Is
  text_there index Is has = (has.0, is index has.0 has.1, has.2)

  -- the pair that a name and a descriptor tell
  pair_stands : (name kind : ℕ) (named : List ℕ) (of : MemberKind) → utf8_in pool name ≡ Some named → HasText pool kind (SpellsKind of) → StandsFor texts (pair_at row name kind) named of
  pair_stands name kind named of there typed = record { named = is name named there; typed = text_there kind (SpellsKind of) typed }

  -- ---- what an entry names

  referred : (class name_type : ℕ) (type : ExactType) (member : Member) → Refers pool class name_type type member
      → (told : EntryNumbers) × (numbers_by pool row class name_type ≡ Some told) × HasTextAt texts told.class (SpellsExact type) × StandsFor texts told.member member.name member.kind
  referred class name_type type member refers =
      let sought = refers.sought in
      let class_is : class_index pool class ≡ Some sought.0 = ap (λ (o : Option PoolEntry). option_and_then name_index_of o) sought.1 in
      let parts : name_type_at pool name_type ≡ Some (refers.name, refers.kind) = ap (λ (o : Option PoolEntry). option_and_then name_type_of o) refers.there in (
        record { class = slice_index_or row sought.0 0; member = pair_at row refers.name refers.kind },
        (λ i. named_by row (class_is i) (parts i)),
        text_there sought.0 (SpellsExact type) sought.2,
        pair_stands refers.name refers.kind member.name member.kind refers.names.named refers.names.typed,
      )

  module _ (sought : Sought) where
    sought_is : (entry : Entry) (other : Sought) → reference_of_entry (Some entry) ≡ Some other → reference_of_entry (Some entry) ≡ Some sought → other ≡ sought
    sought_is entry other is at = same_Some other sought (sym is ∙ at)

    no_reference : (entry other : Entry) → entry ≡ other → reference_of_entry (Some other) ≡ None → reference_of_entry (Some entry) ≡ Some sought → ⊥
    no_reference entry other same none at = none-some sought (sym (ap (λ (e : Entry). reference_of_entry (Some e)) same ∙ none) ∙ at)

    -- an entry that refers to a class and a member
    names_sought : (class name_type : ℕ) (type : ExactType) (member : Member) (other : Sought) → other ≡ sought → other.class ≡ type → other.member ≡ member → Refers pool class name_type type member
        → (told : EntryNumbers) × (numbers_by pool row class name_type ≡ Some told) × Names texts told sought
    names_sought class name_type type member other same class_is member_is refers =
        let found = referred class name_type type member refers in
        let classes : type ≡ sought.class = sym class_is ∙ ap (λ (s : Sought). s.class) same in
        let members : member ≡ sought.member = sym member_is ∙ ap (λ (s : Sought). s.member) same in (
          found.0,
          found.1,
          record {
            class = subst (λ (t : ExactType). HasTextAt texts found.0.class (SpellsExact t)) classes found.2;
            member = subst (λ (m : Member). StandsFor texts found.0.member m.name m.kind) members found.3;
          },
        )

    names_of : (entry : PoolEntry) (told : Entry) → EntryStandsFor pool entry told → reference_of_entry (Some told) ≡ Some sought
        → (numbers : EntryNumbers) × (entry_numbers pool row entry ≡ Some numbers) × Names texts numbers sought
    names_of (entries.Utf8 text) told stands at = absurd (no_reference told OtherEntry stands refl at)
    names_of (entries.Integer value) told stands at = absurd (no_reference told (IntEntry value) stands refl at)
    names_of entries.Wide told stands at = absurd (no_reference told OtherEntry stands refl at)
    names_of entries.Second told stands at = absurd (no_reference told OtherEntry stands refl at)
    names_of (entries.Class name) told stands at = absurd (no_reference told (TypeEntry stands.0) stands.2 refl at)
    names_of (entries.Str text) told stands at = absurd (no_reference told (TextEntry stands.0) stands.2 refl at)
    names_of (entries.Field class name_type) told stands at =
        let other : Sought = record { what = references.Field; class = stands.0; member = stands.1 } in
        names_sought class name_type stands.0 stands.1 other (sought_is told other (ap (λ (e : Entry). reference_of_entry (Some e)) stands.3) at) refl refl stands.2
    names_of (entries.Method class name_type) told stands at =
        let other : Sought = record { what = references.Method; class = stands.0; member = stands.1 } in
        names_sought class name_type stands.0 stands.1 other (sought_is told other (ap (λ (e : Entry). reference_of_entry (Some e)) stands.3) at) refl refl stands.2
    names_of (entries.InterfaceMethod class name_type) told stands at =
        let other : Sought = record { what = references.InterfaceMethod; class = stands.0; member = stands.1 } in
        names_sought class name_type stands.0 stands.1 other (sought_is told other (ap (λ (e : Entry). reference_of_entry (Some e)) stands.3) at) refl refl stands.2
    names_of (entries.NameType name kind) told stands at = absurd (no_reference told (MemberEntry stands.0) stands.2 refl at)
    names_of entries.Skipped told stands at = absurd (no_reference told OtherEntry stands refl at)

    names_at : (whole : List PoolEntry) (told : List Entry) (place : ℕ) → AllZip (EntryStandsFor pool) whole told → reference_of_entry (slice_get told place) ≡ Some sought
        → (numbers : EntryNumbers) × (told_at (map (entry_numbers pool row) whole) place ≡ Some numbers) × Names texts numbers sought
    names_at [] [] place each at = absurd (none-some sought at)
    names_at [] (e ∷ told) place each at = absurd each
    names_at (p ∷ whole) [] place each at = absurd each
    names_at (p ∷ whole) (e ∷ told) zero each at = names_of p e each.0 at
    names_at (p ∷ whole) (e ∷ told) (suc place) each at = names_at whole told place each.1 at

-- ---- a class of a file

pub file_numbered : (texts : List (List ℕ)) (class : Class) (file : ClassFile) (row : List ℕ) (first : ℕ) (own : MemberNumbers) → IsOfFile class file → IsTextRow texts file.pool row
    → own ≡ record { first = first; methods = map (method_pair row) file.methods; fields = map (field_pair row) file.fields; entries = map (entry_numbers file.pool row) file.pool }
    → IsNumbered texts first class own
file_numbered texts class file row first own of is same =
    subst (IsNumbered texts first class) (sym same) (record {
      first_is = refl;
      numbers = record {
        each_method = zip_mapped (IsMethodNamed file) (method_pair row) (IsMethodPair texts) file.methods class.methods
            (λ method info named. pair_stands texts file.pool row is method.name method.kind info.name (kinds.Method info.kind) named.name named.kind) of.of_methods;
        each_field = zip_mapped (IsFieldOf file) (field_pair row) (IsFieldPair texts) file.fields class.fields
            (λ field info named. pair_stands texts file.pool row is field.name field.kind info.name (kinds.Field info.kind) named.name named.kind) of.of_fields;
        each_entry = λ entry sought at. names_at texts file.pool row is sought file.pool class.entries entry of.of_entries at;
      };
    })

-- ---- a class without a file

pub written_numbered : (texts : List (List ℕ)) (class : Class) (methods : List MethodInfo) (pairs : List Pair) (first : ℕ) (own : MemberNumbers) → class.methods ≡ methods → class.fields ≡ [] → class.entries ≡ []
    → AllZip (IsMethodPair texts) methods pairs → own ≡ record { first = first; methods = pairs; fields = []; entries = [] } → IsNumbered texts first class own
written_numbered texts class methods pairs first own methods_are no_fields no_entries each same =
    subst (IsNumbered texts first class) (sym same) (record {
      first_is = refl;
      numbers = record {
        each_method = subst (λ (ms : List MethodInfo). AllZip (IsMethodPair texts) ms pairs) (sym methods_are) each;
        each_field = subst (λ (fs : List FieldInfo). AllZip (IsFieldPair texts) fs []) (sym no_fields) tt;
        each_entry = λ entry sought at. absurd (none-some sought (sym (ap (λ (es : List Entry). reference_of_entry (slice_get es entry)) no_entries) ∙ at));
      };
    })
