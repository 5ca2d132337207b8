-- What the entries of a constant pool stand for, by the tables of its texts.
use Rattle.std.proofs.Common.{◌≡◌, ℕ, zero, suc, List, map, Option, Some, None, IsTrue, slice_get, option_and_then, refl, sym, ap, ap₂, subst, ◌∙◌}
use Rattle.std.specs.List.{AllZip}
use Rattle.kb_classfile.specs.declared.file.ClassFile.{ClassFile}
use Rattle.kb_classfile.specs.declared.file.PoolEntry.{PoolEntry}
use Rattle.kb_classfile.specs.declared.file.PoolEntry.TheVariants as entries
use Rattle.kb_classfile.specs.declared.pool.EntryKind.TheVariants as kinds
use Rattle.kb_classfile.specs.Pool.{text_of, utf8_in, class_name_in, name_index_of, entry_at, is_of_kind, NamesEntry, RefersWell}
use Rattle.kb_names.specs.declared.types.ExactType.{ExactType}
use Rattle.kb_format.specs.Rules.{IsFound, HasEntryName, IsEntryName, KeepsRules}
use Rattle.kb_class.specs.declared.members.MemberKind.{MemberKind}
use Rattle.kb_class.specs.Class.{Member, Entry, TextEntry, TypeEntry, MemberEntry, FieldEntry, MethodEntry, InterfaceMethodEntry}
use Rattle.kb_class.specs.Naming.{Has}
use Rattle.kb_class.specs.Loading.{SpellsExact, SpellsKind, HasText, NamesType, NamesMember, Refers, StandsFor}
use Rattle.kb_class.specs.Loaded.{told_at, type_in, member_in, text_told, type_told, entry_told}
use Rattle.kb_class.specs.Tables.{type_numbers, kind_index_of, kind_numbers, IsTable, IsSound}
use Rattle.kb_class.proofs.Lists.{all_has, filter_has, has_left, zip_made}
use Rattle.kb_class.proofs.Spellings.{one_exact, one_kind}

-- ---- numbers that name entries

pub found_text : (P : List ℕ → Type 0) (o : Option (List ℕ)) → IsFound P o → (text : List ℕ) × (o ≡ Some text) × P text
found_text P None is = absurd is
found_text P (Some text) is = (text, refl, is)

entry_there : (pool : List PoolEntry) (index : ℕ) (entry : PoolEntry) → entry_at pool index ≡ Some entry → slice_get pool index ≡ Some entry
entry_there pool zero entry e = absurd cc
entry_there pool (suc before) entry e = e

pub names_text : (pool : List PoolEntry) (index : ℕ) → NamesEntry kinds.Text pool index → (text : List ℕ) × (utf8_in pool index ≡ Some text)
names_text pool index names = go names.entry (entry_there pool index names.entry names.there) names.right where
  go : (entry : PoolEntry) → slice_get pool index ≡ Some entry → IsTrue (is_of_kind kinds.Text entry) → (text : List ℕ) × (utf8_in pool index ≡ Some text)
  go (entries.Utf8 text) at right = (text, ap (λ (o : Option PoolEntry). option_and_then text_of o) at)
  go (entries.Integer value) at right = absurd cc
  go entries.Wide at right = absurd cc
  go entries.Second at right = absurd cc
  go (entries.Class name) at right = absurd cc
  go (entries.Str text) at right = absurd cc
  go (entries.Field class name_type) at right = absurd cc
  go (entries.Method class name_type) at right = absurd cc
  go (entries.InterfaceMethod class name_type) at right = absurd cc
  go (entries.NameType name kind) at right = absurd cc
  go entries.Skipped at right = absurd cc

pub names_class : (pool : List PoolEntry) (index : ℕ) → NamesEntry kinds.Class pool index → (name : ℕ) × (slice_get pool index ≡ Some (entries.Class name))
names_class pool index names = go names.entry (entry_there pool index names.entry names.there) names.right where
  go : (entry : PoolEntry) → slice_get pool index ≡ Some entry → IsTrue (is_of_kind kinds.Class entry) → (name : ℕ) × (slice_get pool index ≡ Some (entries.Class name))
  go (entries.Class name) at right = (name, at)
  go (entries.Utf8 text) at right = absurd cc
  go (entries.Integer value) at right = absurd cc
  go entries.Wide at right = absurd cc
  go entries.Second at right = absurd cc
  go (entries.Str text) at right = absurd cc
  go (entries.Field class name_type) at right = absurd cc
  go (entries.Method class name_type) at right = absurd cc
  go (entries.InterfaceMethod class name_type) at right = absurd cc
  go (entries.NameType name kind) at right = absurd cc
  go entries.Skipped at right = absurd cc

names_name_type : (pool : List PoolEntry) (index : ℕ) → NamesEntry kinds.NameType pool index → (name : ℕ) × (kind : ℕ) × (slice_get pool index ≡ Some (entries.NameType name kind))
names_name_type pool index names = go names.entry (entry_there pool index names.entry names.there) names.right where
  go : (entry : PoolEntry) → slice_get pool index ≡ Some entry → IsTrue (is_of_kind kinds.NameType entry) → (name : ℕ) × (kind : ℕ) × (slice_get pool index ≡ Some (entries.NameType name kind))
  go (entries.NameType name kind) at right = (name, kind, at)
  go (entries.Utf8 text) at right = absurd cc
  go (entries.Integer value) at right = absurd cc
  go entries.Wide at right = absurd cc
  go entries.Second at right = absurd cc
  go (entries.Class name) at right = absurd cc
  go (entries.Str text) at right = absurd cc
  go (entries.Field class name_type) at right = absurd cc
  go (entries.Method class name_type) at right = absurd cc
  go (entries.InterfaceMethod class name_type) at right = absurd cc
  go entries.Skipped at right = absurd cc

-- the name of a class that an entry names
pub class_named : (file : ClassFile) (index : ℕ) → KeepsRules file → NamesEntry kinds.Class file.pool index → (name : List ℕ) × (class_name_in file.pool index ≡ Some name)
class_named file index rules names =
    let class = names_class file.pool index names in
    let text = found_text IsEntryName (utf8_in file.pool class.0) (all_has (HasEntryName file) file.pool (entries.Class class.0) rules.names.entries (index, class.1)) in
    (text.0, rw class.1 text.1)

-- ---- what the tables tell

module _ (file : ClassFile) (types : List (Option ExactType)) (kinds_told : List (Option MemberKind))
    (typed : IsTable SpellsExact file.pool (type_numbers file.pool) types) (described : IsTable SpellsKind file.pool (kind_numbers file) kinds_told) where
  pub class_told : (name : ℕ) → Has file.pool (entries.Class name) → (type : ExactType) × (told_at types name ≡ Some type) × HasText file.pool name (SpellsExact type)
  class_told name has =
      let told = typed.whole name (filter_has name_index_of file.pool (entries.Class name) name has refl) in
      (told.0, told.1, (typed.right name told.0 told.1).1)

  pub kind_told : (name kind : ℕ) → Has file.pool (entries.NameType name kind) → (found : MemberKind) × (told_at kinds_told kind ≡ Some found) × HasText file.pool kind (SpellsKind found)
  kind_told name kind has =
      let among : Has (kind_numbers file) kind =
      has_left _ _ kind (has_left _ _ kind (filter_has kind_index_of file.pool (entries.NameType name kind) kind has refl)) in
      let told = described.whole kind among in
      (told.0, told.1, (described.right kind told.0 told.1).1)

  module _ (rules : KeepsRules file) (sound : IsSound file) where
    type_there : (class : ℕ) → NamesEntry kinds.Class file.pool class → (type : ExactType) × NamesType file.pool class type × (type_in file.pool types class ≡ Some type)
    type_there class names =
        let entry = names_class file.pool class names in
        let told = class_told entry.0 (class, entry.1) in
        (told.0, (entry.0, entry.1, told.2), rw entry.1 told.1)

    member_named : (name kind : ℕ) → Has file.pool (entries.NameType name kind)
        → (member : Member) × NamesMember file.pool name kind member × (utf8_in file.pool name ≡ Some member.name) × (told_at kinds_told kind ≡ Some member.kind)
    member_named name kind has =
        let text = found_text _ (utf8_in file.pool name) (all_has (HasEntryName file) file.pool (entries.NameType name kind) rules.names.entries has) in
        let told = kind_told name kind has in
        (record { name = text.0; kind = told.0 }, record { named = text.1; typed = told.2 }, text.1, told.1)

    reference_there : (class name_type : ℕ) → NamesEntry kinds.Class file.pool class × NamesEntry kinds.NameType file.pool name_type
        → (type : ExactType) × (member : Member) × Refers file.pool class name_type type member × (type_in file.pool types class ≡ Some type) × (member_in file.pool kinds_told name_type ≡ Some member)
    reference_there class name_type names =
        let type = type_there class names.0 in
        let entry = names_name_type file.pool name_type names.1 in
        let member = member_named entry.0 entry.1 (name_type, entry.2) in
        let there : member_in file.pool kinds_told name_type ≡ Some member.0 = rw (entry.2, member.2, member.3) refl in
        (type.0, member.0, record { sought = type.1; name = entry.0; kind = entry.1; there = entry.2; names = member.1 }, type.2, there)

    -- each entry is told as what it stands for
    stands : (entry : PoolEntry) → Has file.pool entry → StandsFor file.pool entry (entry_told file.pool types kinds_told entry)
    stands (entries.Utf8 text) has = refl
    stands (entries.Integer value) has = refl
    stands entries.Wide has = refl
    stands entries.Second has = refl
    stands (entries.Class name) has =
        let told = class_told name has in
        (told.0, told.2, ap type_told told.1)
    stands (entries.Str text) has =
        let found = names_text file.pool text (all_has (RefersWell file.pool) file.pool (entries.Str text) sound.references has) in
        (found.0, found.1, ap text_told found.1)
    stands (entries.Field class name_type) has =
        let there = reference_there class name_type (all_has (RefersWell file.pool) file.pool (entries.Field class name_type) sound.references has) in
        (there.0, there.1, there.2, rw (there.3, there.4) refl)
    stands (entries.Method class name_type) has =
        let there = reference_there class name_type (all_has (RefersWell file.pool) file.pool (entries.Method class name_type) sound.references has) in
        (there.0, there.1, there.2, rw (there.3, there.4) refl)
    stands (entries.InterfaceMethod class name_type) has =
        let there = reference_there class name_type (all_has (RefersWell file.pool) file.pool (entries.InterfaceMethod class name_type) sound.references has) in
        (there.0, there.1, there.2, rw (there.3, there.4) refl)
    stands (entries.NameType name kind) has =
        let member = member_named name kind has in
        (member.0, member.1, rw (member.2, member.3) refl)
    stands entries.Skipped has = refl

    pub all_stand : AllZip (StandsFor file.pool) file.pool (map (entry_told file.pool types kinds_told) file.pool)
    all_stand = zip_made (StandsFor file.pool) (entry_told file.pool types kinds_told) file.pool stands

-- ---- an entry stands for one thing

pub same_some : {A : Type 0} (o : Option A) (a b : A) → o ≡ Some a → o ≡ Some b → a ≡ b
same_some o a b e f =
    let both : Some a ≡ Some b = sym e ∙ f in
    cc

pub text_one : {A : Type 0} (Spells : A → List ℕ → Type 0) (pool : List PoolEntry) (index : ℕ) (a b : A) → ((text : List ℕ) → Spells a text → Spells b text → a ≡ b)
    → HasText pool index (Spells a) → HasText pool index (Spells b) → a ≡ b
text_one Spells pool index a b one has other =
    one has.0 has.2 (subst (Spells b) (same_some (utf8_in pool index) other.0 has.0 other.1 has.1) other.2)

members_same : (a b : Member) → a.name ≡ b.name → a.kind ≡ b.kind → a ≡ b
members_same a b e f = ap₂ (λ (n : List ℕ) (k : MemberKind). let m : Member = record { name = n; kind = k } in m) e f

module _ (pool : List PoolEntry) where
  one_type_named : (class : ℕ) (a b : ExactType) → NamesType pool class a → NamesType pool class b → a ≡ b
  one_type_named class a b names other =
      let entries_same : entries.Class names.0 ≡ entries.Class other.0 = same_some (slice_get pool class) (entries.Class names.0) (entries.Class other.0) names.1 other.1 in
      let same : other.0 ≡ names.0 = cc in
      text_one SpellsExact pool names.0 a b (one_exact a b) names.2 (subst (λ (n : ℕ). HasText pool n (SpellsExact b)) same other.2)

  one_member_named : (name kind : ℕ) (a b : Member) → NamesMember pool name kind a → NamesMember pool name kind b → a ≡ b
  one_member_named name kind a b names other =
      members_same a b (same_some (utf8_in pool name) a.name b.name names.named other.named) (text_one SpellsKind pool kind a.kind b.kind (one_kind a.kind b.kind) names.typed other.typed)

  one_reference : (class name_type : ℕ) (a b : ExactType) (m n : Member) → Refers pool class name_type a m → Refers pool class name_type b n → (a ≡ b) × (m ≡ n)
  one_reference class name_type a b m n refers other =
      let entries_same : entries.NameType refers.name refers.kind ≡ entries.NameType other.name other.kind =
      same_some (slice_get pool name_type) (entries.NameType refers.name refers.kind) (entries.NameType other.name other.kind) refers.there other.there in
      let name_same : other.name ≡ refers.name = cc in
      let kind_same : other.kind ≡ refers.kind = cc in (
        one_type_named class a b refers.sought other.sought,
        one_member_named refers.name refers.kind m n refers.names
            (subst (λ (k : ℕ). NamesMember pool refers.name k n) kind_same (subst (λ (i : ℕ). NamesMember pool i other.kind n) name_same other.names)),
      )

  pub one_entry : (entry : PoolEntry) (a b : Entry) → StandsFor pool entry a → StandsFor pool entry b → a ≡ b
  one_entry (entries.Utf8 text) a b s t = s ∙ sym t
  one_entry (entries.Integer value) a b s t = s ∙ sym t
  one_entry entries.Wide a b s t = s ∙ sym t
  one_entry entries.Second a b s t = s ∙ sym t
  one_entry (entries.Class name) a b s t = s.2 ∙ ap (λ (type : ExactType). TypeEntry type) (text_one SpellsExact pool name s.0 t.0 (one_exact s.0 t.0) s.1 t.1) ∙ sym t.2
  one_entry (entries.Str text) a b s t = s.2 ∙ ap (λ (bytes : List ℕ). TextEntry bytes) (same_some (utf8_in pool text) s.0 t.0 s.1 t.1) ∙ sym t.2
  one_entry (entries.Field class name_type) a b s t =
      let one = one_reference class name_type s.0 t.0 s.1 t.1 s.2 t.2 in
      s.3 ∙ ap₂ (λ (type : ExactType) (member : Member). FieldEntry type member) one.0 one.1 ∙ sym t.3
  one_entry (entries.Method class name_type) a b s t =
      let one = one_reference class name_type s.0 t.0 s.1 t.1 s.2 t.2 in
      s.3 ∙ ap₂ (λ (type : ExactType) (member : Member). MethodEntry type member) one.0 one.1 ∙ sym t.3
  one_entry (entries.InterfaceMethod class name_type) a b s t =
      let one = one_reference class name_type s.0 t.0 s.1 t.1 s.2 t.2 in
      s.3 ∙ ap₂ (λ (type : ExactType) (member : Member). InterfaceMethodEntry type member) one.0 one.1 ∙ sym t.3
  one_entry (entries.NameType name kind) a b s t = s.2 ∙ ap (λ (member : Member). MemberEntry member) (one_member_named name kind s.0 t.0 s.1 t.1) ∙ sym t.2
  one_entry entries.Skipped a b s t = s ∙ sym t
