-- What is told of one entry of a class.
use Rattle.std.proofs.Common.{◌≡◌, ℕ, List, map, Option, Some, None, slice_get, option_map, option_and_then, refl, ap, ◌∙◌}
use Rattle.std.proofs.lemmas.Option.{slice_get-map}
use Rattle.kb_classfile.specs.declared.file.PoolEntry.{PoolEntry}
use Rattle.kb_classfile.specs.declared.file.PoolEntry.TheVariants as entries
use Rattle.kb_classfile.specs.Pool.{utf8_in}
use Rattle.kb_names.specs.declared.types.ExactType.{ExactType}
use Rattle.kb_class.specs.declared.members.MemberKind.{MemberKind}
use Rattle.kb_class.specs.declared.entries.ReferenceKind.TheVariants as references
use Rattle.kb_class.specs.Class.{Member, Entry, FieldEntry, MethodEntry, InterfaceMethodEntry, type_of_entry, text_of_entry, int_of_entry, reference_of_entry}
use Rattle.kb_class.specs.Loaded.{told_at, told_text, told_int, class_type, sought_told, told_reference, type_in, member_in, member_told, text_told, type_told, name_type_told, reference_told, entry_told}

text_back : (o : Option (List ℕ)) → text_of_entry (Some (text_told o)) ≡ o
text_back None = refl
text_back (Some text) = refl

type_back : (o : Option ExactType) → type_of_entry (Some (type_told o)) ≡ o
type_back None = refl
type_back (Some type) = refl

text_no_type : (o : Option (List ℕ)) → type_of_entry (Some (text_told o)) ≡ None
text_no_type None = refl
text_no_type (Some text) = refl

type_no_text : (o : Option ExactType) → text_of_entry (Some (type_told o)) ≡ None
type_no_text None = refl
type_no_text (Some type) = refl

-- of neither kind
abbrev IsAside : Entry → Type 0
IsAside told = (text_of_entry (Some told) ≡ None) × (type_of_entry (Some told) ≡ None)

member_aside : (o : Option Member) → IsAside (name_type_told o)
member_aside None = (refl, refl)
member_aside (Some member) = (refl, refl)

field_aside : (o : Option ExactType) (p : Option Member) → IsAside (reference_told FieldEntry o p)
field_aside None p = (refl, refl)
field_aside (Some type) None = (refl, refl)
field_aside (Some type) (Some member) = (refl, refl)

method_aside : (o : Option ExactType) (p : Option Member) → IsAside (reference_told MethodEntry o p)
method_aside None p = (refl, refl)
method_aside (Some type) None = (refl, refl)
method_aside (Some type) (Some member) = (refl, refl)

interface_method_aside : (o : Option ExactType) (p : Option Member) → IsAside (reference_told InterfaceMethodEntry o p)
interface_method_aside None p = (refl, refl)
interface_method_aside (Some type) None = (refl, refl)
interface_method_aside (Some type) (Some member) = (refl, refl)

-- neither an int nor a reference
abbrev IsPlain : Entry → Type 0
IsPlain told = (int_of_entry (Some told) ≡ None) × (reference_of_entry (Some told) ≡ None)

text_plain : (o : Option (List ℕ)) → IsPlain (text_told o)
text_plain None = (refl, refl)
text_plain (Some text) = (refl, refl)

type_plain : (o : Option ExactType) → IsPlain (type_told o)
type_plain None = (refl, refl)
type_plain (Some type) = (refl, refl)

member_plain : (o : Option Member) → IsPlain (name_type_told o)
member_plain None = (refl, refl)
member_plain (Some member) = (refl, refl)

field_back : (o : Option ExactType) (p : Option Member) → (int_of_entry (Some (reference_told FieldEntry o p)) ≡ None) × (reference_of_entry (Some (reference_told FieldEntry o p)) ≡ sought_told references.Field o p)
field_back None p = (refl, refl)
field_back (Some type) None = (refl, refl)
field_back (Some type) (Some member) = (refl, refl)

method_back : (o : Option ExactType) (p : Option Member) → (int_of_entry (Some (reference_told MethodEntry o p)) ≡ None) × (reference_of_entry (Some (reference_told MethodEntry o p)) ≡ sought_told references.Method o p)
method_back None p = (refl, refl)
method_back (Some type) None = (refl, refl)
method_back (Some type) (Some member) = (refl, refl)

interface_method_back : (o : Option ExactType) (p : Option Member)
    → (int_of_entry (Some (reference_told InterfaceMethodEntry o p)) ≡ None) × (reference_of_entry (Some (reference_told InterfaceMethodEntry o p)) ≡ sought_told references.InterfaceMethod o p)
interface_method_back None p = (refl, refl)
interface_method_back (Some type) None = (refl, refl)
interface_method_back (Some type) (Some member) = (refl, refl)

module _ (pool : List PoolEntry) (types : List (Option ExactType)) (kinds : List (Option MemberKind)) where
  pub text_of_told : (o : Option PoolEntry) → text_of_entry (option_map (entry_told pool types kinds) o) ≡ told_text pool o
  text_of_told None = refl
  text_of_told (Some (entries.Utf8 text)) = refl
  text_of_told (Some (entries.Integer value)) = refl
  text_of_told (Some entries.Wide) = refl
  text_of_told (Some entries.Second) = refl
  text_of_told (Some (entries.Class name)) = type_no_text (told_at types name)
  text_of_told (Some (entries.Str text)) = text_back (utf8_in pool text)
  text_of_told (Some (entries.Field class name_type)) = (field_aside (type_in pool types class) (member_in pool kinds name_type)).0
  text_of_told (Some (entries.Method class name_type)) = (method_aside (type_in pool types class) (member_in pool kinds name_type)).0
  text_of_told (Some (entries.InterfaceMethod class name_type)) = (interface_method_aside (type_in pool types class) (member_in pool kinds name_type)).0
  text_of_told (Some (entries.NameType name kind)) = (member_aside (member_told (utf8_in pool name) (told_at kinds kind))).0
  text_of_told (Some entries.Skipped) = refl

  type_of_told : (o : Option PoolEntry) → type_of_entry (option_map (entry_told pool types kinds) o) ≡ option_and_then (class_type types) o
  type_of_told None = refl
  type_of_told (Some (entries.Utf8 text)) = refl
  type_of_told (Some (entries.Integer value)) = refl
  type_of_told (Some entries.Wide) = refl
  type_of_told (Some entries.Second) = refl
  type_of_told (Some (entries.Class name)) = type_back (told_at types name)
  type_of_told (Some (entries.Str text)) = text_no_type (utf8_in pool text)
  type_of_told (Some (entries.Field class name_type)) = (field_aside (type_in pool types class) (member_in pool kinds name_type)).1
  type_of_told (Some (entries.Method class name_type)) = (method_aside (type_in pool types class) (member_in pool kinds name_type)).1
  type_of_told (Some (entries.InterfaceMethod class name_type)) = (interface_method_aside (type_in pool types class) (member_in pool kinds name_type)).1
  type_of_told (Some (entries.NameType name kind)) = (member_aside (member_told (utf8_in pool name) (told_at kinds kind))).1
  type_of_told (Some entries.Skipped) = refl

  pub text_looked_up : (number : ℕ) → text_of_entry (slice_get (map (entry_told pool types kinds) pool) number) ≡ told_text pool (slice_get pool number)
  text_looked_up number = ap text_of_entry (slice_get-map (entry_told pool types kinds) pool number) ∙ text_of_told (slice_get pool number)

  pub type_looked_up : (number : ℕ) → type_of_entry (slice_get (map (entry_told pool types kinds) pool) number) ≡ type_in pool types number
  type_looked_up number = ap type_of_entry (slice_get-map (entry_told pool types kinds) pool number) ∙ type_of_told (slice_get pool number)

  -- ---- ints and references

  int_and_reference : (o : Option PoolEntry) → (int_of_entry (option_map (entry_told pool types kinds) o) ≡ told_int o) × (reference_of_entry (option_map (entry_told pool types kinds) o) ≡ told_reference pool types kinds o)
  int_and_reference None = (refl, refl)
  int_and_reference (Some (entries.Utf8 text)) = (refl, refl)
  int_and_reference (Some (entries.Integer value)) = (refl, refl)
  int_and_reference (Some entries.Wide) = (refl, refl)
  int_and_reference (Some entries.Second) = (refl, refl)
  int_and_reference (Some (entries.Class name)) = type_plain (told_at types name)
  int_and_reference (Some (entries.Str text)) = text_plain (utf8_in pool text)
  int_and_reference (Some (entries.Field class name_type)) = field_back (type_in pool types class) (member_in pool kinds name_type)
  int_and_reference (Some (entries.Method class name_type)) = method_back (type_in pool types class) (member_in pool kinds name_type)
  int_and_reference (Some (entries.InterfaceMethod class name_type)) = interface_method_back (type_in pool types class) (member_in pool kinds name_type)
  int_and_reference (Some (entries.NameType name kind)) = member_plain (member_told (utf8_in pool name) (told_at kinds kind))
  int_and_reference (Some entries.Skipped) = (refl, refl)

  pub int_looked_up : (number : ℕ) → int_of_entry (slice_get (map (entry_told pool types kinds) pool) number) ≡ told_int (slice_get pool number)
  int_looked_up number = ap int_of_entry (slice_get-map (entry_told pool types kinds) pool number) ∙ (int_and_reference (slice_get pool number)).0

  pub reference_looked_up : (number : ℕ) → reference_of_entry (slice_get (map (entry_told pool types kinds) pool) number) ≡ told_reference pool types kinds (slice_get pool number)
  reference_looked_up number = ap reference_of_entry (slice_get-map (entry_told pool types kinds) pool number) ∙ (int_and_reference (slice_get pool number)).1
