-- The table of platform classes: its names and types have texts, and each superclass in it is a row of it. Each is told by a test that
-- computes.
use Rattle.std.proofs.Common.{◌≡◌, ℕ, inl, inr, Bool, true, false, ◌&&◌, ◌||◌, nat_lt, List, [], ◌∷◌, Option, Some, None, codes, refl, sym, ap, subst, ◌∙◌, arith, ltb-true}
use Rattle.std.specs.List.{list_all, list_any}
use Rattle.std.specs.Option.{option_map_or}
use Rattle.std.specs.Str.{bytes_eq}
use Rattle.std.proofs.lemmas.Slice.Eq.{bytes_eq-Decides}
use Rattle.kb_names.specs.Bytes.{AreBytes}
use Rattle.kb_names.specs.Descriptors.{IsClassName, IsType, AreTypes, IsResult, IsMethodType}
use Rattle.kb_names.specs.declared.class_names.Spelling.TheVariants.{Escaped}
use Rattle.kb_names.specs.declared.types.JType.{JType}
use Rattle.kb_names.specs.declared.types.JType.TheVariants as types
use Rattle.kb_names.proofs.Choices.{true_and}
use Rattle.kb_class.specs.Naming.{Has}
use Rattle.kb_class.specs.Platform.{PlatformMethod, PlatformClass, object_name, platform_table}
use Rattle.kb_class.proofs.Lists.{has_cases, has_none, has_first, has_later}
use Rattle.kb_semantics.specs.Ways.{null_pointer, arithmetic, index_outside, array_store, class_cast, negative_size}

-- ---- lists and tests

module _ {A : Type 0} (test : A → Bool) where
  pub all_tested : (xs : List A) (x : A) → list_all test xs ≡ true → Has xs x → test x ≡ true
  all_tested [] x all has = absurd (has_none x has)
  all_tested (w ∷ xs) x all has =
      let both = true_and (test w) (list_all test xs) all in
      elim (has_cases w x xs has) [ inl same ↦ (ap (λ (v : A). test v) (sym same) ∙ both.0) | inr later ↦ all_tested xs x both.1 later ]

  pub any_there : (xs : List A) → list_any test xs ≡ true → (x : A) × Has xs x × (test x ≡ true)
  any_there [] any = absurd cc
  any_there (w ∷ xs) any = go (λ h. any_there xs h) (test w) refl any where
    go : (list_any test xs ≡ true → (x : A) × Has xs x × (test x ≡ true)) → (b : Bool) → test w ≡ b → (b || list_any test xs) ≡ true → (x : A) × Has (w ∷ xs) x × (test x ≡ true)
    go later true e any = (w, has_first w xs, e)
    go later false e any = (let found = later any in (found.0, has_later w found.0 xs found.1, found.2))

-- ---- names and types

abbrev is_byte : ℕ → Bool
is_byte byte = nat_lt byte 256

abbrev is_name : List ℕ → Bool
is_name [] = false
is_name (byte ∷ bytes) = list_all is_byte (byte ∷ bytes)

-- no array stands in the table
abbrev is_type : JType → Bool
is_type (types.Class name) = is_name name
is_type (types.Array component) = false
is_type _ = true

abbrev is_method : PlatformMethod → Bool
is_method method = list_all is_byte method.name && (list_all is_type method.kind.params && option_map_or is_type method.kind.result true)

abbrev is_row : PlatformClass → Bool
is_row row = is_name row.name && list_all is_method row.methods

bytes_told : (bytes : List ℕ) → list_all is_byte bytes ≡ true → AreBytes bytes
bytes_told [] all = tt
bytes_told (byte ∷ bytes) all =
    let both = true_and (is_byte byte) (list_all is_byte bytes) all in
    (ltb-true byte 256 both.0, bytes_told bytes both.1)

name_told : (name : List ℕ) → is_name name ≡ true → IsClassName Escaped name
name_told [] is = absurd cc
name_told (byte ∷ bytes) is = ((λ none. absurd cc), bytes_told (byte ∷ bytes) is)

type_told : (type : JType) → is_type type ≡ true → IsType Escaped type
type_told (types.Class name) is = record { base = name_told name is; dims = omega arith }
type_told (types.Array component) is = absurd cc
type_told _ is = record { base = tt; dims = omega arith }

types_told : (types : List JType) → list_all is_type types ≡ true → AreTypes Escaped types
types_told [] all = tt
types_told (type ∷ types) all =
    let both = true_and (is_type type) (list_all is_type types) all in
    (type_told type both.0, types_told types both.1)

result_told : (result : Option JType) → option_map_or is_type result true ≡ true → IsResult Escaped result
result_told None is = tt
result_told (Some type) is = type_told type is

rows_told : list_all is_row platform_table ≡ true
unfolding platform_table
rows_told = refl

pub row_named : (row : PlatformClass) → Has platform_table row → IsClassName Escaped row.name
row_named row has = name_told row.name (true_and (is_name row.name) (list_all is_method row.methods) (all_tested is_row platform_table row rows_told has)).0

-- a method of the platform has a name and a type that have texts
pub record MethodHasText (method : PlatformMethod) : Type 0 where
  pub name : AreBytes method.name
  pub kind : IsMethodType Escaped method.kind

method_told : (method : PlatformMethod) → is_method method ≡ true → MethodHasText method
method_told method is =
    let both = true_and (list_all is_byte method.name) (list_all is_type method.kind.params && option_map_or is_type method.kind.result true) is in
    let parts = true_and (list_all is_type method.kind.params) (option_map_or is_type method.kind.result true) both.1 in
    record { name = bytes_told method.name both.0; kind = record { params = types_told method.kind.params parts.0; result = result_told method.kind.result parts.1 } }

pub row_methods : (row : PlatformClass) (method : PlatformMethod) → Has platform_table row → Has row.methods method → MethodHasText method
row_methods row method has_row has =
    let both = true_and (is_name row.name) (list_all is_method row.methods) (all_tested is_row platform_table row rows_told has_row) in
    method_told method (all_tested is_method row.methods method both.1 has)

-- ---- rows by their names

abbrev is_in_table : List ℕ → Bool
is_in_table name = list_any (λ (row : PlatformClass). bytes_eq row.name name) platform_table

-- a row has the name
pub record IsTableName (name : List ℕ) : Type 0 where
  pub row : PlatformClass
  pub there : Has platform_table row
  pub named : row.name ≡ name

in_table : (name : List ℕ) → is_in_table name ≡ true → IsTableName name
in_table name is =
    let found = any_there (λ (row : PlatformClass). bytes_eq row.name name) platform_table is in
    record { row = found.0; there = found.1; named = (bytes_eq-Decides found.0.name name).0 found.2 }

abbrev has_parent : PlatformClass → Bool
has_parent row = option_map_or is_in_table row.parent true

parents_told : list_all has_parent platform_table ≡ true
unfolding platform_table
parents_told = refl

pub parent_in_table : (row : PlatformClass) (name : List ℕ) → Has platform_table row → row.parent ≡ Some name → IsTableName name
parent_in_table row name has above =
    in_table name (subst (λ (parent : Option (List ℕ)). option_map_or is_in_table parent true ≡ true) above (all_tested has_parent platform_table row parents_told has))

pub object_in_table : IsTableName object_name
unfolding platform_table
object_in_table = in_table object_name refl

pub string_in_table : IsTableName (codes "java/lang/String")
unfolding platform_table
string_in_table = in_table (codes "java/lang/String") refl

pub null_pointer_in_table : IsTableName null_pointer
unfolding platform_table
null_pointer_in_table = in_table null_pointer refl

pub arithmetic_in_table : IsTableName arithmetic
unfolding platform_table
arithmetic_in_table = in_table arithmetic refl

pub index_outside_in_table : IsTableName index_outside
unfolding platform_table
index_outside_in_table = in_table index_outside refl

pub array_store_in_table : IsTableName array_store
unfolding platform_table
array_store_in_table = in_table array_store refl

pub class_cast_in_table : IsTableName class_cast
unfolding platform_table
class_cast_in_table = in_table class_cast refl

pub negative_size_in_table : IsTableName negative_size
unfolding platform_table
negative_size_in_table = in_table negative_size refl
