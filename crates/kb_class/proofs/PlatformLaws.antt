-- The classes of the platform by their names and kinds.
use Rattle.std.proofs.Common.{◌≡◌, ℕ, zero, suc, List, [], ◌∷◌, map, length, Option, Some, None, slice_get, refl, sym, ap, subst, ◌∙◌}
use Rattle.std.specs.List.{AllZip}
use Rattle.kb_class.specs.declared.platform.PlatformKind.{PlatformKind}
use Rattle.kb_class.specs.declared.members.MemberKind.{MemberKind}
use Rattle.kb_class.specs.declared.members.MemberKind.TheVariants as kinds
use Rattle.kb_class.specs.declared.members.MethodInfo.{MethodInfo}
use Rattle.kb_class.specs.Class.{Class}
use Rattle.kb_class.specs.Naming.{Has, HasKind, OfField, OfMethod, OfEntry}
use Rattle.kb_class.specs.Loaded.{IsIndexed}
use Rattle.kb_class.specs.Platform.{PlatformClass, platform_table, IsPlatform, IsPlatformMethod}
use Rattle.kb_class.specs.PlatformRows.{platform_names, platform_kinds, row_of, rows_of, kind_access, kind_parent, kind_interfaces, kind_methods, method_kind}
use Rattle.kb_class.proofs.Lists.{has_none, map_has, has_mapped}

table_is : platform_table ≡ rows_of platform_names platform_kinds
unfolding platform_table platform_names platform_kinds
table_is = refl

pub table_size : length platform_table ≡ 20
unfolding platform_table
table_size = refl

rows_at : (names : List (List ℕ)) (kinds : List PlatformKind) (place : ℕ) (name : List ℕ) (kind : PlatformKind) → slice_get names place ≡ Some name → slice_get kinds place ≡ Some kind
    → slice_get (rows_of names kinds) place ≡ Some (row_of name kind)
rows_at [] kinds place name kind at there = absurd cc
rows_at (n ∷ names) [] place name kind at there = absurd cc
rows_at (n ∷ names) (k ∷ kinds) zero name kind at there =
    let first : n ≡ name = cc in
    let second : k ≡ kind = cc in
    rw (first, second) refl
rows_at (n ∷ names) (k ∷ kinds) (suc place) name kind at there = rows_at names kinds place name kind at there

pub row_at : (place : ℕ) (name : List ℕ) (kind : PlatformKind) → slice_get platform_names place ≡ Some name → slice_get platform_kinds place ≡ Some kind
    → slice_get platform_table place ≡ Some (row_of name kind)
row_at place name kind at there = ap (λ (rows : List PlatformClass). slice_get rows place) table_is ∙ rows_at platform_names platform_kinds place name kind at there

-- the class of that name and kind, with these methods
abbrev pub platform_made : List ℕ → PlatformKind → List MethodInfo → Class
platform_made name kind methods = record {
  name = name;
  access = kind_access kind;
  parent = kind_parent kind;
  interfaces = kind_interfaces kind;
  fields = [];
  methods = methods;
  entries = [];
  file = None;
}

module _ (name : List ℕ) (kind : PlatformKind) (methods : List MethodInfo) where
  pub is_platform : (id : ℕ) → AllZip (IsPlatformMethod id) (kind_methods kind) methods → IsPlatform id (row_of name kind) (platform_made name kind methods)
  is_platform id are = record { name = refl; access = refl; parent = refl; interfaces = refl; fields = refl; methods = are; entries = refl; file = refl }

  table_describes : (k : MemberKind) → Has (map method_kind methods) (Some k) → HasKind (platform_made name kind methods) k
  table_describes k has =
      let method = has_mapped method_kind methods (Some k) has in
      let both : Some (kinds.Method method.0.kind) ≡ Some k = method.2 in
      let same : k ≡ kinds.Method method.0.kind = cc in
      OfMethod method.0 method.1 same

  describes_table : (k : MemberKind) → HasKind (platform_made name kind methods) k → Has (map method_kind methods) (Some k)
  describes_table k (OfField field has is) = absurd (has_none field has)
  describes_table k (OfMethod method has is) = subst (λ (o : Option MemberKind). Has (map method_kind methods) o) (ap (λ (m : MemberKind). Some m) (sym is)) (map_has method_kind methods method has)
  describes_table k (OfEntry member has is) = absurd (has_none _ has)

  pub platform_indexed : IsIndexed (platform_made name kind methods) [] (map method_kind methods)
  platform_indexed = record {
    named = λ type. ((λ has. absurd (has_none _ has)), (λ has. absurd (has_none _ has)));
    described = λ k. (table_describes k, describes_table k);
  }
