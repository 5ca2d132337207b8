-- Descriptors of bytes: the types that they spell have texts.
use Rattle.std.proofs.Common.{◌≡◌, ◌≢◌, ℕ, zero, suc, ◌≤◌, inl, inr, List, [], ◌∷◌, ◌++◌, replicate, codes, refl, Option, Some, None, flat_map, sym, subst, arith}
use Rattle.kb_names.specs.Bytes.{AreBytes}
use Rattle.kb_names.specs.Shape.{Base, class_base, Shape}
use Rattle.kb_names.specs.Types.{shape_of, arrays_of}
use Rattle.kb_names.specs.Descriptors.{IsClassName, base_text, type_text, result_text, HasNameOf, IsType, AreTypes, IsResult, IsMethodType}
use Rattle.kb_names.specs.declared.class_names.Spelling.TheVariants.{Raw, Escaped}
use Rattle.kb_names.specs.declared.types.JType.{JType}
use Rattle.kb_names.specs.declared.types.JType.TheVariants as types
use Rattle.kb_names.specs.declared.types.MethodType.{MethodType}
use Rattle.kb_names.specs.declared.types.ExactType.{ExactType}
use Rattle.kb_names.specs.declared.types.ExactType.TheVariants as exact
use Rattle.kb_names.proofs.ShapeLaws.{shape_of-arrays_of}
use Rattle.kb_format.specs.Rules.{IsEntryName}
use Rattle.kb_class.specs.declared.members.MemberKind.{MemberKind}
use Rattle.kb_class.specs.declared.members.MemberKind.TheVariants as kinds
use Rattle.kb_class.specs.Loading.{SpellsExact, SpellsKind}
use Rattle.kb_class.specs.Naming.{Has, HoldsType, exact_of}
use Rattle.kb_class.proofs.Lists.{has_cases, has_none}
use Rattle.kb_heap_words.specs.Words.{IsExact}
use Rattle.kb_test_laws.proofs.ByteLaws.{bytes_front, bytes_behind}

-- ---- types

base_has_text : (base : Base) → HasNameOf (IsClassName Raw) base → AreBytes (base_text Raw base) → HasNameOf (IsClassName Escaped) base
base_has_text (class_base name) is are = (is.0, bytes_front name (codes ";") (bytes_behind (codes "L") (name ++ codes ";") are))
base_has_text _ is are = tt

type_has_text : (type : JType) → IsType Raw type → AreBytes (type_text Raw type) → IsType Escaped type
type_has_text type is are = record {
  base = base_has_text (shape_of type).base is.base (bytes_behind (replicate (shape_of type).dims 91) (base_text Raw (shape_of type).base) are);
  dims = is.dims;
}

types_have_texts : (types : List JType) → AreTypes Raw types → AreBytes (flat_map (type_text Raw) types) → AreTypes Escaped types
types_have_texts [] is are = tt
types_have_texts (type ∷ types) is are = (
  type_has_text type is.0 (bytes_front (type_text Raw type) (flat_map (type_text Raw) types) are),
  types_have_texts types is.1 (bytes_behind (type_text Raw type) (flat_map (type_text Raw) types) are),
)

result_has_text : (result : Option JType) → IsResult Raw result → AreBytes (result_text Raw result) → IsResult Escaped result
result_has_text None is are = tt
result_has_text (Some type) is are = type_has_text type is are

method_has_text : (kind : MethodType) (params result : List ℕ) → params ≡ flat_map (type_text Raw) kind.params → result ≡ result_text Raw kind.result → IsMethodType Raw kind
    → AreBytes (codes "(" ++ (params ++ (codes ")" ++ result))) → IsMethodType Escaped kind
method_has_text kind params result p r is are =
    let opened = bytes_behind (codes "(") (params ++ (codes ")" ++ result)) are in
    let closed = bytes_behind params (codes ")" ++ result) opened in
    record {
      params = types_have_texts kind.params is.params (subst AreBytes p (bytes_front params (codes ")" ++ result) opened));
      result = result_has_text kind.result is.result (subst AreBytes r (bytes_behind (codes ")") result closed));
    }

-- ---- what a descriptor of bytes spells

-- the descriptor of a field or a method has a text
abbrev pub KindHasText : MemberKind → Type 0
KindHasText (kinds.Field type) = IsType Escaped type
KindHasText (kinds.Method kind) = IsMethodType Escaped kind

pub kind_spelled : (kind : MemberKind) (text : List ℕ) → SpellsKind kind text → AreBytes text → KindHasText kind
kind_spelled (kinds.Field type) text spells are = type_has_text type spells.0 (subst AreBytes spells.1 are)
kind_spelled (kinds.Method kind) text spells are =
    method_has_text kind (flat_map (type_text Raw) kind.params) (result_text Raw kind.result) refl refl spells.0 (subst AreBytes spells.1 are)

pub exact_spelled : (type : ExactType) (text : List ℕ) → SpellsExact type text → AreBytes text → IsExact type
exact_spelled (exact.Class name) text spells are = (subst (λ (bytes : List ℕ). bytes ≢ []) (sym spells.1) spells.0.0, subst AreBytes (sym spells.1) are)
exact_spelled (exact.Array component) text spells are = type_has_text (types.Array (shape_of component)) spells.0 (subst AreBytes spells.1 are)

-- ---- what a descriptor holds

param_has_text : (types : List JType) (held : JType) → AreTypes Escaped types → Has types held → IsType Escaped held
param_has_text [] held are has = absurd (has_none held has)
param_has_text (type ∷ types) held are has =
    elim (has_cases type held types has) [ inl same ↦ subst (IsType Escaped) same are.0 | inr later ↦ param_has_text types held are.1 later ]

pub held_has_text : (kind : MemberKind) (held : JType) → KindHasText kind → HoldsType kind held → IsType Escaped held
held_has_text (kinds.Field type) held has holds = subst (IsType Escaped) (sym holds) has
held_has_text (kinds.Method kind) held has (inl param) = param_has_text kind.params held has.params param
held_has_text (kinds.Method kind) held has (inr result) = subst (IsResult Escaped) result has.result

pub exact_of_has_text : (held : JType) (type : ExactType) → IsType Escaped held → exact_of held ≡ Some type → IsExact type
exact_of_has_text (types.Class name) type is e =
    let same : exact.Class name ≡ type = cc in
    subst IsExact same is.base
exact_of_has_text (types.Array component) type is e =
    let same : exact.Array (arrays_of component.dims component.base) ≡ type = cc in
    subst IsExact same (subst (λ (shape : Shape). IsType Escaped (types.Array shape)) (sym (shape_of-arrays_of component.dims component.base)) is)
exact_of_has_text _ type is e = absurd cc

-- a component array of an array that has a text has one
pub part_has_text : (whole component : JType) → IsExact (exact.Array whole) → (shape_of whole).base ≡ (shape_of component).base → (shape_of component).dims ≤ (shape_of whole).dims
    → IsExact (exact.Array component)
part_has_text whole component is base dims = record { base = subst (HasNameOf (IsClassName Escaped)) base is.base; dims = omega (arith, dims, is.dims) }

-- ---- names of Class entries

begins : (dims : ℕ) (rest : List ℕ) → 1 ≤ dims → replicate dims 91 ++ rest ≢ []
begins zero rest some = absurd (omega (arith, some))
begins (suc dims) rest some = λ none. absurd cc

pub entry_name_some : (text : List ℕ) → IsEntryName text → text ≢ []
entry_name_some text (inl may) = may.0
entry_name_some text (inr array) =
    subst (λ (bytes : List ℕ). bytes ≢ []) (sym array.spells.1) (begins (shape_of array.type).dims (base_text Raw (shape_of array.type).base) array.array)
