-- What a text spells is one type or one kind, told by its first byte.
use Rattle.std.proofs.Common.{◌≡◌, ℕ, zero, suc, ◌≤◌, inl, inr, List, [], ◌∷◌, ◌++◌, IsTrue, replicate, codes, refl, sym, ap, subst, ◌∙◌, arith}
use Rattle.std.specs.List.{list_all}
use Rattle.kb_names.specs.Shape.{Base, bool_base, byte_base, char_base, short_base, int_base, long_base, float_base, double_base, class_base, Shape}
use Rattle.kb_names.specs.Types.{shape_of, arrays_of}
use Rattle.kb_names.specs.Descriptors.{may_stand, MayStand, base_text, type_text, IsType, SpellsType, SpellsMethod, IsTypeText, IsMethodText}
use Rattle.kb_names.specs.declared.types.JType.{JType}
use Rattle.kb_names.specs.declared.types.JType.TheVariants as types
use Rattle.kb_names.specs.declared.types.MethodType.{MethodType}
use Rattle.kb_names.specs.declared.types.ExactType.{ExactType}
use Rattle.kb_names.specs.declared.types.ExactType.TheVariants as exact
use Rattle.kb_names.specs.declared.class_names.Spelling.TheVariants.{Raw}
use Rattle.kb_names.proofs.Reading.{reads_only}
use Rattle.kb_names.proofs.TypeReader.{type_reader}
use Rattle.kb_names.proofs.MethodReader.{method_reader}
use Rattle.kb_names.proofs.ShapeLaws.{shape_of-arrays_of, arrays_of-shape_of}
use Rattle.kb_format.specs.Rules.{IsEntryName, IsDescriptor}
use Rattle.kb_class.specs.declared.members.MemberKind.{MemberKind}
use Rattle.kb_class.specs.declared.members.MemberKind.TheVariants as kinds
use Rattle.kb_class.specs.Loading.{SpellsExact, SpellsKind}
use Rattle.kb_class.specs.Tables.{IsSpelling}

-- ---- one type

pub one_type : (a b : JType) (text : List ℕ) → SpellsType Raw a text → SpellsType Raw b text → a ≡ b
one_type a b text s t =
    let read = (type_reader Raw).only a text s in
    reads_only _ _ _ _ _ _ (type_reader Raw) read.0 a b text read.1 read.2 t

pub one_method : (a b : MethodType) (text : List ℕ) → SpellsMethod Raw a text → SpellsMethod Raw b text → a ≡ b
one_method a b text s t =
    let read = (method_reader Raw).only a text s in
    reads_only _ _ _ _ _ _ (method_reader Raw) read.0 a b text read.1 read.2 t

-- ---- first bytes

apart : (byte : ℕ) (bytes rest : List ℕ) → (byte ≡ 40 → ⊥) → byte ∷ bytes ≡ 40 ∷ rest → ⊥
apart byte bytes rest other e =
    let same : byte ≡ 40 = cc in
    other same

-- a type's descriptor does not begin with a parenthesis
no_parenthesis : (dims : ℕ) (base : Base) (rest : List ℕ) → replicate dims 91 ++ base_text Raw base ≡ 40 ∷ rest → ⊥
no_parenthesis (suc dims) base rest e = apart 91 (replicate dims 91 ++ base_text Raw base) rest (λ h. omega (arith, h)) e
no_parenthesis zero bool_base rest e = apart 90 [] rest (λ h. omega (arith, h)) e
no_parenthesis zero byte_base rest e = apart 66 [] rest (λ h. omega (arith, h)) e
no_parenthesis zero char_base rest e = apart 67 [] rest (λ h. omega (arith, h)) e
no_parenthesis zero short_base rest e = apart 83 [] rest (λ h. omega (arith, h)) e
no_parenthesis zero int_base rest e = apart 73 [] rest (λ h. omega (arith, h)) e
no_parenthesis zero long_base rest e = apart 74 [] rest (λ h. omega (arith, h)) e
no_parenthesis zero float_base rest e = apart 70 [] rest (λ h. omega (arith, h)) e
no_parenthesis zero double_base rest e = apart 68 [] rest (λ h. omega (arith, h)) e
no_parenthesis zero (class_base name) rest e = apart 76 (name ++ codes ";") rest (λ h. omega (arith, h)) e

pub type_begins : (type : JType) (text rest : List ℕ) → SpellsType Raw type text → text ≡ 40 ∷ rest → ⊥
type_begins type text rest s e = no_parenthesis (shape_of type).dims (shape_of type).base rest (sym s.1 ∙ e)

-- a method's does
pub method_begins : (kind : MethodType) (text : List ℕ) → SpellsMethod Raw kind text → (rest : List ℕ) × (text ≡ 40 ∷ rest)
method_begins kind text s = (_, s.1)

pub types_apart : (type : JType) (kind : MethodType) (text : List ℕ) → SpellsType Raw type text → SpellsMethod Raw kind text → ⊥
types_apart type kind text s t =
    let begins = method_begins kind text t in
    type_begins type text begins.0 s begins.1

-- ---- one kind

pub one_kind : (a b : MemberKind) (text : List ℕ) → SpellsKind a text → SpellsKind b text → a ≡ b
one_kind (kinds.Field a) (kinds.Field b) text s t = ap (λ (x : JType). kinds.Field x) (one_type a b text s t)
one_kind (kinds.Field a) (kinds.Method b) text s t = absurd (types_apart a b text s t)
one_kind (kinds.Method a) (kinds.Field b) text s t = absurd (types_apart b a text t s)
one_kind (kinds.Method a) (kinds.Method b) text s t = ap (λ (x : MethodType). kinds.Method x) (one_method a b text s t)

-- ---- one name of a type

-- a class's name does not begin with a bracket, as an array's descriptor does
brackets_apart : (name rest : List ℕ) → MayStand Raw name → name ≡ 91 ∷ rest → ⊥
brackets_apart name rest may e =
    let all : IsTrue (list_all may_stand (91 ∷ rest)) = subst (λ (bytes : List ℕ). IsTrue (list_all may_stand bytes)) e may.1 in
    absurd cc

array_begins : (component : JType) (text : List ℕ) → SpellsType Raw (types.Array (shape_of component)) text → (rest : List ℕ) × (text ≡ 91 ∷ rest)
array_begins component text s = (_, s.1)

exact_apart : (name : List ℕ) (component : JType) (text : List ℕ) → SpellsExact (exact.Class name) text → SpellsExact (exact.Array component) text → ⊥
exact_apart name component text s t =
    let begins = array_begins component text t in
    brackets_apart text begins.0 s.0 begins.1

array_same : (a b : Shape) → types.Array a ≡ types.Array b → a ≡ b
array_same a b e = cc

component_same : (a b : JType) → types.Array (shape_of a) ≡ types.Array (shape_of b) → a ≡ b
component_same a b e =
    let shapes : shape_of a ≡ shape_of b = array_same (shape_of a) (shape_of b) e in
    sym (arrays_of-shape_of a) ∙ ap (λ (s : Shape). arrays_of s.dims s.base) shapes ∙ arrays_of-shape_of b

pub one_exact : (a b : ExactType) (text : List ℕ) → SpellsExact a text → SpellsExact b text → a ≡ b
one_exact (exact.Class a) (exact.Class b) text s t = ap (λ (name : List ℕ). exact.Class name) (s.1 ∙ sym t.1)
one_exact (exact.Class a) (exact.Array b) text s t = absurd (exact_apart a b text s t)
one_exact (exact.Array a) (exact.Class b) text s t = absurd (exact_apart b a text t s)
one_exact (exact.Array a) (exact.Array b) text s t =
    ap (λ (component : JType). exact.Array component) (component_same a b (one_type (types.Array (shape_of a)) (types.Array (shape_of b)) text s t))

-- ---- what is read of a text, by its first byte

array_type : (component : JType) → IsType Raw (types.Array (shape_of component)) → IsType Raw component
array_type component is = record { base = is.base; dims = omega (arith, is.dims) }

tail_same : (a b : List ℕ) → 91 ∷ a ≡ 91 ∷ b → a ≡ b
tail_same a b e = cc

-- behind the bracket stands the component's descriptor
component_spelled : (component : JType) (rest : List ℕ) → SpellsType Raw (types.Array (shape_of component)) (91 ∷ rest) → SpellsType Raw component rest
component_spelled component rest s = (array_type component s.0, tail_same rest (type_text Raw component) s.1)

pub names_component : (rest : List ℕ) → IsSpelling SpellsExact (91 ∷ rest) → IsTypeText Raw rest
names_component rest (exact.Class name, s) = absurd (brackets_apart (91 ∷ rest) rest s.0 refl)
names_component rest (exact.Array component, s) = (component, component_spelled component rest s)

pub component_names : (rest : List ℕ) (type : JType) → IsSpelling SpellsExact (91 ∷ rest) → SpellsType Raw type rest → SpellsExact (exact.Array type) (91 ∷ rest)
component_names rest type (exact.Class name, s) t = absurd (brackets_apart (91 ∷ rest) rest s.0 refl)
component_names rest type (exact.Array component, s) t =
    let same : component ≡ type = one_type component type rest (component_spelled component rest s) t in
    subst (λ (c : JType). SpellsExact (exact.Array c) (91 ∷ rest)) same s

pub names_class : (text : List ℕ) → IsSpelling SpellsExact text → ((rest : List ℕ) → text ≡ 91 ∷ rest → ⊥) → SpellsExact (exact.Class text) text
names_class text (exact.Class name, s) none = (s.0, refl)
names_class text (exact.Array component, s) none =
    let begins = array_begins component text s in
    absurd (none begins.0 begins.1)

pub spells_method : (rest : List ℕ) → IsSpelling SpellsKind (40 ∷ rest) → IsMethodText Raw (40 ∷ rest)
spells_method rest (kinds.Field type, s) = absurd (type_begins type (40 ∷ rest) rest s refl)
spells_method rest (kinds.Method kind, s) = (kind, s)

pub spells_type : (text : List ℕ) → IsSpelling SpellsKind text → ((rest : List ℕ) → text ≡ 40 ∷ rest → ⊥) → IsTypeText Raw text
spells_type text (kinds.Field type, s) none = (type, s)
spells_type text (kinds.Method kind, s) none =
    let begins = method_begins kind text s in
    absurd (none begins.0 begins.1)

-- ---- what the rules of names and descriptors leave

array_named : (text : List ℕ) (type : JType) → SpellsType Raw type text → 1 ≤ (shape_of type).dims → IsSpelling SpellsExact text
array_named text types.Bool s some = absurd (omega (arith, some))
array_named text types.Byte s some = absurd (omega (arith, some))
array_named text types.Char s some = absurd (omega (arith, some))
array_named text types.Short s some = absurd (omega (arith, some))
array_named text types.Int s some = absurd (omega (arith, some))
array_named text types.Long s some = absurd (omega (arith, some))
array_named text types.Float s some = absurd (omega (arith, some))
array_named text types.Double s some = absurd (omega (arith, some))
array_named text (types.Class name) s some = absurd (omega (arith, some))
array_named text (types.Array component) s some = (
  exact.Array (arrays_of component.dims component.base),
  subst (λ (shape : Shape). SpellsType Raw (types.Array shape) text) (sym (shape_of-arrays_of component.dims component.base)) s,
)

pub entry_named : (text : List ℕ) → IsEntryName text → IsSpelling SpellsExact text
entry_named text (inl may) = (exact.Class text, (may, refl))
entry_named text (inr array) = array_named text array.type array.spells array.array

pub kind_described : (text : List ℕ) → IsDescriptor text → IsSpelling SpellsKind text
kind_described text (inl type) = (kinds.Field type.0, type.1)
kind_described text (inr kind) = (kinds.Method kind.0, kind.1)

-- the kind that a field's or a method's descriptor spells
pub kind_of_type : (kind : MemberKind) (text : List ℕ) → SpellsKind kind text → IsTypeText Raw text → (type : JType) × (kind ≡ kinds.Field type) × SpellsType Raw type text
kind_of_type kind text s t = (t.0, one_kind kind (kinds.Field t.0) text s t.1, t.1)

pub kind_of_method : (kind : MemberKind) (text : List ℕ) → SpellsKind kind text → IsMethodText Raw text → (type : MethodType) × (kind ≡ kinds.Method type) × SpellsMethod Raw type text
kind_of_method kind text s t = (t.0, one_kind kind (kinds.Method t.0) text s t.1, t.1)
