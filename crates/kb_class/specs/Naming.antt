-- The types that a class names: those of its Class entries, and those that a descriptor of a field, of a method or of a
-- NameAndType entry holds. A type is named as a whole: an array type does not name its component (own rule).
use Rattle.std.specs.Prelude.{◌≡◌, ◌⊎◌, ℕ, List, Option, Some, None, slice_get}
use Rattle.kb_names.specs.declared.types.ExactType.{ExactType}
use Rattle.kb_names.specs.declared.types.ExactType.TheVariants as exact
use Rattle.kb_names.specs.declared.types.JType.{JType}
use Rattle.kb_names.specs.declared.types.JType.TheVariants as types
use Rattle.kb_names.specs.Types.{arrays_of}
use Rattle.kb_class.specs.declared.members.MemberKind.{MemberKind}
use Rattle.kb_class.specs.declared.members.MemberKind.TheVariants as kinds
use Rattle.kb_class.specs.declared.members.FieldInfo.{FieldInfo}
use Rattle.kb_class.specs.declared.members.MethodInfo.{MethodInfo}
use Rattle.kb_class.specs.Class.{Member, TypeEntry, MemberEntry, Class}

-- x stands in the list
abbrev pub Has : {A : Type 0} → List A → A → Type 0
Has xs x = (place : ℕ) × (slice_get xs place ≡ Some x)

-- the type of an object, where a value of the type can be one
abbrev pub exact_of : JType → Option ExactType
exact_of (types.Class name) = Some (exact.Class name)
exact_of (types.Array component) = Some (exact.Array (arrays_of component.dims component.base))
exact_of _ = None

-- the descriptor of a field or method holds the type
abbrev pub HoldsType : MemberKind → JType → Type 0
HoldsType (kinds.Field type) held = held ≡ type
HoldsType (kinds.Method kind) held = Has kind.params held ⊎ (kind.result ≡ Some held)

-- a descriptor of the class: that of a field, of a method or of a NameAndType entry
pub data HasKind (class : Class) (kind : MemberKind) : Type 0 where
  OfField : (field : FieldInfo) → Has class.fields field → kind ≡ kinds.Field field.kind → HasKind class kind
  OfMethod : (method : MethodInfo) → Has class.methods method → kind ≡ kinds.Method method.kind → HasKind class kind
  OfEntry : (member : Member) → Has class.entries (MemberEntry member) → kind ≡ member.kind → HasKind class kind

-- the class names the type
abbrev pub Names : Class → ExactType → Type 0
Names class type =
    Has class.entries (TypeEntry type)
    ⊎ ((kind : MemberKind) × (held : JType) × HasKind class kind × HoldsType kind held × (exact_of held ≡ Some type))
