-- Descriptors (JVMS 8 sections 4.2.1, 4.3.2 and 4.3.3).
use Rattle.std.specs.Prelude.{◌≡◌, ◌≢◌, ℕ, ◌≤◌, Option, Some, None, List, [], ◌∷◌, ◌++◌, ◌==◌, ◌||◌, Bool, not, IsTrue, codes, replicate}
use Rattle.std.specs.List.{list_all, flat_map}
use Rattle.kb_names.specs.Shape.{Base, bool_base, byte_base, char_base, short_base, int_base, long_base, float_base, double_base, class_base, Shape}
use Rattle.kb_names.specs.Types.{shape_of}
use Rattle.kb_names.specs.declared.types.JType.{JType}
use Rattle.kb_names.specs.declared.types.MethodType.{MethodType}
use Rattle.kb_names.specs.declared.class_names.Spelling.{Spelling}
use Rattle.kb_names.specs.declared.class_names.Spelling.TheVariants.{Raw, Escaped}
use Rattle.kb_names.specs.Bytes.{AreBytes}
use Rattle.kb_names.specs.Escapes.{name_text}

-- the byte may stand in a class's name in a descriptor: it is none of . ; [
abbrev pub may_stand : ℕ → Bool
may_stand byte = not (byte == 46 || byte == 59 || byte == 91)

-- a class's name as it stands in a descriptor
abbrev pub class_text : Spelling → List ℕ → List ℕ
class_text Raw name = name
class_text Escaped name = name_text name

-- a class's name that may stand in a descriptor: it is not empty, and where it stands as it is, each byte may
abbrev pub MayStand : Spelling → List ℕ → Type 0
MayStand Raw name = (name ≢ []) × IsTrue (list_all may_stand name)
MayStand Escaped name = name ≢ []

-- a class's name that a descriptor holds: in texts it is of bytes
abbrev pub IsClassName : Spelling → List ℕ → Type 0
IsClassName Raw name = MayStand Raw name
IsClassName Escaped name = MayStand Escaped name × AreBytes name

abbrev pub base_text : Spelling → Base → List ℕ
base_text spelling bool_base = codes "Z"
base_text spelling byte_base = codes "B"
base_text spelling char_base = codes "C"
base_text spelling short_base = codes "S"
base_text spelling int_base = codes "I"
base_text spelling long_base = codes "J"
base_text spelling float_base = codes "F"
base_text spelling double_base = codes "D"
base_text spelling (class_base name) = codes "L" ++ (class_text spelling name ++ codes ";")

abbrev pub shape_text : Spelling → Shape → List ℕ
shape_text spelling shape = replicate shape.dims 91 ++ base_text spelling shape.base

-- the descriptor of a type: a [ for each dimension, and the base
abbrev pub type_text : Spelling → JType → List ℕ
type_text spelling type = shape_text spelling (shape_of type)

abbrev pub result_text : Spelling → Option JType → List ℕ
result_text spelling None = codes "V"
result_text spelling (Some type) = type_text spelling type

-- the descriptor of a method: its parameters between parentheses, and its result or V
abbrev pub method_text : Spelling → MethodType → List ℕ
method_text spelling kind = codes "(" ++ (flat_map (type_text spelling) kind.params ++ (codes ")" ++ result_text spelling kind.result))

-- the class's name, if it is a class
abbrev pub HasNameOf : (List ℕ → Type 0) → Base → Type 0
HasNameOf IsName (class_base name) = IsName name
HasNameOf IsName base = Unit {0}

-- a type with at most 255 dimensions, whose class has such a name
pub record IsTypeOf (IsName : List ℕ → Type 0) (type : JType) : Type 0 where
  pub base : HasNameOf IsName (shape_of type).base
  pub dims : (shape_of type).dims ≤ 255

abbrev pub AreTypesOf : (List ℕ → Type 0) → List JType → Type 0
AreTypesOf IsName [] = Unit {0}
AreTypesOf IsName (type ∷ types) = IsTypeOf IsName type × AreTypesOf IsName types

abbrev pub IsResultOf : (List ℕ → Type 0) → Option JType → Type 0
IsResultOf IsName None = Unit {0}
IsResultOf IsName (Some type) = IsTypeOf IsName type

pub record IsMethodOf (IsName : List ℕ → Type 0) (kind : MethodType) : Type 0 where
  pub params : AreTypesOf IsName kind.params
  pub result : IsResultOf IsName kind.result

-- what has a descriptor
abbrev pub HasText : Spelling → Base → Type 0
HasText spelling base = HasNameOf (IsClassName spelling) base

abbrev pub IsType : Spelling → JType → Type 0
IsType spelling type = IsTypeOf (IsClassName spelling) type

abbrev pub AreTypes : Spelling → List JType → Type 0
AreTypes spelling types = AreTypesOf (IsClassName spelling) types

abbrev pub IsResult : Spelling → Option JType → Type 0
IsResult spelling result = IsResultOf (IsClassName spelling) result

abbrev pub IsMethodType : Spelling → MethodType → Type 0
IsMethodType spelling kind = IsMethodOf (IsClassName spelling) kind

-- what can be spelled, as far as it is not known that its names are of bytes
abbrev pub CanSpellType : Spelling → JType → Type 0
CanSpellType spelling type = IsTypeOf (MayStand spelling) type

abbrev pub CanSpellTypes : Spelling → List JType → Type 0
CanSpellTypes spelling types = AreTypesOf (MayStand spelling) types

abbrev pub CanSpellMethod : Spelling → MethodType → Type 0
CanSpellMethod spelling kind = IsMethodOf (MayStand spelling) kind

-- the text is the descriptor of that type
abbrev pub SpellsType : Spelling → JType → List ℕ → Type 0
SpellsType spelling type text = IsType spelling type × (text ≡ type_text spelling type)

-- the text is the descriptor of a method of that type
abbrev pub SpellsMethod : Spelling → MethodType → List ℕ → Type 0
SpellsMethod spelling kind text = IsMethodType spelling kind × (text ≡ method_text spelling kind)

abbrev pub IsTypeText : Spelling → List ℕ → Type 0
IsTypeText spelling text = (type : JType) × SpellsType spelling type text

abbrev pub IsMethodText : Spelling → List ℕ → Type 0
IsMethodText spelling text = (kind : MethodType) × SpellsMethod spelling kind text
