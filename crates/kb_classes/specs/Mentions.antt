-- Texts that are gathered: those of string constants, and the descriptors of the types that classes name.
use Rattle.std.specs.Prelude.{◌≡◌, ◌⊎◌, ◌↔◌, ℕ, ◌==◌, ◌&&◌, not, is_some, IsSome, if◌then◌else◌, List, [], ◌∷◌, map, filter, Option, Some}
use Rattle.kb_names.specs.Shape.{Base, bool_base, int_base, class_base}
use Rattle.kb_names.specs.Types.{shape_of}
use Rattle.kb_names.specs.Descriptors.{shape_text}
use Rattle.kb_names.specs.declared.class_names.Spelling.TheVariants.{Raw}
use Rattle.kb_names.specs.declared.types.JType.{JType}
use Rattle.kb_names.specs.declared.types.ExactType.{ExactType}
use Rattle.kb_names.specs.declared.types.ExactType.TheVariants as exact
use Rattle.kb_names.specs.declared.types.MethodType.{MethodType}
use Rattle.kb_class.specs.declared.members.MemberKind.{MemberKind}
use Rattle.kb_class.specs.Class.{Class, TextEntry}
use Rattle.kb_class.specs.Naming.{Has, HoldsType, Names, exact_of}
use Rattle.kb_classes.specs.World.{literal_in}
use Rattle.kb_classes.specs.Subtypes.{shape_of_exact}
use Rattle.kb_classes.specs.Universe.{is_given, is_concrete, exact_class, IsElement}

-- the texts after are those before, and those that are such
abbrev pub AddsTexts : List (List ℕ) → List (List ℕ) → (List ℕ → Type 0) → Type 0
AddsTexts before after Is = (text : List ℕ) → Has after text ↔ (Has before text ⊎ Is text)

-- it is such a text of an item of the list
abbrev pub AnyOf : {A : Type 0} → (A → List ℕ → Type 0) → List A → List ℕ → Type 0
AnyOf Is [] text = ⊥
AnyOf Is (x ∷ xs) text = Is x text ⊎ AnyOf Is xs text

-- a string constant of the class has the text
abbrev pub HasLiteral : Class → List ℕ → Type 0
HasLiteral class text = Has class.entries (TextEntry text)

-- the text that is found, if there is one
abbrev pub IsFoundText : Option (List ℕ) → List ℕ → Type 0
IsFoundText found text = found ≡ Some text

-- ---- descriptors of the types that are named

-- the descriptor of what an object is
abbrev pub exact_text : ExactType → List ℕ
exact_text type = shape_text Raw (shape_of_exact type)

-- the descriptor of the type, if there is one
abbrev pub IsTextOf : Option ExactType → List ℕ → Type 0
IsTextOf found text = (type : ExactType) × (found ≡ Some type) × (text ≡ exact_text type)

-- that of what an object of a type of a field, parameter or result can be
abbrev pub IsTextHeld : JType → List ℕ → Type 0
IsTextHeld held text = IsTextOf (exact_of held) text

-- that of one that the method's descriptor holds
abbrev pub IsTextOfMethod : MethodType → List ℕ → Type 0
IsTextOfMethod kind text = AnyOf IsTextHeld kind.params text ⊎ ((held : JType) × (kind.result ≡ Some held) × IsTextHeld held text)

-- that of one that the descriptor holds, if there is one
abbrev pub IsTextOfKind : Option MemberKind → List ℕ → Type 0
IsTextOfKind found text = (kind : MemberKind) × (held : JType) × (found ≡ Some kind) × HoldsType kind held × IsTextHeld held text

-- that of one that the class names
abbrev pub IsTextNamed : Class → List ℕ → Type 0
IsTextNamed class text = (type : ExactType) × Names class type × (text ≡ exact_text type)

-- that of one that the class names, if it is given
abbrev pub IsTextGiven : Class → List ℕ → Type 0
IsTextGiven class text = IsSome class.file × IsTextNamed class text

-- ---- parts of the universe

-- those of the classes without a file whose descriptor is in the set
abbrev pub platform_types : List (List ℕ) → List Class → List ExactType
platform_types named classes = map exact_class (filter (λ class. not (is_given class) && is_concrete class && is_some (literal_in named (exact_text (exact_class class)))) classes)

-- a text that begins with [, and what is left of it behind each [ that it begins with, as far as it begins with one
abbrev pub array_parts : List ℕ → List (List ℕ)
array_parts [] = []
array_parts (byte ∷ bytes) = if byte == 91 then (byte ∷ bytes) ∷ array_parts bytes else []

-- what stands behind the [ that a text begins with
abbrev pub element_text : List ℕ → List ℕ
element_text [] = []
element_text (byte ∷ bytes) = if byte == 91 then element_text bytes else byte ∷ bytes

-- the text is the descriptor of an array whose element may be one
abbrev pub IsWantedArray : List Class → List ℕ → Type 0
IsWantedArray classes text = (component : JType) × IsElement classes (shape_of component).base × (text ≡ exact_text (exact.Array component))

-- A text that begins with [, and what is left of it behind each [ that it begins with, as far as it begins with one and up to
-- the first that is in the set, without that one.
abbrev pub own_parts : List (List ℕ) → List ℕ → List (List ℕ)
own_parts named [] = []
own_parts named (byte ∷ bytes) =
    if byte == 91 then (byte ∷ bytes) ∷ (if is_some (literal_in named bytes) then [] else own_parts named bytes) else []

-- the text is the descriptor of such an array, or of a component array of it
abbrev pub IsPartOf : List Class → List ℕ → List ℕ → Type 0
IsPartOf classes whole text = IsWantedArray classes whole × Has (array_parts whole) text

-- the text is the descriptor of such an array, or of a component array of it before the first that is in the set
abbrev pub IsOwnPartOf : List Class → List (List ℕ) → List ℕ → List ℕ → Type 0
IsOwnPartOf classes named whole text = IsWantedArray classes whole × Has (own_parts named whole) text

-- a boolean, an int or a class
abbrev pub IsSimple : Base → Type 0
IsSimple bool_base = Unit {0}
IsSimple int_base = Unit {0}
IsSimple (class_base name) = Unit {0}
IsSimple _ = ⊥
