-- The exact types that an object of an input may have, and the string literals (own rules over JVMS 8 sections 4.3 and 5.1).
use Rattle.std.specs.Prelude.{◌≡◌, ◌⊎◌, ◌↔◌, ℕ, ◌≤◌, Bool, true, ◌==◌, ◌&&◌, bit_and, List, [], ◌∷◌, ◌++◌, map, filter, is_some, IsSome, None}
use Rattle.kb_names.specs.Shape.{Base, bool_base, int_base, class_base}
use Rattle.kb_names.specs.Types.{shape_of}
use Rattle.kb_names.specs.declared.types.ExactType.{ExactType}
use Rattle.kb_names.specs.declared.types.ExactType.TheVariants as exact
use Rattle.kb_names.specs.declared.types.JType.{JType}
use Rattle.kb_names.specs.declared.types.JType.TheVariants as types
use Rattle.kb_names.specs.declared.class_names.Spelling.TheVariants.{Raw}
use Rattle.kb_names.specs.Descriptors.{shape_text}
use Rattle.kb_order.specs.Texts.{IsRising}
use Rattle.kb_class.specs.Class.{Class, TextEntry}
use Rattle.kb_class.specs.Naming.{Has, Names}
use Rattle.kb_classes.specs.World.{number_in}
use Rattle.kb_classes.specs.Subtypes.{shape_of_exact}

-- whether the class has a file
abbrev pub is_given : Class → Bool
is_given class = is_some class.file

-- whether it is neither an interface nor abstract: ACC_INTERFACE and ACC_ABSTRACT (JVMS 8 table 4.1-A)
abbrev pub is_concrete : Class → Bool
is_concrete class = bit_and class.access 0x0600 == 0

-- some given class names the type
abbrev pub IsNamed : List Class → ExactType → Type 0
IsNamed classes type = (class : Class) × Has classes class × IsSome class.file × Names class type

abbrev pub exact_class : Class → ExactType
exact_class class = exact.Class class.name

-- ---- classes

abbrev pub given_types : List Class → List ExactType
given_types classes = map exact_class (filter (λ class. is_given class && is_concrete class) classes)

-- of these classes those that are there without a file, are no interfaces, and are named
abbrev pub AreNamedPlatform : List Class → List Class → List ExactType → Type 0
AreNamedPlatform classes [] types = types ≡ []
AreNamedPlatform classes (class ∷ others) types =
    (IsIn class × (rest : List ExactType) × (types ≡ exact_class class ∷ rest) × AreNamedPlatform classes others rest)
    ⊎ ((IsIn class → ⊥) × AreNamedPlatform classes others types)
  where
    IsIn : Class → Type 0
    IsIn class = (class.file ≡ None) × (is_concrete class ≡ true) × IsNamed classes (exact_class class)

-- ---- arrays

-- the element of an array may be a boolean, an int or a class of the world
abbrev pub IsElement : List Class → Base → Type 0
IsElement classes bool_base = Unit {0}
IsElement classes int_base = Unit {0}
IsElement classes (class_base name) = IsSome (number_in classes name)
IsElement classes _ = ⊥

-- an array type that is named, or a component array of one
pub record IsNamedArray (classes : List Class) (component : JType) : Type 0 where
  pub whole : JType
  pub named : IsNamed classes (exact.Array whole)
  pub base : (shape_of whole).base ≡ (shape_of component).base
  pub part : (shape_of component).dims ≤ (shape_of whole).dims
  pub element : IsElement classes (shape_of component).base

-- the descriptor of an array of that component
abbrev pub array_text : JType → List ℕ
array_text component = shape_text Raw (shape_of_exact (exact.Array component))

-- those array types, in order of the bytes of their descriptors
pub record AreArrays (classes : List Class) (components : List JType) : Type 0 where
  pub rises : IsRising (map array_text components)
  pub same : (component : JType) → Has components component ↔ IsNamedArray classes component

-- ---- all of them

-- The universe: the given classes that are neither abstract nor interfaces, in the order given; the platform classes that are
-- named, in the order of their table, without interfaces; the array types that are named, with their component arrays.
pub record IsUniverse (classes : List Class) (universe : List ExactType) : Type 0 where
  pub platform : List ExactType
  pub arrays : List JType
  pub parts : universe ≡ given_types classes ++ platform ++ map exact.Array arrays
  pub are_platform : AreNamedPlatform classes classes platform
  pub are_arrays : AreArrays classes arrays

-- ---- literals

-- a given class has a string constant of the text
abbrev pub IsLiteral : List Class → List ℕ → Type 0
IsLiteral classes text = (class : Class) × Has classes class × Has class.entries (TextEntry text)

-- the texts of the string constants of all classes, in order of bytes, each once
pub record AreLiterals (classes : List Class) (literals : List (List ℕ)) : Type 0 where
  pub rises : IsRising literals
  pub same : (text : List ℕ) → Has literals text ↔ IsLiteral classes text
