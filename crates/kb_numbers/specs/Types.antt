-- The types of methods by their parts: the result, and before it the parameters from the last one to the first (JVMS 8 section
-- 4.3.3).
use Rattle.std.specs.Prelude.{◌≡◌, ℕ, suc, ◌<◌, ◌^◌, Bool, ◌==◌, ◌&&◌, if◌then◌else◌, List, [], ◌∷◌, ◌++◌, fold, Option, Some, None, slice_get}
use Rattle.std.specs.List.{list_any}
use Rattle.kb_names.specs.Shape.{Base, bool_base, byte_base, char_base, short_base, int_base, long_base, float_base, double_base, class_base}
use Rattle.kb_names.specs.Types.{shape_of}
use Rattle.kb_names.specs.declared.types.JType.{JType}
use Rattle.kb_names.specs.declared.types.MethodType.{MethodType}
use Rattle.kb_texts.specs.Texts.{with_text}
use Rattle.kb_numbers.specs.declared.parts.Part.{Part}
use Rattle.kb_numbers.specs.declared.parts.Symbol.{Symbol}

-- the text of that number is such
abbrev pub HasTextAt : List (List ℕ) → ℕ → (List ℕ → Type 0) → Type 0
HasTextAt texts number Is = (text : List ℕ) × (slice_get texts number ≡ Some text) × Is text

-- ---- the names of the classes in a type

-- the texts with the name of the class that elements are, which goes to the end unless it is there
abbrev pub with_base : List (List ℕ) → Base → List (List ℕ)
with_base texts (class_base name) = with_text texts name
with_base texts _ = texts

abbrev pub with_name : List (List ℕ) → JType → List (List ℕ)
with_name texts type = with_base texts (shape_of type).base

-- with those of all parameters
abbrev pub with_param_names : List (List ℕ) → List JType → List (List ℕ)
with_param_names texts params = fold with_name texts params

-- with that of a result
abbrev pub with_result_name : List (List ℕ) → Option JType → List (List ℕ)
with_result_name texts None = texts
with_result_name texts (Some type) = with_name texts type

-- with those of a type, its parameters' before its result's
abbrev pub with_names : List (List ℕ) → MethodType → List (List ℕ)
with_names texts kind = with_result_name (with_param_names texts kind.params) kind.result

-- ---- types by numbers

-- what elements are
abbrev pub code_of : Base → ℕ
code_of bool_base = 0
code_of byte_base = 1
code_of char_base = 2
code_of short_base = 3
code_of int_base = 4
code_of long_base = 5
code_of float_base = 6
code_of double_base = 7
code_of (class_base name) = 8

-- the number of the name of their class; 0 where they are of none
abbrev pub IsNameOf : List (List ℕ) → Base → ℕ → Type 0
IsNameOf texts (class_base name) number = slice_get texts number ≡ Some name
IsNameOf texts _ number = number ≡ 0

-- The symbol is that of the type.
pub record IsTypeSymbol (texts : List (List ℕ)) (type : JType) (symbol : Symbol) : Type 0 where
  pub dims_are : symbol.dims ≡ (shape_of type).dims
  pub base_is : symbol.base ≡ code_of (shape_of type).base
  pub name_is : IsNameOf texts (shape_of type).base symbol.name
  pub few : symbol.dims < 2 ^ 32
  pub fits : symbol.name < 2 ^ 32

-- that of a result that a method does not have
abbrev pub void : Symbol
void = record { dims = 0; base = 9; name = 0 }

-- that of a result
abbrev pub IsSymbol : List (List ℕ) → Option JType → Symbol → Type 0
IsSymbol texts None symbol = symbol ≡ void
IsSymbol texts (Some type) symbol = IsTypeSymbol texts type symbol

-- whether they are one
abbrev pub is_symbol : Symbol → Symbol → Bool
is_symbol one other = (one.dims == other.dims) && ((one.base == other.base) && (one.name == other.name))

abbrev pub is_part : Part → Part → Bool
is_part one other = (one.behind == other.behind) && is_symbol one.symbol other.symbol

-- the parts with one that goes to the end unless it is there
abbrev pub with_part : List Part → Part → List Part
with_part parts part = if list_any (is_part part) parts then parts else parts ++ part ∷ []

-- ---- paths

-- the part has the number
pub record HasPart (parts : List Part) (part : Part) (number : ℕ) : Type 0 where
  pub place : ℕ
  pub number_is : number ≡ suc place
  pub fits : number < 2 ^ 32
  pub there : slice_get parts place ≡ Some part

-- the number is that of the part of the type that stands before the one of the other number
pub record IsPartOf (texts : List (List ℕ)) (parts : List Part) (behind : ℕ) (type : Option JType) (number : ℕ) : Type 0 where
  pub symbol : Symbol
  pub of_type : IsSymbol texts type symbol
  pub there : HasPart parts (record { behind = behind; symbol = symbol }) number

-- the number is that of the first part of such a type
abbrev pub IsPath : List (List ℕ) → List Part → Option JType → List JType → ℕ → Type 0
IsPath texts parts result [] number = IsPartOf texts parts 0 result number
IsPath texts parts result (param ∷ params) number = (behind : ℕ) × IsPath texts parts result params behind × IsPartOf texts parts behind (Some param) number

abbrev pub IsTypePath : List (List ℕ) → List Part → MethodType → ℕ → Type 0
IsTypePath texts parts kind number = IsPath texts parts kind.result kind.params number
