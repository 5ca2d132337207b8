-- Members by their names and types (JVMS 8 sections 4.3, 4.5 and 4.6).
use Rattle.std.specs.Prelude.{ℕ, Bool, true, false, ◌==◌, ◌&&◌, List, [], ◌∷◌, Option, Some, None}
use Rattle.std.specs.Str.{bytes_eq}
use Rattle.kb_names.specs.Shape.{Base, bool_base, byte_base, char_base, short_base, int_base, long_base, float_base, double_base, class_base}
use Rattle.kb_names.specs.Types.{shape_of}
use Rattle.kb_names.specs.declared.types.JType.{JType}
use Rattle.kb_names.specs.declared.types.MethodType.{MethodType}
use Rattle.kb_class.specs.declared.members.FieldInfo.{FieldInfo}
use Rattle.kb_class.specs.declared.members.MethodInfo.{MethodInfo}
use Rattle.kb_class.specs.Class.{Class}
pub use Rattle.kb_numbers.specs.Places.{place_where}
use Rattle.kb_classes.specs.World.{methods_in}

-- ---- whether types are the same

-- a number for each base, and the name of a class
abbrev pub base_key : Base → List ℕ
base_key bool_base = 0 ∷ []
base_key byte_base = 1 ∷ []
base_key char_base = 2 ∷ []
base_key short_base = 3 ∷ []
base_key int_base = 4 ∷ []
base_key long_base = 5 ∷ []
base_key float_base = 6 ∷ []
base_key double_base = 7 ∷ []
base_key (class_base name) = 8 ∷ name

-- the dimensions of a type, and the key of its base: no two types have one key
abbrev pub type_key : JType → List ℕ
type_key type = (shape_of type).dims ∷ base_key (shape_of type).base

abbrev pub same_type : JType → JType → Bool
same_type one other = bytes_eq (type_key one) (type_key other)

abbrev pub same_types : List JType → List JType → Bool
same_types [] [] = true
same_types (one ∷ ones) (other ∷ others) = same_type one other && same_types ones others
same_types _ _ = false

abbrev pub same_result : Option JType → Option JType → Bool
same_result None None = true
same_result (Some one) (Some other) = same_type one other
same_result _ _ = false

abbrev pub same_kind : MethodType → MethodType → Bool
same_kind one other = same_types one.params other.params && same_result one.result other.result

-- ---- members

-- whether the field has the name and type
abbrev pub is_field : List ℕ → JType → FieldInfo → Bool
is_field name type field = bytes_eq field.name name && same_type field.kind type

-- whether the method is declared by the class of that number, with the name and type
abbrev pub is_method : ℕ → List ℕ → MethodType → MethodInfo → Bool
is_method class name kind method = (method.class.0 == class) && bytes_eq method.name name && same_kind method.kind kind

-- the number of the method of that name and type that the class of that number declares
abbrev pub declared_method : List Class → ℕ → List ℕ → MethodType → Option ℕ
declared_method classes class name kind = place_where (is_method class name kind) (methods_in classes)
