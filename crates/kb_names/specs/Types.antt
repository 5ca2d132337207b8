-- Types, and the descriptors that spell them (JVMS 8 sections 4.2.1 and 4.3).
use Rattle.std.specs.Prelude.{ℕ, zero, suc}
use Rattle.kb_names.specs.Shape.{Base, bool_base, byte_base, char_base, short_base, int_base, long_base, float_base, double_base, class_base, Shape}
use Rattle.kb_names.specs.declared.types.JType.{JType}
use Rattle.kb_names.specs.declared.types.JType.TheVariants.{Bool, Byte, Char, Short, Int, Long, Float, Double, Class, Array}

-- the dimensions and the base of a type
abbrev pub shape_of : JType → Shape
shape_of Bool = record { dims = 0; base = bool_base }
shape_of Byte = record { dims = 0; base = byte_base }
shape_of Char = record { dims = 0; base = char_base }
shape_of Short = record { dims = 0; base = short_base }
shape_of Int = record { dims = 0; base = int_base }
shape_of Long = record { dims = 0; base = long_base }
shape_of Float = record { dims = 0; base = float_base }
shape_of Double = record { dims = 0; base = double_base }
shape_of (Class name) = record { dims = 0; base = class_base name }
shape_of (Array component) = record { dims = suc component.dims; base = component.base }

-- the type that is no array
abbrev pub base_type : Base → JType
base_type bool_base = Bool
base_type byte_base = Byte
base_type char_base = Char
base_type short_base = Short
base_type int_base = Int
base_type long_base = Long
base_type float_base = Float
base_type double_base = Double
base_type (class_base name) = Class name

-- the type of that shape
abbrev pub arrays_of : ℕ → Base → JType
arrays_of zero base = base_type base
arrays_of (suc dims) base = Array (record { dims = dims; base = base })
