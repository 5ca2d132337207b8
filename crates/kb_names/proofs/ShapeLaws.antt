-- A type is its dimensions and its base.
use Rattle.std.proofs.Common.{◌≡◌, ℕ, zero, suc, ◌+◌, refl, sym, ◌∙◌, ap, arith}
use Rattle.kb_names.specs.Shape.{Base, bool_base, byte_base, char_base, short_base, int_base, long_base, float_base, double_base, class_base, Shape}
use Rattle.kb_names.specs.Types.{shape_of, base_type, arrays_of}
use Rattle.kb_names.specs.declared.types.JType.{JType}
use Rattle.kb_names.specs.declared.types.JType.TheVariants.{Bool, Byte, Char, Short, Int, Long, Float, Double, Class, Array}

shape_of-base_type : (base : Base) → shape_of (base_type base) ≡ record { dims = 0; base = base }
shape_of-base_type bool_base = refl
shape_of-base_type byte_base = refl
shape_of-base_type char_base = refl
shape_of-base_type short_base = refl
shape_of-base_type int_base = refl
shape_of-base_type long_base = refl
shape_of-base_type float_base = refl
shape_of-base_type double_base = refl
shape_of-base_type (class_base name) = refl

pub shape_of-arrays_of : (dims : ℕ) (base : Base) → shape_of (arrays_of dims base) ≡ record { dims = dims; base = base }
shape_of-arrays_of zero base = shape_of-base_type base
shape_of-arrays_of (suc dims) base = refl

pub arrays_of-shape_of : (type : JType) → arrays_of (shape_of type).dims (shape_of type).base ≡ type
arrays_of-shape_of Bool = refl
arrays_of-shape_of Byte = refl
arrays_of-shape_of Char = refl
arrays_of-shape_of Short = refl
arrays_of-shape_of Int = refl
arrays_of-shape_of Long = refl
arrays_of-shape_of Float = refl
arrays_of-shape_of Double = refl
arrays_of-shape_of (Class name) = refl
arrays_of-shape_of (Array component) = refl

-- one dimension more
pub arrays_of-next : (of : JType) (component : Shape) (count dims : ℕ) (base : Base) → of ≡ arrays_of (count + dims) base → component ≡ shape_of of
    → Array component ≡ arrays_of (count + 1 + dims) base
arrays_of-next of component count dims base e f =
    let next : count + 1 + dims ≡ suc (count + dims) = omega arith in
    ap Array (f ∙ ap shape_of e ∙ shape_of-arrays_of (count + dims) base) ∙ ap (λ (n : ℕ). arrays_of n base) (sym next)
