-- Superclasses and subtypes (JVMS 8 sections 4.1, 4.10.1.2 and 6.5, checkcast).
use Rattle.std.specs.Prelude.{◌≡◌, ◌↔◌, ℕ, zero, suc, ◌<◌, Bool, true, false, ◌||◌, List, [], ◌∷◌, ◌++◌, length, map, Option, Some, None, slice_get, slice_index_or, codes}
use Rattle.std.specs.Str.{bytes_eq}
use Rattle.kb_names.specs.Shape.{Base, bool_base, byte_base, char_base, short_base, int_base, long_base, float_base, double_base, class_base, Shape}
use Rattle.kb_names.specs.Types.{shape_of}
use Rattle.kb_names.specs.declared.types.ExactType.{ExactType}
use Rattle.kb_names.specs.declared.types.ExactType.TheVariants as exact
use Rattle.kb_names.specs.declared.types.JType.{JType}
use Rattle.kb_names.specs.declared.types.JType.TheVariants as types
use Rattle.kb_order.specs.Order.{IsAbove}
use Rattle.kb_class.specs.Class.{Class}
use Rattle.kb_class.specs.Platform.{object_name, serializable}
use Rattle.kb_classes.specs.declared.claim.ClaimKind.{ClaimKind}
use Rattle.kb_classes.specs.declared.claim.ClaimKind.TheVariants.{Parent, Interface}
use Rattle.kb_classes.specs.World.{World, number_in, parent_in}

-- ---- what stands above a class

-- a class that another one names: as its superclass, or among its interfaces
pub record Claim : Type 0 where
  pub kind : ClaimKind
  pub name : List ℕ

abbrev pub parent_claim : Option (List ℕ) → List Claim
parent_claim None = []
parent_claim (Some name) = record { kind = Parent; name = name } ∷ []

abbrev pub interface_claim : List ℕ → Claim
interface_claim name = record { kind = Interface; name = name }

-- the superclass of a class and then its interfaces
abbrev pub claims_of : Class → List Claim
claims_of class = parent_claim class.parent ++ map interface_claim class.interfaces

abbrev pub parent_names : Option (List ℕ) → List (List ℕ)
parent_names None = []
parent_names (Some name) = name ∷ []

-- the names of the superclass of a class and of its interfaces
abbrev pub super_names : Class → List (List ℕ)
super_names class = parent_names class.parent ++ class.interfaces

-- a number before others, where there is one
abbrev pub with_number : Option ℕ → List ℕ → List ℕ
with_number None numbers = numbers
with_number (Some number) numbers = number ∷ numbers

-- the numbers of these names, where each has one
abbrev pub numbers_of : List Class → List (List ℕ) → List ℕ
numbers_of classes [] = []
numbers_of classes (name ∷ names) = with_number (number_in classes name) (numbers_of classes names)

-- for each class, the numbers of its superclass and of its interfaces
abbrev pub direct_supers : List Class → List (List ℕ)
direct_supers classes = map (λ class. numbers_of classes (super_names class)) classes

-- The chain of a class is its number before that of its superclass, where it has one.
abbrev pub IsChain : List (List ℕ) → ℕ → Option ℕ → List ℕ → Type 0
IsChain chains number None chain = chain ≡ number ∷ []
IsChain chains number (Some parent) chain = chain ≡ number ∷ slice_index_or chains parent []

-- each class has its chain
pub record AreChains (classes : List Class) (chains : List (List ℕ)) : Type 0 where
  pub len : length chains ≡ length classes
  pub each : (number : ℕ) (class : Class) → slice_get classes number ≡ Some class → IsChain chains number (parent_in classes class) (slice_index_or chains number [])

-- the mark at two numbers; none outside
abbrev pub is_super : List (List Bool) → ℕ → ℕ → Bool
is_super supers low high = slice_index_or (slice_index_or supers low []) high false

-- of each class a mark for each: whether it is that class, or a subtype of it
pub record AreSupers (classes : List Class) (supers : List (List Bool)) : Type 0 where
  pub len : length supers ≡ length classes
  pub rows : (low : ℕ) → low < length classes → length (slice_index_or supers low []) ≡ length classes
  pub each : (low high : ℕ) → low < length classes → (is_super supers low high ≡ true) ↔ IsAbove (direct_supers classes) low high

-- ---- subtypes

-- whether the first class or interface is a subtype of the second; one outside the world is a subtype of itself alone
abbrev pub is_below : World → List ℕ → List ℕ → Bool
is_below world low high = bytes_eq low high || both (number_in world.classes low) (number_in world.classes high)
  where
    both : Option ℕ → Option ℕ → Bool
    both (Some l) (Some h) = is_super world.supers l h
    both _ _ = false

abbrev pub cloneable : List ℕ
cloneable = codes "java/lang/Cloneable"

-- whether the class is one that every array is a subtype of
abbrev pub is_above_arrays : List ℕ → Bool
is_above_arrays name = bytes_eq name object_name || bytes_eq name cloneable || bytes_eq name serializable

-- whether a type without dimensions is a subtype of another one
abbrev pub fits_base : World → Base → Base → Bool
fits_base world (class_base low) (class_base high) = is_below world low high
fits_base world bool_base bool_base = true
fits_base world byte_base byte_base = true
fits_base world char_base char_base = true
fits_base world short_base short_base = true
fits_base world int_base int_base = true
fits_base world long_base long_base = true
fits_base world float_base float_base = true
fits_base world double_base double_base = true
fits_base world _ _ = false

-- whether an array of that base is a subtype of the type without dimensions
abbrev pub fits_array : Base → Bool
fits_array (class_base name) = is_above_arrays name
fits_array _ = false

-- Whether a type of so many dimensions is a subtype of another: an array's component fits the other's, and each array is a
-- subtype of three classes.
abbrev pub fits_shape : World → ℕ → Base → ℕ → Base → Bool
fits_shape world zero low zero high = fits_base world low high
fits_shape world zero low (suc above) high = false
fits_shape world (suc below) low zero high = fits_array high
fits_shape world (suc below) low (suc above) high = fits_shape world below low above high

abbrev pub fits_shapes : World → Shape → Shape → Bool
fits_shapes world low high = fits_shape world low.dims low.base high.dims high.base

-- whether one type is a subtype of another
abbrev pub type_fits : World → JType → JType → Bool
type_fits world low high = fits_shapes world (shape_of low) (shape_of high)

abbrev pub shape_of_exact : ExactType → Shape
shape_of_exact (exact.Class name) = record { dims = 0; base = class_base name }
shape_of_exact (exact.Array component) = record { dims = suc (shape_of component).dims; base = (shape_of component).base }

-- the type of exactly those objects that are of the exact type or of a subtype of it
abbrev pub type_of_exact : ExactType → JType
type_of_exact (exact.Class name) = types.Class name
type_of_exact (exact.Array component) = types.Array (shape_of component)

-- whether an object of the exact type is of the type
abbrev pub fits : World → ExactType → JType → Bool
fits world low high = fits_shapes world (shape_of_exact low) (shape_of high)
