-- Marks of a world's universe (kb_classes `specs/Universe.antt`): with each array type it has the component arrays, so that of each
-- element the most dimensions tell which arrays it has.
use Rattle.std.specs.Prelude.{◌≡◌, ℕ, suc, ◌+◌, ◌^◌, ◌<◌, max, Bool, true, false, ◌==◌, List, [], ◌∷◌, length, filter, Option, Some, None, slice_index_or, if◌then◌else◌}
use Rattle.std.specs.List.{list_any}
use Rattle.std.specs.Option.{option_map, option_map_or}
use Rattle.kb_names.specs.Shape.{Base, bool_base, int_base, class_base}
use Rattle.kb_names.specs.Types.{shape_of}
use Rattle.kb_names.specs.declared.types.ExactType.{ExactType}
use Rattle.kb_names.specs.declared.types.ExactType.TheVariants as exact
use Rattle.kb_class.specs.Class.{Class}
use Rattle.kb_classes.specs.Subtypes.{shape_of_exact, fits, type_of_exact, is_super}
use Rattle.kb_classes.specs.World.{World, number_in}
use Rattle.kb_universe.specs.declared.marks.Marks.{Marks}

-- ---- classes

-- whether the type is a class
abbrev pub is_class_type : ExactType → Bool
is_class_type (exact.Class name) = true
is_class_type (exact.Array component) = false

-- those of these types that are classes
abbrev pub class_types : List ExactType → List ExactType
class_types types = filter is_class_type types

-- whether the type is the class of that number
abbrev pub is_class_at : List Class → ℕ → ExactType → Bool
is_class_at classes number (exact.Class name) = option_map_or (λ (n : ℕ). n == number) (number_in classes name) false
is_class_at classes number (exact.Array component) = false

-- ---- arrays

-- the name of a class
abbrev pub name_of_base : Base → Option (List ℕ)
name_of_base (class_base name) = Some name
name_of_base _ = None

-- what the elements of an array may be, by numbers: 0 for boolean, 1 for int, and then the classes of the world
abbrev pub element_in : List Class → Base → Option ℕ
element_in classes bool_base = Some 0
element_in classes int_base = Some 1
element_in classes (class_base name) = option_map (λ (n : ℕ). n + 2) (number_in classes name)
element_in classes _ = None

abbrev pub is_element_at : List Class → ℕ → Base → Bool
is_element_at classes element base = option_map_or (λ (n : ℕ). n == element) (element_in classes base) false

-- the dimensions of an array over the element of that number; none of another type
abbrev pub dims_over : List Class → ℕ → ExactType → ℕ
dims_over classes element (exact.Class name) = 0
dims_over classes element (exact.Array component) = if is_element_at classes element (shape_of component).base then suc (shape_of component).dims else 0

-- the most that one of these types has
abbrev pub most_over : List Class → ℕ → List ExactType → ℕ
most_over classes element [] = 0
most_over classes element (type ∷ types) = max (dims_over classes element type) (most_over classes element types)

-- the most dimensions of one of these types
abbrev pub longest_of : List ExactType → ℕ
longest_of [] = 0
longest_of (type ∷ types) = max (shape_of_exact type).dims (longest_of types)

-- whether the type is an array and a subtype of the other one
abbrev pub is_array_below : World → ExactType → ExactType → Bool
is_array_below world type (exact.Class name) = false
is_array_below world type (exact.Array component) = fits world (exact.Array component) (type_of_exact type)

-- ---- the marks

-- Of each class whether it is of the universe, of each element the most dimensions of an array over it, the most dimensions of
-- any, and how many classes the universe has.
pub record HaveMarks (world : World) (marks : Marks) : Type 0 where
  pub each_class : (number : ℕ) → slice_index_or marks.own.items number false ≡ list_any (is_class_at world.classes number) world.universe
  pub each_element : (element : ℕ) → slice_index_or marks.most.items element 0 ≡ most_over world.classes element world.universe
  pub longest_is : marks.longest ≡ longest_of world.universe
  pub classes_are : marks.classes ≡ length (class_types world.universe)
  pub few : marks.longest < 2 ^ 32

-- what a table has for the element of a base: 0 where it has none
abbrev pub reach : List Class → List ℕ → Base → ℕ
reach classes most base = option_map_or (λ (element : ℕ). slice_index_or most element 0) (element_in classes base) 0

-- A class of that name is there, and itself or a class below it has an array of more dimensions.
abbrev pub HasLowArray : World → List ℕ → List ℕ → ℕ → Type 0
HasLowArray world most name dims =
    (high : ℕ) × (number_in world.classes name ≡ Some high) × (low : ℕ) × (low < length world.classes) × (is_super world.supers low high ≡ true) × (dims < slice_index_or most (low + 2) 0)
