-- The world: the given classes in the order given, then the platform classes. A class is named by its place in that order, a
-- method by its place among the methods of all classes.
use Rattle.std.specs.Prelude.{ℕ, ℤ, suc, Bool, List, [], ◌∷◌, Option, Some, None, slice_get, position, slice_index_or, if◌then◌else◌}
use Rattle.std.specs.List.{flat_map}
use Rattle.std.specs.Option.{option_map, option_and_then}
use Rattle.std.specs.Str.{bytes_eq}
use Rattle.kb_names.specs.declared.types.ExactType.{ExactType}
use Rattle.kb_class.specs.declared.members.MethodInfo.{MethodInfo}
use Rattle.kb_class.specs.Class.{Class, type_of_entry, int_of_entry, text_of_entry}

-- `chains` has of each class its own number and those of its superclasses, up to that of java/lang/Object; `supers` a
-- mark for each class: whether it is that class, or a subtype of it. `universe` has the exact types that an object of an
-- input may have, `literals` the texts of string constants.
pub record World : Type 0 where
  pub classes : List Class
  pub chains : List (List ℕ)
  pub supers : List (List Bool)
  pub universe : List ExactType
  pub literals : List (List ℕ)

-- the number of the first class of that name
abbrev pub number_in : List Class → List ℕ → Option ℕ
number_in [] name = None
number_in (class ∷ classes) name = if bytes_eq name class.name then Some 0 else option_map suc (number_in classes name)

-- the number of the superclass of a class
abbrev pub parent_in : List Class → Class → Option ℕ
parent_in classes class = option_and_then (number_in classes) class.parent

-- the methods of all classes, in order
abbrev pub methods_in : List Class → List MethodInfo
methods_in classes = flat_map (λ (class : Class). class.methods) classes

-- the method of that number
abbrev pub method_at : World → ℕ → Option MethodInfo
method_at world number = slice_get (methods_in world.classes) number

-- the chain of the class of that number
abbrev pub chain_of : World → ℕ → List ℕ
chain_of world number = slice_index_or world.chains number []

-- the type of a Class entry of a class
abbrev pub type_entry_of : World → ℕ → ℕ → Option ExactType
type_entry_of world class entry = option_and_then (λ (c : Class). type_of_entry (slice_get c.entries entry)) (slice_get world.classes class)

-- the int of an Integer entry of a class
abbrev pub int_entry_of : World → ℕ → ℕ → Option ℤ
int_entry_of world class entry = option_and_then (λ (c : Class). int_of_entry (slice_get c.entries entry)) (slice_get world.classes class)

-- the place of a text among the literals
abbrev pub literal_in : List (List ℕ) → List ℕ → Option ℕ
literal_in literals text = position (bytes_eq text) literals

-- the number of the literal of a String entry of a class
abbrev pub literal_entry_of : World → ℕ → ℕ → Option ℕ
literal_entry_of world class entry =
    option_and_then (literal_in world.literals) (option_and_then (λ (c : Class). text_of_entry (slice_get c.entries entry)) (slice_get world.classes class))
