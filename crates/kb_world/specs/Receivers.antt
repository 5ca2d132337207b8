-- The receivers of a call in two parts: the classes of the universe one by one, and its arrays, which all select as
-- java/lang/Object does (JVMS 8 section 6.5, invokevirtual).
use Rattle.std.specs.Prelude.{ℕ, Bool, false, List, map, filter, filter_map, Option, Some, None}
use Rattle.std.specs.Option.{option_and_then}
use Rattle.kb_names.specs.declared.types.ExactType.{ExactType}
use Rattle.kb_class.specs.Platform.{object_name}
use Rattle.kb_classes.specs.World.{World, number_in}
use Rattle.kb_classes.specs.Subtypes.{is_super}
use Rattle.kb_universe.specs.Marks.{class_types}
use Rattle.kb_world.specs.Calls.{receives, selected_on}
use Rattle.kb_resolution.specs.Lookup.{class_number, selected}

-- what is called in place of a method that is sought in the type, for each of these types that is a subtype
abbrev pub called_among : World → ExactType → ℕ → List ExactType → List (Option ℕ)
called_among world type method types = map (selected_on world method) (filter (receives world type) types)

-- what is called in place of a method where the receiver is an array
abbrev pub selected_on_array : World → ℕ → Option ℕ
selected_on_array world method = option_and_then (λ class. selected world class method) (number_in world.classes object_name)

-- ---- the classes by their numbers

-- the numbers of the classes of the universe, in its order
abbrev pub receivers_in : World → List ℕ
receivers_in world = filter_map (class_number world) (class_types world.universe)

-- whether an object of the class of that number may be the receiver of a method that is sought in the other class
abbrev pub receives_at : World → Option ℕ → ℕ → Bool
receives_at world None low = false
receives_at world (Some high) low = is_super world.supers low high

-- what is called in place of a method that is sought in the class, for each of these classes that is a subtype
abbrev pub called_below : World → Option ℕ → ℕ → List ℕ → List (Option ℕ)
called_below world owner method classes = map (λ low. selected world low method) (filter (receives_at world owner) classes)
