-- What is wrong with an instruction that is no call (own rules over JVMS 8 sections 5.4.3, 5.5 and 6.5).
use Rattle.std.specs.Prelude.{ℕ, Bool, ◌==◌, ◌||◌, not, nat_le, is_some, List, Option, Some, None, slice_get, if◌then◌else◌}
use Rattle.std.specs.Option.{option_and_then}
use Rattle.kb_names.specs.declared.types.ExactType.{ExactType}
use Rattle.kb_names.specs.declared.types.ExactType.TheVariants as exact
use Rattle.kb_names.specs.declared.types.JType.{JType}
use Rattle.kb_names.specs.declared.types.JType.TheVariants as types
use Rattle.kb_class.specs.Class.{Class, Entry, int_of_entry, text_of_entry}
use Rattle.kb_classes.specs.declared.refusal.What.{What}
use Rattle.kb_classes.specs.declared.refusal.What.TheVariants as whats
use Rattle.kb_classes.specs.Options.{or_else, only_where}
use Rattle.kb_classes.specs.World.{World, number_in, type_entry_of}
use Rattle.kb_classes.specs.Subtypes.{shape_of_exact}
use Rattle.kb_classes.specs.Universe.{is_concrete}
use Rattle.kb_classes.specs.Initialisers.{is_initialised}
use Rattle.kb_universe.specs.Marks.{name_of_base}
use Rattle.kb_universe.specs.declared.faults.Fault.{Fault as FaultOfCode}
use Rattle.kb_universe.specs.declared.faults.Fault.TheVariants as faults

-- What is wrong with an instruction.
pub data Fault : Type 0 where
  NoField : Fault
  -- a class that the world does not have, by its name
  Missing : List ℕ → Fault
  Outside : What → Fault
  -- a class that code initialises, by its name
  Initialiser : List ℕ → Fault

-- the fault that the code lends, with its name as bytes
abbrev pub plain_fault : FaultOfCode → Fault
plain_fault faults.NoField = NoField
plain_fault (faults.Missing name) = Missing name.now
plain_fault (faults.Outside what) = Outside what
plain_fault (faults.Initialiser name) = Initialiser name.now

-- ---- types

-- the class that a type names, by itself or as an array's element
abbrev pub class_in_type : ExactType → Option (List ℕ)
class_in_type type = name_of_base (shape_of_exact type).base

-- it, where the world does not have it
abbrev pub missing_class : World → ExactType → Option Fault
missing_class world type = option_and_then (λ name. only_where (not (is_some (number_in world.classes name))) (Missing name)) (class_in_type type)

-- ---- entries

-- what stands at a number of the constant pool of a class
abbrev pub entry_at : World → ℕ → ℕ → Option Entry
entry_at world class entry = option_and_then (λ (c : Class). slice_get c.entries entry) (slice_get world.classes class)

-- ldc takes ints and strings
abbrev pub constant_fault : Option Entry → Option Fault
constant_fault entry = only_where (not (is_some (int_of_entry entry) || is_some (text_of_entry entry))) (Outside whats.Constant)

-- ---- types of objects

-- checkcast and instanceof take a type of the world
abbrev pub fault_of_cast : World → Option ExactType → Option Fault
fault_of_cast world None = Some (Outside whats.Operand)
fault_of_cast world (Some type) = missing_class world type

abbrev pub cast_fault : World → ℕ → ℕ → Option Fault
cast_fault world class entry = fault_of_cast world (type_entry_of world class entry)

-- code initialises the class of that number
abbrev pub fault_of_initialiser : World → ℕ → Option Fault
fault_of_initialiser world number =
    option_and_then (λ (c : Class). only_where (is_initialised world number) (Initialiser c.name)) (slice_get world.classes number)

-- the class of that number is abstract or an interface, or code initialises it
abbrev pub fault_of_object : World → ℕ → Option Fault
fault_of_object world number =
    option_and_then (λ (c : Class). or_else (only_where (not (is_concrete c)) (Outside whats.Kind)) (fault_of_initialiser world number)) (slice_get world.classes number)

abbrev pub fault_of_new_type : World → ExactType → Option Fault
fault_of_new_type world (exact.Array component) = Some (Outside whats.Kind)
fault_of_new_type world (exact.Class name) = option_and_then (fault_of_object world) (number_in world.classes name)

abbrev pub fault_of_new : World → Option ExactType → Option Fault
fault_of_new world None = Some (Outside whats.Operand)
fault_of_new world (Some type) = or_else (missing_class world type) (fault_of_new_type world type)

-- new takes a class of the world, neither abstract nor an interface, that no code initialises
abbrev pub new_fault : World → ℕ → ℕ → Option Fault
new_fault world class entry = fault_of_new world (type_entry_of world class entry)

-- the most dimensions of an array type (section 4.4.1)
abbrev pub most_dimensions : ℕ
most_dimensions = 255

abbrev pub is_deepest : ExactType → Bool
is_deepest type = nat_le most_dimensions (shape_of_exact type).dims

abbrev pub fault_of_array : World → Option ExactType → Option Fault
fault_of_array world None = Some (Outside whats.Operand)
fault_of_array world (Some type) = or_else (missing_class world type) (only_where (is_deepest type) (Outside whats.Kind))

-- anewarray takes a type of the world; the array has one dimension more
abbrev pub array_fault : World → ℕ → ℕ → Option Fault
array_fault world class entry = fault_of_array world (type_entry_of world class entry)

-- the component of an array that newarray makes for a code (table 6.5.newarray-A): T_BOOLEAN and T_INT are built
abbrev pub component_of_code : ℕ → Option JType
component_of_code code = if code == 4 then Some types.Bool else if code == 10 then Some types.Int else None

-- newarray
abbrev pub primitive_fault : ℕ → Option Fault
primitive_fault code = only_where (not (is_some (component_of_code code))) (Outside whats.Kind)
