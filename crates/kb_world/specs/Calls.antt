-- What a call may call, and what is wrong with it (own rules over JVMS 8 sections 5.4.3, 5.4.6, 5.5 and 6.5).
use Rattle.std.specs.Prelude.{ℕ, Bool, false, ◌&&◌, ◌||◌, not, is_some, List, [], ◌∷◌, map, filter, filter_map, Option, Some, None, slice_get, if◌then◌else◌}
use Rattle.std.specs.List.{list_any}
use Rattle.std.specs.Option.{option_and_then, option_map_or}
use Rattle.kb_names.specs.declared.types.ExactType.{ExactType}
use Rattle.kb_code.specs.declared.instruction.Instr.{Instr}
use Rattle.kb_code.specs.declared.instruction.Instr.TheVariants as instrs
use Rattle.kb_class.specs.declared.members.MemberKind.{MemberKind}
use Rattle.kb_class.specs.declared.members.MemberKind.TheVariants as kinds
use Rattle.kb_class.specs.declared.members.MethodInfo.{MethodInfo}
use Rattle.kb_class.specs.Class.{Class, Sought}
use Rattle.kb_class.specs.Members.{is_static}
use Rattle.kb_classes.specs.declared.refusal.What.TheVariants as whats
use Rattle.kb_classes.specs.World.{World, method_at}
use Rattle.kb_classes.specs.Subtypes.{fits, type_of_exact}
use Rattle.kb_classes.specs.Universe.{is_given}
use Rattle.kb_universe.specs.declared.calls.Call.{Call}
use Rattle.kb_universe.specs.declared.calls.Call.TheVariants as calls
use Rattle.kb_universe.specs.declared.looked.Use.{Use}
use Rattle.kb_universe.specs.declared.looked.Use.TheVariants as uses
use Rattle.kb_classes.specs.Options.{or_else, only_where}
pub use Rattle.kb_resolution.specs.Lookup.{sought_at, resolved_field, resolved_method, selected_special}
use Rattle.kb_resolution.specs.Lookup.{class_of, is_open, selected}
use Rattle.kb_universe.specs.Uses.{takes}
pub use Rattle.kb_universe.specs.Faults.{component_of_code}
use Rattle.kb_universe.specs.Faults.{Fault, Outside, entry_at, constant_fault, new_fault, primitive_fault, array_fault, cast_fault, fault_of_initialiser}
use Rattle.kb_world.specs.FieldFaults.{field_fault}
use Rattle.kb_resolution.specs.LeftOut.{has_left_out}

-- ---- what a call may call

-- whether an object of the exact type may be the receiver of a method that is sought in the other type
abbrev pub receives : World → ExactType → ExactType → Bool
receives world type receiver = fits world receiver (type_of_exact type)

-- the method that is called in place of another one where the receiver is of the exact type; an array selects as
-- java/lang/Object does
abbrev pub selected_on : World → ℕ → ExactType → Option ℕ
selected_on world method receiver = option_and_then (λ class. selected world class method) (class_of world receiver)

-- what is called in place of a method that is sought in the type, for each type of the universe that is a subtype
abbrev pub called_on : World → ExactType → ℕ → List (Option ℕ)
called_on world type method = map (selected_on world method) (filter (receives world type) world.universe)

-- What a call of an entry of a class may call, where the entry stands for the method, sought in the type.
abbrev pub called : World → ℕ → Call → ℕ → ExactType → ℕ → List (Option ℕ)
called world class calls.Virtual entry type method = called_on world type method
called world class calls.Interface entry type method = called_on world type method
called world class calls.Special entry type method = selected_special world class entry ∷ []
called world class calls.Static entry type method = Some method ∷ []

-- ---- what is wrong with it

abbrev pub is_without_file : World → ℕ → Bool
is_without_file world class = option_map_or (λ (c : Class). not (is_given c)) (slice_get world.classes class) false

-- whether the method has code, or is one of a platform class
abbrev pub is_callable_method : World → MethodInfo → Bool
is_callable_method world method = is_some method.code || is_without_file world method.class.0

-- whether it is a method that has code, or is one of a platform class
abbrev pub is_callable : World → Option ℕ → Bool
is_callable world found = option_map_or (is_callable_method world) (option_and_then (method_at world) found) false

abbrev pub is_static_at : World → Option ℕ → Bool
is_static_at world found = option_map_or (λ (m : MethodInfo). is_static m.access) (option_and_then (method_at world) found) false

-- Whether the method that is named is one for the call: neither private nor static for invokevirtual and invokeinterface, not
-- static for invokespecial, which calls none that is static, and static for invokestatic.
abbrev pub is_for : World → ℕ → Call → ℕ → MethodInfo → Bool
is_for world class calls.Virtual entry method = is_open method
is_for world class calls.Interface entry method = is_open method
is_for world class calls.Special entry method = not (is_static method.access) && not (is_static_at world (selected_special world class entry))
is_for world class calls.Static entry method = is_static method.access

-- invokestatic: code initialises the class that declares the method
abbrev pub initialiser_fault : World → Call → MethodInfo → Option Fault
initialiser_fault world calls.Static method = fault_of_initialiser world method.class.0
initialiser_fault world _ method = None

abbrev pub fault_of_method : World → ℕ → Call → ℕ → ExactType → ℕ → MethodInfo → Option Fault
fault_of_method world class call entry type number method =
    or_else (only_where (not (is_for world class call entry method)) (Outside whats.Method))
    (or_else (only_where (list_any (λ found. not (is_callable world found)) (called world class call entry type number)) (Outside whats.Method)) (initialiser_fault world call method))

abbrev pub fault_of_number : World → ℕ → Call → ℕ → ExactType → Option ℕ → Option Fault
fault_of_number world class call entry type None = Some (Outside whats.Method)
fault_of_number world class call entry type (Some number) = option_and_then (fault_of_method world class call entry type number) (method_at world number)

abbrev pub fault_of_kind : World → ℕ → Call → ℕ → ExactType → MemberKind → Option Fault
fault_of_kind world class call entry type (kinds.Field of) = Some (Outside whats.Method)
fault_of_kind world class call entry type (kinds.Method kind) =
    or_else (only_where (has_left_out kind) (Outside whats.Kind)) (fault_of_number world class call entry type (resolved_method world class entry))

abbrev pub fault_of_sought : World → ℕ → Call → ℕ → Option Sought → Option Fault
fault_of_sought world class call entry None = Some (Outside whats.Operand)
fault_of_sought world class call entry (Some sought) =
    if takes call sought.what then fault_of_kind world class call entry sought.class sought.member.kind else Some (Outside whats.Operand)

-- what is wrong with a call of an entry, in code of the class
abbrev pub call_fault : World → ℕ → Call → ℕ → Option Fault
call_fault world class call entry = fault_of_sought world class call entry (sought_at world class entry)

-- ---- instructions

-- What is wrong with an instruction in code of a class.
unfoldable pub fault_of : World → ℕ → Instr → Option Fault
fault_of world class (instrs.Other op) = Some (Outside (whats.Opcode op))
fault_of world class (instrs.Ldc entry) = constant_fault (entry_at world class entry)
fault_of world class (instrs.GetField entry) = field_fault world class entry
fault_of world class (instrs.PutField entry) = field_fault world class entry
fault_of world class (instrs.Virtual entry) = call_fault world class calls.Virtual entry
fault_of world class (instrs.Special entry) = call_fault world class calls.Special entry
fault_of world class (instrs.Static entry) = call_fault world class calls.Static entry
fault_of world class (instrs.Interface entry) = call_fault world class calls.Interface entry
fault_of world class (instrs.New entry) = new_fault world class entry
fault_of world class (instrs.NewPrim code) = primitive_fault code
fault_of world class (instrs.NewRefs entry) = array_fault world class entry
fault_of world class (instrs.Cast entry) = cast_fault world class entry
fault_of world class (instrs.InstanceOf entry) = cast_fault world class entry
fault_of world class _ = None

-- what is wrong with such a use of the entry, in code of the class
abbrev pub use_fault : World → ℕ → Use → ℕ → Option Fault
use_fault world class (uses.Call call) entry = call_fault world class call entry
use_fault world class uses.Object entry = new_fault world class entry
use_fault world class uses.Array entry = array_fault world class entry
use_fault world class uses.Cast entry = cast_fault world class entry

-- ---- mentions

abbrev pub has_code_at : World → ℕ → Bool
has_code_at world number = option_map_or (λ (m : MethodInfo). is_some m.code) (method_at world number) false

-- the number, where its method has code
abbrev pub if_code : World → Option ℕ → Option ℕ
if_code world found = option_and_then (λ number. only_where (has_code_at world number) number) found

abbrev pub called_number : World → ℕ → Call → ℕ → ExactType → Option ℕ → List (Option ℕ)
called_number world class call entry type None = []
called_number world class call entry type (Some number) = called world class call entry type number

abbrev pub called_sought : World → ℕ → Call → ℕ → Option Sought → List (Option ℕ)
called_sought world class call entry None = []
called_sought world class call entry (Some sought) =
    if takes call sought.what then called_number world class call entry sought.class (resolved_method world class entry) else []

-- the methods with code that a call of an entry may call, in order
abbrev pub call_mentions : World → ℕ → Call → ℕ → List ℕ
call_mentions world class call entry = filter_map (if_code world) (called_sought world class call entry (sought_at world class entry))

-- the methods with code that such a use of the entry may call, in order
abbrev pub use_mentions : World → ℕ → Use → ℕ → List ℕ
use_mentions world class (uses.Call call) entry = call_mentions world class call entry
use_mentions world class _ entry = []

-- The methods with code that an instruction in code of a class may call, in order.
unfoldable pub mentions : World → ℕ → Instr → List ℕ
mentions world class (instrs.Virtual entry) = call_mentions world class calls.Virtual entry
mentions world class (instrs.Special entry) = call_mentions world class calls.Special entry
mentions world class (instrs.Static entry) = call_mentions world class calls.Static entry
mentions world class (instrs.Interface entry) = call_mentions world class calls.Interface entry
mentions world class _ = []
