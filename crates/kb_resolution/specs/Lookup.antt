-- Resolution and selection (JVMS 8 sections 5.4.3 and 5.4.6), with this project's own rules where comments say so.
use Rattle.std.specs.Prelude.{ℕ, suc, Bool, false, ◌==◌, ◌&&◌, not, bit_and, List, [], ◌∷◌, drop, filter, Option, Some, None, slice_get, slice_index_or, codes, if◌then◌else◌}
use Rattle.std.specs.List.{list_any}
use Rattle.std.specs.Option.{option_and_then, option_map_or}
use Rattle.std.specs.Str.{bytes_eq}
use Rattle.kb_names.specs.declared.types.ExactType.{ExactType}
use Rattle.kb_names.specs.declared.types.ExactType.TheVariants as exact
use Rattle.kb_names.specs.declared.types.JType.{JType}
use Rattle.kb_names.specs.declared.types.MethodType.{MethodType}
use Rattle.kb_class.specs.declared.entries.ReferenceKind.{ReferenceKind}
use Rattle.kb_class.specs.declared.entries.ReferenceKind.TheVariants as references
use Rattle.kb_class.specs.declared.members.MemberKind.{MemberKind}
use Rattle.kb_class.specs.declared.members.MemberKind.TheVariants as kinds
use Rattle.kb_class.specs.declared.members.MethodInfo.{MethodInfo}
use Rattle.kb_class.specs.Class.{Class, Sought, reference_of_entry}
use Rattle.kb_class.specs.Platform.{object_name}
use Rattle.kb_classes.specs.declared.slots.FieldSlot.{FieldSlot}
pub use Rattle.kb_classes.specs.Options.{or_else, only_where}
use Rattle.kb_classes.specs.World.{World, number_in, method_at, chain_of}
use Rattle.kb_link.specs.Members.{is_field, same_type, declared_method}
use Rattle.kb_classes.specs.Rules.{is_interface}
use Rattle.kb_classes.specs.Slots.{slots_of}
use Rattle.kb_classes.specs.Subtypes.{is_super, numbers_of}

-- the first that is found on the way
abbrev pub first_along : {A : Type 0} → (ℕ → Option A) → List ℕ → Option A
first_along look [] = None
first_along look (number ∷ way) = or_else (look number) (first_along look way)

-- ---- what entries name

-- the number of the class in which the members of a type are sought: those of an array in java/lang/Object
abbrev pub class_of : World → ExactType → Option ℕ
class_of world (exact.Class name) = number_in world.classes name
class_of world (exact.Array component) = number_in world.classes object_name

-- the number, where the type is a class
abbrev pub if_class : ExactType → Option ℕ → Option ℕ
if_class (exact.Class name) number = number
if_class (exact.Array component) number = None

-- the number of the class that a type is: none of an array
abbrev pub class_number : World → ExactType → Option ℕ
class_number world type = if_class type (class_of world type)

-- what a Fieldref, Methodref or InterfaceMethodref entry of a class names
abbrev pub sought_at : World → ℕ → ℕ → Option Sought
sought_at world class entry = option_and_then (λ (c : Class). reference_of_entry (slice_get c.entries entry)) (slice_get world.classes class)

-- ---- fields (section 5.4.3.2; superinterfaces are not searched: own rule)

-- the number, where its class declares such a field
abbrev pub declaring : World → List ℕ → JType → ℕ → Option ℕ
declaring world name type number = option_and_then (λ (c : Class). only_where (list_any (is_field name type) c.fields) number) (slice_get world.classes number)

-- the class that declares the field: the one in which it is sought, or the first of its superclasses that does
abbrev pub field_class : World → ℕ → List ℕ → JType → Option ℕ
field_class world number name type = first_along (declaring world name type) (chain_of world number)

-- whether the slot is that of the field of that name and type which the class declares
abbrev pub is_slot : ℕ → List ℕ → JType → FieldSlot → Bool
is_slot class name type slot = (slot.class.0 == class) && bytes_eq slot.name name && same_type slot.kind type

abbrev pub slot_among : ℕ → List ℕ → JType → List FieldSlot → Option FieldSlot
slot_among class name type [] = None
slot_among class name type (slot ∷ slots) = if is_slot class name type slot then Some slot else slot_among class name type slots

-- the class that declares the field which is sought: none in an array
abbrev pub class_of_field : World → ReferenceKind → ExactType → List ℕ → MemberKind → Option ℕ
class_of_field world references.Field (exact.Class class) name (kinds.Field type) = option_and_then (λ number. field_class world number name type) (number_in world.classes class)
class_of_field world what class name kind = None

-- the slot of the field that the class declares: none where it has no slot
abbrev pub slot_in_class : World → List ℕ → MemberKind → ℕ → Option FieldSlot
slot_in_class world name (kinds.Field type) class = slot_among class name type (slots_of world class)
slot_in_class world name (kinds.Method kind) class = None

abbrev pub class_of_sought : World → Sought → Option ℕ
class_of_sought world sought = class_of_field world sought.what sought.class sought.member.name sought.member.kind

abbrev pub slot_of_sought : World → Sought → Option FieldSlot
slot_of_sought world sought = option_and_then (slot_in_class world sought.member.name sought.member.kind) (class_of_sought world sought)

-- the class that declares the field which a Fieldref entry of a class names
abbrev pub resolved_field_class : World → ℕ → ℕ → Option ℕ
resolved_field_class world class entry = option_and_then (class_of_sought world) (sought_at world class entry)

-- the slot of that field
abbrev pub resolved_field : World → ℕ → ℕ → Option FieldSlot
resolved_field world class entry = option_and_then (slot_of_sought world) (sought_at world class entry)

-- ---- methods (sections 5.4.3.3 and 5.4.3.4)

-- the method of that name and type that the class of a number declares
abbrev pub declares : World → List ℕ → MethodType → ℕ → Option ℕ
declares world name kind number = declared_method world.classes number name kind

-- whether a method is neither private nor static: ACC_PRIVATE and ACC_STATIC (table 4.6-A)
abbrev pub is_open : MethodInfo → Bool
is_open method = bit_and method.access 0x000a == 0

abbrev pub is_open_at : World → ℕ → Bool
is_open_at world number = option_map_or is_open (method_at world number) false

abbrev pub if_open : World → Option ℕ → Option ℕ
if_open world found = option_and_then (λ number. only_where (is_open_at world number) number) found

-- that method, where it is neither private nor static
abbrev pub declares_open : World → List ℕ → MethodType → ℕ → Option ℕ
declares_open world name kind number = if_open world (declares world name kind number)

-- the numbers of the interfaces among these classes, of which the first has that number
abbrev pub interfaces_from : ℕ → List Class → List ℕ
interfaces_from number [] = []
interfaces_from number (class ∷ classes) = if is_interface class then number ∷ interfaces_from (suc number) classes else interfaces_from (suc number) classes

-- the superinterfaces of a class or interface, in the order of the world (which one is taken first is left open by section
-- 5.4.3.3; that order is this project's own)
abbrev pub superinterfaces : World → ℕ → List ℕ
superinterfaces world number = filter (λ above. not (above == number) && is_super world.supers number above) (interfaces_from 0 world.classes)

-- where a method of a class is sought first: in the class and its superclasses, or in the interface and java/lang/Object
abbrev pub first_sought : World → ℕ → Option Class → List ℕ
first_sought world number None = []
first_sought world number (Some class) = if is_interface class then number ∷ numbers_of world.classes (object_name ∷ []) else chain_of world number

-- the method that a name and a type stand for in the class of that number; of a superinterface one that is neither private
-- nor static
abbrev pub resolved_in : World → List ℕ → MethodType → ℕ → Option ℕ
resolved_in world name kind number =
    or_else (first_along (declares world name kind) (first_sought world number (slice_get world.classes number)))
    (first_along (declares_open world name kind) (superinterfaces world number))

-- the method that is sought in a type
abbrev pub method_sought : World → ReferenceKind → ExactType → List ℕ → MemberKind → Option ℕ
method_sought world references.Field class name kind = None
method_sought world what class name (kinds.Field type) = None
method_sought world what class name (kinds.Method kind) = option_and_then (resolved_in world name kind) (class_of world class)

abbrev pub method_of_sought : World → Sought → Option ℕ
method_of_sought world sought = method_sought world sought.what sought.class sought.member.name sought.member.kind

-- the method that a Methodref or InterfaceMethodref entry of a class names
abbrev pub resolved_method : World → ℕ → ℕ → Option ℕ
resolved_method world class entry = option_and_then (method_of_sought world) (sought_at world class entry)

-- ---- selection (section 5.4.6; own rule: private and static methods are passed over)

-- the first method of that name and type from the class upwards that is neither private nor static
abbrev pub selected_for : World → List ℕ → MethodType → ℕ → Option ℕ
selected_for world name kind class = first_along (declares_open world name kind) (chain_of world class)

-- what is called in place of the method where the receiver is of the class
abbrev pub selected : World → ℕ → ℕ → Option ℕ
selected world class method = option_and_then (λ (m : MethodInfo). selected_for world m.name m.kind class) (method_at world method)

-- ---- invokespecial (section 6.5; whatever the flag ACC_SUPER is: own rule)

abbrev pub constructor_name : List ℕ
constructor_name = codes "<init>"

-- the class from which a method is sought upwards: the superclass of the class whose code calls, where a method other than a
-- constructor of any superclass is named; else the named class
abbrev pub special_start : World → ℕ → List ℕ → ℕ → ℕ
special_start world current name named =
    if not (bytes_eq name constructor_name) && list_any (λ above. above == named) (drop 1 (chain_of world current)) then slice_index_or (chain_of world current) 1 named else named

abbrev pub special_for : World → ℕ → List ℕ → MethodType → ℕ → Option ℕ
special_for world current name kind named = first_along (declares world name kind) (chain_of world (special_start world current name named))

abbrev pub special_sought : World → ℕ → ReferenceKind → ExactType → List ℕ → MemberKind → Option ℕ
special_sought world current references.Field class name kind = None
special_sought world current what class name (kinds.Field type) = None
special_sought world current what class name (kinds.Method kind) = option_and_then (special_for world current name kind) (class_of world class)

-- what invokespecial calls, in code of the class `current`
abbrev pub special_of_sought : World → ℕ → Sought → Option ℕ
special_of_sought world current sought = special_sought world current sought.what sought.class sought.member.name sought.member.kind

-- what invokespecial of an entry of a class calls, in code of that class
abbrev pub selected_special : World → ℕ → ℕ → Option ℕ
selected_special world class entry = option_and_then (special_of_sought world class) (sought_at world class entry)
