-- Tables that answer what definitions search lists for.
use Rattle.std.specs.Prelude.{◌≡◌, ℕ, suc, ◌<◌, ◌^◌, Bool, true, false, ◌==◌, ◌&&◌, not, List, [], ◌∷◌, length, take, reverse, Option, Some, None, slice_get, slice_index_or, if◌then◌else◌}
use Rattle.std.specs.List.{flat_map}
use Rattle.std.specs.Option.{option_and_then, option_map_or}
use Rattle.std.specs.HashMap.{HashMap, get_by}
use Rattle.std.specs.Str.{bytes_eq}
use Rattle.kb_names.specs.declared.types.ExactType.{ExactType}
use Rattle.kb_names.specs.declared.types.MethodType.{MethodType}
use Rattle.kb_class.specs.Class.{Class, Sought}
use Rattle.kb_class.specs.Loading.{SpellsExact, SpellsKind}
use Rattle.kb_class.specs.declared.entries.ReferenceKind.{ReferenceKind}
use Rattle.kb_class.specs.declared.entries.ReferenceKind.TheVariants as references
use Rattle.kb_class.specs.declared.members.FieldInfo.{FieldInfo}
use Rattle.kb_class.specs.declared.members.MemberKind.{MemberKind}
use Rattle.kb_class.specs.declared.members.MemberKind.TheVariants as kinds
use Rattle.kb_class.specs.declared.members.MethodInfo.{MethodInfo}
use Rattle.kb_numbers.specs.declared.pairs.EntryNumbers.{EntryNumbers}
use Rattle.kb_numbers.specs.declared.pairs.Pair.{Pair}
use Rattle.kb_numbers.specs.Members.{MemberNumbers, fields_at}
use Rattle.kb_numbers.specs.declared.numbering.Numbers.{Numbers}
use Rattle.kb_numbers.specs.Numbers.{AreNumbered, HasTextAt, Names, StandsFor as PairStandsFor}
use Rattle.kb_numbers.specs.Pairs.{is_pair, place_told}
use Rattle.kb_classes.specs.declared.slots.FieldSlot.{FieldSlot}
use Rattle.kb_link.specs.Links.{IsLinked}
use Rattle.kb_link.specs.Members.{place_where, same_kind}
use Rattle.kb_classes.specs.Rules.{is_interface}
use Rattle.kb_classes.specs.Slots.{has_slot, slots_of}
use Rattle.kb_classes.specs.Subtypes.{is_super}
use Rattle.kb_classes.specs.World.{World, chain_of, method_at, methods_in}
use Rattle.kb_resolution.specs.LeftOut.{has_left_out}
use Rattle.kb_resolution.specs.Lookup.{is_open, class_number, class_of, class_of_sought, slot_of_sought, method_of_sought, special_of_sought, sought_at, resolved_field, resolved_field_class, resolved_method, selected, selected_for, selected_special, declares_open, only_where, or_else}
use Rattle.kb_resolution.specs.declared.known.Known.{Known}
use Rattle.kb_resolution.specs.declared.methods.Wanted.{Wanted}
use Rattle.kb_resolution.specs.declared.resolved.Resolved.{Resolved}
use Rattle.kb_resolution.specs.declared.selection.Selection.{Selection}
use Rattle.kb_resolution.specs.declared.tables.SlotKey.{SlotKey}

-- whether the number stands at a place
abbrev pub stands_at : List ℕ → ℕ → ℕ → Bool
stands_at chain place number = option_map_or (λ (above : ℕ). above == number) (slice_get chain place) false

-- ---- slots by the pairs of their fields

-- those of these fields that have slots, by the pairs that stand beside them
abbrev pub own_keys : ℕ → List FieldInfo → List Pair → List SlotKey
own_keys class [] pairs = []
own_keys class fields [] = []
own_keys class (field ∷ fields) (pair ∷ pairs) =
    if has_slot field then record { class = class; pair = pair } ∷ own_keys class fields pairs else own_keys class fields pairs

abbrev pub keys_there : ℕ → Option Class → List Pair → List SlotKey
keys_there class None pairs = []
keys_there class (Some of) pairs = own_keys class of.fields pairs

abbrev pub keys_at : List Class → List MemberNumbers → ℕ → List SlotKey
keys_at classes numbers class = keys_there class (slice_get classes class) (fields_at numbers class)

-- those of the slots of the class at the end of a chain of superclasses, in their order
abbrev pub keys_along : List Class → List MemberNumbers → List ℕ → List SlotKey
keys_along classes numbers chain = flat_map (keys_at classes numbers) (reverse chain)

-- whether it is the key of a slot of a field of the pair which the class declares
abbrev pub is_key : ℕ → Pair → SlotKey → Bool
is_key class pair key = (key.class == class) && is_pair key.pair pair

-- the table has of each pair the first slot of a field which the class declares
abbrev pub IsSlotTable : {S : Type 0} → ℕ → List SlotKey → HashMap Pair ℕ S → Type 0
IsSlotTable class keys table = (pair : Pair) → place_told table pair ≡ place_where (is_key class pair) keys

-- that of the class of a number
abbrev pub IsSlotTableOf : {S : Type 0} → World → List MemberNumbers → ℕ → HashMap Pair ℕ S → Type 0
IsSlotTableOf world numbers class table = IsSlotTable class (keys_along world.classes numbers (chain_of world class)) table

-- that of each class, in order
pub record HaveSlotTables {S : Type 0} (world : World) (numbers : List MemberNumbers) (tables : List (HashMap Pair ℕ S)) : Type 0 where
  pub len : length tables ≡ length world.classes
  pub each : (class : ℕ) (table : HashMap Pair ℕ S) → slice_get tables class ≡ Some table → IsSlotTableOf world numbers class table

-- what the tables have for a class and a pair
abbrev pub slot_place : {S : Type 0} → List (HashMap Pair ℕ S) → ℕ → Pair → Option ℕ
slot_place tables class pair = option_and_then (λ table. place_told table pair) (slice_get tables class)

-- ---- methods

-- the pair is that of the name and type of a method that is sought in linked classes
pub record IsSearched (world : World) (numbers : Numbers) (wanted : Wanted) : Type 0 where
  pub linked : IsLinked world
  pub numbered : AreNumbered world.classes numbers
  pub stands : PairStandsFor numbers.texts wanted.pair wanted.name.now (kinds.Method wanted.kind.now)

-- whether the class of a number is an interface, and another class than the first one and above it
abbrev pub is_superinterface : World → ℕ → ℕ → Bool
is_superinterface world low number =
    option_map_or is_interface (slice_get world.classes number) false && (not (number == low) && is_super world.supers low number)

-- the method that such a class declares, where it is neither private nor static
abbrev pub open_if_above : World → ℕ → List ℕ → MethodType → ℕ → Option ℕ
open_if_above world low name kind number = if is_superinterface world low number then declares_open world name kind number else None

-- the type of the method that is sought: none where a field is
abbrev pub method_kind : ReferenceKind → MemberKind → Option MethodType
method_kind references.Field kind = None
method_kind what (kinds.Field type) = None
method_kind what (kinds.Method kind) = Some kind

-- ---- what entries stand for

-- the slot at a place among the slots of the class that declares its field
abbrev pub slot_in : World → Option ℕ → Option ℕ → Option FieldSlot
slot_in world declaring slot = option_and_then (λ class. option_and_then (slice_get (slots_of world class)) slot) declaring

abbrev pub slot_told : World → Resolved → Option FieldSlot
slot_told world told = slot_in world told.declaring told.slot

-- whether a part of the type of the method that is sought is left out: none where a field is
abbrev pub left_out_of : Sought → Bool
left_out_of sought = option_map_or has_left_out (method_kind sought.what sought.member.kind) false

-- the class in which a method is sought: none of an array, and none where a field is sought
abbrev pub owner_of : World → Sought → Option ℕ
owner_of world sought = option_and_then (λ (kind : MethodType). class_number world sought.class) (method_kind sought.what sought.member.kind)

-- the same by the kind of the member that is sought in the type
abbrev pub kind_owner : World → ExactType → MemberKind → Option ℕ
kind_owner world type (kinds.Field of) = None
kind_owner world type (kinds.Method kind) = class_number world type

-- what is sought stands for what is told, in code of that class
pub record StandsFor (world : World) (class : ℕ) (sought : Sought) (told : Resolved) : Type 0 where
  pub is_declaring : told.declaring ≡ class_of_sought world sought
  pub is_slot : slot_told world told ≡ slot_of_sought world sought
  pub is_method : told.method ≡ method_of_sought world sought
  pub is_special : told.special ≡ special_of_sought world class sought
  pub is_left_out : told.left_out ≡ left_out_of sought
  pub is_owner : told.owner ≡ owner_of world sought

-- the entry of the class stands for what is told
pub record IsResolved (world : World) (class entry : ℕ) (told : Resolved) : Type 0 where
  pub is_declaring : told.declaring ≡ resolved_field_class world class entry
  pub is_slot : slot_told world told ≡ resolved_field world class entry
  pub is_method : told.method ≡ resolved_method world class entry
  pub is_special : told.special ≡ selected_special world class entry
  pub is_left_out : told.left_out ≡ option_map_or left_out_of (sought_at world class entry) false
  pub is_owner : told.owner ≡ option_and_then (owner_of world) (sought_at world class entry)

-- nothing is told of an entry that names no member
abbrev pub nothing : Resolved
nothing = record { declaring = None; slot = None; method = None; special = None; left_out = false; owner = None }

-- ---- what is found once

-- what a table has at a number
abbrev pub told_in : {V S : Type 0} → HashMap ℕ V S → ℕ → Option V
told_in table number = get_by (λ (key : ℕ). number == key) table

-- the table has, of texts that name types, the class in which the members of the type are sought
abbrev pub KnowsClasses : {S : Type 0} → World → List (List ℕ) → HashMap ℕ (Option ℕ) S → Type 0
KnowsClasses world texts table =
    (text : ℕ) (told : Option ℕ) → told_in table text ≡ Some told → (type : ExactType) → HasTextAt texts text (SpellsExact type) → told ≡ class_of world type

-- the table has, of texts that are descriptors of methods, whether a part of the type is left out
abbrev pub KnowsLeftOut : {S : Type 0} → List (List ℕ) → HashMap ℕ Bool S → Type 0
KnowsLeftOut texts table =
    (text : ℕ) (told : Bool) → told_in table text ≡ Some told → (kind : MethodType) → HasTextAt texts text (SpellsKind (kinds.Method kind)) → told ≡ has_left_out kind

-- whether an entry of that kind names a member of that kind
abbrev pub is_proper : ReferenceKind → MemberKind → Bool
is_proper references.Field (kinds.Field type) = true
is_proper references.Field (kinds.Method kind) = false
is_proper what (kinds.Field type) = false
is_proper what (kinds.Method kind) = true

-- whether they are the same
abbrev pub is_named : EntryNumbers → EntryNumbers → Bool
is_named one other = (one.class == other.class) && is_pair one.member other.member

-- what a table has for what an entry names
abbrev pub found_in : {S : Type 0} → HashMap EntryNumbers Resolved S → EntryNumbers → Option Resolved
found_in table named = get_by (λ (key : EntryNumbers). is_named named key) table

-- the table has what stands for what an entry names, in code of the class
abbrev pub KnowsMembers : {S : Type 0} → World → ℕ → List (List ℕ) → HashMap EntryNumbers Resolved S → Type 0
KnowsMembers world class texts table =
    (named : EntryNumbers) (told : Resolved) → found_in table named ≡ Some told
    → (sought : Sought) → Names texts named sought → is_proper sought.what sought.member.kind ≡ true → StandsFor world class sought told

-- what is known is so, in code of the class
pub record IsKnown (world : World) (class : ℕ) (texts : List (List ℕ)) (known : Known) : Type 0 where
  pub of_classes : KnowsClasses world texts known.classes
  pub of_types : KnowsLeftOut texts known.left_out
  pub of_members : KnowsMembers world class texts known.members

-- ---- rows

-- the row has what each entry of the class stands for, and nothing behind its end
abbrev pub IsRow : World → ℕ → List Resolved → Type 0
IsRow world class row = (entry : ℕ) → entry < 2 ^ 16 → IsResolved world class entry (slice_index_or row entry nothing)

-- a row of each class, in order
abbrev pub AreRows : World → List (List Resolved) → Type 0
AreRows world rows = (class : ℕ) → class < length world.classes → IsRow world class (slice_index_or rows class [])

-- ---- selection

-- whether a method has the name and the type
abbrev pub is_alike : List ℕ → MethodType → MethodInfo → Bool
is_alike name kind method = bytes_eq method.name name && same_kind method.kind kind

-- The signature of a name and a type: the number of the first method that has them, so that all that have them have one
-- signature, and no others.
abbrev pub signature_of : World → List ℕ → MethodType → Option ℕ
signature_of world name kind = place_where (is_alike name kind) (methods_in world.classes)

-- that of the method of a number
abbrev pub signature_at : World → ℕ → Option ℕ
signature_at world number = option_and_then (λ (m : MethodInfo). signature_of world m.name m.kind) (method_at world number)

-- that of each method, in order
pub record HaveSignatures (world : World) (signatures : List ℕ) : Type 0 where
  pub len : length signatures ≡ length (methods_in world.classes)
  pub each : (number signature : ℕ) → slice_get signatures number ≡ Some signature → Some signature ≡ signature_at world number

-- the number of the first method of a class
abbrev pub first_of : World → ℕ → ℕ
first_of world class = length (methods_in (take class world.classes))

-- that of each class, in order
pub record HaveFirsts (world : World) (firsts : List ℕ) : Type 0 where
  pub len : length firsts ≡ length world.classes
  pub each : (class first : ℕ) → slice_get firsts class ≡ Some first → first ≡ first_of world class

-- whether the method of that number has the signature
abbrev pub has_signature : List ℕ → ℕ → ℕ → Bool
has_signature signatures signature number = option_map_or (λ (other : ℕ). other == signature) (slice_get signatures number) false

-- the first of these methods that is neither private nor static and has the signature, where the first one has that number
abbrev pub open_from : List ℕ → ℕ → ℕ → List MethodInfo → Option ℕ
open_from signatures signature number [] = None
open_from signatures signature number (method ∷ methods) =
    or_else (only_where (is_open method && has_signature signatures signature number) number) (open_from signatures signature (suc number) methods)

-- the table has such a method where it had none before
abbrev pub AddsOpen : List ℕ → ℕ → List MethodInfo → (ℕ → Option ℕ) → (ℕ → Option ℕ) → Type 0
AddsOpen signatures number methods before after = (signature : ℕ) → after signature ≡ or_else (before signature) (open_from signatures signature number methods)

-- the table has the method where it had none of the signature before
abbrev pub AddsFirst : ℕ → ℕ → (ℕ → Option ℕ) → (ℕ → Option ℕ) → Type 0
AddsFirst signature number before after = (other : ℕ) → after other ≡ or_else (before other) (only_where (signature == other) number)

-- the table has what the class declares and is neither private nor static, where it had none of the signature before
abbrev pub AddsClass : World → ℕ → (ℕ → Option ℕ) → (ℕ → Option ℕ) → Type 0
AddsClass world class before after =
    (name : List ℕ) (kind : MethodType) (signature : ℕ) → signature_of world name kind ≡ Some signature → after signature ≡ or_else (before signature) (declares_open world name kind class)

-- what the table of a class has for a signature
abbrev pub selected_in : {S : Type 0} → HashMap ℕ ℕ S → ℕ → Option ℕ
selected_in table signature = get_by (λ (key : ℕ). signature == key) table

-- for each signature the method that is selected in the class
abbrev pub IsSelection : World → ℕ → (ℕ → Option ℕ) → Type 0
IsSelection world class selected = (name : List ℕ) (kind : MethodType) (signature : ℕ) → signature_of world name kind ≡ Some signature → selected signature ≡ selected_for world name kind class

-- that of each class, in order
pub record HaveSelections {S : Type 0} (world : World) (tables : List (HashMap ℕ ℕ S)) : Type 0 where
  pub len : length tables ≡ length world.classes
  pub each : (class : ℕ) (table : HashMap ℕ ℕ S) → slice_get tables class ≡ Some table → IsSelection world class (selected_in table)

-- what the tables have for a class and a method
abbrev pub selected_by : Selection → ℕ → ℕ → Option ℕ
selected_by told class method =
    option_and_then (λ (signature : ℕ). option_and_then (λ table. selected_in table signature) (slice_get told.tables.items class)) (slice_get told.signatures.items method)

-- it is what is selected in the class in place of the method
abbrev pub AreSelected : World → Selection → Type 0
AreSelected world told = (class method : ℕ) → class < length world.classes → method < length (methods_in world.classes) → selected_by told class method ≡ selected world class method
