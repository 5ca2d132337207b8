-- What see and loc lines say of objects whose lines are still to come: which exact types each may have, and whether each may
-- still be found in a slot of an argument or of a smaller object.
use Rattle.std.specs.Prelude.{◌≡◌, ◌⊎◌, ◌↔◌, ℕ, ◌+◌, ◌<◌, ◌==◌, ◌&&◌, Bool, true, false, List, length, ◌++◌, filter, codes, Option, Some, None, is_none, slice_get}
use Rattle.std.specs.Fmt.{decimal}
use Rattle.kb_class.specs.Naming.{Has}
use Rattle.kb_classes.specs.World.{World}
use Rattle.kb_classes.specs.declared.slots.FieldSlot.{FieldSlot}
use Rattle.kb_names.specs.declared.types.ExactType.{ExactType}
use Rattle.kb_path_words.specs.Ranges.{LengthFits}
use Rattle.kb_picture.specs.WellFormed.{HasSlot, HasElement, IsLengthOf}
use Rattle.kb_picture.specs.declared.picture.Length.{Length}
use Rattle.kb_picture.specs.declared.picture.Origin.{Origin}
use Rattle.kb_picture.specs.declared.picture.Origin.TheVariants.{Arg, Field, Element}
use Rattle.kb_picture.specs.declared.picture.Seen.{Seen}
use Rattle.kb_picture.specs.declared.picture.Seen.TheVariants as seens
use Rattle.kb_picture.specs.declared.picture.Standing.{Standing}
use Rattle.kb_picture.specs.declared.picture.Standing.TheVariants as standings
use Rattle.kb_report_text.specs.Slots.{field_text, field_of_type}
use Rattle.kb_report_known.specs.Counts.{NamedObjects, known_at}
use Rattle.kb_report_known.specs.Known.{FitsShape, IsShapeIn}

-- ---- slots by their texts

-- a slot that is seen, with its text and what it holds
pub record SeenSlot : Type 0 where
  pub slot : Origin
  pub text : List ℕ
  pub held : Seen

-- the object that has the slot; none of an argument
abbrev pub holder_of : Origin → Option ℕ
holder_of (Arg number) = None
holder_of (Field object slot) = Some object
holder_of (Element array index) = Some array

-- the text of that field of an object
abbrev pub field_slot_text : World → ℕ → FieldSlot → List ℕ
field_slot_text world object field = codes "o" ++ (decimal object ++ (codes "." ++ field_text world field))

-- an object of the exact type and that length has the slot, and it has that text there
abbrev pub IsSlotWith : World → ExactType → Length → Origin → List ℕ → Type 0
IsSlotWith world kind length (Arg number) text = Unit {0}
IsSlotWith world kind length (Field object slot) text = (field : FieldSlot) × (field_of_type world slot kind ≡ Some field) × (text ≡ field_slot_text world object field)
IsSlotWith world kind length (Element array index) text = HasElement length index

-- an object of that number may be of the exact type and have that length: it has all its slots that are seen
pub record MayBe (world : World) (seen : List SeenSlot) (number : ℕ) (kind : ExactType) (length : Length) : Type 0 where
  pub length_of : IsLengthOf kind length
  pub range : LengthFits length
  pub slots : (slot : SeenSlot) → Has seen slot → holder_of slot.slot ≡ Some number → IsSlotWith world kind length slot.slot slot.text

-- ---- objects that are found

-- the holder is an argument or a smaller object
abbrev pub IsSmaller : Option ℕ → ℕ → Type 0
IsSmaller None number = Unit {0}
IsSmaller (Some holder) number = holder < number

-- what is seen is the object, or a location that stands for it
abbrev pub Holds : List Standing → Seen → ℕ → Type 0
Holds standing (seens.Obj object) number = object ≡ number
Holds standing (seens.Loc location) number = slice_get standing location ≡ Some (standings.Obj number)
Holds standing (seens.Int variable) number = ⊥
Holds standing seens.Null number = ⊥
Holds standing seens.Beyond number = ⊥

pub record IsFound (seen : List SeenSlot) (standing : List Standing) (number : ℕ) : Type 0 where
  pub slot : SeenSlot
  pub is_seen : Has seen slot
  pub smaller : IsSmaller (holder_of slot.slot) number
  pub holds : Holds standing slot.held number

-- ---- and those that may still be found

-- a location that has no line yet
pub record IsWaiting (seen : List SeenSlot) (standing : List Standing) (slot : Origin) : Type 0 where
  pub text : List ℕ
  pub location : ℕ
  pub is_seen : Has seen (record { slot = slot; text = text; held = seens.Loc location })
  pub waits : slice_get standing location ≡ None

abbrev pub IsNotSeen : List SeenSlot → Origin → Type 0
IsNotSeen seen slot = (other : SeenSlot) → Has seen other → other.slot ≡ slot → ⊥

-- the slot is that of an argument, of so many, or of an object with such types and lengths
abbrev pub IsThere : World → ℕ → (ℕ → ExactType) → (ℕ → Length) → Origin → Type 0
IsThere world params kinds lengths (Arg number) = number < params
IsThere world params kinds lengths (Field object slot) = HasSlot world (kinds object) slot
IsThere world params kinds lengths (Element array index) = HasElement (lengths array) index

-- Types and lengths of so many objects, and for each that is not found a slot of its own of an argument or of a smaller object
-- which may still lead to it: a location without a line, or, as long as there may be see lines, a slot that is not seen.
pub record MayBeFound (world : World) (params : ℕ) (open_lines : Type 0) (seen : List SeenSlot) (standing : List Standing) (count : ℕ) : Type 0 where
  pub kinds : ℕ → ExactType
  pub lengths : ℕ → Length
  pub may_be : (number : ℕ) → number < count → MayBe world seen number (kinds number) (lengths number)
  pub way : ℕ → Origin
  pub smaller : (number : ℕ) → number < count → (IsFound seen standing number → ⊥) → IsSmaller (holder_of (way number)) number
  pub leads : (number : ℕ) → number < count → (IsFound seen standing number → ⊥)
      → IsWaiting seen standing (way number) ⊎ (open_lines × IsThere world params kinds lengths (way number) × IsNotSeen seen (way number))
  pub apart : (one other : ℕ) → one < count → other < count → (IsFound seen standing one → ⊥) → (IsFound seen standing other → ⊥) → way one ≡ way other → one ≡ other

-- ---- what is known

-- whether both are arguments, or slots of one object
abbrev pub same_holder : Option ℕ → Option ℕ → Bool
same_holder None None = true
same_holder None (Some other) = false
same_holder (Some one) None = false
same_holder (Some one) (Some other) = one == other

-- whether the slot is one of the holder's
abbrev pub is_held_by : Option ℕ → SeenSlot → Bool
is_held_by holder slot = same_holder (holder_of slot.slot) holder

-- whether what is seen is a location that has no line yet
abbrev pub is_waiting : List Standing → Seen → Bool
is_waiting standing (seens.Loc location) = is_none (slice_get standing location)
is_waiting standing (seens.Int variable) = false
is_waiting standing (seens.Obj object) = false
is_waiting standing seens.Null = false
is_waiting standing seens.Beyond = false

-- whether the slot is such a location of the holder's
abbrev pub waits_in : List Standing → Option ℕ → SeenSlot → Bool
waits_in standing holder slot = is_held_by holder slot && is_waiting standing slot.held

-- What is noted of objects and of so many arguments is what these slots and these locations' lines say of them.
pub record Knows (world : World) (params : ℕ) (seen : List SeenSlot) (standing : List Standing) (objects : NamedObjects) : Type 0 where
  -- no slot is seen twice, and an argument is there
  pub once : (i j : ℕ) (one other : SeenSlot) → slice_get seen i ≡ Some one → slice_get seen j ≡ Some other → one.slot ≡ other.slot → i ≡ j
  pub arguments : (slot : SeenSlot) (number : ℕ) → Has seen slot → slot.slot ≡ Arg number → number < params
  -- a shape tells of the slots of its object that are seen, and of no others
  pub shapes : (number : ℕ) (kind : ExactType) (length : Length) → IsLengthOf kind length
      → FitsShape world kind length (known_at objects number).shape ↔ ((slot : SeenSlot) → Has seen slot → holder_of slot.slot ≡ Some number → IsSlotWith world kind length slot.slot slot.text)
  pub theirs : (number : ℕ) → IsShapeIn world (known_at objects number).shape
  -- the counts
  pub seen_are : (number : ℕ) → (known_at objects number).seen ≡ length (filter (is_held_by (Some number)) seen)
  pub waiting_are : (number : ℕ) → (known_at objects number).waiting ≡ length (filter (waits_in standing (Some number)) seen)
  pub arguments_seen : objects.unseen + length (filter (is_held_by None) seen) ≡ params
  pub arguments_waiting : objects.waiting ≡ length (filter (waits_in standing None) seen)
  -- which objects are found, and that those are there which are named
  pub found : (number : ℕ) → ((known_at objects number).is_found ≡ true) ↔ IsFound seen standing number
  pub holders : (slot : SeenSlot) (number : ℕ) → Has seen slot → holder_of slot.slot ≡ Some number → number < objects.count
  pub helds : (slot : SeenSlot) (number : ℕ) → Has seen slot → Holds standing slot.held number → number < objects.count
