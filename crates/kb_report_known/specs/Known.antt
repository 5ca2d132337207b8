-- What is known of the exact type of an object by its slots that lines name.
use Rattle.std.specs.Prelude.{◌≡◌, ◌↔◌, ℕ, ◌+◌, ◌-◌, ◌^◌, ◌<◌, true, false, Option, Some, None, length}
use Rattle.kb_classes.specs.World.{World}
use Rattle.kb_classes.specs.declared.slots.FieldSlot.{FieldSlot}
use Rattle.kb_names.specs.declared.types.ExactType.{ExactType}
use Rattle.kb_picture.specs.WellFormed.{HasElement, IsLengthOf}
use Rattle.kb_picture.specs.declared.picture.Length.{Length}
use Rattle.kb_report_known.specs.Fields.{has_field_at, IsFieldAt}
use Rattle.kb_report_known.specs.Tables.{most_below}
use Rattle.kb_report_known.specs.declared.known.Known.{Known}
use Rattle.kb_report_known.specs.declared.known.Shape.{Shape}
use Rattle.kb_report_known.specs.declared.known.Shape.TheVariants.{Any, Fields, Elements}

-- ---- types

-- an object of the exact type, with that length, has the slots of which the shape tells
abbrev pub FitsShape : World → ExactType → Length → Shape → Type 0
FitsShape world kind length Any = Unit {0}
FitsShape world kind length (Fields lowest) = has_field_at world kind lowest ≡ true
FitsShape world kind length (Elements greatest) = HasElement length greatest

-- what the shape names is a field of the world, or an index in the range of indices
abbrev pub IsShapeIn : World → Shape → Type 0
IsShapeIn world Any = Unit {0}
IsShapeIn world (Fields lowest) = (field : FieldSlot) × IsFieldAt world lowest field
IsShapeIn world (Elements greatest) = greatest < 2 ^ 32

-- the shape tells of one slot more, which such objects have, or no object has it with the others
abbrev pub IsShapeWith : World → Shape → (ExactType → Length → Type 0) → Option Shape → Type 0
IsShapeWith world before Has (Some after) = (kind : ExactType) (length : Length) → IsLengthOf kind length → FitsShape world kind length after ↔ (FitsShape world kind length before × Has kind length)
IsShapeWith world before Has None = (kind : ExactType) (length : Length) → IsLengthOf kind length → FitsShape world kind length before → Has kind length → ⊥

-- ---- slots

-- how many slots an object has at most: elements have indices of 32 bits
abbrev pub most_slots : World → Shape → ℕ
most_slots world Any = 2 ^ 32
most_slots world (Fields lowest) = most_below world (length world.classes) lowest.class.0
most_slots world (Elements greatest) = 2 ^ 32

-- how many greater objects may still be found in the slots of an object: in those that are locations without a line and, as long
-- as there may be see lines in the world, in those that are not seen
abbrev pub ways_of : Option World → Known → ℕ
ways_of None known = known.waiting
ways_of (Some world) known = known.waiting + (most_slots world known.shape - known.seen)

-- nothing is known
abbrev pub nothing_known : Known
nothing_known = record { shape = Any; seen = 0; waiting = 0; is_found = false }
