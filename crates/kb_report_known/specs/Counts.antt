-- The objects that lines name, by their numbers, and the count by which each may still be found. Objects have the numbers below
-- one above the greatest that is named. Each that is not found takes a slot of its own of an argument or of a smaller object, and
-- what may lead to an object may lead to each greater one: so it is enough that up to each object there are as many such slots
-- as objects that want one (Hall, 1935).
use Rattle.std.specs.Prelude.{◌≡◌, ℕ, zero, suc, ◌+◌, ◌-◌, ◌<◌, ◌≤◌, max, Bool, true, false, nat_lt, List, [], Option, Some, None, unwrap_or, if◌then◌else◌}
use Rattle.std.specs.BTreeMap.{insert_entry, is_at}
use Rattle.std.specs.Map.{lookup}
use Rattle.std.specs.Ordering.{nat_cmp}
use Rattle.kb_classes.specs.World.{World}
use Rattle.kb_names.specs.declared.types.ExactType.{ExactType}
use Rattle.kb_picture.specs.declared.picture.Length.{Length}
use Rattle.kb_report_known.specs.Known.{nothing_known, ways_of, IsShapeIn, IsShapeWith}
use Rattle.kb_report_known.specs.declared.known.Known.{Known}
use Rattle.kb_report_known.specs.declared.known.Shape.{Shape}

-- What is known of objects, by rising number; how many there are, how many arguments are not seen, and how many are locations
-- without a line.
pub record NamedObjects : Type 0 where
  pub entries : List (ℕ × Known)
  pub count : ℕ
  pub unseen : ℕ
  pub waiting : ℕ

-- what is known of an object: nothing where nothing is listed
abbrev pub known_of : Option Known → Known
known_of known = unwrap_or known nothing_known

abbrev pub found_among : List (ℕ × Known) → ℕ → Option Known
found_among entries number = lookup (is_at (nat_cmp number)) entries

abbrev pub known_at : NamedObjects → ℕ → Known
known_at objects number = known_of (found_among objects.entries number)

abbrev pub no_objects : ℕ → NamedObjects
no_objects arguments = record { entries = []; count = 0; unseen = arguments; waiting = 0 }

-- ---- what is noted

-- the object is there, and so are all smaller ones
abbrev pub with_object : NamedObjects → ℕ → NamedObjects
with_object objects number = record { entries = objects.entries; count = max objects.count (suc number); unseen = objects.unseen; waiting = objects.waiting }

-- so much is known of an object, which is there
abbrev pub with_known : NamedObjects → ℕ → Known → NamedObjects
with_known objects number known = record {
  entries = insert_entry nat_cmp objects.entries number known;
  count = max objects.count (suc number);
  unseen = objects.unseen;
  waiting = objects.waiting;
}

abbrev pub seen_more : Known → Shape → Known
seen_more known shape = record { shape = shape; seen = suc known.seen; waiting = known.waiting; is_found = known.is_found }

abbrev pub waiting_more : Known → Known
waiting_more known = record { shape = known.shape; seen = known.seen; waiting = suc known.waiting; is_found = known.is_found }

abbrev pub waiting_less : Known → Known
waiting_less known = record { shape = known.shape; seen = known.seen; waiting = known.waiting - 1; is_found = known.is_found }

abbrev pub now_found : Known → Known
now_found known = record { shape = known.shape; seen = known.seen; waiting = known.waiting; is_found = true }

-- whether an object may have one slot more with those that were named before, which it is seen to have then; what is known names
-- what is there where the slot does
abbrev pub SeesSlot : World → (ExactType → Length → Type 0) → Type 0 → ℕ → NamedObjects → NamedObjects → Bool → Type 0
SeesSlot world Has Names number before after true =
    (shape : Shape) × IsShapeWith world (known_at before number).shape Has (Some shape) × (after ≡ with_known before number (seen_more (known_at before number) shape))
    × (Names → IsShapeIn world (known_at before number).shape → IsShapeIn world shape)
SeesSlot world Has Names number before after false = IsShapeWith world (known_at before number).shape Has None

-- an argument is seen
abbrev pub with_argument : NamedObjects → NamedObjects
with_argument objects = record { entries = objects.entries; count = objects.count; unseen = objects.unseen - 1; waiting = objects.waiting }

-- a slot of the holder, an object or else an argument, is a location, which has no line
abbrev pub with_waiting : NamedObjects → Option ℕ → NamedObjects
with_waiting objects None = record { entries = objects.entries; count = objects.count; unseen = objects.unseen; waiting = suc objects.waiting }
with_waiting objects (Some holder) = with_known objects holder (waiting_more (known_at objects holder))

-- and one of its locations has a line
abbrev pub with_line : NamedObjects → Option ℕ → NamedObjects
with_line objects None = record { entries = objects.entries; count = objects.count; unseen = objects.unseen; waiting = objects.waiting - 1 }
with_line objects (Some holder) = with_known objects holder (waiting_less (known_at objects holder))

abbrev pub is_smaller : Option ℕ → ℕ → Bool
is_smaller None number = true
is_smaller (Some holder) number = nat_lt holder number

-- a slot of the holder leads to the object
abbrev pub with_lead : NamedObjects → Option ℕ → ℕ → NamedObjects
with_lead objects holder number = if is_smaller holder number then with_known objects number (now_found (known_at objects number)) else with_object objects number

-- ---- the count

-- how many ways an object wants, found or not
abbrev pub wanted : Bool → ℕ
wanted is_found = if is_found then 0 else 1

-- how many of the first objects are not found
abbrev pub missing_below : (ℕ → Known) → ℕ → ℕ
missing_below known zero = 0
missing_below known (suc number) = missing_below known number + wanted (known number).is_found

-- how many slots of arguments may lead to objects, with so many that wait and so many that are not seen: the latter as long as
-- there may be see lines in the world
abbrev pub argument_ways : Option World → ℕ → ℕ → ℕ
argument_ways None waiting unseen = waiting
argument_ways (Some world) waiting unseen = waiting + unseen

-- the same of arguments and of the first objects
abbrev pub ways_below : Option World → NamedObjects → ℕ → ℕ
ways_below fields objects zero = argument_ways fields objects.waiting objects.unseen
ways_below fields objects (suc number) = ways_below fields objects number + ways_of fields (known_at objects number)

-- up to each object there are as many ways as objects that want one
abbrev pub AreEnough : Option World → NamedObjects → Type 0
AreEnough fields objects = (number : ℕ) → number < objects.count → missing_below (known_at objects) (suc number) ≤ ways_below fields objects number
