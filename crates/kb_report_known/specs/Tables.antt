-- Tables of the fields that have slots, class by class.
use Rattle.std.specs.Prelude.{◌≡◌, ◌⊎◌, ℕ, zero, suc, ◌^◌, ◌<◌, ◌≤◌, ◌==◌, ◌&&◌, Bool, nat_lt, List, length, Option, Some, IsSome, unwrap_or, if◌then◌else◌}
use Rattle.std.specs.List.{list_any}
use Rattle.std.specs.Map.{lookup}
use Rattle.std.specs.Str.{bytes_eq}
use Rattle.std.specs.declared.alloc.Global.{Global}
use Rattle.std.specs.declared.vec.Vec.{Vec}
use Rattle.std.specs.BTreeMap.{BTreeMap, get}
use Rattle.std.specs.Ordering.{nat_cmp}
use Rattle.indexmap.specs.IndexMap.{IndexMap}
use Rattle.kb_class.specs.Naming.{Has}
use Rattle.kb_classes.specs.Slots.{slots_of}
use Rattle.kb_classes.specs.World.{World}
use Rattle.kb_classes.specs.declared.slots.FieldSlot.{FieldSlot}
use Rattle.kb_report_text.specs.Slots.{field_text}
use Rattle.kb_report_known.specs.Fields.{field_at, IsFieldAt, IsTextOf}
use Rattle.kb_report_known.specs.declared.fields.FieldAt.{FieldAt}

-- ---- fields by their texts

-- what the table has under the text
abbrev pub find_in : {S : Type 0} → IndexMap (Vec ℕ Global) FieldAt S → List ℕ → Option FieldAt
find_in table text = lookup (λ (key : Vec ℕ Global). bytes_eq text key.items) table.entries

-- a field is added under its text
abbrev pub AddsField : World → FieldSlot → (List ℕ → Option FieldAt) → (List ℕ → Option FieldAt) → Type 0
AddsField world field old new = (text : List ℕ) → new text ≡ (if bytes_eq text (field_text world field) then Some (field_at field) else old text)

-- the same if the class declares it
abbrev pub AddsOwn : World → ℕ → FieldSlot → (List ℕ → Option FieldAt) → (List ℕ → Option FieldAt) → Type 0
AddsOwn world class field old new = (text : List ℕ) → new text ≡ (if (field.class.0 == class) && bytes_eq text (field_text world field) then Some (field_at field) else old text)

-- one of these slots is that field, which the class declares, with this text
pub record IsAdded (world : World) (class : ℕ) (slots : List FieldSlot) (text : List ℕ) (at : FieldAt) : Type 0 where
  pub field : FieldSlot
  pub there : Has slots field
  pub declares : field.class.0 ≡ class
  pub text_is : text ≡ field_text world field
  pub is : at ≡ field_at field

-- Those of the slots that the class declares are added.
pub record AddsFields (world : World) (class : ℕ) (slots : List FieldSlot) (old new : List ℕ → Option FieldAt) : Type 0 where
  pub found : (text : List ℕ) (at : FieldAt) → new text ≡ Some at → (old text ≡ Some at) ⊎ IsAdded world class slots text at
  pub kept : (text : List ℕ) → IsSome (old text) → IsSome (new text)
  pub all : (field : FieldSlot) → Has slots field → field.class.0 ≡ class → IsSome (new (field_text world field))

-- The table has fields of the world by their texts, all that the first so many classes declare among them.
pub record AreFields (world : World) (classes : ℕ) (find : List ℕ → Option FieldAt) : Type 0 where
  pub found : (text : List ℕ) (at : FieldAt) → find text ≡ Some at → IsTextOf world text at
  pub all : (at : FieldAt) (field : FieldSlot) → at.class.0 < classes → IsFieldAt world at field → IsSome (find (field_text world field))

-- ---- the most slots

abbrev pub most_in : BTreeMap ℕ ℕ → ℕ → ℕ
most_in table class = unwrap_or (get nat_cmp table class) 0

abbrev pub greater : ℕ → ℕ → ℕ
greater one other = if nat_lt other one then one else other

-- whether the class declares one of the slots
abbrev pub declares_some : List FieldSlot → ℕ → Bool
declares_some slots class = list_any (λ (slot : FieldSlot). slot.class.0 == class) slots

-- so many slots are noted for a class
abbrev pub NotesOne : ℕ → ℕ → (ℕ → ℕ) → (ℕ → ℕ) → Type 0
NotesOne class count old new = (other : ℕ) → new other ≡ (if class == other then greater count (old other) else old other)

-- so many slots are noted for each class that declares one of these
abbrev pub Notes : List FieldSlot → ℕ → (ℕ → ℕ) → (ℕ → ℕ) → Type 0
Notes slots count old new = (class : ℕ) → new class ≡ (if declares_some slots class then greater count (old class) else old class)

-- the most slots that an object of one of the first so many classes has, if the class declares one of them
abbrev pub most_below : World → ℕ → ℕ → ℕ
most_below world zero class = 0
most_below world (suc number) class =
    if declares_some (slots_of world number) class then greater (length (slots_of world number)) (most_below world number class) else most_below world number class

-- the table has the most slots of the first so many classes
abbrev pub AreMost : World → ℕ → (ℕ → ℕ) → Type 0
AreMost world classes most = (class : ℕ) → most class ≡ most_below world classes class

-- each of the first so many classes has at most as many slots as there are numbers of 32 bits
abbrev pub AreFew : World → ℕ → Type 0
AreFew world classes = (class : ℕ) → class < classes → length (slots_of world class) ≤ 2 ^ 32
