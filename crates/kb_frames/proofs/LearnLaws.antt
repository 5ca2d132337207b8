-- A state that learns of a slot what it has held since the start of the run stands for the same heap, and for the same slots
-- that the run has written; so does one that finds a new object, of which it knows nothing yet.
use Rattle.std.proofs.Common.{◌≡◌, ℕ, ◌+◌, ◌<◌, ◌⊎◌, inl, inr, List, drop, map, slice_get, Some, sym, ap, subst, ◌∙◌, option_and_then, arith}
use Rattle.kb_heap.specs.declared.heap.Heap.{Heap}
use Rattle.kb_heap.specs.declared.heap.Object.{Object}
use Rattle.kb_heap.specs.Heap.{value_at}
use Rattle.kb_classes.specs.World.{World}
use Rattle.kb_semantics.specs.Looks.{Slot}
use Rattle.kb_picture.specs.Endings.{Reading}
use Rattle.kb_picture.specs.Shapes.{IsNoPlace}
use Rattle.kb_picture.proofs.GrownShapes.{at_no_place}
use Rattle.kb_frames.specs.declared.state.SymObject.{SymObject}
use Rattle.kb_frames.specs.declared.value.Cell.{Cell}
use Rattle.kb_frames.specs.declared.value.Cell.TheVariants.{Untouched, Read, Written}
use Rattle.kb_frames.specs.declared.value.SymValue.{SymValue}
use Rattle.kb_frames.specs.StandsFor.{HeapStandsFor, IsKept, made_at, present_value, value_of_sym}
use Rattle.kb_frames.specs.State.{State, cell_at}
use Rattle.kb_frames.specs.States.{AreCells, Each, IsMade}
use Rattle.kb_frames.proofs.MoreLaws.{cells_sound}
use Rattle.kb_frames.proofs.AlikeLaws.{AreAlike, cell_alike, objects_alike}

-- ---- one slot of an object of the picture, which lies at the place

-- the cell says of it what it said
pub record StaysSo (r : Reading) (cells now : List (List Cell)) (object slot place : ℕ) : Type 0 where
  pub known : slice_get r.places.objects object ≡ Some place
  pub same : cell_at now object slot ≡ cell_at cells object slot

-- nothing was known of it, and now what it held at the start
pub record IsTold (r later : Reading) (cells now : List (List Cell)) (first : Heap) (object slot place : ℕ) : Type 0 where
  pub known : slice_get r.places.objects object ≡ Some place
  pub untouched : cell_at cells object slot ≡ Untouched
  pub value : SymValue
  pub told : cell_at now object slot ≡ Read value
  pub held : value_at first place slot ≡ Some (value_of_sym later value)

-- the object is a new one of the picture, and nothing is known of it
pub record IsNewlyFound (r : Reading) (now : List (List Cell)) (object slot place : ℕ) : Type 0 where
  pub inside : place < r.inputs
  pub elsewhere : IsNoPlace r.places.objects place
  pub untouched : cell_at now object slot ≡ Untouched

abbrev pub IsLearned : Reading → Reading → List (List Cell) → List (List Cell) → Heap → ℕ → ℕ → ℕ → Type 0
IsLearned r later cells now first object slot place =
    StaysSo r cells now object slot place ⊎ (IsTold r later cells now first object slot place ⊎ IsNewlyFound r now object slot place)

-- ---- all of them

-- The later reading has all places of the earlier one, and gives the values the same value; the cells are now as it knows.
pub record Learns (world : World) (old : State) (r later : Reading) (now : List (List Cell)) (first : Heap) : Type 0 where
  pub inputs : later.inputs ≡ r.inputs
  pub literals : later.literals ≡ r.literals
  pub alike : AreAlike world old r later
  pub places : (object place : ℕ) → slice_get r.places.objects object ≡ Some place → slice_get later.places.objects object ≡ Some place
  pub elsewhere : (place : ℕ) → IsNoPlace later.places.objects place → IsNoPlace r.places.objects place
  pub slots : (object slot place : ℕ) → slice_get later.places.objects object ≡ Some place → IsLearned r later old.cells now first object slot place

module _ (world : World) (old new : State) (r later : Reading) (first : Heap) (learns : Learns world old r later new.cells first) where
  module _ (heap : Heap) (sound : AreCells world old) (made : Each (IsMade world old) old.made) (same_made : new.made ≡ old.made) (stands : HeapStandsFor r old first heap) where
    -- what nothing was known of holds what it held at the start
    told_first : (object slot place : ℕ) → IsTold r later old.cells new.cells first object slot place → value_at heap place slot ≡ value_at first place slot
    told_first object slot place told = stands.cells object slot place told.known ∙ ap (present_value r (value_at first place slot)) told.untouched

    found_first : (object slot place : ℕ) → IsNewlyFound r new.cells object slot place → value_at heap place slot ≡ value_at first place slot
    found_first object slot place found =
        let inside : place < r.inputs + r.literals = omega (arith, found.inside) in
        ap (option_and_then (λ (of : Object). slice_get of.values slot)) (stands.others place inside found.elsewhere)

    cell : (object slot place : ℕ) → IsLearned r later old.cells new.cells first object slot place
        → value_at heap place slot ≡ present_value later (value_at first place slot) (cell_at new.cells object slot)
    cell object slot place (inl same) =
        stands.cells object slot place same.known
        ∙ sym (cell_alike world old r later learns.alike (value_at first place slot) (cell_at old.cells object slot) (cells_sound world old object slot sound))
        ∙ ap (present_value later (value_at first place slot)) (sym same.same)
    cell object slot place (inr (inl told)) = told_first object slot place told ∙ told.held ∙ ap (present_value later (value_at first place slot)) (sym told.told)
    cell object slot place (inr (inr found)) = found_first object slot place found ∙ ap (present_value later (value_at first place slot)) (sym found.untouched)

    kept : (object slot place : ℕ) (value : SymValue) → cell_at new.cells object slot ≡ Read value → IsLearned r later old.cells new.cells first object slot place
        → value_at heap place slot ≡ value_at first place slot
    kept object slot place value read (inl same) = stands.kept object slot place value same.known (sym same.same ∙ read)
    kept object slot place value read (inr (inl told)) = told_first object slot place told
    kept object slot place value read (inr (inr found)) = found_first object slot place found

    pub heap_learns : HeapStandsFor later new first heap
    heap_learns = record {
      made =
          ap (λ (i : ℕ). drop (i + later.literals) heap.objects) learns.inputs ∙ ap (λ (l : ℕ). drop (r.inputs + l) heap.objects) learns.literals ∙ stands.made
          ∙ sym (objects_alike world old r later learns.alike old.made made) ∙ ap (λ (ms : List SymObject). map (made_at later) ms) (sym same_made);
      like = λ object inside. stands.like object (subst (λ (i : ℕ). object < i) learns.inputs inside);
      cells = λ object slot place at. cell object slot place (learns.slots object slot place at);
      kept = λ object slot place value at read. kept object slot place value read (learns.slots object slot place at);
      others = λ object inside none.
          stands.others object (subst (λ (i : ℕ). object < i + r.literals) learns.inputs (subst (λ (l : ℕ). object < later.inputs + l) learns.literals inside))
          (learns.elsewhere object none);
    }

  -- ---- what the run has written

  pub written_more : (slot : Slot) → IsKept r old slot → IsKept later new slot
  written_more slot k = go (learns.places k.object slot.object k.place) (learns.slots k.object slot.slot slot.object (learns.places k.object slot.object k.place)) where
    go : slice_get later.places.objects k.object ≡ Some slot.object → IsLearned r later old.cells new.cells first k.object slot.slot slot.object → IsKept later new slot
    go at (inl same) = record { object = k.object; place = at; value = k.value; cell = same.same ∙ k.cell }
    go at (inr (inl told)) = (let both : Untouched ≡ Written k.value = sym told.untouched ∙ k.cell in absurd cc)
    go at (inr (inr found)) = absurd (at_no_place r.places.objects slot.object k.object found.elsewhere k.place)

  pub written_back : (slot : Slot) → IsKept later new slot → IsKept r old slot
  written_back slot k = go (learns.slots k.object slot.slot slot.object k.place) where
    go : IsLearned r later old.cells new.cells first k.object slot.slot slot.object → IsKept r old slot
    go (inl same) = record { object = k.object; place = same.known; value = k.value; cell = sym same.same ∙ k.cell }
    go (inr (inl told)) = (let both : Read told.value ≡ Written k.value = sym told.told ∙ k.cell in absurd cc)
    go (inr (inr found)) = (let both : Untouched ≡ Written k.value = sym found.untouched ∙ k.cell in absurd cc)
