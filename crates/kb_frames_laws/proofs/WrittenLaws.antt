-- The writes that a state states are those of its written cells, by rising object and slot.
use Rattle.std.proofs.Common.{◌≡◌, ◌≢◌, inl, inr, ℕ, zero, suc, ◌+◌, ◌<◌, List, [], ◌∷◌, ◌++◌, length, Option, Some, None, slice_get, slice_index_or, refl, sym, ap, ◌∙◌, subst, arith}
use Rattle.std.proofs.lemmas.Option.{get_or_from_slice_get, slice_get_within}
use Rattle.kb_class.specs.Naming.{Has}
use Rattle.kb_class.proofs.Lists.{has_cases, has_either, has_first, has_later, has_left, has_mapped, has_none, has_right}
use Rattle.kb_classes.specs.World.{World}
use Rattle.kb_names.specs.declared.types.ExactType.{ExactType}
use Rattle.kb_names.specs.declared.types.ExactType.TheVariants as exact
use Rattle.kb_semantics.specs.Values.{slots_of_class}
use Rattle.kb_picture.specs.declared.path.Write.{Write}
use Rattle.kb_picture.specs.declared.picture.Length.{Length}
use Rattle.kb_picture.specs.declared.picture.Length.TheVariants.{Plain, Is, Above}
use Rattle.kb_picture.specs.declared.picture.PicLoc.{PicLoc}
use Rattle.kb_picture.specs.declared.picture.PicObject.{PicObject}
use Rattle.kb_picture.specs.WellFormed.{AreWrites, ComesBefore, HasElement, HasSlot, IsSlot, IsSlotBefore, written_slot, written_slots}
use Rattle.kb_frames.specs.declared.value.Cell.{Cell}
use Rattle.kb_frames.specs.declared.value.Cell.TheVariants.{Untouched, Read, Written}
use Rattle.kb_frames.specs.declared.value.SymValue.{SymValue}
use Rattle.kb_frames.specs.State.{State, cell_at}
use Rattle.kb_stated.specs.Stated.{object_writes, slot_in, slot_writes, stated, writes_from, writes_of}
use Rattle.kb_frames.specs.States.{AreCells, HasCells, IsSymValue}

-- the write of a slot of an object of the exact type
abbrev pub write_at : List PicLoc → ExactType → ℕ → ℕ → SymValue → Write
write_at locs kind object slot value = record { slot = slot_in kind object slot; value = stated locs value }

abbrev slot_pair : ℕ → ℕ → Option (ℕ × ℕ)
slot_pair object slot = Some (object, slot)

pub slot_named : (kind : ExactType) (object slot : ℕ) → written_slot (slot_in kind object slot) ≡ slot_pair object slot
slot_named (exact.Class name) object slot = refl
slot_named (exact.Array component) object slot = refl

-- ---- the order of writes

abbrev IsBefore : Write → Write → Type 0
IsBefore one other = ComesBefore (written_slot one.slot) (written_slot other.slot)

-- each write comes before all that follow it
abbrev Rises : List Write → Type 0
Rises [] = Unit {0}
Rises (write ∷ writes) = ((other : Write) → Has writes other → IsBefore write other) × Rises writes

before_by : (one other : Write) (object slot number place : ℕ) → written_slot one.slot ≡ slot_pair object slot
    → written_slot other.slot ≡ slot_pair number place
    → IsSlotBefore (object, slot) (number, place) → IsBefore one other
before_by one other object slot number place e f before =
    subst (λ (x : Option (ℕ × ℕ)). ComesBefore x (written_slot other.slot)) (sym e)
    (subst (λ (y : Option (ℕ × ℕ)). ComesBefore (slot_pair object slot) y) (sym f) before)

rises_append : (xs ys : List Write) → Rises xs → Rises ys
    → ((one other : Write) → Has xs one → Has ys other → IsBefore one other) → Rises (xs ++ ys)
rises_append [] ys rising more between = more
rises_append (x ∷ xs) ys rising more between = (
  λ other has. elim (has_either xs ys other has) [ inl h ↦ rising.0 other h | inr h ↦ between x other (has_first x xs) h ],
  rises_append xs ys rising.1 more (λ one other a b. between one other (has_later x one xs a) b),
)

next_before : (writes : List Write) → Rises writes → (i : ℕ) (one other : Option (ℕ × ℕ))
    → slice_get (written_slots writes) i ≡ Some one
    → slice_get (written_slots writes) (suc i) ≡ Some other → ComesBefore one other
next_before [] rising i one other e f = absurd cc
next_before (write ∷ writes) rising zero one other e f =
    let first : written_slot write.slot ≡ one = cc in
    let found = has_mapped (λ (w : Write). written_slot w.slot) writes other (0, f) in
    subst (λ (x : Option (ℕ × ℕ)). ComesBefore x other) first
    (subst (λ (y : Option (ℕ × ℕ)). ComesBefore (written_slot write.slot) y) found.2 (rising.0 found.0 found.1))
next_before (write ∷ writes) rising (suc i) one other e f = next_before writes rising.1 i one other e f

-- ---- which they are

module _ (locs : List PicLoc) where
  -- those of one object

  -- the write is that of a written cell, of the slot of that number, where `from` is the number of the first one
  record IsOfCell (kind : ExactType) (object from : ℕ) (cells : List Cell) (write : Write) : Type 0 where
    place : ℕ
    slot : ℕ
    slot_is : slot ≡ from + place
    value : SymValue
    cell : slice_get cells place ≡ Some (Written value)
    write_is : write ≡ write_at locs kind object slot value

  one_on : (kind : ExactType) (object from : ℕ) (cell : Cell) (cells : List Cell) (write : Write)
      → IsOfCell kind object (from + 1) cells write
      → IsOfCell kind object from (cell ∷ cells) write
  one_on kind object from cell cells write is =
      record { place = suc is.place; slot = is.slot; slot_is = omega (arith, is.slot_is); value = is.value; cell = is.cell; write_is = is.write_is }

  of_cell : (kind : ExactType) (object from : ℕ) (cells : List Cell) (write : Write)
      → Has (slot_writes locs kind object from cells) write → IsOfCell kind object from cells write
  of_cell kind object from [] write has = absurd (has_none write has)
  of_cell kind object from (Written value ∷ cells) write has =
      elim (has_cases (write_at locs kind object from value) write (slot_writes locs kind object (from + 1) cells) has) [
        | inl same ↦ record { place = 0; slot = from; slot_is = omega arith; value = value; cell = refl; write_is = sym same }
        | inr later ↦ one_on kind object from (Written value) cells write (of_cell kind object (from + 1) cells write later)
      ]
  of_cell kind object from (Read value ∷ cells) write has =
      one_on kind object from (Read value) cells write (of_cell kind object (from + 1) cells write has)
  of_cell kind object from (Untouched ∷ cells) write has =
      one_on kind object from Untouched cells write (of_cell kind object (from + 1) cells write has)

  slot_later : (kind : ExactType) (object from : ℕ) (cell : Cell) (cells : List Cell) (write : Write)
      → Has (slot_writes locs kind object (from + 1) cells) write
      → Has (slot_writes locs kind object from (cell ∷ cells)) write
  slot_later kind object from (Written value) cells write has =
      has_later (write_at locs kind object from value) write (slot_writes locs kind object (from + 1) cells) has
  slot_later kind object from (Read value) cells write has = has
  slot_later kind object from Untouched cells write has = has

  -- each written cell has its write
  has_cell : (kind : ExactType) (object from : ℕ) (cells : List Cell) (place slot : ℕ) (value : SymValue) → slot ≡ from + place
      → slice_get cells place ≡ Some (Written value)
      → Has (slot_writes locs kind object from cells) (write_at locs kind object slot value)
  has_cell kind object from [] place slot value is e = absurd cc
  has_cell kind object from (cell ∷ cells) zero slot value is e =
      let same : cell ≡ Written value = cc in
      let at : slot ≡ from = omega (arith, is) in
      subst (λ (it : Cell). Has (slot_writes locs kind object from (it ∷ cells)) (write_at locs kind object slot value))
      (sym same)
      (subst (λ (n : ℕ). Has (slot_writes locs kind object from (Written value ∷ cells)) (write_at locs kind object n value)) (sym at)
      (has_first (write_at locs kind object from value) (slot_writes locs kind object (from + 1) cells)))
  has_cell kind object from (cell ∷ cells) (suc place) slot value is e =
      slot_later kind object from cell cells (write_at locs kind object slot value)
      (has_cell kind object (from + 1) cells place slot value (omega (arith, is)) e)

  -- those of all objects

  module _ (objects : List PicObject) where
    record IsOfObject (from : ℕ) (cells : List (List Cell)) (write : Write) : Type 0 where
      place : ℕ
      number : ℕ
      number_is : number ≡ from + place
      object : PicObject
      there : slice_get objects number ≡ Some object
      slots : List Cell
      row : slice_get cells place ≡ Some slots
      cell : IsOfCell object.kind number 0 slots write

    of_object : (from : ℕ) (cells : List (List Cell)) (write : Write) → Has (writes_from locs objects from cells) write
        → IsOfObject from cells write
    of_object from [] write has = absurd (has_none write has)
    of_object from (slots ∷ cells) write has =
        elim (has_either (object_writes locs (slice_get objects from) from slots) (writes_from locs objects (from + 1) cells) write has) [
          | inl here ↦ at (slice_get objects from) refl here
          | inr later ↦ next (of_object (from + 1) cells write later)
        ]
      where
        at : (it : Option PicObject) → slice_get objects from ≡ it → Has (object_writes locs it from slots) write
            → IsOfObject from (slots ∷ cells) write
        at None e here = absurd (has_none write here)
        at (Some object) e here =
            record {
              place = 0;
              number = from;
              number_is = omega arith;
              object = object;
              there = e;
              slots = slots;
              row = refl;
              cell = of_cell object.kind from 0 slots write here;
            }

        next : IsOfObject (from + 1) cells write → IsOfObject from (slots ∷ cells) write
        next is = record {
          place = suc is.place;
          number = is.number;
          number_is = omega (arith, is.number_is);
          object = is.object;
          there = is.there;
          slots = is.slots;
          row = is.row;
          cell = is.cell;
        }

    has_object : (from : ℕ) (cells : List (List Cell)) (place number : ℕ) (object : PicObject) (slots : List Cell) (slot : ℕ)
        (value : SymValue) → number ≡ from + place
        → slice_get objects number ≡ Some object → slice_get cells place ≡ Some slots
        → slice_get slots slot ≡ Some (Written value)
        → Has (writes_from locs objects from cells) (write_at locs object.kind number slot value)
    has_object from [] place number object slots slot value is there row e = absurd cc
    has_object from (first ∷ cells) zero number object slots slot value is there row e =
        let same : first ≡ slots = cc in
        let at : number ≡ from = omega (arith, is) in
        let here : Has (object_writes locs (slice_get objects from) from first) (write_at locs object.kind number slot value) =
        subst (λ (n : ℕ). Has (object_writes locs (slice_get objects n) n first) (write_at locs object.kind number slot value)) at
        (subst (λ (o : Option PicObject). Has (object_writes locs o number first) (write_at locs object.kind number slot value)) (sym there)
        (subst (λ (l : List Cell). Has (slot_writes locs object.kind number 0 l) (write_at locs object.kind number slot value)) (sym same)
        (has_cell object.kind number 0 slots slot slot value (omega arith) e))) in
        has_left (object_writes locs (slice_get objects from) from first) (writes_from locs objects (from + 1) cells)
        (write_at locs object.kind number slot value) here
    has_object from (first ∷ cells) (suc place) number object slots slot value is there row e =
        has_right (object_writes locs (slice_get objects from) from first) (writes_from locs objects (from + 1) cells)
        (write_at locs object.kind number slot value)
        (has_object (from + 1) cells place number object slots slot value (omega (arith, is)) there row e)

  -- they rise

  slot_rises : (kind : ExactType) (object from : ℕ) (cells : List Cell) → Rises (slot_writes locs kind object from cells)
  slot_rises kind object from [] = tt
  slot_rises kind object from (Written value ∷ cells) = (
    λ other has.
        let is = of_cell kind object (from + 1) cells other has in
        let less : from < is.slot = omega (arith, is.slot_is) in
        before_by (write_at locs kind object from value) other object from object is.slot (slot_named kind object from)
        (ap (λ (w : Write). written_slot w.slot) is.write_is ∙ slot_named kind object is.slot) (inr (refl, less)),
    slot_rises kind object (from + 1) cells,
  )
  slot_rises kind object from (Read value ∷ cells) = slot_rises kind object (from + 1) cells
  slot_rises kind object from (Untouched ∷ cells) = slot_rises kind object (from + 1) cells

  object_rises : (it : Option PicObject) (number : ℕ) (cells : List Cell) → Rises (object_writes locs it number cells)
  object_rises None number cells = tt
  object_rises (Some object) number cells = slot_rises object.kind number 0 cells

  object_named : (it : Option PicObject) (number : ℕ) (cells : List Cell) (write : Write)
      → Has (object_writes locs it number cells) write
      → (slot : ℕ) × (written_slot write.slot ≡ slot_pair number slot)
  object_named None number cells write has = absurd (has_none write has)
  object_named (Some object) number cells write has =
      let is = of_cell object.kind number 0 cells write has in
      (is.slot, ap (λ (w : Write). written_slot w.slot) is.write_is ∙ slot_named object.kind number is.slot)

  all_rise : (objects : List PicObject) (from : ℕ) (cells : List (List Cell)) → Rises (writes_from locs objects from cells)
  all_rise objects from [] = tt
  all_rise objects from (slots ∷ cells) =
      rises_append (object_writes locs (slice_get objects from) from slots) (writes_from locs objects (from + 1) cells)
      (object_rises (slice_get objects from) from slots)
      (all_rise objects (from + 1) cells) between
    where
      between : (one other : Write) → Has (object_writes locs (slice_get objects from) from slots) one
          → Has (writes_from locs objects (from + 1) cells) other → IsBefore one other
      between one other a b =
          let first = object_named (slice_get objects from) from slots one a in
          let is = of_object objects (from + 1) cells other b in
          let less : from < is.number = omega (arith, is.number_is) in
          before_by one other from first.0 is.number is.cell.slot first.1
          (ap (λ (w : Write). written_slot w.slot) is.cell.write_is ∙ slot_named is.object.kind is.number is.cell.slot)
          (inl less)

-- ---- cells

pub cell_is : (cells : List (List Cell)) (number slot : ℕ) (slots : List Cell) (cell : Cell)
    → slice_get cells number ≡ Some slots → slice_get slots slot ≡ Some cell
    → cell_at cells number slot ≡ cell
cell_is cells number slot slots cell row at =
    ap (λ (l : List Cell). slice_index_or l slot Untouched) (get_or_from_slice_get cells number slots [] row)
    ∙ get_or_from_slice_get slots slot cell Untouched at

slot_there : (slots : List Cell) (slot : ℕ) (value : SymValue) → slice_index_or slots slot Untouched ≡ Written value
    → slice_get slots slot ≡ Some (Written value)
slot_there [] zero value e = absurd cc
slot_there [] (suc slot) value e = absurd cc
slot_there (cell ∷ slots) zero value e = ap (λ (c : Cell). Some c) e
slot_there (cell ∷ slots) (suc slot) value e = slot_there slots slot value e

-- a written cell is there
pub cell_there : (cells : List (List Cell)) (number slot : ℕ) (value : SymValue) → cell_at cells number slot ≡ Written value
    → (slots : List Cell) × (slice_get cells number ≡ Some slots) × (slice_get slots slot ≡ Some (Written value))
cell_there [] zero slot value e = let none : slice_get [] slot ≡ Some (Written value) = slot_there [] slot value e in absurd cc
cell_there [] (suc number) slot value e =
    let none : slice_get [] slot ≡ Some (Written value) = slot_there [] slot value e in absurd cc
cell_there (slots ∷ cells) zero slot value e = (slots, refl, slot_there slots slot value e)
cell_there (slots ∷ cells) (suc number) slot value e = cell_there cells number slot value e

-- ---- the writes of a state

-- the write is that of a written cell of the state
pub record IsOfWritten (state : State) (write : Write) : Type 0 where
  pub number : ℕ
  pub object : PicObject
  pub there : slice_get state.picture.objects number ≡ Some object
  pub slots : List Cell
  pub row : slice_get state.cells number ≡ Some slots
  pub slot : ℕ
  pub value : SymValue
  pub cell : slice_get slots slot ≡ Some (Written value)
  pub write_is : write ≡ write_at state.picture.locs object.kind number slot value

pub of_written : (state : State) (write : Write) → Has (writes_of state) write → IsOfWritten state write
of_written state write has =
    let is = of_object state.picture.locs state.picture.objects 0 state.cells write has in
    let number : is.place ≡ is.number = omega (arith, is.number_is) in
    let slot : is.cell.place ≡ is.cell.slot = omega (arith, is.cell.slot_is) in
    record {
      number = is.number;
      object = is.object;
      there = is.there;
      slots = is.slots;
      row = subst (λ (n : ℕ). slice_get state.cells n ≡ Some is.slots) number is.row;
      slot = is.cell.slot;
      value = is.cell.value;
      cell = subst (λ (n : ℕ). slice_get is.slots n ≡ Some (Written is.cell.value)) slot is.cell.cell;
      write_is = is.cell.write_is;
    }

pub written_has : (state : State) (number : ℕ) (object : PicObject) (slots : List Cell) (slot : ℕ) (value : SymValue)
    → slice_get state.picture.objects number ≡ Some object
    → slice_get state.cells number ≡ Some slots → slice_get slots slot ≡ Some (Written value)
    → Has (writes_of state) (write_at state.picture.locs object.kind number slot value)
written_has state number object slots slot value there row cell =
    has_object state.picture.locs state.picture.objects 0 state.cells number number object slots slot value
    (omega arith) there row cell

module _ (world : World) (state : State) (cells : AreCells world state) where
  -- what was written names what is there
  pub written_value : (number slot : ℕ) (object : PicObject) (slots : List Cell) (value : SymValue)
      → slice_get state.picture.objects number ≡ Some object
      → slice_get state.cells number ≡ Some slots → slice_get slots slot ≡ Some (Written value) → IsSymValue world state value
  written_value number slot object slots value there row cell =
      (cells.each number object slots there row).1 slot (Written value) cell

  slot_is_there : (number slot count : ℕ) (object : PicObject) → slice_get state.picture.objects number ≡ Some object
      → HasCells world object.kind object.length count → slot < count
      → IsSlot world 0 state.picture.objects (slot_in object.kind number slot)
  slot_is_there number slot count object at has less = go object.kind refl object.length refl has
    where
      go : (kind : ExactType) → object.kind ≡ kind → (len : Length) → object.length ≡ len → HasCells world kind len count
          → IsSlot world 0 state.picture.objects (slot_in kind number slot)
      go (exact.Class name) e len f it =
          let inside : slot < length (slots_of_class world name) = omega (arith, less, it) in
          (object, at, subst (λ (k : ExactType). HasSlot world k slot) (sym e) inside)
      go (exact.Array component) e (Is n) f it =
          let inside : slot < n = omega (arith, less, it) in
          (object, at, subst (λ (l : Length). HasElement l slot) (sym f) inside)
      go (exact.Array component) e (Above n) f it = absurd (omega (arith, less, it))
      go (exact.Array component) e Plain f it = absurd it

  -- they are writes that a path of the state may have
  pub are_writes : AreWrites world state.picture (writes_of state)
  are_writes =
      record { there = there; rising = next_before (writes_of state) (all_rise state.picture.locs state.picture.objects 0 state.cells) }
    where
      there : (i : ℕ) (write : Write) → slice_get (writes_of state) i ≡ Some write
          → (written_slot write.slot ≢ None) × IsSlot world 0 state.picture.objects write.slot
      there i write e =
          let is = of_written state write (i, e) in
          let named : written_slot write.slot ≡ slot_pair is.number is.slot =
          ap (λ (w : Write). written_slot w.slot) is.write_is ∙ slot_named is.object.kind is.number is.slot in
          let are = (cells.each is.number is.object is.slots is.there is.row).0 in (
            λ none. absurd (let both : slot_pair is.number is.slot ≡ None = sym named ∙ none in cc),
            subst (λ (w : Write). IsSlot world 0 state.picture.objects w.slot) (sym is.write_is)
                (slot_is_there is.number is.slot (length is.slots) is.object is.there are (slice_get_within is.slots is.slot (Written is.value) is.cell)),
          )
