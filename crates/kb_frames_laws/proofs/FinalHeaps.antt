-- Where a state stands for a heap, that heap has the input's objects with what the state keeps as written, then the literals,
-- then what the run made.
use Rattle.std.proofs.Common.{◌≡◌, ◌≢◌, ◌⊎◌, inl, inr, ℕ, zero, suc, ◌+◌, ◌<◌, ◌≤◌, List, [], ◌∷◌, ◌++◌, length, length-append, map, take, drop, fold, replicate, Option, Some, None, option_map, slice_get, refl, sym, ap, ◌∙◌, subst, arith}
use Rattle.std.proofs.lemmas.Bool.{cases_eq, cases_lt}
use Rattle.std.proofs.lemmas.List.{length-replicate, take-append-drop}
use Rattle.std.proofs.lemmas.Option.{get_or_from_slice_get, slice_get-get_or, slice_get_within}
use Rattle.kb_class.specs.Naming.{Has}
use Rattle.kb_heap.specs.declared.heap.Heap.{Heap}
use Rattle.kb_heap.specs.declared.heap.Input.{Input}
use Rattle.kb_heap.specs.declared.heap.Object.{Object}
use Rattle.kb_heap.specs.declared.heap.Value.TheVariants.{Ref}
use Rattle.kb_heap.specs.Heap.{object_at, value_at, literal}
use Rattle.kb_classes.specs.World.{World}
use Rattle.kb_semantics.specs.Step.{first_heap}
use Rattle.kb_terms.proofs.Entries.{slice_get-append-left}
use Rattle.kb_picture.specs.declared.path.Write.{Write}
use Rattle.kb_picture.specs.declared.picture.Picture.{Picture}
use Rattle.kb_picture.specs.declared.picture.PlaceLists.{PlaceLists}
use Rattle.kb_picture.specs.Endings.{Reading, out_value, place_at, with_write}
use Rattle.kb_picture.specs.Shapes.{AreApart, EachStands, HasShape, IsNoPlace}
use Rattle.kb_picture.proofs.ChainLaws.{all_below, below_at}
use Rattle.kb_picture.proofs.GrownPictures.{item_there}
use Rattle.kb_picture.proofs.GrownShapes.{as_many, at_no_place, locs_many, no_place}
use Rattle.kb_picture.proofs.TableLaws.{AreBelow}
use Rattle.kb_frames.specs.declared.value.Cell.{Cell}
use Rattle.kb_frames.specs.declared.value.Cell.TheVariants.{Untouched, Read, Written}
use Rattle.kb_frames.specs.declared.value.SymValue.{SymValue}
use Rattle.kb_frames.specs.StandsFor.{HeapStandsFor, IsLike, made_at, present_value, value_of_sym}
use Rattle.kb_frames.specs.State.{State, cell_at}
use Rattle.kb_stated.specs.Stated.{stated, writes_of}
use Rattle.kb_frames.specs.States.{AreCells}
use Rattle.kb_frames.proofs.ResolveLaws.{resolved_same}
use Rattle.kb_frames_laws.proofs.HeapWrites.{comes, goes_to, like_both, like_slot, not_written, placed, same_object, slot_of, writes_like, writes_size}
use Rattle.kb_frames_laws.proofs.WrittenLaws.{IsOfWritten, cell_is, cell_there, of_written, slot_named, write_at, written_has}

-- ---- lists

-- a list that has the items of another at its front
same_front : {A : Type 0} (xs ys : List A) → ((i : ℕ) → i < length ys → slice_get xs i ≡ slice_get ys i)
    → take (length ys) xs ≡ ys
same_front xs [] h = refl
same_front [] (y ∷ ys) h = let first : slice_get [] 0 ≡ Some y = h 0 (omega arith) in absurd cc
same_front {A} (x ∷ xs) (y ∷ ys) h =
    let first : Some x ≡ Some y = h 0 (omega arith) in
    let same : x ≡ y = cc in
    ap (λ (l : List A). x ∷ l) (same_front xs ys (λ i less. h (suc i) (omega (arith, less)))) ∙ ap (λ (z : A). z ∷ ys) same

-- behind fronts that are as long
same_behind : {A : Type 0} (xs ys more : List A) (i : ℕ) → length xs ≡ length ys → length xs ≤ i
    → slice_get (xs ++ more) i ≡ slice_get (ys ++ more) i
same_behind [] [] more i len behind = refl
same_behind [] (y ∷ ys) more i len behind = absurd (omega (arith, len))
same_behind (x ∷ xs) [] more i len behind = absurd (omega (arith, len))
same_behind (x ∷ xs) (y ∷ ys) more zero len behind = absurd (omega (arith, behind))
same_behind (x ∷ xs) (y ∷ ys) more (suc i) len behind = same_behind xs ys more i (omega (arith, len)) (omega (arith, behind))

-- an object of the heap is the place of some object of the picture, or of none
place_or_none : (places : List ℕ) (object : ℕ)
    → ((number : ℕ) × (slice_get places number ≡ Some object)) ⊎ IsNoPlace places object
place_or_none [] object = inr tt
place_or_none (first ∷ places) object =
    elim (cases_eq object first) [
      | inl same ↦ inl (0, ap (λ (p : ℕ). Some p) (sym same))
      | inr apart ↦ elim (place_or_none places object) [ inl at ↦ inl (suc at.0, at.1) | inr none ↦ inr (apart, none) ]
    ]

-- ---- places

abbrev pair : ℕ → ℕ → ℕ × ℕ
pair place slot = (place, slot)

-- the places of a picture's objects and locations, among so many objects
pub record ArePlaces (picture : Picture) (inputs : ℕ) (places : PlaceLists) : Type 0 where
  pub many : length places.objects ≡ length picture.objects
  pub locs : length places.locs ≡ length picture.locs
  pub below : AreBelow inputs places.objects
  pub apart : AreApart places.objects
  pub stands : EachStands places picture.locs

pub are_places : (picture : Picture) (input : Input) (shape : HasShape picture input)
    → ArePlaces picture (length input.heap.objects) shape.places
are_places picture input shape = record {
  many = as_many picture input shape.places shape.placed;
  locs = locs_many picture input shape.places shape.placed;
  below = all_below picture input shape;
  apart = shape.apart;
  stands = shape.stands;
}

module _ (world : World) (state : State) (r : Reading) (are : ArePlaces state.picture r.inputs r.places) where
  -- ---- values

  -- what is stated of a value has that value at the input
  pub stated_value : (value : SymValue) → out_value r (stated state.picture.locs value) ≡ value_of_sym r value
  stated_value value = resolved_same state r are.locs are.stands value

  -- ---- the heap

  module _ (cells : AreCells world state) (input : Input) (inputs : r.inputs ≡ length input.heap.objects)
      (literals : r.literals ≡ length world.literals) where
    abbrev first : Heap
    first = first_heap world input.heap

    -- the input's heap with all that was written
    abbrev written : Heap
    written = fold (with_write r) input.heap (writes_of state)

    front_same : (object : ℕ) → object < r.inputs → object_at input.heap object ≡ object_at first object
    front_same object less =
        let inside : object < length input.heap.objects = omega (arith, less, inputs) in
        sym (slice_get-append-left input.heap.objects (replicate (length world.literals) literal) object inside)

    -- a write goes to the place of its object
    place_there : (write : Write) (is : IsOfWritten state write)
        → slice_get r.places.objects is.number ≡ Some (place_at r.places.objects is.number)
    place_there write is =
        let inside : is.number < length r.places.objects =
        omega (arith, are.many, slice_get_within state.picture.objects is.number is.object is.there) in
        slice_get-get_or r.places.objects is.number 0 inside

    goes : (write : Write) (is : IsOfWritten state write)
        → goes_to r write ≡ Some (pair (place_at r.places.objects is.number) is.slot)
    goes write is =
        ap (λ (w : Write). goes_to r w) is.write_is
        ∙ ap (λ (at : Option (ℕ × ℕ)). option_map (placed r) at) (slot_named is.object.kind is.number is.slot)

    goes_parts : (write : Write) (is : IsOfWritten state write) (place slot : ℕ) → goes_to r write ≡ Some (pair place slot)
        → (place_at r.places.objects is.number ≡ place) × (is.slot ≡ slot)
    goes_parts write is place slot e =
        let both : Some (pair (place_at r.places.objects is.number) is.slot) ≡ Some (pair place slot) =
        sym (goes write is) ∙ e in
        let same : pair (place_at r.places.objects is.number) is.slot ≡ pair place slot = cc in
        (ap (λ (x : ℕ × ℕ). x.0) same, ap (λ (x : ℕ × ℕ). x.1) same)

    -- a write that goes to a slot of an object's place is that of the slot's cell
    of_cell : (number place slot : ℕ) → slice_get r.places.objects number ≡ Some place → (write : Write)
        → Has (writes_of state) write → goes_to r write ≡ Some (pair place slot)
        → (value : SymValue) × (cell_at state.cells number slot ≡ Written value) × (write.value ≡ stated state.picture.locs value)
    of_cell number place slot at write has e =
        let is = of_written state write has in
        let parts = goes_parts write is place slot e in
        let there : slice_get r.places.objects is.number ≡ Some place = place_there write is ∙ ap (λ (p : ℕ). Some p) parts.0 in
        let same : is.number ≡ number = are.apart is.number number place there at in (
          is.value,
          ap (λ (n : ℕ). cell_at state.cells n slot) (sym same)
              ∙ ap (λ (s : ℕ). cell_at state.cells is.number s) (sym parts.1)
              ∙ cell_is state.cells is.number is.slot is.slots (Written is.value) is.row is.cell,
          ap (λ (w : Write). w.value) is.write_is,
        )

    -- the slot of a cell that was not written is not written
    left_alone : (number place slot : ℕ) → slice_get r.places.objects number ≡ Some place
        → ((value : SymValue) → cell_at state.cells number slot ≢ Written value)
        → value_at written place slot ≡ value_at input.heap place slot
    left_alone number place slot at other =
        not_written r place slot (writes_of state) input.heap
        (λ write has e. (let of = of_cell number place slot at write has e in other of.0 of.1))

    -- an object that is no place is not written
    none_there : (object : ℕ) → IsNoPlace r.places.objects object → (slot : ℕ)
        → value_at written object slot ≡ value_at input.heap object slot
    none_there object none slot =
        not_written r object slot (writes_of state) input.heap
        (λ write has e. (let is = of_written state write has in
        let parts = goes_parts write is object slot e in
        at_no_place r.places.objects object is.number none (place_there write is ∙ ap (λ (p : ℕ). Some p) parts.0)))

    module _ (heap : Heap) (stands : HeapStandsFor r state first heap) where
      -- ---- the objects of the input

      place_below : (number place : ℕ) → slice_get r.places.objects number ≡ Some place → place < r.inputs
      place_below number place at = below_at r.inputs r.places.objects number place are.below at

      value_first : (place slot : ℕ) → place < r.inputs → value_at input.heap place slot ≡ value_at first place slot
      value_first place slot less = ap (slot_of slot) (front_same place less)

      -- a slot that the run has written holds what was written last
      written_is : (number place slot : ℕ) (value : SymValue) → slice_get r.places.objects number ≡ Some place
          → cell_at state.cells number slot ≡ Written value
          → value_at written place slot ≡ value_at heap place slot
      written_is number place slot value at e =
          let less = place_below number place at in
          let now : value_at heap place slot ≡ Some (value_of_sym r value) =
          stands.cells number slot place at ∙ ap (λ (c : Cell). present_value r (value_at first place slot) c) e in
          let old =
          like_slot (object_at heap place) (object_at first place) slot (value_of_sym r value) (stands.like place less) now in
          let inside : number < length state.picture.objects =
          omega (arith, are.many, slice_get_within r.places.objects number place at) in
          let object = item_there state.picture.objects number inside in
          let row = cell_there state.cells number slot value e in
          let write = write_at state.picture.locs object.0.kind number slot value in
          let has : Has (writes_of state) write = written_has state number object.0 row.0 slot value object.1 row.1 row.2 in
          let to : goes_to r write ≡ Some (pair place slot) =
          ap (λ (x : Option (ℕ × ℕ)). option_map (placed r) x) (slot_named object.0.kind number slot)
          ∙ ap (λ (p : ℕ). Some (pair p slot)) (get_or_from_slice_get r.places.objects number place 0 at) in
          let all : (w : Write) → Has (writes_of state) w → goes_to r w ≡ Some (pair place slot) → out_value r w.value ≡ value_of_sym r value =
          λ w there same. (let of = of_cell number place slot at w there same in
          let both : Written of.0 ≡ Written value = sym of.1 ∙ e in
          let one : of.0 ≡ value = cc in
          ap (out_value r) of.2 ∙ stated_value of.0 ∙ ap (value_of_sym r) one) in
          comes r place slot (value_of_sym r value) (writes_of state) input.heap old.0
          (value_first place slot less ∙ old.1) all write has to ∙ sym now

      -- each slot of an object of the picture holds what it holds in the heap
      value_same : (number place slot : ℕ) → slice_get r.places.objects number ≡ Some place
          → value_at written place slot ≡ value_at heap place slot
      value_same number place slot at = go (cell_at state.cells number slot) refl
        where
          go : (cell : Cell) → cell_at state.cells number slot ≡ cell → value_at written place slot ≡ value_at heap place slot
          go Untouched e =
              left_alone number place slot at (λ value is. (let both : Untouched ≡ Written value = sym e ∙ is in absurd cc))
              ∙ value_first place slot (place_below number place at)
              ∙ sym (stands.cells number slot place at ∙ ap (λ (c : Cell). present_value r (value_at first place slot) c) e)
          go (Read held) e =
              left_alone number place slot at (λ value is. (let both : Read held ≡ Written value = sym e ∙ is in absurd cc))
              ∙ value_first place slot (place_below number place at)
              ∙ sym (stands.kept number slot place held at e)
          go (Written value) e = written_is number place slot value at e

      written_like : (object : ℕ) → object < r.inputs → IsLike (object_at written object) (object_at heap object)
      written_like object less =
          let like : IsLike (object_at heap object) (object_at input.heap object) =
          subst (λ (o : Option Object). IsLike (object_at heap object) o) (sym (front_same object less))
          (stands.like object less) in
          like_both (object_at written object) (object_at heap object) (object_at input.heap object)
          (writes_like r (writes_of state) input.heap object) like

      object_same : (object : ℕ) → object < r.inputs → object_at written object ≡ object_at heap object
      object_same object less =
          same_object (object_at written object) (object_at heap object) (written_like object less)
          (elim (place_or_none r.places.objects object) [
            | inl at ↦ (λ slot. value_same at.0 object slot at.1)
            | inr none ↦ (λ slot. none_there object none slot ∙ value_first object slot less ∙ ap (slot_of slot) (sym (stands.others object (omega (arith, less)) none)))
          ])

      -- ---- the whole heap

      written_size : length written.objects ≡ r.inputs
      written_size = writes_size r (writes_of state) input.heap ∙ sym inputs

      abbrev kept : List Object
      kept = written.objects ++ replicate r.literals literal

      kept_size : length kept ≡ r.inputs + r.literals
      kept_size =
          let size : length kept ≡ length written.objects + length (replicate r.literals literal) =
          length-append written.objects (replicate r.literals literal) in
          let same : length (replicate r.literals literal) ≡ r.literals = length-replicate r.literals literal in
          omega (arith, size, same, written_size)

      -- a literal is as at the start
      literal_same : (i : ℕ) → r.inputs ≤ i → i < r.inputs + r.literals → slice_get heap.objects i ≡ slice_get kept i
      literal_same i behind less =
          let none : IsNoPlace r.places.objects i =
          no_place r.places.objects i
          (λ n at. (let below : i < r.inputs = place_below n i at in absurd (omega (arith, below, behind)))) in
          let size : length input.heap.objects ≡ length written.objects = sym inputs ∙ sym written_size in
          let past : length input.heap.objects ≤ i = omega (arith, inputs, behind) in
          stands.others i less none
          ∙ ap (λ (n : ℕ). slice_get (input.heap.objects ++ replicate n literal) i) (sym literals)
          ∙ same_behind input.heap.objects written.objects (replicate r.literals literal) i size past

      item_same : (i : ℕ) → i < length kept → slice_get heap.objects i ≡ slice_get kept i
      item_same i less =
          elim (cases_lt i r.inputs) [
            | inl below ↦
                (let inside : i < length written.objects = omega (arith, below, written_size) in
                sym (object_same i below) ∙ sym (slice_get-append-left written.objects (replicate r.literals literal) i inside))
            | inr behind ↦ literal_same i behind (omega (arith, less, kept_size))
          ]

      pub heap_is : heap.objects ≡ (written.objects ++ replicate r.literals literal) ++ map (made_at r) state.made
      heap_is =
          let front : take (r.inputs + r.literals) heap.objects ≡ kept =
          ap (λ (n : ℕ). take n heap.objects) (sym kept_size) ∙ same_front heap.objects kept item_same in
          sym (take-append-drop (r.inputs + r.literals) heap.objects)
          ∙ ap (λ (l : List Object). l ++ drop (r.inputs + r.literals) heap.objects) front
          ∙ ap (λ (l : List Object). kept ++ l) stands.made
