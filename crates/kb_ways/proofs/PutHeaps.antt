-- A heap in which a slot was written stands for the state that keeps the new value there: of an object of the picture in its
-- cell, of one that the run has made among its values. And the state keeps as written what it kept, and that cell.
use Rattle.std.proofs.Common.{◌≡◌, ◌⊎◌, ◌↔◌, ℕ, ◌+◌, ◌<◌, List, length, map, drop, slice_get, slice_set, Option, Some, None, refl, sym, ap, subst, ◌∙◌, inl, inr, arith}
use Rattle.std.specs.Option.{option_and_then}
use Rattle.std.proofs.lemmas.Bool.Decides.{eqb_tells}
use Rattle.std.proofs.lemmas.List.{drop-set-add, drop-set-lt, map-set}
use Rattle.std.proofs.lemmas.Option.{slice_get_within}
use Rattle.kb_class.proofs.Lists.{set_here, set_other, set_size}
use Rattle.kb_heap.specs.declared.heap.Heap.{Heap}
use Rattle.kb_heap.specs.declared.heap.Object.{Object}
use Rattle.kb_heap.specs.declared.heap.Value.{Value}
use Rattle.kb_heap.specs.Heap.{object_at, object_with, value_at}
use Rattle.kb_semantics.specs.Looks.{Slot}
use Rattle.kb_picture.specs.Endings.{Reading}
use Rattle.kb_picture.specs.Shapes.{AreApart}
use Rattle.kb_picture.proofs.TableLaws.{no_place_at}
use Rattle.kb_frames.specs.declared.state.SymObject.{SymObject}
use Rattle.kb_frames.specs.declared.value.Cell.{Cell}
use Rattle.kb_frames.specs.declared.value.Cell.TheVariants.{Read, Written}
use Rattle.kb_frames.specs.declared.value.SymValue.{SymValue}
use Rattle.kb_frames.specs.Heaps.{find_cell, with_cell, object_with as sym_object_with}
use Rattle.kb_frames.specs.StandsFor.{HeapStandsFor, IsKept, IsLike, made_at, present_value, value_of_sym, values_of_sym}
use Rattle.kb_frames.specs.State.{State, cell_at}
use Rattle.kb_frames.proofs.CellLaws.{with_here, with_other}

-- each place is one of an object of the input
abbrev pub AreInside : Reading → Type 0
AreInside r = (number place : ℕ) → slice_get r.places.objects number ≡ Some place → place < r.inputs

module _ (r : Reading) (state new : State) (first heap : Heap) (stands : HeapStandsFor r state first heap) (apart : AreApart r.places.objects) (inside : AreInside r)
    (o slot : ℕ) (object : Object) (found : object_at heap o ≡ Some object) (there : slot < length object.values) (it : SymValue) (value : Value) (value_is : value_of_sym r it ≡ value) where
  abbrev put_object : Object
  put_object = object_with object slot value

  abbrev put_heap : Heap
  put_heap = record { objects = slice_set heap.objects o put_object }

  -- ---- the heap

  this_object : object_at put_heap o ≡ Some put_object
  this_object = set_here heap.objects o put_object (slice_get_within heap.objects o object found)

  other_object : (i : ℕ) → (o ≡ i → ⊥) → object_at put_heap i ≡ object_at heap i
  other_object i two = set_other heap.objects o i put_object two

  abbrev slot_in : ℕ → Option Object → Option Value
  slot_in t of = option_and_then (λ (x : Object). slice_get x.values t) of

  value_here : value_at put_heap o slot ≡ Some value
  value_here = ap (slot_in slot) this_object ∙ set_here object.values slot value there

  value_other : (i t : ℕ) → ((o ≡ i) × (slot ≡ t) → ⊥) → value_at put_heap i t ≡ value_at heap i t
  value_other i t two = elim (eqb_tells o i) [
    | inl same ↦ subst (λ (n : ℕ). value_at put_heap n t ≡ value_at heap n t) same.1
        (ap (slot_in t) this_object ∙ set_other object.values slot t value (λ e. two (same.1, e)) ∙ sym (ap (slot_in t) found))
    | inr other ↦ ap (slot_in t) (other_object i other.1)
  ]

  like_with : (other : Option Object) → IsLike (Some object) other → IsLike (Some put_object) other
  like_with None like = absurd like
  like_with (Some y) like = (like.0, set_size object.values slot value ∙ like.1)

  like_put : (i : ℕ) (other : Option Object) → IsLike (object_at heap i) other → IsLike (object_at put_heap i) other
  like_put i other like = elim (eqb_tells o i) [
    | inl same ↦ subst (λ (n : ℕ). IsLike (object_at heap n) other → IsLike (object_at put_heap n) other) same.1
        (λ h. subst (λ (x : Option Object). IsLike x other) (sym this_object) (like_with other (subst (λ (x : Option Object). IsLike x other) found h))) like
    | inr apart ↦ subst (λ (x : Option Object). IsLike x other) (sym (other_object i apart.1)) like
  ]

  -- ---- a slot of an object of the picture

  module _ (number : ℕ) (at : slice_get r.places.objects number ≡ Some o) (old : Cell) (cell : find_cell state.cells number slot ≡ Some old)
      (cells_are : new.cells ≡ with_cell state.cells number slot (Written it)) (made_are : new.made ≡ state.made) where
    -- it is the one that is written
    record IsIt (n t p : ℕ) : Type 0 where
      object_is : number ≡ n
      slot_is : slot ≡ t
      place_is : o ≡ p

    -- or it is another one, in the state and in the heap
    record IsOther (n t p : ℕ) : Type 0 where
      cells : (number ≡ n) × (slot ≡ t) → ⊥
      values : (o ≡ p) × (slot ≡ t) → ⊥

    which : (n t p : ℕ) → slice_get r.places.objects n ≡ Some p → IsIt n t p ⊎ IsOther n t p
    which n t p placed = elim (eqb_tells number n) [
      | inl one ↦ elim (eqb_tells slot t) [
        | inl same ↦ inl (record { object_is = one.1; slot_is = same.1; place_is = place one.1 })
        | inr other ↦ inr (record { cells = λ h. other.1 h.1; values = λ h. other.1 h.1 })
      ]
      | inr two ↦ inr (record { cells = λ h. two.1 h.0; values = λ h. two.1 (apart number n o at (placed ∙ ap Some (sym h.0))) })
    ] where
      place : number ≡ n → o ≡ p
      place same = (let both : Some o ≡ Some p = sym at ∙ ap (slice_get r.places.objects) same ∙ placed in let is : o ≡ p = cc in is)

    cell_here : (n t p : ℕ) → IsIt n t p → cell_at new.cells n t ≡ Written it
    cell_here n t p is =
        ap (λ (m : ℕ). cell_at new.cells m t) (sym is.object_is) ∙ ap (cell_at new.cells number) (sym is.slot_is)
        ∙ ap (λ (cs : List (List Cell)). cell_at cs number slot) cells_are ∙ with_here state.cells number slot (Written it) old cell

    cell_other : (n t p : ℕ) → IsOther n t p → cell_at new.cells n t ≡ cell_at state.cells n t
    cell_other n t p other = ap (λ (cs : List (List Cell)). cell_at cs n t) cells_are ∙ with_other state.cells number slot (Written it) n t (λ e f. other.cells (sym e, sym f))

    value_put : (n t p : ℕ) → IsIt n t p → value_at put_heap p t ≡ present_value r (value_at first p t) (cell_at new.cells n t)
    value_put n t p is =
        ap (λ (i : ℕ). value_at put_heap i t) (sym is.place_is) ∙ ap (value_at put_heap o) (sym is.slot_is) ∙ value_here ∙ ap Some (sym value_is)
        ∙ ap (present_value r (value_at first p t)) (sym (cell_here n t p is))

    pub object_put : HeapStandsFor r new first put_heap
    object_put = record {
      made = drop-set-lt (r.inputs + r.literals) heap.objects o put_object below ∙ stands.made ∙ ap (map (made_at r)) (sym made_are);
      like = λ i less. like_put i (object_at first i) (stands.like i less);
      cells = λ n t p placed. elim (which n t p placed) [
        | inl is ↦ value_put n t p is
        | inr other ↦ value_other p t other.values ∙ stands.cells n t p placed ∙ ap (present_value r (value_at first p t)) (sym (cell_other n t p other))
      ];
      kept = λ n t p v placed read. elim (which n t p placed) [
        | inl is ↦ not_read (sym (cell_here n t p is) ∙ read)
        | inr other ↦ value_other p t other.values ∙ stands.kept n t p v placed (sym (cell_other n t p other) ∙ read)
      ];
      others = λ i less none. other_object i (λ e. no_place_at r.places.objects i number o none at (sym e)) ∙ stands.others i less none;
    } where
      below : o < r.inputs + r.literals
      below = (let less : o < r.inputs = inside number o at in omega (arith, less))

      not_read : {A : Type 0} {v : SymValue} → Written it ≡ Read v → A
      not_read e = absurd cc

    pub object_kept : (x : Slot) → (IsKept r state x ⊎ (record { object = o; slot = slot } ≡ x)) ↔ IsKept r new x
    object_kept x = (there_now, was_there) where
      there_now : IsKept r state x ⊎ (record { object = o; slot = slot } ≡ x) → IsKept r new x
      there_now (inl k) = elim (which k.object x.slot x.object k.place) [
        | inl is ↦ record { object = k.object; place = k.place; value = it; cell = cell_here k.object x.slot x.object is }
        | inr other ↦ record { object = k.object; place = k.place; value = k.value; cell = cell_other k.object x.slot x.object other ∙ k.cell }
      ]
      there_now (inr e) =
          subst (IsKept r new) e
          (record { object = number; place = at; value = it; cell = cell_here number slot o (record { object_is = refl; slot_is = refl; place_is = refl }) })

      was_there : IsKept r new x → IsKept r state x ⊎ (record { object = o; slot = slot } ≡ x)
      was_there k = elim (which k.object x.slot x.object k.place) [
        | inl is ↦ inr (ap (λ (i : ℕ). record { object = i; slot = slot }) is.place_is ∙ ap (λ (t : ℕ). record { object = x.object; slot = t }) is.slot_is)
        | inr other ↦ inl (record { object = k.object; place = k.place; value = k.value; cell = sym (cell_other k.object x.slot x.object other) ∙ k.cell })
      ]

  -- ---- a slot of an object that the run has made

  module _ (number : ℕ) (is : o ≡ r.inputs + r.literals + number) (made : SymObject) (at : object ≡ made_at r made)
      (cells_are : new.cells ≡ state.cells) (made_are : new.made ≡ slice_set state.made number (sym_object_with made slot it)) where
    behind : (i : ℕ) → i < r.inputs + r.literals → o ≡ i → ⊥
    behind i less e = omega (arith, less, e, is)

    behind_input : (i : ℕ) → i < r.inputs → o ≡ i → ⊥
    behind_input i less e = omega (arith, less, e, is)

    put_is : put_object ≡ made_at r (sym_object_with made slot it)
    put_is =
        ap (λ (x : Object). object_with x slot value) at
        ∙ ap (λ (vs : List Value). record { kind = made.kind; values = vs })
        (ap (slice_set (values_of_sym r made.values) slot) (sym value_is) ∙ sym (map-set (value_of_sym r) made.values slot it))

    same_cell : (n t p : ℕ) → slice_get r.places.objects n ≡ Some p → value_at put_heap p t ≡ value_at heap p t
    same_cell n t p placed = value_other p t (λ e. behind_input p (inside n p placed) e.0)

    pub made_put : HeapStandsFor r new first put_heap
    made_put = record {
      made =
          ap (λ (i : ℕ). drop (r.inputs + r.literals) (slice_set heap.objects i put_object)) is
          ∙ drop-set-add (r.inputs + r.literals) heap.objects number put_object
          ∙ ap (λ (l : List Object). slice_set l number put_object) stands.made
          ∙ ap (slice_set (map (made_at r) state.made) number) put_is
          ∙ sym (map-set (made_at r) state.made number (sym_object_with made slot it))
          ∙ ap (map (made_at r)) (sym made_are);
      like = λ i less. like_put i (object_at first i) (stands.like i less);
      cells = λ n t p placed.
          same_cell n t p placed ∙ stands.cells n t p placed ∙ ap (λ (cs : List (List Cell)). present_value r (value_at first p t) (cell_at cs n t)) (sym cells_are);
      kept = λ n t p v placed read.
          same_cell n t p placed ∙ stands.kept n t p v placed (ap (λ (cs : List (List Cell)). cell_at cs n t) (sym cells_are) ∙ read);
      others = λ i less none. other_object i (behind i less) ∙ stands.others i less none;
    }

    pub made_kept : (x : Slot) → x.object < r.inputs → (IsKept r state x ⊎ (record { object = o; slot = slot } ≡ x)) ↔ IsKept r new x
    made_kept x less = (there_now, was_there) where
      there_now : IsKept r state x ⊎ (record { object = o; slot = slot } ≡ x) → IsKept r new x
      there_now (inl k) = record { object = k.object; place = k.place; value = k.value; cell = ap (λ (cs : List (List Cell)). cell_at cs k.object x.slot) cells_are ∙ k.cell }
      there_now (inr e) = absurd (behind_input x.object less (ap (λ (y : Slot). y.object) e))

      was_there : IsKept r new x → IsKept r state x ⊎ (record { object = o; slot = slot } ≡ x)
      was_there k = inl (record { object = k.object; place = k.place; value = k.value; cell = ap (λ (cs : List (List Cell)). cell_at cs k.object x.slot) (sym cells_are) ∙ k.cell })
