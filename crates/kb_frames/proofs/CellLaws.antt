-- Cells of which one is set: that one is the new one, each other one is as before, and rows keep their lengths.
use Rattle.std.proofs.Common.{◌≡◌, ◌≢◌, ℕ, zero, suc, ◌<◌, ◌≤◌, ◌⊎◌, inl, inr, List, [], ◌∷◌, ◌++◌, length, replicate, Option, Some, None, slice_get, slice_index_or, slice_set, refl, sym, ap, subst, ◌∙◌, arith}
use Rattle.std.specs.Option.{option_map_or}
use Rattle.std.proofs.lemmas.Bool.{cases_eq}
use Rattle.std.proofs.lemmas.Option.{get_or_from_slice_get, option_and_then_some, same_Some}
use Rattle.kb_class.proofs.Lists.{get_inside, set_here, set_other, set_size}
use Rattle.kb_classes.specs.World.{World}
use Rattle.kb_names.specs.declared.types.ExactType.{ExactType}
use Rattle.kb_names.specs.declared.types.ExactType.TheVariants as exact
use Rattle.kb_semantics.specs.Values.{slots_of_class}
use Rattle.kb_picture.specs.declared.choice.Choice.{Choice}
use Rattle.kb_picture.specs.declared.choice.Choice.TheVariants.{Fresh}
use Rattle.kb_picture.specs.declared.picture.Length.{Length}
use Rattle.kb_picture.specs.declared.picture.Length.TheVariants.{Plain, Is, Above}
use Rattle.kb_frames.specs.declared.value.Cell.{Cell}
use Rattle.kb_frames.specs.declared.value.Cell.TheVariants.{Untouched}
use Rattle.kb_frames.specs.FirstReads.{cells_chosen, new_cells}
use Rattle.kb_frames.specs.Heaps.{find_cell, with_cell}
use Rattle.kb_frames.specs.State.{cell_at}
use Rattle.kb_frames.specs.States.{Each}
use Rattle.kb_frames.proofs.ItemLaws.{each_set}

-- ---- one item set

set_or_kept : {A : Type 0} (xs : List A) (i j : ℕ) (y d : A) → ((i ≡ j) × (slice_index_or (slice_set xs i y) j d ≡ y)) ⊎ (slice_index_or (slice_set xs i y) j d ≡ slice_index_or xs j d)
set_or_kept [] i j y d = inr refl
set_or_kept (x ∷ xs) zero zero y d = inl (refl, refl)
set_or_kept (x ∷ xs) zero (suc j) y d = inr refl
set_or_kept (x ∷ xs) (suc i) zero y d = inr refl
set_or_kept (x ∷ xs) (suc i) (suc j) y d = elim (set_or_kept xs i j y d) [ inl h ↦ inl (ap suc h.0, h.1) | inr h ↦ inr h ]

-- a cell that is found is the one that is there
pub found_cell : (cells : List (List Cell)) (object slot : ℕ) (cell : Cell) → find_cell cells object slot ≡ Some cell → cell_at cells object slot ≡ cell
found_cell cells object slot cell is =
    option_and_then_some (λ (slots : List Cell). slice_get slots slot) (slice_get cells object) cell is (λ slots there at.
    ap (λ (l : List Cell). slice_index_or l slot Untouched) (get_or_from_slice_get cells object slots [] there) ∙ get_or_from_slice_get slots slot cell Untouched at)

module _ (cells : List (List Cell)) (object slot : ℕ) (cell : Cell) where
  -- the cells with that one, where the row is known
  abbrev from_row : Option (List Cell) → List (List Cell)
  from_row found = option_map_or (λ (slots : List Cell). slice_set cells object (slice_set slots slot cell)) found cells

  -- ---- lengths

  pub with_cell_length : length (with_cell cells object slot cell) ≡ length cells
  with_cell_length = go (slice_get cells object) where
    go : (found : Option (List Cell)) → length (from_row found) ≡ length cells
    go None = refl
    go (Some slots) = set_size cells object (slice_set slots slot cell)

  -- what holds of each cell of a row, and of the new one, holds of each cell of the row behind it, which is as long
  pub record IsRow (P : Cell → Type 0) (number : ℕ) (row : List Cell) : Type 0 where
    pub before : List Cell
    pub at : slice_get cells number ≡ Some before
    pub long : length row ≡ length before
    pub each : Each P before → Each P row

  pub with_row : (P : Cell → Type 0) (number : ℕ) (row : List Cell) → P cell → slice_get (with_cell cells object slot cell) number ≡ Some row → IsRow P number row
  with_row P number row p at = go (slice_get cells object) refl at where
    here : (slots : List Cell) → slice_get cells object ≡ Some slots → object ≡ number → slice_get (slice_set cells object (slice_set slots slot cell)) number ≡ Some row → IsRow P number row
    here slots there same e =
        let new : List Cell = slice_set slots slot cell in
        let is : new ≡ row =
        same_Some new row (sym (set_here cells object new (get_inside cells object slots there)) ∙ (ap (slice_get (slice_set cells object new)) same ∙ e)) in
        record {
          before = slots;
          at = ap (slice_get cells) (sym same) ∙ there;
          long = ap (λ (l : List Cell). length l) (sym is) ∙ set_size slots slot cell;
          each = λ h. subst (Each P) is (each_set P slots slot cell p h);
        }

    go : (found : Option (List Cell)) → slice_get cells object ≡ found → slice_get (from_row found) number ≡ Some row → IsRow P number row
    go None there e = record { before = row; at = e; long = refl; each = λ h. h }
    go (Some slots) there e = elim (cases_eq object number) [
      | inl same ↦ here slots there same e
      | inr other ↦ record { before = row; at = sym (set_other cells object number (slice_set slots slot cell) other) ∙ e; long = refl; each = λ h. h }
    ]

  -- ---- what is there

  pub with_here : (was : Cell) → find_cell cells object slot ≡ Some was → cell_at (with_cell cells object slot cell) object slot ≡ cell
  with_here was is =
      option_and_then_some (λ (slots : List Cell). slice_get slots slot) (slice_get cells object) was is (λ slots there at.
      let new : List Cell = slice_set slots slot cell in
      let row : slice_index_or (slice_set cells object new) object [] ≡ new =
      get_or_from_slice_get (slice_set cells object new) object new [] (set_here cells object new (get_inside cells object slots there)) in
      ap (λ (found : Option (List Cell)). cell_at (from_row found) object slot) there
      ∙ (ap (λ (l : List Cell). slice_index_or l slot Untouched) row ∙ get_or_from_slice_get new slot cell Untouched (set_here slots slot cell (get_inside slots slot was at))))

  pub with_there : (number place : ℕ)
      → ((number ≡ object) × (place ≡ slot) × (cell_at (with_cell cells object slot cell) number place ≡ cell)) ⊎ (cell_at (with_cell cells object slot cell) number place ≡ cell_at cells number place)
  with_there number place = go (slice_get cells object) refl where
    in_row : List Cell → Cell
    in_row row = slice_index_or row place Untouched

    go : (found : Option (List Cell)) → slice_get cells object ≡ found
        → ((number ≡ object) × (place ≡ slot) × (cell_at (from_row found) number place ≡ cell)) ⊎ (cell_at (from_row found) number place ≡ cell_at cells number place)
    go None there = inr refl
    go (Some slots) there = elim (set_or_kept cells object number (slice_set slots slot cell) []) [
      | inl h ↦ (
          let row : slice_index_or cells number [] ≡ slots = subst (λ (n : ℕ). slice_index_or cells n [] ≡ slots) h.0 (get_or_from_slice_get cells object slots [] there) in
          elim (set_or_kept slots slot place cell Untouched) [
            | inl g ↦ inl (sym h.0, sym g.0, ap (λ (l : List Cell). slice_index_or l place Untouched) h.1 ∙ g.1)
            | inr g ↦ inr (ap (λ (l : List Cell). slice_index_or l place Untouched) h.1 ∙ (g ∙ sym (ap (λ (l : List Cell). slice_index_or l place Untouched) row)))
          ])
      | inr h ↦ inr (ap (λ (l : List Cell). slice_index_or l place Untouched) h)
    ]

  -- each other cell is as it was
  pub with_other : (number place : ℕ) → (number ≡ object → place ≡ slot → ⊥) → cell_at (with_cell cells object slot cell) number place ≡ cell_at cells number place
  with_other number place other = elim (with_there number place) [ inl h ↦ absurd (other h.0 h.1) | inr h ↦ h ]

  -- what was touched is touched still
  pub with_touched : (number place : ℕ) → cell ≢ Untouched → cell_at cells number place ≢ Untouched → cell_at (with_cell cells object slot cell) number place ≢ Untouched
  with_touched number place new was = elim (with_there number place) [ inl h ↦ (λ none. new (sym h.2 ∙ none)) | inr h ↦ (λ none. was (sym h ∙ none)) ]

-- ---- more rows

-- the rows that were there are the first ones
pub front_cell : (cells more : List (List Cell)) (object slot : ℕ) → object < length cells → cell_at (cells ++ more) object slot ≡ cell_at cells object slot
front_cell [] more object slot inside = absurd (omega (arith, inside))
front_cell (row ∷ cells) more zero slot inside = refl
front_cell (row ∷ cells) more (suc object) slot inside = front_cell cells more object slot (omega (arith, inside))

-- what was touched is touched still
pub front_touched : (cells more : List (List Cell)) (object slot : ℕ) → cell_at cells object slot ≢ Untouched → cell_at (cells ++ more) object slot ≢ Untouched
front_touched [] more object slot touched = absurd (touched (nothing object)) where
  nothing : (n : ℕ) → cell_at [] n slot ≡ Untouched
  nothing zero = refl
  nothing (suc n) = refl
front_touched (row ∷ cells) more zero slot touched = touched
front_touched (row ∷ cells) more (suc object) slot touched = front_touched cells more object slot touched

-- a cell that is found is found with more rows behind it
pub front_found : (cells more : List (List Cell)) (object slot : ℕ) (cell : Cell) → find_cell cells object slot ≡ Some cell → find_cell (cells ++ more) object slot ≡ Some cell
front_found [] more object slot cell is = absurd cc
front_found (row ∷ cells) more zero slot cell is = is
front_found (row ∷ cells) more (suc object) slot cell is = front_found cells more object slot cell is

-- the row of a cell that is found is there
pub row_inside : (cells : List (List Cell)) (object slot : ℕ) (cell : Cell) → find_cell cells object slot ≡ Some cell → object < length cells
row_inside cells object slot cell is =
    option_and_then_some (λ (slots : List Cell). slice_get slots slot) (slice_get cells object) cell is (λ slots there at. get_inside cells object slots there)

-- behind the rows that were there, each cell is untouched where those of the new rows are
pub behind : (cells more : List (List Cell)) (object slot : ℕ) → ((n : ℕ) → cell_at more n slot ≡ Untouched) → length cells ≤ object → cell_at (cells ++ more) object slot ≡ Untouched
behind [] more object slot blank le = blank object
behind (row ∷ cells) more zero slot blank le = absurd (omega (arith, le))
behind (row ∷ cells) more (suc object) slot blank le = behind cells more object slot blank (omega (arith, le))

-- ---- the row of a new object: none of its cells is touched

copies_blank : (n slot : ℕ) → slice_index_or (replicate n Untouched) slot Untouched ≡ Untouched
copies_blank zero slot = refl
copies_blank (suc n) zero = refl
copies_blank (suc n) (suc slot) = copies_blank n slot

new_blank : (world : World) (kind : ExactType) (len : Length) (slot : ℕ) → slice_index_or (new_cells world kind len) slot Untouched ≡ Untouched
new_blank world (exact.Class name) len slot = copies_blank (length (slots_of_class world name)) slot
new_blank world (exact.Array component) (Is n) slot = copies_blank n slot
new_blank world (exact.Array component) Plain slot = refl
new_blank world (exact.Array component) (Above n) slot = refl

pub chosen_blank : (world : World) (choice : Choice) (n slot : ℕ) → cell_at (cells_chosen world choice) n slot ≡ Untouched
chosen_blank world (Fresh kind len) zero slot = new_blank world kind len slot
chosen_blank world (Fresh kind len) (suc n) slot = refl
chosen_blank world _ n slot = refl
