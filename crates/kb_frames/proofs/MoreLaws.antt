-- A state that has more terms, objects and made objects: what a value named is there still, and the rows of cells are still
-- those of the objects.
use Rattle.std.proofs.Common.{◌≡◌, ℕ, zero, suc, ◌<◌, ◌≤◌, List, [], ◌∷◌, ◌++◌, length, Option, Some, None, slice_get, slice_index_or, refl, sym, subst, arith}
use Rattle.std.proofs.lemmas.Option.{slice_get_within}
use Rattle.kb_classes.specs.World.{World}
use Rattle.kb_terms.specs.Terms.{Extends}
use Rattle.kb_terms.proofs.Values.{IsTerm-extends}
use Rattle.kb_picture.proofs.GrownPictures.{item_there}
use Rattle.kb_picture.specs.declared.picture.PicObject.{PicObject}
use Rattle.kb_frames.specs.declared.frame.SymFrame.{SymFrame}
use Rattle.kb_frames.specs.declared.state.Stage.TheVariants.{Runs}
use Rattle.kb_frames.specs.declared.state.SymObject.{SymObject}
use Rattle.kb_frames.specs.declared.value.Cell.{Cell}
use Rattle.kb_frames.specs.declared.value.Cell.TheVariants.{Untouched, Read, Written}
use Rattle.kb_frames.specs.declared.value.SymValue.{SymValue}
use Rattle.kb_frames.specs.declared.value.SymValue.TheVariants.{Int, Null, Obj, Literal, New, Loc}
use Rattle.kb_frames.specs.Heaps.{with_cell}
use Rattle.kb_frames.specs.State.{State, cell_at}
use Rattle.kb_frames.specs.States.{AreCells, Each, HasCells, IsCell, IsFrame, IsLocal, IsMade, IsStage, IsSymValue}
use Rattle.kb_frames.proofs.CellLaws.{with_row}
use Rattle.kb_frames.proofs.ItemLaws.{each_rest}

pub record IsMore (old new : State) : Type 0 where
  pub terms : Extends old.nodes new.nodes
  pub objects : length old.picture.objects ≤ length new.picture.objects
  pub locs : length old.picture.locs ≤ length new.picture.locs
  pub made : length old.made ≤ length new.made

-- ---- values

module _ (world : World) (old new : State) (more : IsMore old new) where
  pub value_more : (value : SymValue) → IsSymValue world old value → IsSymValue world new value
  value_more (Int t) h = IsTerm-extends old.nodes new.nodes t more.terms h
  value_more Null h = tt
  value_more (Obj number) h = let inside : number < length old.picture.objects = h in omega (arith, inside, more.objects)
  value_more (Literal number) h = h
  value_more (New number) h = let inside : number < length old.made = h in omega (arith, inside, more.made)
  value_more (Loc number) h = let inside : number < length old.picture.locs = h in omega (arith, inside, more.locs)

  pub values_more : (values : List SymValue) → Each (IsSymValue world old) values → Each (IsSymValue world new) values
  values_more values each = λ i value at. value_more value (each i value at)

  local_more : (local : Option SymValue) → IsLocal world old local → IsLocal world new local
  local_more None h = tt
  local_more (Some value) h = value_more value h

  pub locals_more : (locals : List (Option SymValue)) → Each (IsLocal world old) locals → Each (IsLocal world new) locals
  locals_more locals each = λ i local at. local_more local (each i local at)

  pub cell_more : (cell : Cell) → IsCell world old cell → IsCell world new cell
  cell_more Untouched h = tt
  cell_more (Read value) h = value_more value h
  cell_more (Written value) h = value_more value h

  frame_more : (frame : SymFrame) → IsFrame world old frame → IsFrame world new frame
  frame_more frame h = record { room = h.room; locals = locals_more frame.locals h.locals; stack = values_more frame.stack h.stack }

  -- a run that has frames
  pub running_more : (frame : SymFrame) (callers : List SymFrame) → IsStage world old (Runs frame callers) → IsStage world new (Runs frame callers)
  running_more frame callers h = (frame_more frame h.0, λ i caller at. frame_more caller (h.1 i caller at))

  pub made_more : (made : List SymObject) → Each (IsMade world old) made → Each (IsMade world new) made
  made_more made each = λ i object at. let was = each i object at in record { count = was.count; counted = was.counted; values = values_more object.values was.values }

-- ---- rows of cells

abbrev pub HasRow : World → State → PicObject → List Cell → Type 0
HasRow world state object row = HasCells world object.kind object.length (length row) × Each (IsCell world state) row

-- each object has the row of its number
abbrev pub HaveRows : World → State → List PicObject → List (List Cell) → Type 0
HaveRows world state objects cells =
    (number : ℕ) (object : PicObject) (row : List Cell) → slice_get objects number ≡ Some object → slice_get cells number ≡ Some row → HasRow world state object row

pub rows_more : (world : World) (old new : State) (objects : List PicObject) (cells : List (List Cell)) → IsMore old new → HaveRows world old objects cells → HaveRows world new objects cells
rows_more world old new objects cells more rows = λ number object row at there.
    let was = rows number object row at there in
    (was.0, λ i cell e. cell_more world old new more cell (was.1 i cell e))

pub rows_joined : (world : World) (state : State) (objects more : List PicObject) (cells rows : List (List Cell)) → length cells ≡ length objects
    → HaveRows world state objects cells → HaveRows world state more rows → HaveRows world state (objects ++ more) (cells ++ rows)
rows_joined world state [] more [] rows same one other = other
rows_joined world state [] more (row ∷ cells) rows same one other = absurd (omega (arith, same))
rows_joined world state (object ∷ objects) more [] rows same one other = absurd (omega (arith, same))
rows_joined world state (object ∷ objects) more (row ∷ cells) rows same one other =
    go (rows_joined world state objects more cells rows (omega (arith, same)) (λ number. one (suc number)) other)
  where
    go : HaveRows world state (objects ++ more) (cells ++ rows) → HaveRows world state (object ∷ (objects ++ more)) (row ∷ (cells ++ rows))
    go later zero o r at there = one zero o r at there
    go later (suc number) o r at there = later number o r at there

-- a cell is set
pub rows_with : (world : World) (state : State) (objects : List PicObject) (cells : List (List Cell)) (object slot : ℕ) (cell : Cell) → IsCell world state cell
    → HaveRows world state objects cells → HaveRows world state objects (with_cell cells object slot cell)
rows_with world state objects cells object slot cell is rows = λ number o row at there.
    let before = with_row cells object slot cell (IsCell world state) number row is there in
    let was = rows number o before.before at before.at in
    (subst (HasCells world o.kind o.length) (sym before.long) was.0, before.each was.1)

-- ---- a cell

row_cell : (P : Cell → Type 0) (row : List Cell) (slot : ℕ) → P Untouched → Each P row → P (slice_index_or row slot Untouched)
row_cell P [] zero u each = u
row_cell P [] (suc slot) u each = u
row_cell P (cell ∷ row) zero u each = each 0 cell refl
row_cell P (cell ∷ row) (suc slot) u each = row_cell P row slot u (each_rest P cell row each)

rows_cell : (P : Cell → Type 0) (rows : List (List Cell)) (object slot : ℕ) → P Untouched → ((n : ℕ) (row : List Cell) → slice_get rows n ≡ Some row → Each P row) → P (cell_at rows object slot)
rows_cell P [] zero slot u each = row_cell P [] slot u (λ i item e. absurd cc)
rows_cell P [] (suc object) slot u each = row_cell P [] slot u (λ i item e. absurd cc)
rows_cell P (row ∷ rows) zero slot u each = row_cell P row slot u (each 0 row refl)
rows_cell P (row ∷ rows) (suc object) slot u each = rows_cell P rows object slot u (λ n r e. each (suc n) r e)

pub cells_sound : (world : World) (state : State) (object slot : ℕ) → AreCells world state → IsCell world state (cell_at state.cells object slot)
cells_sound world state object slot are = rows_cell (IsCell world state) state.cells object slot tt each where
  each : (n : ℕ) (row : List Cell) → slice_get state.cells n ≡ Some row → Each (IsCell world state) row
  each n row e =
      let inside : n < length state.cells = slice_get_within state.cells n row e in
      let object = item_there state.picture.objects n (omega (arith, inside, are.count)) in
      (are.each n object.0 row object.1 e).1
