-- Symbolic values have the same values at an input as a state's terms and variables grow; so it keeps the frames and the heaps
-- that it stands for.
use Rattle.std.proofs.Common.{◌≡◌, ℕ, zero, suc, ◌+◌, ◌<◌, List, [], ◌∷◌, length, map, drop, slice_get, Option, Some, refl, sym, ap, subst, ◌∙◌, arith}
use Rattle.std.specs.List.{slice_index_or}
use Rattle.std.proofs.lemmas.Option.{slice_get_within}
use Rattle.kb_heap.specs.declared.heap.Heap.{Heap}
use Rattle.kb_heap.specs.declared.heap.Input.{Input}
use Rattle.kb_heap.specs.declared.heap.Value.{Value}
use Rattle.kb_heap.specs.declared.heap.Value.TheVariants.{Int as IntValue, Ref}
use Rattle.kb_heap.specs.Heap.{value_at}
use Rattle.kb_classes.specs.World.{World}
use Rattle.kb_semantics.specs.Config.{Frame}
use Rattle.kb_terms.specs.declared.node.TermId.{TermId}
use Rattle.kb_terms.specs.declared.node.Node.{Node}
use Rattle.kb_terms.specs.Terms.{IsTerm, Extends, int_at, value_of, values}
use Rattle.kb_terms.proofs.Values.{value_of-extends}
use Rattle.kb_picture.specs.declared.picture.Picture.{Picture}
use Rattle.kb_picture.specs.declared.picture.PlaceLists.{PlaceLists}
use Rattle.kb_picture.specs.Endings.{Reading, place_at}
use Rattle.kb_picture.specs.Instances.{variable_values}
use Rattle.kb_picture.specs.Shapes.{IsNoPlace}
use Rattle.kb_frames.specs.declared.frame.SymFrame.{SymFrame}
use Rattle.kb_frames.specs.declared.state.SymObject.{SymObject}
use Rattle.kb_frames.specs.declared.value.Cell.{Cell}
use Rattle.kb_frames.specs.declared.value.Cell.TheVariants.{Untouched}
use Rattle.kb_frames.specs.declared.value.SymValue.{SymValue}
use Rattle.kb_frames.specs.declared.value.SymValue.TheVariants.{Int, Null, Obj, Literal, New, Loc}
use Rattle.kb_frames.specs.StandsFor.{FrameStandsFor, FramesStandFor, HeapStandsFor, made_at, present_value, reading_at, value_of_sym, values_of_sym}
use Rattle.kb_frames.specs.State.{State, cell_at}
use Rattle.kb_frames.specs.States.{AreCells, Each, IsCell, IsFrame, IsMade, IsSymValue}
use Rattle.kb_frames.proofs.MoreLaws.{cells_sound}
use Rattle.kb_frames.proofs.AlikeLaws.{cell_alike, frame_alike, frames_alike, objects_alike, values_alike}
use Rattle.kb_frames.proofs.ItemLaws.{each_rest}

-- a later reading has the same places, and gives the terms of a pool the same values
pub record IsLater (r later : Reading) (nodes : List Node) : Type 0 where
  pub places : later.places ≡ r.places
  pub inputs : later.inputs ≡ r.inputs
  pub literals : later.literals ≡ r.literals
  pub terms : (t : TermId) → IsTerm nodes t → int_at later.terms t.0 ≡ int_at r.terms t.0

module _ (world : World) (state : State) (r later : Reading) (is : IsLater r later state.nodes) where
  pub value_later : (value : SymValue) → IsSymValue world state value → value_of_sym later value ≡ value_of_sym r value
  value_later (Int t) h = ap IntValue (is.terms t h)
  value_later Null h = refl
  value_later (Obj n) h = ap (λ (p : PlaceLists). Ref (place_at p.objects n)) is.places
  value_later (Literal n) h = ap (λ (i : ℕ). Ref (i + n)) is.inputs
  value_later (New n) h = ap (λ (i : ℕ). Ref (i + later.literals + n)) is.inputs ∙ ap (λ (l : ℕ). Ref (r.inputs + l + n)) is.literals
  value_later (Loc n) h = ap (λ (p : PlaceLists). Ref (place_at p.locs n)) is.places

  pub values_later : (values : List SymValue) → Each (IsSymValue world state) values → values_of_sym later values ≡ values_of_sym r values
  values_later = values_alike world state r later value_later

  pub frame_later : (symbolic : SymFrame) (frame : Frame) → IsFrame world state symbolic → FrameStandsFor r symbolic frame → FrameStandsFor later symbolic frame
  frame_later = frame_alike world state r later value_later

  pub frames_later : (symbolic : List SymFrame) (frames : List Frame) → Each (IsFrame world state) symbolic → FramesStandFor r symbolic frames → FramesStandFor later symbolic frames
  frames_later = frames_alike world state r later value_later

  pub objects_later : (made : List SymObject) → Each (IsMade world state) made → map (made_at later) made ≡ map (made_at r) made
  objects_later = objects_alike world state r later value_later

  pub cell_later : (first : Option Value) (cell : Cell) → IsCell world state cell → present_value later first cell ≡ present_value r first cell
  cell_later = cell_alike world state r later value_later

pub there : {A : Type 0} (xs : List A) (i : ℕ) → i < length xs → (x : A) × (slice_get xs i ≡ Some x)
there [] i h = absurd (omega (arith, h))
there (x ∷ xs) zero h = (x, refl)
there (x ∷ xs) (suc i) h = there xs i (omega (arith, h))

-- ---- the heap

pub heap_later : (world : World) (old new : State) (r later : Reading) (first heap : Heap) → IsLater r later old.nodes → AreCells world old → Each (IsMade world old) old.made
    → new.cells ≡ old.cells → new.made ≡ old.made → HeapStandsFor r old first heap → HeapStandsFor later new first heap
heap_later world old new r later first heap is cells made same_cells same_made stands = record {
  made =
      ap (λ (i : ℕ). drop (i + later.literals) heap.objects) is.inputs ∙ ap (λ (l : ℕ). drop (r.inputs + l) heap.objects) is.literals ∙ stands.made
      ∙ sym (objects_later world old r later is old.made made) ∙ ap (λ (ms : List SymObject). map (made_at later) ms) (sym same_made);
  like = λ object inside. stands.like object (subst (λ (i : ℕ). object < i) is.inputs inside);
  cells = λ object slot place at.
      stands.cells object slot place (ap (λ (p : PlaceLists). slice_get p.objects object) (sym is.places) ∙ at)
      ∙ sym (cell_later world old r later is (value_at first place slot) (cell_at old.cells object slot) (cells_sound world old object slot cells))
      ∙ ap (λ (cs : List (List Cell)). present_value later (value_at first place slot) (cell_at cs object slot)) (sym same_cells);
  kept = λ object slot place value at read.
      stands.kept object slot place value (ap (λ (p : PlaceLists). slice_get p.objects object) (sym is.places) ∙ at) (ap (λ (cs : List (List Cell)). cell_at cs object slot) (sym same_cells) ∙ read);
  others = λ object inside none.
      stands.others object (subst (λ (i : ℕ). object < i + r.literals) is.inputs (subst (λ (l : ℕ). object < later.inputs + l) is.literals inside))
      (subst (λ (p : PlaceLists). IsNoPlace p.objects object) is.places none);
}

-- ---- readings

-- with more terms
pub reading_later : (world : World) (old new : State) (input : Input) (places : PlaceLists) → new.picture ≡ old.picture → Extends old.nodes new.nodes
    → IsLater (reading_at world old input places) (reading_at world new input places) old.nodes
unfolding reading_at value_of
reading_later world old new input places same more = record {
  places = refl;
  inputs = refl;
  literals = refl;
  terms = λ t is.
      ap (λ (p : Picture). int_at (values (variable_values p input places.objects) new.nodes) t.0) same
      ∙ value_of-extends old.nodes new.nodes t (variable_values old.picture input places.objects) more is;
}

pub reading_int : (world : World) (state : State) (input : Input) (places : PlaceLists) (t : TermId)
    → value_of_sym (reading_at world state input places) (Int t) ≡ IntValue (value_of state.nodes t (variable_values state.picture input places.objects))
unfolding reading_at value_of
reading_int world state input places t = refl
