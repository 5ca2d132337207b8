-- Symbolic states (King, 1976; with the unknown heap of Khurshid, Păsăreanu and Visser, TACAS 2003): a configuration of the
-- machine whose ints are terms and whose objects of the input are those of a picture.
use Rattle.std.specs.Prelude.{ℕ, List, [], Bool, Option, None}
use Rattle.std.specs.List.{slice_index_or}
use Rattle.kb_class.specs.declared.ids.MethodId.{MethodId}
use Rattle.kb_terms.specs.declared.node.TermId.{TermId}
use Rattle.kb_terms.specs.declared.node.Node.{Node}
use Rattle.kb_picture.specs.declared.choice.Init.{Init}
use Rattle.kb_picture.specs.declared.picture.Picture.{Picture}
use Rattle.kb_frames.specs.declared.value.Cell.{Cell}
use Rattle.kb_frames.specs.declared.value.Cell.TheVariants.{Untouched}
use Rattle.kb_frames.specs.declared.state.SymObject.{SymObject}
use Rattle.kb_frames.specs.declared.state.Stage.{Stage}
use Rattle.kb_frames.specs.declared.state.Stage.TheVariants.{Begins}

-- A state. Its run begins by reading its arguments, in order; then it has a current frame, and those of its callers from the
-- nearest on. `method` is the one of whose run it is a state. `carried` counts the instructions that were carried out. The
-- cells are those of the picture's objects, in order, `made` the objects of the run in the order of making. The terms are those
-- of a pool, and `when` the conditions in the order in which they were met. `chosen` is the place of an array that was chosen for
-- the index of the present instruction: it has none when it begins, and none once it was carried out.
pub record State : Type 0 where
  pub init : Init
  pub method : MethodId
  pub stage : Stage
  pub carried : ℕ
  pub picture : Picture
  pub cells : List (List Cell)
  pub made : List SymObject
  pub nodes : List Node
  pub when : List (TermId × Bool)
  pub chosen : Option ℕ

-- the cell of a slot or an element; one that has none was not touched
abbrev pub cell_at : List (List Cell) → ℕ → ℕ → Cell
cell_at cells object slot = slice_index_or (slice_index_or cells object []) slot Untouched

-- the state before the arguments are read
abbrev pub start_state : Init → MethodId → State
start_state init method =
    record {
      init = init;
      method = method;
      stage = Begins [];
      carried = 0;
      picture = record { seen = []; locs = []; objects = [] };
      cells = [];
      made = [];
      nodes = [];
      when = [];
      chosen = None;
    }
