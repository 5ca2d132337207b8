-- That the path of a state says of inputs what the state says.
use Rattle.std.specs.Prelude.{◌≡◌, ◌↔◌, ℕ, Bool, List, length, take, Some, slice_get}
use Rattle.kb_heap.specs.declared.heap.Input.{Input}
use Rattle.kb_blast.specs.Query.{query_of}
use Rattle.kb_classes.specs.World.{World}
use Rattle.kb_terms.specs.declared.node.TermId.{TermId}
use Rattle.kb_picture.specs.declared.path.Leaf.{Leaf}
use Rattle.kb_picture.specs.Instances.{IsInstance, variable_values, with_conditions}
use Rattle.kb_picture.specs.Queries.{query_of_path}
use Rattle.kb_frames.specs.Comparing.{comparison_of, comparison_at}
use Rattle.kb_frames.specs.Paths.{path_of}
use Rattle.kb_frames.specs.StandsFor.{IsInstanceOf}
use Rattle.kb_frames.specs.State.{State}

-- the state with the first so many of its conditions
abbrev pub with_first : State → ℕ → State
with_first state count = record state { when = take count state.when }

-- a condition of the path is one of the state, in the same place, and makes the same comparison at each input
pub record IsConditionOf (state : State) (decisions : List ℕ) (leaf : Leaf) (place : ℕ) (condition : ℕ × Bool) : Type 0 where
  pub term : TermId
  pub there : slice_get state.when place ≡ Some (term, condition.1)
  pub comparison : (input : Input) (places : List ℕ)
      → comparison_at (path_of state decisions leaf) input places condition.0
      ≡ comparison_of state.nodes (variable_values state.picture input places) term

pub record PathMeans (world : World) (state : State) (decisions : List ℕ) (leaf : Leaf) : Type 0 where
  -- its instances are the state's, also with the first so many conditions alone
  pub instances : (input : Input) → IsInstance (path_of state decisions leaf) input ↔ IsInstanceOf state input
  pub short : (count : ℕ) (input : Input)
      → IsInstance (with_conditions (path_of state decisions leaf) count) input ↔ IsInstanceOf (with_first state count) input
  -- what is asked about it is what the state asks
  pub query : query_of_path world state.method (path_of state decisions leaf) ≡ query_of state.nodes state.when
  -- its conditions are the state's
  pub count : length (path_of state decisions leaf).when ≡ length state.when
  pub conditions : (place : ℕ) (condition : ℕ × Bool) → slice_get (path_of state decisions leaf).when place ≡ Some condition
      → IsConditionOf state decisions leaf place condition
