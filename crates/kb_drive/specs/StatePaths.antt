-- What an exploration takes from the paths of states: that the path of a state says of inputs what the state says.
use Rattle.std.specs.Prelude.{ℕ, List}
use Rattle.kb_classes.specs.World.{World}
use Rattle.kb_terms.specs.Terms.{AreTerms}
use Rattle.kb_picture.specs.declared.path.Leaf.{Leaf}
use Rattle.kb_picture.specs.Finding.{IsFoundFirst}
use Rattle.kb_picture.specs.WellFormed.{IsWellFormed}
use Rattle.kb_frames_laws.specs.Meant.{PathMeans}
use Rattle.kb_frames.specs.Paths.{path_of, path_roots}
use Rattle.kb_frames.specs.State.{State}

-- ---- paths

-- What holds of the path of a state to which `start` and later calls lead, with a leaf that it may have: its terms are there,
-- it is well-formed and sees what was found first, and says of inputs what the state says.
pub record IsPathOf (world : World) (state : State) (decisions : List ℕ) (leaf : Leaf) : Type 0 where
  pub terms : AreTerms state.nodes (path_roots state leaf)
  pub formed : IsWellFormed world state.method (path_of state decisions leaf)
  pub found : IsFoundFirst (path_of state decisions leaf).picture
  pub means : PathMeans world state decisions leaf
