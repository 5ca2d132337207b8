-- The path of a state: its picture and its conditions, with decisions and a leaf that are given. The terms are those that the
-- conditions and the leaf meet, in the order of a walk from them; before that the leaf has the numbers of the pool.
use Rattle.std.specs.Prelude.{ℕ, List}
use Rattle.kb_terms.specs.declared.node.TermId.{TermId}
use Rattle.kb_terms.specs.Numbering.{numbering}
use Rattle.kb_picture.specs.declared.path.Leaf.{Leaf}
use Rattle.kb_picture.specs.declared.path.Path.{Path}
use Rattle.kb_numbered.specs.Numbered.{numbered_path, walk_roots}
use Rattle.kb_frames.specs.State.{State}

-- from what the walk begins
abbrev pub path_roots : State → Leaf → List TermId
path_roots state leaf = walk_roots state.when leaf

-- the terms of the path, in its order
abbrev pub path_numbering : State → Leaf → List TermId
path_numbering state leaf = numbering state.nodes (path_roots state leaf)

-- The path of a state.
unfoldable pub path_of : State → List ℕ → Leaf → Path
path_of state decisions leaf = numbered_path state.picture state.nodes state.when decisions leaf (path_numbering state leaf)
