-- What holds of the path of a state, by the laws of kb_frames.
use Rattle.std.proofs.Common.{ℕ, List}
use Rattle.kb_classes.specs.World.{World}
use Rattle.kb_picture.specs.declared.path.Leaf.{Leaf}
use Rattle.kb_frames.specs.Paths.{path_of}
use Rattle.kb_frames.specs.State.{State}
use Rattle.kb_frames.specs.States.{IsLeafIn, IsState}
use Rattle.kb_frames.proofs.FormedPaths.{roots_are_terms, well_formed}
use Rattle.kb_frames_laws.proofs.MeaningLaws.{means}
use Rattle.kb_drive.specs.StatePaths.{IsPathOf}

pub path_is : (world : World) (state : State) (decisions : List ℕ) (leaf : Leaf) → IsState world state → IsLeafIn world state leaf
    → IsPathOf world state decisions leaf
unfolding path_of
path_is world state decisions leaf is has = record {
  terms = roots_are_terms world state leaf is has;
  formed = well_formed world state decisions leaf is has;
  found = is.found;
  means = means world state decisions leaf is has;
}
