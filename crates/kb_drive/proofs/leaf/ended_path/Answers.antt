use Rattle.std.proofs.Common.{◌≡◌, sym, subst}
use Rattle.std.specs.Result.{IfOk}
use Rattle.kb_terms.specs.Terms.{AreTerms}
use Rattle.kb_picture.specs.declared.path.Ended.{Ended}
use Rattle.kb_picture.specs.declared.path.Leaf.TheVariants.{Ended as EndedLeaf}
use Rattle.kb_picture.specs.declared.path.Path.{Path}
use Rattle.kb_frames.specs.Paths.{path_roots}
use Rattle.kb_drive.specs.Following.{path_of_piece}
use Rattle.kb_drive.proofs.leaf.ended_path.Goals as goal

pub path_of-requires : goal.path_of-requires
path_of-requires c =
    subst (λ (ended : Ended). AreTerms c.args.piece.now.state.nodes (path_roots c.args.piece.now.state (EndedLeaf ended))) (sym c.in_ok-ended.ensures) c.requires

pub returns : goal.returns
returns c =
    subst (λ (ended : Ended). IfOk c.path_of.result (λ (path : Path). path ≡ path_of_piece c.args.piece.now (EndedLeaf ended))) c.in_ok-ended.ensures c.path_of.ensures
