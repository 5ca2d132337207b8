use Rattle.std.proofs.Common.{◌≡◌, subst}
use Rattle.std.specs.Result.{IfOk}
use Rattle.kb_heap.specs.declared.heap.Input.{Input}
use Rattle.kb_picture.specs.declared.path.Leaf.TheVariants.{Cut}
use Rattle.kb_picture.specs.declared.path.Path.{Path}
use Rattle.kb_drive.specs.Following.{path_of_piece}
use Rattle.kb_drive.proofs.leaf.cut_path.Goals as goal

pub returns : goal.returns
returns c =
    subst (λ (input : Input). IfOk c.path_of.result (λ (path : Path). path ≡ path_of_piece c.args.piece.now (Cut c.args.bound input))) c.in_ok-input.ensures c.path_of.ensures
