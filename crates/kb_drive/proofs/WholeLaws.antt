-- Where the list of the whole exploration of a method covers the state before its arguments are read, it covers the method.
use Rattle.std.proofs.Common.{ℕ, List}
use Rattle.kb_class.specs.declared.ids.MethodId.{MethodId}
use Rattle.kb_heap.specs.declared.bounds.Bounds.{Bounds}
use Rattle.kb_classes.specs.World.{World}
use Rattle.kb_picture.specs.declared.choice.Init.{Init}
use Rattle.kb_picture.specs.declared.path.Path.{Path}
use Rattle.kb_drive.specs.Compared.{ComparesAsRuns}
use Rattle.kb_picture.specs.Carried.{EachPath}
use Rattle.kb_drive.specs.Covers.{Covers, FindsFirst}
use Rattle.kb_drive.specs.ReadFirst.{SeesWhatIsRead}
use Rattle.kb_drive.specs.Whole.{CoversPiece}
use Rattle.kb_drive.proofs.SettledLaws.{whole_has, whole_piece}

module _ (world : World) (bounds : Bounds) (paths budget : ℕ) (init : Init) (target : MethodId) (listed : List Path)
    (covers : CoversPiece world bounds paths budget (whole_piece init target) listed) where
  pub covers_whole : Covers world target bounds paths budget listed
  covers_whole = record {
    inputs = λ input correct. covers.inputs input (record { correct = correct; instance_of = whole_has world bounds init target input });
    endings = λ i path at. (covers.right i path at).ending;
    cuts = λ i path at. (covers.right i path at).cut;
    carried = λ i path at. (covers.right i path at).carried;
    undecided = λ i path at. (covers.right i path at).undecided;
    open_last = covers.open_last;
    formed = record { each = λ i path at. (covers.right i path at).formed; decisions = covers.decisions };
  }

  pub found_whole : EachPath FindsFirst listed
  found_whole i path at = (covers.right i path at).found

  pub compares_whole : EachPath (ComparesAsRuns world target bounds) listed
  compares_whole i path at = (covers.right i path at).compared

  pub sees_whole : EachPath (SeesWhatIsRead world target bounds) listed
  sees_whole i path at = (covers.right i path at).seen
