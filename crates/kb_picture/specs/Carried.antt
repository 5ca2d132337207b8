-- What holds of each path of a list, and the inputs that paths carry.
use Rattle.std.specs.Prelude.{◌≡◌, ℕ, List, Option, Some, None, slice_get}
use Rattle.kb_class.specs.declared.ids.MethodId.{MethodId}
use Rattle.kb_heap.specs.declared.heap.Input.{Input}
use Rattle.kb_classes.specs.World.{World}
use Rattle.kb_semantics.specs.Inputs.{IsTypeCorrect}
use Rattle.kb_picture.specs.declared.path.Leaf.{Leaf}
use Rattle.kb_picture.specs.declared.path.Leaf.TheVariants.{Ended as EndedLeaf, Cut, Undecided, Open}
use Rattle.kb_picture.specs.declared.path.Path.{Path}
use Rattle.kb_picture.specs.Instances.{IsInstance}

-- it holds of each listed path
abbrev pub EachPath : (Path → Type 0) → List Path → Type 0
EachPath P listed = (i : ℕ) (path : Path) → slice_get listed i ≡ Some path → P path

-- ---- the input that an ended or cut path carries is one of its instances

abbrev pub input_carried : Leaf → Option Input
input_carried (EndedLeaf ended) = Some ended.input
input_carried (Cut bound input) = Some input
input_carried (Undecided log) = None
input_carried Open = None

abbrev pub CarriesInstance : World → MethodId → Path → Type 0
CarriesInstance world target path =
    (input : Input) → input_carried path.leaf ≡ Some input → IsTypeCorrect world target input × IsInstance path input
