-- What covering paths say of inputs that pass no bound.
use Rattle.std.specs.Prelude.{◌≡◌, ℕ, List, Some, slice_get}
use Rattle.kb_class.specs.declared.ids.MethodId.{MethodId}
use Rattle.kb_heap.specs.declared.bounds.Bound.{Bound}
use Rattle.kb_heap.specs.declared.bounds.Bounds.{Bounds}
use Rattle.kb_heap.specs.declared.heap.Input.{Input}
use Rattle.kb_classes.specs.World.{World}
use Rattle.kb_semantics.specs.Past.{IsPastK, IsPastArray}
use Rattle.kb_semantics.specs.Step.{run_of}
use Rattle.kb_picture.specs.declared.path.Ended.{Ended}
use Rattle.kb_picture.specs.declared.path.Leaf.{Leaf}
use Rattle.kb_picture.specs.declared.path.Leaf.TheVariants.{Ended as EndedLeaf, Cut, Undecided, Open}
use Rattle.kb_picture.specs.declared.path.Out.{Out}
use Rattle.kb_picture.specs.declared.path.Path.{Path}
use Rattle.kb_picture.specs.declared.path.SymEnding.TheVariants.{Threw}
use Rattle.kb_picture.specs.Endings.{stated_end}
use Rattle.kb_picture.specs.Instances.{IsInstance}
use Rattle.kb_frames.specs.Cuts.{setting_of, RunsPast}
use Rattle.kb_picture.specs.Carried.{EachPath}

-- the leaf is an ending or a cut
abbrev pub IsLeafDecided : Leaf → Type 0
IsLeafDecided (EndedLeaf ended) = Unit {0}
IsLeafDecided (Cut bound input) = Unit {0}
IsLeafDecided (Undecided log) = ⊥
IsLeafDecided Open = ⊥

-- no path is undecided or open
abbrev pub AreDecided : List Path → Type 0
AreDecided listed = EachPath (λ (path : Path). IsLeafDecided path.leaf) listed

-- no path states that something is thrown
abbrev pub NoneThrows : List Path → Type 0
NoneThrows listed = EachPath (λ (path : Path). (ended : Ended) (value : Out) → path.leaf ≡ EndedLeaf ended → ended.ending ≡ Threw value → ⊥) listed

-- the input is past neither bound on inputs, and its run past no other bound
pub record IsWithin (world : World) (target : MethodId) (bounds : Bounds) (input : Input) : Type 0 where
  pub chains : IsPastK input bounds.k → ⊥
  pub arrays : IsPastArray input bounds.array → ⊥
  pub run : (bound : Bound) → RunsPast world target bounds bound input → ⊥

-- some listed path is ended, has the input as an instance, and states its run
pub record EndsOnPath (world : World) (target : MethodId) (bounds : Bounds) (listed : List Path) (input : Input) : Type 0 where
  pub place : ℕ
  pub path : Path
  pub there : slice_get listed place ≡ Some path
  pub ended : Ended
  pub leaf : path.leaf ≡ EndedLeaf ended
  pub instance_of : IsInstance path input
  pub states : run_of (setting_of world bounds) target input ≡ stated_end world path ended input
