-- When the paths of an exploration cover a method: each type-correct input is an instance of exactly one of them, and each path
-- is true of its instances (the claim of generalised symbolic execution: Khurshid, Păsăreanu and Visser, TACAS 2003). The run
-- is that of the machine; the bounds, the most paths and the budget are those of the exploration.
use Rattle.std.specs.Prelude.{◌≡◌, ℕ, ◌<◌, ◌≤◌, Bool, true, false, not, List, Some, slice_get, count_by}
use Rattle.kb_chain.specs.declared.log.Log.{Log}
use Rattle.kb_class.specs.declared.ids.MethodId.{MethodId}
use Rattle.kb_heap.specs.declared.bounds.Bound.{Bound}
use Rattle.kb_heap.specs.declared.bounds.Bounds.{Bounds}
use Rattle.kb_heap.specs.declared.heap.Input.{Input}
use Rattle.kb_classes.specs.World.{World}
use Rattle.kb_oracle.specs.Answers.{LeavesOpen}
use Rattle.kb_semantics.specs.Inputs.{IsTypeCorrect}
use Rattle.kb_semantics.specs.Step.{run_of}
use Rattle.kb_picture.specs.declared.path.Ended.{Ended}
use Rattle.kb_picture.specs.declared.path.Leaf.{Leaf}
use Rattle.kb_picture.specs.declared.path.Leaf.TheVariants.{Ended as EndedLeaf, Cut, Undecided, Open}
use Rattle.kb_picture.specs.declared.path.Path.{Path}
use Rattle.kb_picture.specs.Carried.{EachPath, CarriesInstance}
use Rattle.kb_picture.specs.Endings.{stated_end}
use Rattle.kb_picture.specs.Finding.{IsFoundFirst}
use Rattle.kb_picture.specs.Instances.{IsInstance}
use Rattle.kb_picture.specs.Queries.{query_of_path}
use Rattle.kb_picture.specs.WellFormed.{IsWellFormed}
use Rattle.kb_frames.specs.Cuts.{setting_of, IsLicensed}
use Rattle.kb_drive.specs.Division.{Divide, AreDecisions}

-- ---- 1: every input is on one path

abbrev pub IsOnOnePath : World → MethodId → List Path → Type 0
IsOnOnePath world target listed = Divide world target IsInstance listed

-- ---- 2: an ended path states the run of each of its instances: its ending and the whole heap

abbrev pub StatesRuns : World → MethodId → Bounds → Path → Type 0
StatesRuns world target bounds path =
    (ended : Ended) (input : Input) → path.leaf ≡ EndedLeaf ended → IsTypeCorrect world target input → IsInstance path input
    → run_of (setting_of world bounds) target input ≡ stated_end world path ended input

-- ---- 3: each instance of a path that is cut passes the bound, and the path shows it

abbrev pub IsCutRightly : World → MethodId → Bounds → Path → Type 0
IsCutRightly world target bounds path =
    (bound : Bound) (carried input : Input) → path.leaf ≡ Cut bound carried → IsTypeCorrect world target input → IsInstance path input
    → IsLicensed world target bounds path.picture bound input

-- ---- 4: the input that an ended or cut path carries is one of its instances: kb_picture `specs/Carried.antt`, `CarriesInstance`

-- ---- 5: an undecided path carries a log that has spent the budget on the formula of its own conditions: so many entries, each new to
-- unit propagation on the formula and the entries before it, and none of them empty

abbrev pub IsUndecidedRightly : World → MethodId → ℕ → Path → Type 0
IsUndecidedRightly world target budget path = (log : Log) → path.leaf ≡ Undecided log → LeavesOpen (query_of_path world target path) budget log

-- ---- 6: paths are open only once so many others are listed

abbrev pub is_open : Leaf → Bool
is_open (EndedLeaf ended) = false
is_open (Cut bound input) = false
is_open (Undecided log) = false
is_open Open = true

-- how many of the paths are not open
abbrev pub closed_count : List Path → ℕ
closed_count listed = count_by (λ (path : Path). not (is_open path.leaf)) listed

pub record AreOpenLast (paths : ℕ) (listed : List Path) : Type 0 where
  -- not more than so many paths are not open
  pub most : closed_count listed ≤ paths
  -- where a path is open, exactly so many are not
  pub full : (i : ℕ) (path : Path) → slice_get listed i ≡ Some path → path.leaf ≡ Open → closed_count listed ≡ paths
  -- and every path that stands after it is open
  pub last : (i j : ℕ) (one other : Path) → slice_get listed i ≡ Some one → slice_get listed j ≡ Some other → i < j → one.leaf ≡ Open → other.leaf ≡ Open

-- ---- 7: the paths are well-formed, and their decisions are in order

abbrev pub decisions_of : Path → List ℕ
decisions_of path = path.decisions

pub record AreFormed (world : World) (target : MethodId) (listed : List Path) : Type 0 where
  pub each : (i : ℕ) (path : Path) → slice_get listed i ≡ Some path → IsWellFormed world target path
  pub decisions : AreDecisions decisions_of listed

-- ---- beside them: each slot that a path sees was found before it was read

abbrev pub FindsFirst : Path → Type 0
FindsFirst path = IsFoundFirst path.picture

-- ---- all of them

-- The listed paths cover the method `target`, explored within these bounds, up to so many paths, with a solver of that budget.
pub record Covers (world : World) (target : MethodId) (bounds : Bounds) (paths budget : ℕ) (listed : List Path) : Type 0 where
  pub inputs : IsOnOnePath world target listed
  pub endings : EachPath (StatesRuns world target bounds) listed
  pub cuts : EachPath (IsCutRightly world target bounds) listed
  pub carried : EachPath (CarriesInstance world target) listed
  pub undecided : EachPath (IsUndecidedRightly world target budget) listed
  pub open_last : AreOpenLast paths listed
  pub formed : AreFormed world target listed
