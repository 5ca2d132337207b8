-- That a path's conditions are comparisons which a run makes: an exploration splits the inputs by nothing of its own (path
-- conditions are the branches that the program takes: King, 1976). It is said of the inputs that meet a front of the
-- conditions, so that it speaks of the paths too of which nobody knows whether they have an instance.
use Rattle.std.specs.Prelude.{◌≡◌, ℕ, ◌≤◌, Bool, false, List, length, Option, Some, None, slice_get}
use Rattle.kb_class.specs.declared.ids.MethodId.{MethodId}
use Rattle.kb_heap.specs.declared.bounds.Bounds.{Bounds}
use Rattle.kb_heap.specs.declared.heap.Input.{Input}
use Rattle.kb_classes.specs.World.{World}
use Rattle.kb_semantics.specs.Comparisons.{Comparison}
use Rattle.kb_picture.specs.declared.path.Path.{Path}
use Rattle.kb_picture.specs.Instances.{IsShortInstance}
use Rattle.kb_frames.specs.Cuts.{setting_of}
use Rattle.kb_frames.specs.Comparing.{comparison_at}
use Rattle.kb_drive.specs.Runs.{starts_of, SomeCompares}

-- ---- which of them may be conditions

-- a run that counts makes the comparison
abbrev pub IsComparisonMade : World → MethodId → Bounds → Input → Comparison → Type 0
IsComparisonMade world target bounds input comparison = SomeCompares (setting_of world bounds) (starts_of world target input) comparison

-- whether the condition in that place may be another one; none may for now
abbrev pub is_exempt : World → MethodId → Path → ℕ → Bool
is_exempt world target path place = false

-- it is a comparison, and such
abbrev pub IsSuchComparison : (Comparison → Type 0) → Option Comparison → Type 0
IsSuchComparison Such None = ⊥
IsSuchComparison Such (Some comparison) = Such comparison

-- each condition of the path that is not exempt is, at the input, a comparison that is such
abbrev pub AreSuchConditions : (Comparison → Type 0) → World → MethodId → Path → Input → List ℕ → Type 0
AreSuchConditions Such world target path input places =
    (i : ℕ) (condition : ℕ × Bool) → slice_get path.when i ≡ Some condition → is_exempt world target path i ≡ false
    → IsSuchComparison Such (comparison_at path input places condition.0)

-- For some number of conditions, the path has a short instance, and at each of its short instances all its conditions are
-- comparisons that are such for the input.
pub record AreComparisons (Such : Input → Comparison → Type 0) (world : World) (target : MethodId) (path : Path) : Type 0 where
  pub count : ℕ
  pub within : count ≤ length path.when
  pub some : Input
  pub some_is : IsShortInstance world target path count some
  pub each : (input : Input) (short : IsShortInstance world target path count input)
      → AreSuchConditions (Such input) world target path input short.instance_of.shape.places.objects

-- The path's conditions are comparisons that the runs make.
abbrev pub ComparesAsRuns : World → MethodId → Bounds → Path → Type 0
ComparesAsRuns world target bounds path = AreComparisons (IsComparisonMade world target bounds) world target path
