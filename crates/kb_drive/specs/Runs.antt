-- The runs of an input of which an exploration speaks, and what some configuration of one of them makes or reads. For now the
-- one run that counts is that of the method explored.
use Rattle.std.specs.Prelude.{◌≡◌, ℕ, List, [], ◌∷◌, Some}
use Rattle.kb_class.specs.Naming.{Has}
use Rattle.kb_class.specs.declared.ids.MethodId.{MethodId}
use Rattle.kb_heap.specs.declared.heap.Input.{Input}
use Rattle.kb_classes.specs.World.{World}
use Rattle.kb_semantics.specs.Comparisons.{Comparison}
use Rattle.kb_semantics.specs.Config.{Setting, Config}
use Rattle.kb_semantics.specs.Looks.{Slot, compares, reads}
use Rattle.kb_semantics.specs.Step.{start_of, config_at}
use Rattle.kb_frames.specs.StandsFor.{written_by}

-- the beginnings of the runs that count for an input
abbrev pub starts_of : World → MethodId → Input → List Config
starts_of world target input = start_of world target input ∷ []

-- Some configuration of one of these runs is such; what it is may speak of the run's beginning, and of the number of steps
-- behind it.
pub record SomeConfig (s : Setting) (starts : List Config) (IsSuch : Config → ℕ → Config → Type 0) : Type 0 where
  pub start : Config
  pub counts : Has starts start
  pub steps : ℕ
  pub config : Config
  pub config_is : config_at s steps start ≡ Some config
  pub such : IsSuch start steps config

-- one of these runs makes the comparison
abbrev pub SomeCompares : Setting → List Config → Comparison → Type 0
SomeCompares s starts comparison = SomeConfig s starts (λ start steps c. Has (compares s c) comparison)

-- one of these runs reads the slot, which this same run has not written before
abbrev pub SomeReads : Setting → List Config → Slot → Type 0
SomeReads s starts slot = SomeConfig s starts (λ start steps c. Has (reads s c) slot × (Has (written_by s steps start) slot → ⊥))
