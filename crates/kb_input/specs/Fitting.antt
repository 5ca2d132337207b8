-- What is known of the types that were asked for: of each the first exact type that fits.
use Rattle.std.specs.Prelude.{◌≡◌, ◌⊎◌, List, [], ◌∷◌}
use Rattle.std.specs.List.{AllByRecursion}
use Rattle.kb_classes.specs.World.{World}
use Rattle.kb_names.specs.declared.types.JType.{JType}
use Rattle.kb_input.specs.declared.fitting.Fitting.{Fitting}
use Rattle.kb_input.specs.Emitted.{first_fitting}

abbrev pub IsFitting : World → Fitting → Type 0
IsFitting world fitting = fitting.first ≡ first_fitting world fitting.kind

abbrev pub AreFitting : World → List Fitting → Type 0
AreFitting world known = AllByRecursion (IsFitting world) known

-- the type was asked for
abbrev pub IsKnown : JType → List Fitting → Type 0
IsKnown type [] = ⊥
IsKnown type (first ∷ others) = (first.kind ≡ type) ⊎ IsKnown type others
