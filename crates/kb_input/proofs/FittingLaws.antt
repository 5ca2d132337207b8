-- What is known of types, with one more.
use Rattle.std.proofs.Common.{◌≡◌, inl, inr, List, [], ◌∷◌, ◌++◌}
use Rattle.kb_classes.specs.World.{World}
use Rattle.kb_names.specs.declared.types.JType.{JType}
use Rattle.kb_input.specs.declared.fitting.Fitting.{Fitting}
use Rattle.kb_input.specs.Fitting.{IsFitting, AreFitting, IsKnown}

pub fitting_pushed : (world : World) (known : List Fitting) (fitting : Fitting) → AreFitting world known → IsFitting world fitting → AreFitting world (known ++ fitting ∷ [])
fitting_pushed world [] fitting are one = (one, tt)
fitting_pushed world (first ∷ known) fitting are one = (are.0, fitting_pushed world known fitting are.1 one)

-- the type is known then
pub known_pushed : (type : JType) (known : List Fitting) (fitting : Fitting) → fitting.kind ≡ type → IsKnown type (known ++ fitting ∷ [])
known_pushed type [] fitting same = inl same
known_pushed type (first ∷ known) fitting same = inr (known_pushed type known fitting same)

-- each type that was known still is
pub still_known : (type : JType) (known : List Fitting) (fitting : Fitting) → IsKnown type known → IsKnown type (known ++ fitting ∷ [])
still_known type [] fitting none = absurd none
still_known type (first ∷ known) fitting (inl same) = inl same
still_known type (first ∷ known) fitting (inr there) = inr (still_known type known fitting there)

pub known_first : (type : JType) (first : Fitting) (others : List Fitting) → first.kind ≡ type → IsKnown type (first ∷ others)
known_first type first others same = inl same

-- a type that is known, and not of the first, is of another one
pub known_behind : (type : JType) (first : Fitting) (others : List Fitting) → (first.kind ≡ type → ⊥) → IsKnown type (first ∷ others) → IsKnown type others
known_behind type first others other (inl same) = absurd (other same)
known_behind type first others other (inr there) = there
