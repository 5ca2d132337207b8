-- A division of a method's inputs among listed things: each is reached by its list of decisions, and has a set of inputs. Paths
-- are such things, their instances the inputs; so are pieces of an exploration that was not finished.
use Rattle.std.specs.Prelude.{◌≡◌, ◌≢◌, ◌⊎◌, ℕ, ◌<◌, List, [], ◌∷◌, ◌++◌, Some, slice_get}
use Rattle.kb_class.specs.declared.ids.MethodId.{MethodId}
use Rattle.kb_heap.specs.declared.heap.Input.{Input}
use Rattle.kb_classes.specs.World.{World}
use Rattle.kb_semantics.specs.Inputs.{IsTypeCorrect}
use Rattle.kb_picture.specs.Exactly.{ExactlyOneHas}

-- ---- sets of inputs

-- each of those inputs is in the set of exactly one of them
abbrev pub DivideThose : {A : Type 0} → (Input → Type 0) → (A → Input → Type 0) → List A → Type 0
DivideThose Those Has listed = (input : Input) → Those input → ExactlyOneHas Has listed input

-- each input that is type-correct for the method is
abbrev pub Divide : {A : Type 0} → World → MethodId → (A → Input → Type 0) → List A → Type 0
Divide world method Has listed = DivideThose (IsTypeCorrect world method) Has listed

-- ---- lists of decisions

-- one list of numbers comes before the other: it is smaller at the first place where they differ, or ends there
abbrev pub DecisionsComeBefore : List ℕ → List ℕ → Type 0
DecisionsComeBefore one [] = ⊥
DecisionsComeBefore [] (second ∷ others) = Unit {0}
DecisionsComeBefore (first ∷ rest) (second ∷ others) = (first < second) ⊎ ((first ≡ second) × DecisionsComeBefore rest others)

-- the other list begins with the one
abbrev pub IsFrontOf : List ℕ → List ℕ → Type 0
IsFrontOf one other = (rest : List ℕ) × (other ≡ one ++ rest)

-- The decisions of listed things rise, and those of none are the front of another's.
pub record AreDecisions {A : Type 0} (decisions_of : A → List ℕ) (listed : List A) : Type 0 where
  pub rising : (i j : ℕ) (one other : A) → slice_get listed i ≡ Some one → slice_get listed j ≡ Some other → i < j
      → DecisionsComeBefore (decisions_of one) (decisions_of other)
  pub apart : (i j : ℕ) (one other : A) → slice_get listed i ≡ Some one → slice_get listed j ≡ Some other → i ≢ j
      → IsFrontOf (decisions_of one) (decisions_of other) → ⊥
