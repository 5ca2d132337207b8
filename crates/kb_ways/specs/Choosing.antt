-- The alternatives of an index into an array, and of the length of an array that is to be made, in their order, and the conditions
-- that each of them asks for (JVMS 8 section 6.5: iaload, iastore and the like, newarray and anewarray; the order is an own rule).
-- They speak of a term and of a number, whatever instruction asks.
--
--   an index      each place in rising order; outside
--   a length      negative; each length up to the bound on arrays that are made, in rising order; above it
--
-- An alternative that asks for a condition which is decided as false is not offered, and every other one is.
use Rattle.std.specs.Prelude.{ℕ, zero, suc, pos, Bool, true, false, not, List, [], ◌∷◌, ◌++◌, map, filter}
use Rattle.kb_semantics.specs.Looks.{numbers_below}
use Rattle.kb_terms.specs.declared.node.TermId.{TermId}
use Rattle.kb_picture.specs.declared.choice.Choice.{Choice}
use Rattle.kb_picture.specs.declared.choice.Choice.TheVariants.{Index, Outside, Negative, Size, TooLarge}
use Rattle.kb_frames.specs.State.{State}
use Rattle.kb_ways.specs.declared.condition.Condition.{Condition}
use Rattle.kb_ways.specs.declared.condition.Side.TheVariants.{Term, Number}
use Rattle.kb_ways.specs.Asked.{equal_sides, less_sides, unsigned_sides, is_refuted}

-- ---- what is offered

-- those of some alternatives that ask for nothing that is decided as false
abbrev pub not_refuted : State → (Choice → List Condition) → List Choice → List Choice
not_refuted state conditions choices = filter (λ choice. not (is_refuted state (conditions choice))) choices

-- ---- an index

-- the places of an array of that length, and none of them
abbrev pub index_choices : ℕ → List Choice
index_choices count = map Index (numbers_below count) ++ Outside ∷ []

-- outside of an array without elements is every index
abbrev pub outside_conditions : TermId → ℕ → List Condition
outside_conditions x zero = []
outside_conditions x (suc n) = unsigned_sides (Term x) (Number (pos (suc n))) false ∷ []

abbrev pub index_conditions : TermId → ℕ → Choice → List Condition
index_conditions x count (Index place) = equal_sides (Term x) (Number (pos place)) true ∷ []
index_conditions x count Outside = outside_conditions x count
index_conditions x count _ = []

-- ---- a length

-- a negative one, those that may be, and one above the bound
abbrev pub length_choices : ℕ → List Choice
length_choices most = Negative ∷ (map Size (numbers_below (suc most)) ++ TooLarge ∷ [])

abbrev pub length_conditions : TermId → ℕ → Choice → List Condition
length_conditions x most Negative = less_sides (Term x) (Number (pos 0)) true ∷ []
length_conditions x most (Size count) = equal_sides (Term x) (Number (pos count)) true ∷ []
length_conditions x most TooLarge = less_sides (Term x) (Number (pos 0)) false ∷ less_sides (Number (pos most)) (Term x) true ∷ []
length_conditions x most _ = []
