-- Where the values and the logs of listed paths come from: the answers that an oracle has given.
use Rattle.std.specs.Prelude.{◌≡◌, ◌⊎◌, ℕ, ◌-◌, ℤ, pos, List, [], ◌++◌, length, replicate, take, drop, Option, Some, None}
use Rattle.std.specs.List.{filter_map}
use Rattle.kb_chain.specs.declared.log.Log.{Log}
use Rattle.kb_class.specs.Naming.{Has}
use Rattle.kb_class.specs.declared.ids.MethodId.{MethodId}
use Rattle.kb_heap.specs.declared.heap.Input.{Input}
use Rattle.kb_classes.specs.World.{World}
use Rattle.kb_oracle.specs.declared.answer.Answer.{Answer}
use Rattle.kb_oracle.specs.declared.answer.Answer.TheVariants.{Model, Refuted, Undecided as UndecidedAnswer}
use Rattle.kb_picture.specs.declared.path.Leaf.{Leaf}
use Rattle.kb_picture.specs.declared.path.Leaf.TheVariants.{Ended as EndedLeaf, Cut, Undecided, Open}
use Rattle.kb_picture.specs.declared.path.Path.{Path}
use Rattle.kb_picture.specs.WellFormed.{variables_seen}
use Rattle.kb_picture.specs.Carried.{EachPath, input_carried}
use Rattle.kb_input.specs.Emitted.{emitted_input}

-- ---- logs

abbrev pub log_of : Leaf → Option Log
log_of (EndedLeaf ended) = None
log_of (Cut bound input) = None
log_of (Undecided log) = Some log
log_of Open = None

abbrev pub log_in : Answer → Option Log
log_in (Model values) = None
log_in (Refuted log) = None
log_in (UndecidedAnswer log) = Some log

-- the logs of the undecided paths, and those of the undecided answers
abbrev pub logs_of : List Path → List Log
logs_of listed = filter_map (λ (path : Path). log_of path.leaf) listed

abbrev pub logs_given : List Answer → List Log
logs_given answers = filter_map log_in answers

-- ---- values

-- these values, and 0 for each further one up to so many
abbrev pub followed_by_zeros : ℕ → List ℤ → List ℤ
followed_by_zeros count values = values ++ replicate (count - length values) (pos 0)

-- a model that was given, or no values at all
abbrev pub AreGiven : List Answer → List ℤ → Type 0
AreGiven answers values = (values ≡ []) ⊎ Has answers (Model values)

-- an input that the path carries is the emitted one for a model that was given, followed by 0s, or for 0s alone
abbrev pub CarriesGiven : World → MethodId → List Answer → Path → Type 0
CarriesGiven world target answers path =
    (input : Input) → input_carried path.leaf ≡ Some input
    → (values : List ℤ) × AreGiven answers values
    × (input ≡ emitted_input world target path.picture (followed_by_zeros (length (variables_seen path.picture)) values))

-- The listed paths have their logs and their values from these answers: the logs of the undecided paths are those of the
-- undecided answers, in order.
pub record HaveValuesFrom (world : World) (target : MethodId) (listed : List Path) (answers : List Answer) : Type 0 where
  pub logs : logs_of listed ≡ logs_given answers
  pub inputs : EachPath (CarriesGiven world target answers) listed

-- ---- an oracle that tells its answers

-- Where the answers are told at two moments, those of the first are the first ones at the second, and what was given between
-- them is such.
abbrev pub OfGiven : (List Answer → Type 0) → Option (List Answer) → Option (List Answer) → Type 0
OfGiven Such (Some before) (Some now) = (take (length before) now ≡ before) × Such (drop (length before) now)
OfGiven Such None None = Unit {0}
OfGiven Such (Some before) None = ⊥
OfGiven Such None (Some now) = ⊥
