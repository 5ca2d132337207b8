-- Which orders are built for now, and the files that an order reads.
use Rattle.std.specs.Prelude.{◌≡◌, ℕ, ◌≤◌, Bool, true, false, List, [], ◌∷◌, ◌++◌, Ok, Option, None, Some}
use Rattle.kb_picture.specs.declared.choice.Init.{Init}
use Rattle.kb_picture.specs.declared.choice.Init.TheVariants.{Lazy, Lazier}
use Rattle.kb_words.specs.declared.orders.Job.{Job}
use Rattle.kb_words.specs.declared.orders.Order.{Order}
use Rattle.kb_words.specs.declared.orders.Order.TheVariants.{Explore, Tests, Diagrams, Replay, Assemble, Sample}
use Rattle.kb_words.specs.Orders.{IsJob, Orders}

-- whether the mode is built for now
abbrev pub is_lazy : Init → Bool
is_lazy Lazy = true
is_lazy Lazier = false

-- whether what is ordered is built for now
abbrev pub is_built : Order → Bool
is_built (Explore job) = is_lazy job.init
is_built (Tests job) = is_lazy job.init
is_built (Diagrams job) = is_lazy job.init
is_built (Replay tests files workers) = true
is_built (Assemble text) = true
is_built (Sample blocks) = true

-- the words order what is built
abbrev pub OrdersBuilt : List (List ℕ) → Order → Type 0
OrdersBuilt words order = Orders words (Ok order) × (is_built order ≡ true)

-- the words order what is not built
abbrev pub OrdersUnbuilt : List (List ℕ) → Type 0
OrdersUnbuilt words = (order : Order) × Orders words (Ok order) × (is_built order ≡ false)

-- a job whose exploration is built: its numbers lie in their ranges, and its heaps are initialised lazily
pub record IsBuiltJob (job : Job) : Type 0 where
  pub numbers : IsJob job
  pub lazy : job.init ≡ Lazy

-- an order that is built, whose numbers lie in their ranges
abbrev pub IsBuiltOrder : Order → Type 0
IsBuiltOrder (Explore job) = IsBuiltJob job
IsBuiltOrder (Tests job) = IsBuiltJob job
IsBuiltOrder (Diagrams job) = IsBuiltJob job
IsBuiltOrder (Replay tests files workers) = (1 ≤ workers) × (workers ≤ 64)
IsBuiltOrder (Assemble text) = Unit {0}
IsBuiltOrder (Sample blocks) = Unit {0}

-- how many blocks the sample has that is ordered, if one is
abbrev pub blocks_of : Order → Option ℕ
blocks_of (Explore job) = None
blocks_of (Tests job) = None
blocks_of (Diagrams job) = None
blocks_of (Replay tests files workers) = None
blocks_of (Assemble text) = None
blocks_of (Sample blocks) = Some blocks

-- the text files of an order, and its class files, in the order of the words
abbrev pub texts_of : Order → List (List ℕ)
texts_of (Explore job) = []
texts_of (Tests job) = []
texts_of (Diagrams job) = []
texts_of (Replay tests files workers) = tests ∷ []
texts_of (Assemble text) = text ∷ []
texts_of (Sample blocks) = []

abbrev pub classes_of : Order → List (List ℕ)
classes_of (Explore job) = job.files
classes_of (Tests job) = job.files
classes_of (Diagrams job) = job.files
classes_of (Replay tests files workers) = files
classes_of (Assemble text) = []
classes_of (Sample blocks) = []

-- the files of an order, in the order of reading
abbrev pub files_of : Order → List (List ℕ)
files_of order = texts_of order ++ classes_of order
