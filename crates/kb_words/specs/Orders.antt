-- What words order, or why they order nothing.
use Rattle.std.specs.Prelude.{◌≡◌, ℕ, ◌*◌, ◌≤◌, nat_le, Option, Some, None, List, [], ◌∷◌, codes, Result, Ok, Err, if◌then◌else◌, option_and_then, unwrap_or, is_some, false}
use Rattle.std.specs.Str.{bytes_eq}
use Rattle.kb_heap.specs.declared.bounds.Bounds.{Bounds}
use Rattle.kb_names.specs.Targets.{IsTarget, IsTargetText, SpellsTarget}
use Rattle.kb_names.specs.declared.types.Target.{Target}
use Rattle.kb_picture.specs.declared.choice.Init.{Init}
use Rattle.kb_picture.specs.declared.choice.Init.TheVariants.{Lazy}
use Rattle.kb_words.specs.declared.options.OptionName.{OptionName}
use Rattle.kb_words.specs.declared.options.OptionName.TheVariants as options
use Rattle.kb_words.specs.declared.options.Range.{Range}
use Rattle.kb_words.specs.declared.orders.Command.{Command}
use Rattle.kb_words.specs.declared.orders.Command.TheVariants as commands
use Rattle.kb_words.specs.declared.orders.Job.{Job}
use Rattle.kb_words.specs.declared.orders.Order.{Order}
use Rattle.kb_words.specs.declared.orders.Order.TheVariants as orders
use Rattle.kb_words.specs.declared.orders.WordFault.{WordFault}
use Rattle.kb_words.specs.declared.orders.WordFault.TheVariants as faults
use Rattle.kb_words.specs.declared.settings.Setting.{Setting}
use Rattle.kb_words.specs.Options.{init_named, is_number, number_within, range_of}
use Rattle.kb_words.specs.Settings.{◌>>=◌, files_of, method_word, settings_of, value_given}

-- ---- jobs

-- the number that was given to an option, or the one that stands where none was
abbrev pub number_given : OptionName → ℕ → List Setting → ℕ
number_given option default settings = unwrap_or (option_and_then (number_within (range_of option)) (value_given option settings)) default

abbrev pub init_given : List Setting → Init
init_given settings = unwrap_or (option_and_then init_named (value_given options.Init settings)) Lazy

abbrev pub bounds_given : List Setting → Bounds
bounds_given settings = record {
  k = number_given options.K 3 settings;
  array = number_given options.Array 3 settings;
  run = record {
    alloc = number_given options.Alloc 16 settings;
    loops = number_given options.Loops 10 settings;
    depth = number_given options.Depth 16 settings;
    steps = number_given options.Steps 2000 settings;
  };
}

-- those that stand where no option gives one
abbrev pub default_bounds : Bounds
default_bounds = bounds_given []

-- the job on a target and files, where options say or leave what else it has
abbrev pub job_with : List Setting → List (List ℕ) → Target → Job
job_with settings files target = record {
  target = target;
  init = init_given settings;
  bounds = bounds_given settings;
  paths = number_given options.Paths 1000 settings;
  budget = number_given options.Budget 2000 settings;
  files = files;
}

-- the most clauses that a whole exploration may derive
abbrev pub most_derived : ℕ
most_derived = 2000000

-- a job that asks for no more than those
abbrev pub if_enough : Job → Result Job WordFault
if_enough job = if nat_le (job.paths * job.budget) most_derived then Ok job else Err faults.TooMuch

abbrev pub job_on : List Setting → List (List ℕ) → Target → Result Job WordFault
job_on settings [] target = Err faults.NoFiles
job_on settings (file ∷ files) target = if_enough (job_with settings (file ∷ files) target)

-- the job of options and files, where that is the target of the method
abbrev pub job_from : Option Target → List Setting → List (List ℕ) → Result Job WordFault
job_from None settings files = Err faults.NoMethod
job_from (Some target) settings files = job_on settings files target

-- the job of the words behind a command that explores
unfoldable pub job_of : Option Target → Command → List (List ℕ) → Result Job WordFault
job_of target command words = settings_of (is_some target) command words >>= (λ settings. job_from target settings (files_of words))

-- ---- orders

abbrev pub replay_from : Option (List ℕ) → ℕ → List (List ℕ) → Result Order WordFault
replay_from None workers files = Err faults.NoTests
replay_from (Some tests) workers [] = Err faults.NoFiles
replay_from (Some tests) workers (file ∷ files) = Ok (orders.Replay tests (file ∷ files) workers)

unfoldable pub replay_of : List (List ℕ) → Result Order WordFault
replay_of words = settings_of false commands.Replay words >>= (λ settings. replay_from (value_given options.Tests settings) (number_given options.Workers 1 settings) (files_of words))

-- `assemble FILE`, whatever the word begins with
unfoldable pub assembly_of : List (List ℕ) → Result Order WordFault
assembly_of [] = Err (faults.NoValue 0)
assembly_of (text ∷ []) = Ok (orders.Assemble text)
assembly_of (text ∷ other ∷ more) = Err (faults.Unknown 2)

-- how many blocks a sample may have
abbrev pub sample_range : Range
sample_range = record { low = 0; high = 64 }

abbrev pub sample_at : List ℕ → Result ℕ WordFault
sample_at word = if is_number word then within (number_within sample_range word) else Err (faults.BadNumber 1)
  where
    within : Option ℕ → Result ℕ WordFault
    within None = Err (faults.OutOfRange 1)
    within (Some blocks) = Ok blocks

-- `sample NUMBER`
unfoldable pub sample_of : List (List ℕ) → Result Order WordFault
sample_of [] = Err (faults.NoValue 0)
sample_of (word ∷ []) = sample_at word >>= (λ blocks. Ok (orders.Sample blocks))
sample_of (word ∷ other ∷ more) = sample_at word >>= (λ blocks. Err (faults.Unknown 2))

-- the command of that name
abbrev pub command_named : List ℕ → Option Command
command_named word =
    if bytes_eq word (codes "explore") then Some commands.Explore
    else if bytes_eq word (codes "tests") then Some commands.Tests
    else if bytes_eq word (codes "diagrams") then Some commands.Diagrams
    else if bytes_eq word (codes "replay") then Some commands.Replay
    else if bytes_eq word (codes "assemble") then Some commands.Assemble
    else if bytes_eq word (codes "sample") then Some commands.Sample
    else None

-- the order to explore a job
abbrev pub explored : Command → Job → Order
explored commands.Tests job = orders.Tests job
explored commands.Diagrams job = orders.Diagrams job
explored command job = orders.Explore job

-- the order of a command that explores with the words behind it
abbrev pub exploration_of : Option Target → Command → List (List ℕ) → Result Order WordFault
exploration_of target command words = job_of target command words >>= (λ job. Ok (explored command job))

-- the order of a command with the words behind it
abbrev pub order_by : Option Target → Command → List (List ℕ) → Result Order WordFault
order_by target commands.Explore words = exploration_of target commands.Explore words
order_by target commands.Tests words = exploration_of target commands.Tests words
order_by target commands.Diagrams words = exploration_of target commands.Diagrams words
order_by target commands.Replay words = replay_of words
order_by target commands.Assemble words = assembly_of words
order_by target commands.Sample words = sample_of words

-- the order of a list of words, or their one fault, where that is the target of the method
unfoldable pub order_of : Option Target → List (List ℕ) → Result Order WordFault
order_of target [] = Err faults.NoCommand
order_of target (word ∷ words) = by (command_named word)
  where
    by : Option Command → Result Order WordFault
    by None = Err (faults.Unknown 0)
    by (Some command) = order_by target command words

-- that is the target which the word spells; of no word there is none
abbrev pub IsTargetIn : Option (List ℕ) → Option Target → Type 0
IsTargetIn None target = target ≡ None
IsTargetIn (Some word) None = IsTargetText word → ⊥
IsTargetIn (Some word) (Some target) = SpellsTarget target word

-- the words behind the command
abbrev pub behind_command : List (List ℕ) → List (List ℕ)
behind_command [] = []
behind_command (command ∷ words) = words

-- The order of a list of words, or their one fault: the first by its place, and then what is missing or too much.
pub record Orders (words : List (List ℕ)) (result : Result Order WordFault) : Type 0 where
  pub target : Option Target
  pub target_is : IsTargetIn (method_word (behind_command words)) target
  pub is : order_of target words ≡ result

-- the fault is that of the words, unless memory ran out
abbrev pub IsFaultOf : List (List ℕ) → WordFault → Type 0
IsFaultOf words faults.NoMemory = Unit {0}
IsFaultOf words fault = Orders words (Err fault)

-- it is so, unless memory ran out
abbrev pub AreOrdered : List (List ℕ) → Result Order WordFault → Type 0
AreOrdered words (Ok order) = Orders words (Ok order)
AreOrdered words (Err fault) = IsFaultOf words fault

-- ---- what an order has

-- the bounds lie in their ranges
pub record AreBounds (bounds : Bounds) : Type 0 where
  pub k : bounds.k ≤ 16
  pub array : bounds.array ≤ 16
  pub alloc : bounds.run.alloc ≤ 1024
  pub loops : bounds.run.loops ≤ 1000
  pub some_depth : 1 ≤ bounds.run.depth
  pub depth : bounds.run.depth ≤ 256
  pub some_steps : 1 ≤ bounds.run.steps
  pub steps : bounds.run.steps ≤ 100000

-- a job as its words may have it: the target has a text, and the numbers lie in their ranges
pub record IsJob (job : Job) : Type 0 where
  pub target : IsTarget job.target
  pub bounds : AreBounds job.bounds
  pub some_paths : 1 ≤ job.paths
  pub paths : job.paths ≤ 100000
  pub some_budget : 1 ≤ job.budget
  pub budget : job.budget ≤ 100000
  pub derived : job.paths * job.budget ≤ most_derived

-- an order whose numbers lie in their ranges
abbrev pub IsOrder : Order → Type 0
IsOrder (orders.Explore job) = IsJob job
IsOrder (orders.Tests job) = IsJob job
IsOrder (orders.Diagrams job) = IsJob job
IsOrder (orders.Replay tests files workers) = (1 ≤ workers) × (workers ≤ 64)
IsOrder (orders.Assemble text) = Unit {0}
IsOrder (orders.Sample blocks) = blocks ≤ 64
