-- What stands behind a command: options, each a name and a value, and then files. It is read from left to right, so that the first
-- fault by its place is the answer. Places count the words from 0, the command's.
use Rattle.std.specs.Prelude.{◌≡◌, ℕ, ◌+◌, Bool, true, false, not, Option, Some, None, List, [], ◌∷◌, ◌++◌, Result, Ok, Err, is_some, codes, if◌then◌else◌}
use Rattle.std.specs.List.{list_any}
use Rattle.std.specs.Str.{bytes_eq}
use Rattle.kb_words.specs.declared.options.OptionName.{OptionName}
use Rattle.kb_words.specs.declared.options.OptionName.TheVariants as options
use Rattle.kb_words.specs.declared.orders.Command.{Command}
use Rattle.kb_words.specs.declared.orders.Command.TheVariants.{Explore, Tests, Diagrams, Replay, Assemble, Sample}
use Rattle.kb_words.specs.declared.orders.WordFault.{WordFault}
use Rattle.kb_words.specs.declared.orders.WordFault.TheVariants as faults
use Rattle.kb_words.specs.declared.settings.Setting.{Setting}
use Rattle.kb_words.specs.Options.{init_named, is_number, is_option, number_within, option_named, range_of, same_option}

-- ---- results

-- what is found, or the fault
infixl 10 ◌>>=◌
abbrev pub ◌>>=◌ : {A B : Type 0} → Result A WordFault → (A → Result B WordFault) → Result B WordFault
(Ok found) >>= next = next found
(Err fault) >>= next = Err fault

-- what is told is the fault, unless memory ran out
abbrev pub Fails : {A : Type 0} → WordFault → Result A WordFault → Type 0
Fails faults.NoMemory told = Unit {0}
Fails fault told = told ≡ Err fault

-- what was given is what is told, unless memory ran out
abbrev pub Gives : {X A : Type 0} → (X → A) → Result X WordFault → Result A WordFault → Type 0
Gives view (Ok found) told = told ≡ Ok (view found)
Gives view (Err fault) told = Fails fault told

-- ---- one option

-- `--tests` and `--workers` are the options of `replay`
abbrev pub is_of_replay : OptionName → Bool
is_of_replay options.Tests = true
is_of_replay options.Workers = true
is_of_replay _ = false

-- all others are options of the commands that explore; two commands have none
abbrev pub takes : Command → OptionName → Bool
takes Replay option = is_of_replay option
takes Assemble option = false
takes Sample option = false
takes Explore option = not (is_of_replay option)
takes Tests option = not (is_of_replay option)
takes Diagrams option = not (is_of_replay option)

-- the option was given before
abbrev pub is_given : OptionName → List Setting → Bool
is_given option settings = list_any (λ (setting : Setting). same_option setting.option option) settings

-- the option that a word at that place names, behind those
abbrev pub option_at : Command → List Setting → ℕ → List ℕ → Result OptionName WordFault
option_at command before place name = judged (option_named name)
  where
    judged : Option OptionName → Result OptionName WordFault
    judged None = Err (faults.Unknown place)
    judged (Some option) = if takes command option then (if is_given option before then Err (faults.Repeated place) else Ok option) else Err (faults.Unknown place)

-- a number at that place, in the option's range
abbrev pub number_at : OptionName → ℕ → List ℕ → Result Setting WordFault
number_at option place word =
    if is_number word then
    (if is_some (number_within (range_of option) word) then Ok (record { option = option; value = word }) else Err (faults.OutOfRange place))
    else Err (faults.BadNumber place)

-- The option with the word at that place as its value; it is told whether the word of the method is a target.
abbrev pub setting_at : Bool → OptionName → ℕ → List ℕ → Result Setting WordFault
setting_at is_target options.Method place word = if is_target then Ok (record { option = options.Method; value = word }) else Err (faults.BadTarget place)
setting_at is_target options.Init place word = if is_some (init_named word) then Ok (record { option = options.Init; value = word }) else Err (faults.Unknown place)
setting_at is_target options.Tests place word = Ok (record { option = options.Tests; value = word })
setting_at is_target options.K place word = number_at options.K place word
setting_at is_target options.Array place word = number_at options.Array place word
setting_at is_target options.Alloc place word = number_at options.Alloc place word
setting_at is_target options.Loops place word = number_at options.Loops place word
setting_at is_target options.Depth place word = number_at options.Depth place word
setting_at is_target options.Steps place word = number_at options.Steps place word
setting_at is_target options.Paths place word = number_at options.Paths place word
setting_at is_target options.Budget place word = number_at options.Budget place word
setting_at is_target options.Workers place word = number_at options.Workers place word

-- ---- all of them

-- the options behind those, from a place on; the first word at an option's place that names none ends them
abbrev pub settings_from : Bool → Command → List Setting → ℕ → List (List ℕ) → Result (List Setting) WordFault
settings_from is_target command before place [] = Ok before
settings_from is_target command before place (name ∷ []) =
    if is_option name then option_at command before place name >>= (λ option. Err (faults.NoValue place)) else Ok before
settings_from is_target command before place (name ∷ word ∷ rest) =
    if is_option name then
    option_at command before place name >>= (λ option. setting_at is_target option (place + 1) word >>= (λ setting.
    settings_from is_target command (before ++ setting ∷ []) (place + 2) rest))
    else Ok before

-- the options behind a command
unfoldable pub settings_of : Bool → Command → List (List ℕ) → Result (List Setting) WordFault
settings_of is_target command words = settings_from is_target command [] 1 words

-- the word behind the first `--method` at an option's place
abbrev pub method_word : List (List ℕ) → Option (List ℕ)
method_word [] = None
method_word (name ∷ []) = None
method_word (name ∷ word ∷ rest) = if is_option name then (if bytes_eq name (codes "--method") then Some word else method_word rest) else None

-- the files: all words from the first on that stands at an option's place and names none
abbrev pub files_of : List (List ℕ) → List (List ℕ)
files_of [] = []
files_of (name ∷ []) = if is_option name then [] else name ∷ []
files_of (name ∷ word ∷ rest) = if is_option name then files_of rest else name ∷ word ∷ rest

-- the word that was given to an option
abbrev pub value_given : OptionName → List Setting → Option (List ℕ)
value_given option [] = None
value_given option (setting ∷ settings) = if same_option setting.option option then Some setting.value else value_given option settings
