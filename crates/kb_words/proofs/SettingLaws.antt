-- How options and files stand behind a command.
use Rattle.std.proofs.Common.{◌≡◌, ℕ, ◌+◌, ◌-◌, ◌<◌, ◌≤◌, Bool, true, false, List, [], ◌∷◌, ◌++◌, length, map, take, drop, get_or, None, Result, Ok, Err, refl, sym, ◌∙◌, ap, arith}
use Rattle.std.proofs.lemmas.List.{take_all}
use Rattle.kb_words.specs.declared.orders.Command.{Command}
use Rattle.kb_words.specs.declared.options.OptionName.{OptionName}
use Rattle.kb_words.specs.declared.orders.WordFault.{WordFault}
use Rattle.kb_words.specs.declared.orders.WordFault.TheVariants as faults
use Rattle.kb_words.specs.declared.settings.Setting.{Setting}
use Rattle.kb_words.specs.Options.{is_option}
use Rattle.kb_words.specs.Settings.{Fails, files_of, method_word, option_at, setting_at, settings_from}

-- a word that names no option ends them
pub none_more : (is_target : Bool) (command : Command) (before : List Setting) (place : ℕ) (name : List ℕ) (behind : List (List ℕ)) → is_option name ≡ false →
    settings_from is_target command before place (name ∷ behind) ≡ Ok before
none_more is_target command before place name [] e = rw e refl
none_more is_target command before place name (word ∷ rest) e = rw e refl

-- the fault of a name is that of all
pub bad_option : (is_target : Bool) (command : Command) (before : List Setting) (place : ℕ) (name : List ℕ) (behind : List (List ℕ)) (fault : WordFault) →
    is_option name ≡ true → option_at command before place name ≡ Err fault → settings_from is_target command before place (name ∷ behind) ≡ Err fault
bad_option is_target command before place name [] fault e f = rw (e, f) refl
bad_option is_target command before place name (word ∷ rest) fault e f = rw (e, f) refl

-- the files begin at a word that names no option
pub files_here : (name : List ℕ) (behind : List (List ℕ)) → is_option name ≡ false → files_of (name ∷ behind) ≡ name ∷ behind
files_here name [] e = rw e refl
files_here name (word ∷ rest) e = rw e refl

-- one word or none has no option with a value
pub no_method : {A : Type 0} (word : A → List ℕ) (rest : List A) → length rest < 2 → method_word (map word rest) ≡ None
no_method word [] few = refl
no_method word (x ∷ []) few = refl
no_method word (x ∷ y ∷ rest) few = absurd (omega (arith, few))

-- what is told is a fault
pub told_fault : {A : Type 0} (fault : WordFault) (told : Result A WordFault) → told ≡ Err fault → Fails fault told
told_fault faults.NoMemory told e = tt
told_fault faults.NoCommand told e = e
told_fault (faults.Unknown word) told e = e
told_fault (faults.NoValue word) told e = e
told_fault (faults.BadNumber word) told e = e
told_fault (faults.OutOfRange word) told e = e
told_fault (faults.Repeated word) told e = e
told_fault (faults.BadTarget word) told e = e
told_fault faults.NoMethod told e = e
told_fault faults.NoTests told e = e
told_fault faults.NoFiles told e = e
told_fault faults.TooMuch told e = e

-- ---- from word to word

-- the words behind the first one
abbrev pub others_of : {A : Type 0} → List A → List A
others_of rest = take (length rest - 1) (drop 1 rest)

others-cons : {A : Type 0} (x : A) (xs : List A) → others_of (x ∷ xs) ≡ xs
others-cons x xs = take_all (length (x ∷ xs) - 1) xs (omega arith)

-- the first word names a bad option
pub stops_at : {A : Type 0} (word : A → List ℕ) (is_target : Bool) (command : Command) (before : List Setting) (place : ℕ) (rest : List A) (name : A) (fault : WordFault) →
    1 ≤ length rest → name ≡ get_or rest 0 name → is_option (word name) ≡ true → option_at command before place (word name) ≡ Err fault →
    settings_from is_target command before place (map word rest) ≡ Err fault
stops_at word is_target command before place [] name fault some at is bad = absurd (omega (arith, some))
stops_at word is_target command before place (x ∷ xs) name fault some at is bad =
    let same : word name ≡ word x = ap word at in
    bad_option is_target command before place (word x) (map word xs) fault (ap is_option (sym same) ∙ is) (ap (option_at command before place) (sym same) ∙ bad)

-- the first two words are an option and its value
pub goes_at : {A : Type 0} (word : A → List ℕ) (is_target : Bool) (command : Command) (before new : List Setting) (place : ℕ) (rest : List A) (name value : A)
    (option : OptionName) (setting : Setting) (all : Result (List Setting) WordFault) → 1 ≤ length rest → 1 ≤ length (others_of rest) →
    name ≡ get_or rest 0 name → value ≡ get_or (others_of rest) 0 value → is_option (word name) ≡ true → option_at command before place (word name) ≡ Ok option →
    setting_at is_target option (place + 1) (word value) ≡ Ok setting → new ≡ before ++ setting ∷ [] → settings_from is_target command before place (map word rest) ≡ all →
    settings_from is_target command new (place + 2) (map word (others_of (others_of rest))) ≡ all
goes_at word is_target command before new place [] name value option setting all some more at next is good set added goes = absurd (omega (arith, some))
goes_at word is_target command before new place (x ∷ []) name value option setting all some more at next is good set added goes = absurd (omega (arith, more))
goes_at word is_target command before new place (x ∷ y ∷ xs) name value option setting all some more at next is good set added goes =
    let behind : others_of (x ∷ y ∷ xs) ≡ y ∷ xs = others-cons x (y ∷ xs) in
    let last : others_of (others_of (x ∷ y ∷ xs)) ≡ xs = ap (λ (ys : List _). others_of ys) behind ∙ others-cons y xs in
    let first : word x ≡ word name = ap word (sym at) in
    let second : word y ≡ word value = ap word (sym (next ∙ ap (λ (ys : List _). get_or ys 0 value) behind)) in
    let here : settings_from is_target command before place (map word (x ∷ y ∷ xs)) ≡ settings_from is_target command (before ++ setting ∷ []) (place + 2) (map word xs) =
    rw (first, second, is, good, set) refl in
    rw (last, added) (sym here ∙ goes)
