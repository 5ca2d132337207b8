-- What the program writes, in the output format of the SAT competitions.
use Rattle.std.specs.Prelude.{ℕ, ◌+◌, ◌==◌, nat_le, Bool, List, [], ◌∷◌, ◌++◌, length, count_by, Option, Some, None, codes, if◌then◌else◌}
use Rattle.std.specs.Fmt.{decimal, signed_decimal}
use Rattle.kb_chain.specs.Literal.{literal, number_of}
use Rattle.kb_chain.specs.declared.log.Chain.{Chain}
use Rattle.kb_chain.specs.declared.log.Verdict.{Verdict}
use Rattle.kb_chain.specs.declared.log.Verdict.TheVariants.{Good, Bad}
use Rattle.kb_sat.specs.declared.counts.Counts.{Counts}
use Rattle.kb_dimacs_text.specs.declared.refusal.Cause.{Cause}
use Rattle.kb_dimacs_text.specs.declared.refusal.Cause.TheVariants.{Header, NoNumber, HighVariable, MoreClauses, EarlyEnd}

-- a word behind a text whose last line has so many bytes: on that line where it has room, else on a new line `v`
abbrev pub placed : ℕ → List ℕ → List ℕ
placed column word = if nat_le (column + 1 + length word) 78 then codes " " ++ word else codes "\nv " ++ word

-- how many bytes that line has then
abbrev pub column_behind : ℕ → List ℕ → ℕ
column_behind column word = if nat_le (column + 1 + length word) 78 then column + 1 + length word else 2 + length word

unfoldable pub all_placed : ℕ → List (List ℕ) → List ℕ
all_placed column [] = codes "\n"
all_placed column (word ∷ words) = placed column word ++ all_placed (column_behind column word) words

-- the literal of each variable that its bit makes true, and 0
abbrev pub value_words : ℕ → List Bool → List (List ℕ)
value_words variable [] = codes "0" ∷ []
value_words variable (bit ∷ bits) = signed_decimal (number_of (literal variable bit)) ∷ value_words (variable + 1) bits

unfoldable pub satisfiable_text : List Bool → List ℕ
satisfiable_text bits = codes "s SATISFIABLE\nv" ++ all_placed 1 (value_words 1 bits)

-- an entry resolves two clauses and goes no further: the resolvents of an elimination are such entries, and some learned clauses
abbrev pub has_one_step : Chain → Bool
has_one_step entry = length entry.steps == 1

abbrev pub one_step_entries : List Chain → ℕ
one_step_entries entries = count_by has_one_step entries

-- what the check of a log said, if it was asked for
abbrev pub check_text : Option Verdict → List ℕ
check_text None = []
check_text (Some Good) = codes "c log good\n"
check_text (Some (Bad entry)) = codes "c log bad at entry " ++ (decimal entry ++ codes "\n")

-- a comment line with a count
unfoldable pub count_line : List ℕ → ℕ → List ℕ
count_line label count = codes "c " ++ (label ++ (codes " " ++ (decimal count ++ codes "\n")))

-- how many entries the log has, how many of them have one step, and what its check said
unfoldable pub log_text : List Chain → Option Verdict → List ℕ
log_text entries checked =
    count_line (codes "entries") (length entries) ++ (count_line (codes "one-step") (one_step_entries entries) ++ check_text checked)

unfoldable pub unsatisfiable_text : List Chain → Option Verdict → List ℕ
unsatisfiable_text entries checked = log_text entries checked ++ codes "s UNSATISFIABLE\n"

unfoldable pub unknown_text : List Chain → Option Verdict → List ℕ
unknown_text entries checked = log_text entries checked ++ codes "s UNKNOWN\n"

-- what the solver did
unfoldable pub counts_text : Counts → List ℕ
counts_text counts =
    count_line (codes "decisions") counts.decisions ++ (count_line (codes "propagations") counts.propagations
    ++ (count_line (codes "conflicts") counts.conflicts ++ count_line (codes "restarts") counts.restarts))

unfoldable pub usage_text : List ℕ
usage_text = codes "c refused: the words are a budget from 1 to 4294967295 and, if the log is to be checked, check\n"

abbrev pub cause_text : Cause → List ℕ
cause_text Header = codes "the first line of words is not p cnf VARIABLES CLAUSES"
cause_text NoNumber = codes "a word is no number of 32 bits"
cause_text HighVariable = codes "a variable is above the announced ones"
cause_text MoreClauses = codes "there are more clauses than announced"
cause_text EarlyEnd = codes "the text ends before the announced clauses do"

unfoldable pub refusal_text : ℕ → Cause → List ℕ
refusal_text line cause = codes "c refused: line " ++ (decimal line ++ (codes ": " ++ (cause_text cause ++ codes "\n")))

unfoldable pub read_fault_text : List ℕ
read_fault_text = codes "c the input could not be read\n"

unfoldable pub memory_text : List ℕ
memory_text = codes "c out of memory\n"
