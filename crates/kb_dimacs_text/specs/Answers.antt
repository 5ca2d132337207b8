-- What the program answers.
use Rattle.std.specs.Prelude.{◌≡◌, ℕ, ◌<◌, ◌^◌, ◌⊎◌, Bool, true, false, List, ◌++◌, length, Option, Some, None, Result, Ok, Err}
use Rattle.std.specs.declared.vec.Vec.{Vec}
use Rattle.std.specs.declared.alloc.Global.{Global}
use Rattle.kb_chain.specs.Literal.{Literal}
use Rattle.kb_chain.specs.Cnf.{Cnf}
use Rattle.kb_chain.specs.Chains.{IsRefutation}
use Rattle.kb_chain.specs.Propagation.{IsFresh}
use Rattle.kb_chain.specs.declared.log.Verdict.{Verdict}
use Rattle.kb_chain.specs.declared.log.Verdict.TheVariants.{Good}
use Rattle.kb_outside.specs.Outside.{Rose, Grows, GrowsByPart}
use Rattle.kb_outside.specs.declared.shelves.ShelfStop.{ShelfStop}
use Rattle.kb_outside.specs.declared.shelves.ShelfStop.TheVariants as stops
use Rattle.kb_sat.specs.Answer.{Solves}
use Rattle.kb_sat.specs.declared.counts.Counts.{Counts}
use Rattle.kb_sat.specs.declared.solver.Solved.{Solved}
use Rattle.kb_sat.specs.declared.solver.Solved.TheVariants.{Sat, Unsat, Undecided}
use Rattle.kb_dimacs_text.specs.Dimacs.{IsDimacs}
use Rattle.kb_dimacs_text.specs.Refusals.{RefusesText}
use Rattle.kb_dimacs_text.specs.Requests.{AsksFor}
use Rattle.kb_dimacs_text.specs.Texts.{counts_text, satisfiable_text, unsatisfiable_text, unknown_text, usage_text, refusal_text, read_fault_text, memory_text}
use Rattle.kb_dimacs_text.specs.declared.request.Request.{Request}
use Rattle.kb_dimacs_text.specs.declared.refusal.Cause.{Cause}
use Rattle.kb_dimacs_text.specs.declared.refusal.Refusal.TheVariants.{Line}
use Rattle.kb_dimacs_text.specs.declared.status.Status.{Status}
use Rattle.kb_dimacs_text.specs.declared.status.Status.TheVariants.{Satisfiable, Unsatisfiable, Unknown, Refused, ReadFault, WriteFault, Memory}

-- each bit is that of a variable that has literals
abbrev pub FitBits : Solved → Type 0
FitBits (Sat bits) = length bits < 2 ^ 31
FitBits (Unsat log) = Unit {0}
FitBits (Undecided log) = Unit {0}

-- a log is what the answer says, so that its check finds it good
abbrev pub HasGoodLog : List (List Literal) → Solved → Type 0
HasGoodLog clauses (Sat bits) = Unit {0}
HasGoodLog clauses (Unsat log) = IsRefutation clauses log.entries
HasGoodLog clauses (Undecided log) = IsFresh clauses log.entries

-- what the check of a log of a solver says, where it was asked for
abbrev pub check_answer : Bool → Option Verdict
check_answer false = None
check_answer true = Some Good

-- the status and the text of what a solver answered
abbrev pub Tells : Bool → Solved → Status → List ℕ → Type 0
Tells check (Sat bits) status text = (status ≡ Satisfiable) × (text ≡ satisfiable_text bits)
Tells check (Unsat log) status text = (status ≡ Unsatisfiable) × (text ≡ unsatisfiable_text log.entries (check_answer check))
Tells check (Undecided log) status text = (status ≡ Unknown) × (text ≡ unknown_text log.entries (check_answer check))

-- what the program answers to a formula: what the solver did, and what it answers
abbrev pub AnswersFormula : Request → Cnf → Status → List ℕ → Type 0
AnswersFormula request formula status text =
    (solved : Solved) × (counts : Counts) × (told : List ℕ)
    × Solves formula request.budget solved × Tells request.check solved status told × (text ≡ counts_text counts ++ told)

-- what the program answers to the input, whatever the words
abbrev pub AnswersInput : Request → List ℕ → Status → List ℕ → Type 0
AnswersInput request input status text =
    ((line : ℕ) × (cause : Cause) × RefusesText input (Line line cause) × (status ≡ Refused) × (text ≡ refusal_text line cause))
    ⊎ ((formula : Cnf) × IsDimacs formula input × AnswersFormula request formula status text)

-- what the program answers to its words and its input
abbrev pub AnswersWords : List (List ℕ) → List ℕ → Status → List ℕ → Type 0
AnswersWords words input status text =
    (((request : Request) → AsksFor words request → ⊥) × (status ≡ Refused) × (text ≡ usage_text))
    ⊎ ((request : Request) × AsksFor words request × AnswersInput request input status text)

-- memory ran out
abbrev pub IsWant : Status → List ℕ → Type 0
IsWant status text = (status ≡ Memory) × (text ≡ memory_text)

-- what the program says of its words and its input; that memory ran out may always be said
abbrev pub SaysOf : List (List ℕ) → List ℕ → Status → List ℕ → Type 0
SaysOf words input status text = AnswersWords words input status text ⊎ IsWant status text

-- what the program says of an input of which there is nothing, by what stopped its reading
abbrev pub SaysOfStop : ShelfStop → Status → List ℕ → Type 0
SaysOfStop stops.Failed status text = (status ≡ ReadFault) × (text ≡ read_fault_text)
SaysOfStop stops.NoMemory status text = IsWant status text

-- what the program says of its words and of what came of reading its input
abbrev pub Says : List (List ℕ) → Result (Vec ℕ Global) ShelfStop → Status → List ℕ → Type 0
Says words (Ok input) status text = SaysOf words input.items status text
Says words (Err stop) status text = SaysOfStop stop status text

-- What a call that has this to say owes over a sink: how the sink's bytes and its count of faults went (before, now), and the
-- status that the call ends with.
pub record Owes (IsSaid : Status → List ℕ → Type 0) (written : Option (List ℕ) × Option (List ℕ)) (faults : ℕ × ℕ) (status : Status) : Type 0 where
  -- Unless writing failed, the text that comes with the status was written, all of it and nothing else.
  pub whole : (status ≡ WriteFault → ⊥) → (text : List ℕ) × IsSaid status text × Grows written.0 written.1 text
  -- Writing failed only where the sink counted it. Then a front of such a text was written, and not the whole.
  pub counted : status ≡ WriteFault → Rose faults.0 faults.1
  pub part : status ≡ WriteFault → (other : Status) × (text : List ℕ) × IsSaid other text × GrowsByPart written.0 written.1 text

-- the status is the one that was to be told, and the whole text was written; or the sink failed, which it counted, and has a
-- front of it
abbrev pub Sends : Status → List ℕ → Option (List ℕ) × Option (List ℕ) → ℕ × ℕ → Status → Type 0
Sends told text written faults status =
    ((status ≡ told) × Grows written.0 written.1 text)
    ⊎ ((status ≡ WriteFault) × Rose faults.0 faults.1 × GrowsByPart written.0 written.1 text)
