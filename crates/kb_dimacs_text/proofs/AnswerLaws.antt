-- What an answer says of the formula.
use Rattle.std.proofs.Common.{◌≡◌, ◌∙◌, ℕ, List, Bool, Option, Ok, Err, inl, inr, refl, sym, subst}
use Rattle.std.specs.Prelude.{Result, codes}
use Rattle.std.specs.declared.vec.Vec.{Vec}
use Rattle.std.specs.declared.alloc.Global.{Global}
use Rattle.kb_outside.specs.declared.shelves.ShelfStop.{ShelfStop}
use Rattle.kb_outside.specs.declared.shelves.ShelfStop.TheVariants as stops
use Rattle.kb_chain.specs.Clause.{Satisfies}
use Rattle.kb_chain.specs.Cnf.{Cnf}
use Rattle.kb_sat.specs.Answer.{Solves}
use Rattle.kb_sat.specs.declared.solver.Solved.{Solved}
use Rattle.kb_sat.specs.declared.solver.Solved.TheVariants.{Sat, Unsat, Undecided}
use Rattle.kb_dimacs_text.specs.Lines.{lines}
use Rattle.kb_dimacs_text.specs.Dimacs.{IsDimacs}
use Rattle.kb_dimacs_text.specs.Answers.{Tells, AnswersInput, AnswersWords, Owes, Says, SaysOf, SaysOfStop, Sends}
use Rattle.kb_dimacs_text.specs.Texts.{memory_text, read_fault_text}
use Rattle.kb_dimacs_text.specs.declared.request.Request.{Request}
use Rattle.kb_dimacs_text.specs.declared.status.Status.{Status}
use Rattle.kb_dimacs_text.specs.declared.status.Status.TheVariants.{Satisfiable, Unsatisfiable, Unknown, Refused, ReadFault, WriteFault, Memory}
use Rattle.kb_dimacs_text.proofs.FrontLaws.{same_formula}
use Rattle.kb_dimacs_text.proofs.LogLaws.{refuted}

-- where the status says so, nothing satisfies the formula of the input
abbrev pub IsUnsatisfiable : List ℕ → Status → Type 0
IsUnsatisfiable input status = status ≡ Unsatisfiable → (formula : Cnf) → IsDimacs formula input → (assignment : ℕ → Bool) → Satisfies assignment formula.clauses → ⊥

unsatisfiable_formula : (formula : Cnf) (budget : ℕ) (check : Bool) (solved : Solved) (status : Status) (text : List ℕ) → Solves formula budget solved → Tells check solved status text
    → status ≡ Unsatisfiable → (assignment : ℕ → Bool) → Satisfies assignment formula.clauses → ⊥
unsatisfiable_formula formula budget check (Sat bits) status text solves tells e assignment satisfies = let s : status ≡ Satisfiable = tells.0 in cc
unsatisfiable_formula formula budget check (Unsat log) status text solves tells e assignment satisfies = refuted formula.clauses log.entries assignment solves.0 satisfies
unsatisfiable_formula formula budget check (Undecided log) status text solves tells e assignment satisfies = let s : status ≡ Unknown = tells.0 in cc

pub unsatisfiable_input : (request : Request) (input : List ℕ) (status : Status) (text : List ℕ) → AnswersInput request input status text → IsUnsatisfiable input status
unsatisfiable_input request input status text (inl refusal) e formula is assignment satisfies = let s : status ≡ Refused = refusal.3 in cc
unsatisfiable_input request input status text (inr answer) e formula is assignment satisfies =
    let same = same_formula formula answer.0 (lines input) is answer.1 in
    unsatisfiable_formula answer.0 request.budget request.check answer.2.0 status answer.2.2 answer.2.3 answer.2.4 e assignment
    (subst (λ (f : Cnf). Satisfies assignment f.clauses) same satisfies)

-- ---- what a call owes, by what there is to say

-- what is sent is owed, where its status is not that of a failed write
owes_sent : (IsSaid : Status → List ℕ → Type 0) (told : Status) (text : List ℕ) (before after : Option (List ℕ)) (first last : ℕ) (status : Status) → (told ≡ WriteFault → ⊥)
    → IsSaid told text → Sends told text (before, after) (first, last) status → Owes IsSaid (before, after) (first, last) status
owes_sent IsSaid told text before after first last status other said (inl sent) = record {
  whole = λ not. (text, subst (λ (s : Status). IsSaid s text) (sym sent.0) said, sent.1);
  counted = λ e. absurd (other (sym sent.0 ∙ e));
  part = λ e. absurd (other (sym sent.0 ∙ e));
}
owes_sent IsSaid told text before after first last status other said (inr failed) = record {
  whole = λ not. absurd (not failed.0);
  counted = λ e. failed.1;
  part = λ e. (told, text, said, failed.2);
}

memory_is_other : Memory ≡ WriteFault → ⊥
memory_is_other e = cc

read_is_other : ReadFault ≡ WriteFault → ⊥
read_is_other e = cc

told_is_other : (check : Bool) (solved : Solved) (status : Status) (text : List ℕ) → Tells check solved status text → status ≡ WriteFault → ⊥
told_is_other check (Sat bits) status text tells e = let s : status ≡ Satisfiable = tells.0 in cc
told_is_other check (Unsat log) status text tells e = let s : status ≡ Unsatisfiable = tells.0 in cc
told_is_other check (Undecided log) status text tells e = let s : status ≡ Unknown = tells.0 in cc

input_is_other : (request : Request) (input : List ℕ) (status : Status) (text : List ℕ) → AnswersInput request input status text → status ≡ WriteFault → ⊥
input_is_other request input status text (inl refusal) e = let s : status ≡ Refused = refusal.3 in cc
input_is_other request input status text (inr answer) e = told_is_other request.check answer.2.0 status answer.2.2 answer.2.4 e

-- no answer has the status of a failed write
answer_is_other : (words : List (List ℕ)) (input : List ℕ) (status : Status) (text : List ℕ) → AnswersWords words input status text → status ≡ WriteFault → ⊥
answer_is_other words input status text (inl usage) e = let s : status ≡ Refused = usage.1 in cc
answer_is_other words input status text (inr asked) e = input_is_other asked.0 input status text asked.2 e

pub owes_answer : (words : List (List ℕ)) (input : List ℕ) (told : Status) (text spelled : List ℕ) (before after : Option (List ℕ)) (first last : ℕ) (status : Status)
    → AnswersWords words input told text → spelled ≡ text → Sends told spelled (before, after) (first, last) status → Owes (SaysOf words input) (before, after) (first, last) status
owes_answer words input told text spelled before after first last status answers same sent =
    owes_sent (SaysOf words input) told text before after first last status (answer_is_other words input told text answers) (inl answers)
    (subst (λ (t : List ℕ). Sends told t (before, after) (first, last) status) same sent)

pub owes_want : (words : List (List ℕ)) (input : List ℕ) (text : List ℕ) (before after : Option (List ℕ)) (first last : ℕ) (status : Status) → text ≡ codes "c out of memory\n"
    → Sends Memory text (before, after) (first, last) status → Owes (SaysOf words input) (before, after) (first, last) status
unfolding memory_text
owes_want words input text before after first last status is sent =
    owes_sent (SaysOf words input) Memory text before after first last status memory_is_other (inr (refl, is)) sent

pub owes_no_room : (stop : ShelfStop) (text : List ℕ) (before after : Option (List ℕ)) (first last : ℕ) (status : Status) → stop ≡ stops.NoMemory → text ≡ codes "c out of memory\n"
    → Sends Memory text (before, after) (first, last) status → Owes (SaysOfStop stop) (before, after) (first, last) status
unfolding memory_text
owes_no_room stop text before after first last status stopped is sent =
    owes_sent (SaysOfStop stop) Memory text before after first last status memory_is_other (rw stopped (refl, is)) sent

pub owes_fault : (stop : ShelfStop) (text : List ℕ) (before after : Option (List ℕ)) (first last : ℕ) (status : Status) → stop ≡ stops.Failed
    → text ≡ codes "c the input could not be read\n" → Sends ReadFault text (before, after) (first, last) status → Owes (SaysOfStop stop) (before, after) (first, last) status
unfolding read_fault_text
owes_fault stop text before after first last status stopped is sent =
    owes_sent (SaysOfStop stop) ReadFault text before after first last status read_is_other (rw stopped (refl, is)) sent

pub owes_unread : (words : List (List ℕ)) (input : Result (Vec ℕ Global) ShelfStop) (stop : ShelfStop) (before after : Option (List ℕ)) (first last : ℕ) (status : Status)
    → input ≡ Err stop → Owes (SaysOfStop stop) (before, after) (first, last) status → Owes (Says words input) (before, after) (first, last) status
owes_unread words input stop before after first last status is owed =
    subst (λ (i : Result (Vec ℕ Global) ShelfStop). Owes (Says words i) (before, after) (first, last) status) (sym is)
    (record { whole = λ not. owed.whole not; counted = λ e. owed.counted e; part = λ e. owed.part e })

pub owes_read : (words : List (List ℕ)) (input : Result (Vec ℕ Global) ShelfStop) (read : Vec ℕ Global) (bytes : List ℕ) (before after : Option (List ℕ)) (first last : ℕ) (status : Status)
    → input ≡ Ok read → bytes ≡ read.items → Owes (SaysOf words bytes) (before, after) (first, last) status → Owes (Says words input) (before, after) (first, last) status
owes_read words input read bytes before after first last status is same owed =
    let told : Owes (SaysOf words read.items) (before, after) (first, last) status =
    subst (λ (bs : List ℕ). Owes (SaysOf words bs) (before, after) (first, last) status) same owed in
    subst (λ (i : Result (Vec ℕ Global) ShelfStop). Owes (Says words i) (before, after) (first, last) status) (sym is)
    (record { whole = λ not. told.whole not; counted = λ e. told.counted e; part = λ e. told.part e })
