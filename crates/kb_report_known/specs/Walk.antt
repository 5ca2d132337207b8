-- The walk by which the terms of a path are numbered, as a list of tasks, the next one first. While terms are met in the order in
-- which they are listed, those that are met are the first ones.
use Rattle.std.specs.Prelude.{◌≡◌, ◌==◌, ◌&&◌, ℕ, suc, ◌<◌, Bool, true, false, not, nat_lt, List, [], ◌∷◌, ◌++◌, length, fold, Option, Some, None, slice_get, if◌then◌else◌, MatchOption}
use Rattle.kb_terms.specs.Op.{is_binary}
use Rattle.kb_terms.specs.declared.listing.Operand.{Operand}
use Rattle.kb_terms.specs.declared.listing.Operand.TheVariants.{Const, Var, Term as TermOperand}
use Rattle.kb_terms.specs.declared.listing.Term.{Term}
use Rattle.kb_texts.specs.Texts.{with_text}
use Rattle.kb_picture.specs.Numbering.{met_below}
use Rattle.kb_picture.specs.WellFormed.{numbers_below}
use Rattle.kb_report_known.specs.declared.terms.Task.{Task}
use Rattle.kb_report_known.specs.declared.terms.Task.TheVariants.{Enter, Meet}

-- ---- terms that may be listed

-- the operand is an int, one of so many variables, or one of so many terms
abbrev pub has_operand : Operand → ℕ → ℕ → Bool
has_operand (Const value) terms variables = true
has_operand (Var number) terms variables = nat_lt number variables
has_operand (TermOperand number) terms variables = nat_lt number terms

abbrev pub has_second : Bool → Option Operand → ℕ → ℕ → Bool
has_second binary (Some operand) terms variables = binary && has_operand operand terms variables
has_second binary None terms variables = not binary

-- the term may stand behind so many others: it has as many operands as its operation, and they are there
abbrev pub may_be_next : Term → ℕ → ℕ → Bool
may_be_next term terms variables = has_operand term.left terms variables && has_second (is_binary term.op) term.right terms variables

-- ---- the walk

-- the operand is no term from that number on
abbrev pub IsBefore : ℕ → Operand → Type 0
IsBefore number (Const value) = Unit {0}
IsBefore number (Var variable) = Unit {0}
IsBefore number (TermOperand term) = term < number

abbrev pub IsSecondBefore : ℕ → Option Operand → Type 0
IsSecondBefore number None = Unit {0}
IsSecondBefore number (Some operand) = IsBefore number operand

-- each term names earlier ones alone
abbrev pub AreFormed : List Term → Type 0
AreFormed terms = (number : ℕ) (term : Term) → slice_get terms number ≡ Some term → IsBefore number term.left × IsSecondBefore number term.right

-- the terms that are met behind a walk from those ones, the first so many being met before it
abbrev pub met_behind : List Term → ℕ → List ℕ → List ℕ
met_behind terms before roots = fold (met_below (length terms) terms) (numbers_below before) roots

-- where the first so many terms are met, a walk from that one comes to the first `after` ones, or to no first ones at all
abbrev pub MeetsNext : List Term → ℕ → ℕ → Option ℕ → Type 0
MeetsNext terms before root read = MatchOption read
    ((after : ℕ) → met_behind terms before (root ∷ []) ≡ numbers_below after → ⊥)
    (λ after. met_behind terms before (root ∷ []) ≡ numbers_below after)

-- ---- what the walk leaves

-- terms by their texts, each once, and how many of them a walk has met
pub record Listed : Type 0 where
  pub texts : List (List ℕ)
  pub met : ℕ

abbrev pub no_terms : Listed
no_terms = record { texts = []; met = 0 }

-- with one more, unless its text is there
abbrev pub with_term : Listed → List ℕ → Listed
with_term listed text = record { texts = with_text listed.texts text; met = listed.met }

-- behind the walk from those terms, or no first terms are what it comes to
abbrev pub Meets : List Term → List ℕ → Listed → Listed → Bool → Type 0
Meets terms roots before after true = (after.texts ≡ before.texts) × (met_behind terms before.met roots ≡ numbers_below after.met)
Meets terms roots before after false = (met : ℕ) → met_behind terms before.met roots ≡ numbers_below met → ⊥

-- ---- tasks

-- the tasks of an operand of a term: to come to it, if it is a term before that one
abbrev pub operand_tasks : ℕ → Operand → List Task
operand_tasks number (Const value) = []
operand_tasks number (Var variable) = []
operand_tasks number (TermOperand term) = if nat_lt term number then Enter term ∷ [] else []

abbrev pub second_tasks : ℕ → Option Operand → List Task
second_tasks number None = []
second_tasks number (Some operand) = operand_tasks number operand

abbrev pub term_tasks : ℕ → Option Term → List Task
term_tasks number None = Meet number ∷ []
term_tasks number (Some term) = operand_tasks number term.left ++ (second_tasks number term.right ++ Meet number ∷ [])

-- the tasks that a task leaves in its place
abbrev pub tasks_left : List Term → ℕ → Task → List Task
tasks_left terms met (Enter number) = if nat_lt number met then [] else term_tasks number (slice_get terms number)
tasks_left terms met (Meet number) = []

-- how many are met with that one, which is to be the next
abbrev pub met_with : ℕ → ℕ → Option ℕ
met_with met number = if number == met then Some (suc met) else None

abbrev pub met_after : ℕ → Task → Option ℕ
met_after met (Enter number) = Some met
met_after met (Meet number) = met_with met number
