-- What a query says of inputs, and what a formula that says the same is.
use Rattle.std.specs.Prelude.{◌≡◌, ◌≢◌, ◌⊎◌, ℕ, ◌<◌, ℤ, pos, Bool, List, [], ◌∷◌, ◌++◌, map, fold, Option, Some, None, FitsSigned, slice_set, slice_get, true}
use Rattle.std.specs.Int.{w32}
use Rattle.kb_arith.specs.Word.{truth as truth_value}
use Rattle.kb_chain.specs.Clause.{Satisfies}
use Rattle.kb_chain.specs.Cnf.{Cnf, IsWithin}
use Rattle.kb_circuit.specs.Meaning.{int_under}
use Rattle.kb_terms.specs.Op.{op_value}
use Rattle.kb_terms.specs.Terms.{int_at, value_of}
use Rattle.kb_terms.specs.declared.node.TermId.{TermId}
use Rattle.kb_terms.specs.declared.node.VarKind.{VarKind}
use Rattle.kb_terms.specs.declared.node.VarKind.TheVariants.{Int as IntKind, Bool as BoolKind}
use Rattle.kb_terms.specs.declared.node.Node.{Node}
use Rattle.kb_terms.specs.declared.listing.Operand.{Operand}
use Rattle.kb_terms.specs.declared.listing.Operand.TheVariants.{Const, Var, Term as TermOperand}
use Rattle.kb_terms.specs.declared.listing.Term.{Term}
use Rattle.kb_blast.specs.Query.{Query, query_of, is_comparison}
use Rattle.kb_blast.specs.Conditions.{Words, occurring_kinds}

-- ---- values of listed terms

-- the value of an operand, where each variable has the input of its number and `done` are the values of the terms before it
abbrev pub operand_value : List ℤ → List ℤ → Operand → ℤ
operand_value inputs done (Const c) = c
operand_value inputs done (Var v) = int_at inputs v
operand_value inputs done (TermOperand t) = int_at done t

abbrev pub second_value : List ℤ → List ℤ → Option Operand → ℤ
second_value inputs done None = pos 0
second_value inputs done (Some operand) = operand_value inputs done operand

abbrev pub term_value : List ℤ → List ℤ → Term → ℤ
term_value inputs done term = op_value term.op (operand_value inputs done term.left) (second_value inputs done term.right)

abbrev pub with_value : List ℤ → List ℤ → Term → List ℤ
with_value inputs done term = done ++ term_value inputs done term ∷ []

-- the values of all listed terms, in order
abbrev pub listed_values : List ℤ → List Term → List ℤ
listed_values inputs terms = fold (with_value inputs) [] terms

-- ---- inputs that meet conditions

-- what a variable can be: an int, or 0 or 1
abbrev pub KindFits : VarKind → ℤ → Type 0
KindFits IntKind x = FitsSigned w32 x
KindFits BoolKind x = (x ≡ pos 0) ⊎ (x ≡ pos 1)

-- each of these variables has an input that it can be
abbrev pub InputsFit : List (ℕ × VarKind) → List ℤ → Type 0
InputsFit [] inputs = Unit {0}
InputsFit (v ∷ vs) inputs = KindFits v.1 (int_at inputs v.0) × InputsFit vs inputs

-- each term has its stated truth
abbrev pub AreMet : List ℤ → List (ℕ × Bool) → Type 0
AreMet values [] = Unit {0}
AreMet values (condition ∷ conditions) = (int_at values condition.0 ≡ truth_value condition.1) × AreMet values conditions

-- the occurring variables have inputs that they can be, and these make every condition true
abbrev pub Meets : Query → List ℤ → Type 0
Meets q inputs = InputsFit (occurring_kinds q) inputs × AreMet (listed_values inputs q.terms) q.conditions

-- the same of conditions on terms of a pool
abbrev pub AreMetInPool : List Node → List ℤ → List (TermId × Bool) → Type 0
AreMetInPool nodes inputs [] = Unit {0}
AreMetInPool nodes inputs (condition ∷ when) =
    (value_of nodes condition.0 inputs ≡ truth_value condition.1) × AreMetInPool nodes inputs when

abbrev pub MeetsInPool : List Node → List (TermId × Bool) → List ℤ → Type 0
MeetsInPool nodes when inputs =
    InputsFit (occurring_kinds (query_of nodes when)) inputs × AreMetInPool nodes inputs when

-- ---- assignments

-- each variable has the int that its word spells under an assignment
abbrev pub Reads : (ℕ → Bool) → Words → List ℤ → Type 0
Reads assignment [] inputs = Unit {0}
Reads assignment (w ∷ words) inputs = (int_at inputs w.0 ≡ int_under assignment w.1) × Reads assignment words inputs

-- a number is that of none of these variables
abbrev pub IsElsewhere : ℕ → Words → Type 0
IsElsewhere v [] = Unit {0}
IsElsewhere v (w ∷ words) = (v ≢ w.0) × IsElsewhere v words

-- inputs with the ints that the words spell under an assignment
abbrev pub read_into : (ℕ → Bool) → Words → List ℤ → List ℤ
read_into assignment [] inputs = inputs
read_into assignment (w ∷ words) inputs = read_into assignment words (slice_set inputs w.0 (int_under assignment w.1))

-- the first number is less than each of the others, and so for all of them
abbrev pub IsBelowAll : ℕ → List ℕ → Type 0
IsBelowAll n [] = Unit {0}
IsBelowAll n (m ∷ ms) = (n < m) × IsBelowAll n ms

abbrev pub IsRising : List ℕ → Type 0
IsRising [] = Unit {0}
IsRising (n ∷ ns) = IsBelowAll n ns × IsRising ns

-- the numbers of words rise and are below `places`, and their literals are of the variables up to `vars`
abbrev pub AreReadable : ℕ → ℕ → Words → Type 0
AreReadable vars places [] = Unit {0}
AreReadable vars places (w ∷ words) =
    (w.0 < places) × IsWithin vars w.1 × IsBelowAll w.0 (map (λ x. x.0) words) × AreReadable vars places words

-- the satisfying assignments, read back, are exactly the inputs that are good: each assignment can be read back, what it reads
-- is good where it satisfies the formula, and good inputs are what some satisfying assignment reads
pub record SaysExactly (words : Words) (formula : Cnf) (Good : List ℤ → Type 0) : Type 0 where
  pub reads : (assignment : ℕ → Bool) → (inputs : List ℤ) × Reads assignment words inputs
  pub sound : (assignment : ℕ → Bool) (inputs : List ℤ) → Satisfies assignment formula.clauses → Reads assignment words inputs → Good inputs
  pub complete : (inputs : List ℤ) → Good inputs → (assignment : ℕ → Bool) × Satisfies assignment formula.clauses × Reads assignment words inputs

-- ---- queries that a formula can say

-- a constant is an int
abbrev pub OperandFits : Operand → Type 0
OperandFits (Const c) = FitsSigned w32 c
OperandFits (Var v) = Unit {0}
OperandFits (TermOperand t) = Unit {0}

abbrev pub SecondFits : Option Operand → Type 0
SecondFits None = Unit {0}
SecondFits (Some operand) = OperandFits operand

pub record TermFits (term : Term) : Type 0 where
  pub left : OperandFits term.left
  pub right : SecondFits term.right

abbrev pub TermsFit : List Term → Type 0
TermsFit [] = Unit {0}
TermsFit (term ∷ terms) = TermFits term × TermsFit terms

-- a condition is on a comparison
abbrev pub IsComparison : Option Term → Type 0
IsComparison None = ⊥
IsComparison (Some term) = is_comparison term.op ≡ true

abbrev pub ConditionsFit : List Term → List (ℕ × Bool) → Type 0
ConditionsFit terms [] = Unit {0}
ConditionsFit terms (condition ∷ conditions) =
    IsComparison (slice_get terms condition.0) × ConditionsFit terms conditions

pub record IsQuery (q : Query) : Type 0 where
  pub terms : TermsFit q.terms
  pub conditions : ConditionsFit q.terms q.conditions
