-- The conditions' formula. Variable 1 is true. Each program variable that occurs has a word of literals, by rising number,
-- each term has the circuit of its operation (the reduction of bit vectors to clauses: Bryant et al., 2007), and a unit
-- clause says each condition.
use Rattle.std.specs.Prelude.{ℕ, zero, suc, ◌-◌, ◌/◌, ◌%◌, ◌==◌, nat_lt, nat_eq, ℤ, Bool, cond, List, [], ◌∷◌, ◌++◌, map, take, fold, replicate, slice_index_or, Option, Some, None}
use Rattle.kb_arith.specs.Word.{bits_of}
use Rattle.kb_chain.specs.Literal.{Literal, literal, negated}
use Rattle.kb_chain.specs.Cnf.{Cnf}
use Rattle.kb_circuit.specs.Circuit.{Circuit, ◌>>=◌, done, truth, falsity, next_literal, with_variable, with_clause}
use Rattle.kb_circuit.specs.Words.{and_word, or_word, xor_word, add_word, sub_word, neg_word, eq_word, lt_word, ult_word, false_bits, truth_bits}
use Rattle.kb_circuit.specs.Shifts.{shl_word, shr_word, ushr_word}
use Rattle.kb_circuit.specs.Multiplication.{mul_word}
use Rattle.kb_circuit.specs.Division.{div_word, rem_word}
use Rattle.kb_terms.specs.declared.op.Op.{Op}
use Rattle.kb_terms.specs.declared.op.Op.TheVariants.{Add, Sub, Mul, Div, Rem, Neg, Shl, Shr, Ushr, And, Or, Xor, Byte, Char, Short, Eq, Lt, Ult}
use Rattle.kb_terms.specs.declared.node.VarKind.{VarKind}
use Rattle.kb_terms.specs.declared.node.VarKind.TheVariants.{Int as IntKind, Bool as BoolKind}
use Rattle.kb_terms.specs.declared.listing.Operand.{Operand}
use Rattle.kb_terms.specs.declared.listing.Operand.TheVariants.{Const, Var, Term as TermOperand}
use Rattle.kb_terms.specs.declared.listing.Term.{Term}
use Rattle.kb_blast.specs.Query.{Query}

-- the words of program variables, each with the variable's number
abbrev pub Words : Type 0
Words = List (ℕ × List Literal)

-- ---- the variables that occur

-- rising numbers with one more among them
abbrev pub with_number : ℕ → List ℕ → List ℕ
with_number n [] = n ∷ []
with_number n (m ∷ ms) = cond (nat_lt n m) (n ∷ m ∷ ms) (cond (nat_eq n m) (m ∷ ms) (m ∷ with_number n ms))

abbrev pub with_operand : List ℕ → Operand → List ℕ
with_operand found (Const c) = found
with_operand found (Var v) = with_number v found
with_operand found (TermOperand t) = found

abbrev pub with_second : List ℕ → Option Operand → List ℕ
with_second found None = found
with_second found (Some operand) = with_operand found operand

abbrev pub with_variables : List ℕ → Term → List ℕ
with_variables found term = with_second (with_operand found term.left) term.right

-- the numbers of the variables that occur in terms, rising, each once
abbrev pub occurring : List Term → List ℕ
occurring terms = fold with_variables [] terms

-- ---- words of variables

abbrev pub kind_at : List VarKind → ℕ → VarKind
kind_at kinds v = slice_index_or kinds v IntKind

-- variables with their kinds
abbrev pub with_kinds : List VarKind → List ℕ → List (ℕ × VarKind)
with_kinds kinds vs = map (λ v. (v, kind_at kinds v)) vs

-- the variables that occur in a query
abbrev pub occurring_kinds : Query → List (ℕ × VarKind)
occurring_kinds q = with_kinds q.kinds (occurring q.terms)

abbrev pub new_bit : Circuit Literal
new_bit f = (next_literal f, with_variable f)

unfoldable pub new_bits : ℕ → Circuit (List Literal)
new_bits zero = done []
new_bits (suc n) = do
  bit ← new_bit
  bits ← new_bits n
  done (bit ∷ bits)

-- 32 new variables for an int; one, and 31 times false, for a boolean
unfoldable pub variable_word : VarKind → Circuit (List Literal)
variable_word IntKind = new_bits 32
variable_word BoolKind = do
  bit ← new_bit
  done (truth_bits bit)

unfoldable pub variable_words : List (ℕ × VarKind) → Circuit Words
variable_words [] = done []
variable_words (v ∷ vs) = do
  word ← variable_word v.1
  words ← variable_words vs
  done ((v.0, word) ∷ words)

-- the word of a variable
abbrev pub word_of : Words → ℕ → List Literal
word_of [] v = false_bits
word_of (w ∷ words) v = cond (nat_eq v w.0) w.1 (word_of words v)

-- ---- words of terms

-- the low bits of a number, the lowest first
abbrev pub bits : ℕ → ℕ → List Bool
bits zero n = []
bits (suc width) n = (n % 2 == 1) ∷ bits width (n / 2)

-- the bits of an int, each true or false
unfoldable pub constant_word : ℤ → List Literal
constant_word c = map (literal 1) (bits 32 (bits_of c))

-- so many low bits, and above them one literal
abbrev pub narrowed : ℕ → Literal → List Literal → List Literal
narrowed width above word = take width word ++ replicate (32 - width) above

-- the circuit of an operation; one with a single operand leaves the second aside, and byte, char and short have no gates
unfoldable pub op_word : Op → List Literal → List Literal → Circuit (List Literal)
op_word Add left right = add_word left right
op_word Sub left right = sub_word left right
op_word Mul left right = mul_word left right
op_word Div left right = div_word left right
op_word Rem left right = rem_word left right
op_word Neg left right = neg_word left
op_word Shl left right = shl_word left right
op_word Shr left right = shr_word left right
op_word Ushr left right = ushr_word left right
op_word And left right = and_word left right
op_word Or left right = or_word left right
op_word Xor left right = xor_word left right
op_word Byte left right = done (narrowed 8 (slice_index_or left 7 falsity) left)
op_word Char left right = done (narrowed 16 falsity left)
op_word Short left right = done (narrowed 16 (slice_index_or left 15 falsity) left)
op_word Eq left right = eq_word left right
op_word Lt left right = lt_word left right
op_word Ult left right = ult_word left right

-- the word of the term of that number
abbrev pub term_word : List (List Literal) → ℕ → List Literal
term_word words t = slice_index_or words t false_bits

abbrev pub operand_word : Words → List (List Literal) → Operand → List Literal
operand_word vars words (Const c) = constant_word c
operand_word vars words (Var v) = word_of vars v
operand_word vars words (TermOperand t) = term_word words t

abbrev pub second_word : Words → List (List Literal) → Option Operand → List Literal
second_word vars words None = false_bits
second_word vars words (Some operand) = operand_word vars words operand

unfoldable pub built_term : Words → List (List Literal) → Term → Circuit (List Literal)
built_term vars words term = op_word term.op (operand_word vars words term.left) (second_word vars words term.right)

-- the words of terms behind those of the terms before them
unfoldable pub term_words : Words → List (List Literal) → List Term → Circuit (List (List Literal))
term_words vars words [] = done words
term_words vars words (term ∷ terms) = do
  word ← built_term vars words term
  term_words vars (words ++ word ∷ []) terms

-- ---- conditions

-- the lowest bit of the condition's term, negated where the condition is that it is false
abbrev pub condition_literal : List (List Literal) → ℕ × Bool → Literal
condition_literal words condition =
    let lowest = slice_index_or (term_word words condition.0) 0 falsity in
    cond condition.1 lowest (negated lowest)

abbrev pub with_condition : List (List Literal) → Cnf → ℕ × Bool → Cnf
with_condition words f condition = with_clause f (condition_literal words condition ∷ [])

abbrev pub with_conditions : List (List Literal) → List (ℕ × Bool) → Cnf → Cnf
with_conditions words conditions f = fold (with_condition words) f conditions

-- the formula that says that variable 1 is true
abbrev pub first_formula : Cnf
first_formula = record { vars = 1; clauses = (truth ∷ []) ∷ [] }

-- the variables' words and the formula
unfoldable pub blasted : Query → Words × Cnf
blasted q = (do
  vars ← variable_words (occurring_kinds q)
  words ← term_words vars [] q.terms
  λ f. (vars, with_conditions words q.conditions f)) first_formula

-- the conditions' formula
abbrev pub formula_of : Query → Cnf
formula_of q = (blasted q).1

-- the words of the occurring variables, by rising number
abbrev pub words_of : Query → Words
words_of q = (blasted q).0
