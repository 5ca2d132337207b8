-- The words of terms spell the values of the terms.
use Rattle.std.proofs.Common.{◌≡◌, ◌⊎◌, inl, inr, ℕ, ◌≤◌, ℤ, Bool, true, false, cond, nat_eq, nat_lt, List, [], ◌∷◌, ◌++◌, map, fold, get_or, refl, sym, ap, ◌∙◌, Option, Some, None}
use Rattle.std.proofs.lemmas.Bool.{eqb-true, eq-eqb, false≢true}
use Rattle.std.proofs.lemmas.List.{map-append}
use Rattle.std.proofs.Math.ListN.{get_or-map}
use Rattle.kb_chain.specs.Literal.{Literal, is_true}
use Rattle.kb_chain.specs.Clause.{Satisfies}
use Rattle.kb_chain.specs.Cnf.{Cnf}
use Rattle.kb_circuit.specs.Circuit.{truth, IsCircuit}
use Rattle.kb_circuit.specs.Words.{false_bits}
use Rattle.kb_circuit.specs.Meaning.{int_under, Defines}
use Rattle.kb_circuit.proofs.Formulas.{truth-true}
use Rattle.kb_circuit.proofs.Defining.{Defines-none, Defines-then, Defines-known}
use Rattle.kb_terms.specs.declared.listing.Operand.{Operand}
use Rattle.kb_terms.specs.declared.listing.Operand.TheVariants.{Const, Var, Term as TermOperand}
use Rattle.kb_terms.specs.declared.listing.Term.{Term}
use Rattle.kb_terms.specs.Op.{op_value}
use Rattle.kb_terms.specs.Terms.{int_at}
use Rattle.kb_blast.specs.Conditions.{Words, with_number, with_operand, with_second, with_variables, occurring, word_of, operand_word, second_word, built_term, term_words}
use Rattle.kb_blast.specs.Meaning.{operand_value, second_value, with_value, Reads, OperandFits, SecondFits, TermsFit}
use Rattle.kb_blast.specs.Listing.{numbers_of, literals_of}
use Rattle.kb_blast.proofs.Ints.{IsWord, AreWords, words-more, words-push, words-at, word-false, int-false, word-constant, int-constant}
use Rattle.kb_blast.proofs.Operations.{Operates, op_operates}

-- ---- variables that occur

abbrev pub Has : List ℕ → ℕ → Type 0
Has [] n = ⊥
Has (m ∷ ms) n = (n ≡ m) ⊎ Has ms n

abbrev pub OperandIn : List ℕ → Operand → Type 0
OperandIn ns (Const c) = Unit {0}
OperandIn ns (Var v) = Has ns v
OperandIn ns (TermOperand t) = Unit {0}

abbrev pub SecondIn : List ℕ → Option Operand → Type 0
SecondIn ns None = Unit {0}
SecondIn ns (Some operand) = OperandIn ns operand

abbrev pub TermsIn : List ℕ → List Term → Type 0
TermsIn ns [] = Unit {0}
TermsIn ns (term ∷ terms) = (OperandIn ns term.left × SecondIn ns term.right) × TermsIn ns terms

abbrev IsPart : List ℕ → List ℕ → Type 0
IsPart ms ns = (n : ℕ) → Has ms n → Has ns n

has-with_number : (n : ℕ) (ms : List ℕ) → Has (with_number n ms) n
has-with_number n [] = inl refl
has-with_number n (m ∷ ms) = go (nat_lt n m) (nat_eq n m) refl (has-with_number n ms)
  where
    go : (a b : Bool) → nat_eq n m ≡ b → Has (with_number n ms) n → Has (cond a (n ∷ m ∷ ms) (cond b (m ∷ ms) (m ∷ with_number n ms))) n
    go true b e h = inl refl
    go false true e h = inl (eqb-true n m e)
    go false false e h = inr h

keeps-with_number : (n : ℕ) (ms : List ℕ) → IsPart ms (with_number n ms)
keeps-with_number n [] k h = absurd h
keeps-with_number n (m ∷ ms) k h = go (nat_lt n m) (nat_eq n m) (keeps-with_number n ms k) h
  where
    go : (a b : Bool) → (Has ms k → Has (with_number n ms) k) → Has (m ∷ ms) k → Has (cond a (n ∷ m ∷ ms) (cond b (m ∷ ms) (m ∷ with_number n ms))) k
    go true b rec h = inr h
    go false true rec h = h
    go false false rec (inl e) = inl e
    go false false rec (inr h) = inr (rec h)

keeps-with_operand : (ns : List ℕ) (o : Operand) → IsPart ns (with_operand ns o)
keeps-with_operand ns (Const c) k h = h
keeps-with_operand ns (Var v) k h = keeps-with_number v ns k h
keeps-with_operand ns (TermOperand t) k h = h

keeps-with_second : (ns : List ℕ) (o : Option Operand) → IsPart ns (with_second ns o)
keeps-with_second ns None k h = h
keeps-with_second ns (Some o) k h = keeps-with_operand ns o k h

in-with_operand : (ns : List ℕ) (o : Operand) → OperandIn (with_operand ns o) o
in-with_operand ns (Const c) = tt
in-with_operand ns (Var v) = has-with_number v ns
in-with_operand ns (TermOperand t) = tt

in-with_second : (ns : List ℕ) (o : Option Operand) → SecondIn (with_second ns o) o
in-with_second ns None = tt
in-with_second ns (Some o) = in-with_operand ns o

operand-part : (ms ns : List ℕ) (o : Operand) → IsPart ms ns → OperandIn ms o → OperandIn ns o
operand-part ms ns (Const c) p h = tt
operand-part ms ns (Var v) p h = p v h
operand-part ms ns (TermOperand t) p h = tt

second-part : (ms ns : List ℕ) (o : Option Operand) → IsPart ms ns → SecondIn ms o → SecondIn ns o
second-part ms ns None p h = tt
second-part ms ns (Some o) p h = operand-part ms ns o p h

keeps-all : (ns : List ℕ) (terms : List Term) → IsPart ns (fold with_variables ns terms)
keeps-all ns [] k h = h
keeps-all ns (term ∷ terms) k h =
    keeps-all (with_variables ns term) terms k (keeps-with_second (with_operand ns term.left) term.right k (keeps-with_operand ns term.left k h))

in-all : (ns : List ℕ) (terms : List Term) → TermsIn (fold with_variables ns terms) terms
in-all ns [] = tt
in-all ns (term ∷ terms) =
    let first : List ℕ = with_operand ns term.left in
    let both : List ℕ = with_variables ns term in
    let last : List ℕ = fold with_variables both terms in (
      (
        operand-part both last term.left (keeps-all both terms) (operand-part first both term.left (keeps-with_second first term.right) (in-with_operand ns term.left)),
        second-part both last term.right (keeps-all both terms) (in-with_second first term.right),
      ),
      in-all both terms,
    )

pub in-occurring : (terms : List Term) → TermsIn (occurring terms) terms
in-occurring terms = in-all [] terms

-- ---- words of operands

pub word-of : (n : ℕ) (vars : Words) (v : ℕ) → 1 ≤ n → AreWords n (literals_of vars) → IsWord n (word_of vars v)
word-of n [] v low h = word-false n low
word-of n (w ∷ vars) v low h = go (nat_eq v w.0) (word-of n vars v low h.1)
  where
    go : (b : Bool) → IsWord n (word_of vars v) → IsWord n (cond b w.1 (word_of vars v))
    go true rec = h.0
    go false rec = rec

pub word-operand : (n : ℕ) (vars : Words) (words : List (List Literal)) (o : Operand) → 1 ≤ n → AreWords n (literals_of vars) → AreWords n words → IsWord n (operand_word vars words o)
word-operand n vars words (Const c) low h k = word-constant n c low
word-operand n vars words (Var v) low h k = word-of n vars v low h
word-operand n vars words (TermOperand t) low h k = words-at n words t false_bits k (word-false n low)

pub word-second : (n : ℕ) (vars : Words) (words : List (List Literal)) (o : Option Operand) → 1 ≤ n → AreWords n (literals_of vars) → AreWords n words → IsWord n (second_word vars words o)
word-second n vars words None low h k = word-false n low
word-second n vars words (Some o) low h k = word-operand n vars words o low h k

int-of : (v : ℕ → Bool) (vars : Words) (inputs : List ℤ) (x : ℕ) → Reads v vars inputs → Has (numbers_of vars) x → int_under v (word_of vars x) ≡ int_at inputs x
int-of v [] inputs x r h = absurd h
int-of v (w ∷ vars) inputs x r h = go (nat_eq x w.0) refl (λ k. int-of v vars inputs x r.1 k) h
  where
    go : (b : Bool) → nat_eq x w.0 ≡ b → (Has (numbers_of vars) x → int_under v (word_of vars x) ≡ int_at inputs x) → (x ≡ w.0) ⊎ Has (numbers_of vars) x
        → int_under v (cond b w.1 (word_of vars x)) ≡ int_at inputs x
    go true e rec h = sym r.0 ∙ ap (int_at inputs) (sym (eqb-true x w.0 e))
    go false e rec (inl same) = absurd (false≢true (sym e ∙ eq-eqb x w.0 same))
    go false e rec (inr h) = rec h

int-operand : (v : ℕ → Bool) (vars : Words) (words : List (List Literal)) (inputs : List ℤ) (o : Operand) → is_true v truth ≡ true → Reads v vars inputs
    → OperandIn (numbers_of vars) o → OperandFits o → int_under v (operand_word vars words o) ≡ operand_value inputs (map (int_under v) words) o
int-operand v vars words inputs (Const c) e r h f = int-constant v c e f
int-operand v vars words inputs (Var x) e r h f = int-of v vars inputs x r h
int-operand v vars words inputs (TermOperand t) e r h f =
    sym (ap (λ d. get_or (map (int_under v) words) t d) (sym (int-false v e)) ∙ get_or-map (int_under v) words t false_bits)

int-second : (v : ℕ → Bool) (vars : Words) (words : List (List Literal)) (inputs : List ℤ) (o : Option Operand) → is_true v truth ≡ true → Reads v vars inputs
    → SecondIn (numbers_of vars) o → SecondFits o → int_under v (second_word vars words o) ≡ second_value inputs (map (int_under v) words) o
int-second v vars words inputs None e r h f = int-false v e
int-second v vars words inputs (Some o) e r h f = int-operand v vars words inputs o e r h f

-- ---- terms

-- the words of terms, behind those of the terms before them, spell the values of the terms
pub record Builds (vars : Words) (before : List (List Literal)) (terms : List Term) (f : Cnf) (out : List (List Literal) × Cnf) : Type 0 where
  pub circuit : IsCircuit out.1
  pub words : AreWords out.1.vars out.0
  pub defines : Defines f out.1 (λ v. (inputs : List ℤ) → Reads v vars inputs
      → map (int_under v) out.0 ≡ fold (with_value inputs) (map (int_under v) before) terms)

pub terms_build : (vars : Words) (words : List (List Literal)) (terms : List Term) (f : Cnf) → IsCircuit f → AreWords f.vars (literals_of vars) → AreWords f.vars words
    → TermsFit terms → TermsIn (numbers_of vars) terms → Builds vars words terms f (term_words vars words terms f)
unfolding term_words built_term
terms_build vars words [] f c h k fit inside = record { circuit = c; words = k; defines = Defines-known _ (Defines-none f) (λ v s m inputs r. refl) }
terms_build vars words (term ∷ terms) f c h k fit inside =
    let left : List Literal = operand_word vars words term.left in
    let right : List Literal = second_word vars words term.right in
    let one : List Literal × Cnf = built_term vars words term f in
    let o : Operates term.op left right f one =
    op_operates term.op left right f c (word-operand f.vars vars words term.left c.variable h k) (word-second f.vars vars words term.right c.variable h k) in
    let up : f.vars ≤ one.1.vars = o.defines.grows in
    let rest : Builds vars (words ++ one.0 ∷ []) terms one.1 (term_words vars (words ++ one.0 ∷ []) terms one.1) =
    terms_build vars (words ++ one.0 ∷ []) terms one.1 o.circuit (words-more f.vars one.1.vars (literals_of vars) up h)
    (words-push one.1.vars words one.0 (words-more f.vars one.1.vars words up k) o.word) fit.1 inside.1 in
    record {
      circuit = rest.circuit;
      words = rest.words;
      defines = Defines-known _ (Defines-then o.defines rest.defines) (λ v s m inputs r. m.1 inputs r
          ∙ ap (λ values. fold (with_value inputs) values terms) (value v s inputs r m.0));
    }
  where
    value : (v : ℕ → Bool) → Satisfies v f.clauses → (inputs : List ℤ) → Reads v vars inputs
        → int_under v (built_term vars words term f).0 ≡ op_value term.op (int_under v (operand_word vars words term.left)) (int_under v (second_word vars words term.right))
        → map (int_under v) (words ++ (built_term vars words term f).0 ∷ []) ≡ with_value inputs (map (int_under v) words) term
    value v s inputs r m =
        let e : is_true v truth ≡ true = truth-true v f c s in
        map-append (int_under v) words ((built_term vars words term f).0 ∷ [])
        ∙ ap (λ x. map (int_under v) words ++ x ∷ []) (m
        ∙ ap (λ a. op_value term.op a (int_under v (second_word vars words term.right))) (int-operand v vars words inputs term.left e r inside.0.0 fit.0.left)
        ∙ ap (λ b. op_value term.op (operand_value inputs (map (int_under v) words) term.left) b) (int-second v vars words inputs term.right e r inside.0.1 fit.0.right))
