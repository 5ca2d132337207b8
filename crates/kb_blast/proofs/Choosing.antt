-- The words of variables can spell all that the variables can be, and nothing else.
use Rattle.std.proofs.Common.{◌≡◌, inl, inr, ℕ, zero, suc, ◌+◌, ◌≤◌, ℤ, Bool, true, false, List, [], ◌∷◌, length, refl, sym, ap, subst, ◌∙◌, arith, FitsSigned, w32}
use Rattle.kb_arith.specs.Word.{bits_of, int_of_bits, truth as truth_value}
use Rattle.kb_arith.proofs.Laws.{int_of_bits-bits_of, int_of_bits-fits, bits_of-below}
use Rattle.kb_chain.specs.Literal.{Literal, is_true}
use Rattle.kb_chain.specs.Cnf.{Cnf, IsWithin, AllWithin}
use Rattle.kb_chain.proofs.CnfLaws.{AllWithin_more}
use Rattle.kb_circuit.specs.Circuit.{truth, with_variable, next_literal, BeginsTrue, IsCircuit}
use Rattle.kb_circuit.specs.Words.{truth_bits}
use Rattle.kb_circuit.specs.Meaning.{number, bits_under, int_under, Agrees}
use Rattle.kb_circuit.proofs.Formulas.{within-more}
use Rattle.kb_circuit.proofs.Defining.{set_at, set_at-same, set_at-agrees}
use Rattle.kb_terms.specs.Terms.{int_at}
use Rattle.kb_terms.specs.declared.node.VarKind.{VarKind}
use Rattle.kb_terms.specs.declared.node.VarKind.TheVariants.{Int as IntKind, Bool as BoolKind}
use Rattle.kb_blast.specs.Conditions.{Words, bits, new_bits, variable_word, variable_words}
use Rattle.kb_blast.specs.Meaning.{KindFits, InputsFit, Reads}
use Rattle.kb_blast.specs.Listing.{numbers_of, literals_of}
use Rattle.kb_blast.proofs.Ints.{IsWord, AreWords, word-more, word-truth_bits, int-truth_bits, int-agrees, length-bits, number-bits}

-- an assignment with these bits that agrees on the variables before
pub record Choice (vars : ℕ) (v : ℕ → Bool) (Good : (ℕ → Bool) → Type 0) : Type 0 where
  pub assignment : ℕ → Bool
  pub agrees : Agrees vars v assignment
  pub good : Good assignment

-- ---- new bits

record Fresh (n : ℕ) (f : Cnf) (out : List Literal × Cnf) : Type 0 where
  pub same : out.1.clauses ≡ f.clauses
  pub grows : f.vars ≤ out.1.vars
  pub long : length out.0 ≡ n
  pub within : IsWithin out.1.vars out.0
  pub choose : (v : ℕ → Bool) (bs : List Bool) → length bs ≡ n → Choice f.vars v (λ w. bits_under w out.0 ≡ bs)

fresh_bits : (n : ℕ) (f : Cnf) → Fresh n f (new_bits n f)
unfolding new_bits
fresh_bits zero f = record {
  same = refl;
  grows = omega arith;
  long = refl;
  within = refl;
  choose = λ v bs e. none v bs e;
}
  where
    none : (v : ℕ → Bool) (bs : List Bool) → length bs ≡ 0 → Choice f.vars v (λ w. [] ≡ bs)
    none v [] e = record { assignment = v; agrees = λ i le. refl; good = refl }
    none v (b ∷ bs) e = absurd (omega arith)
fresh_bits (suc n) f = go (fresh_bits n (with_variable f))
  where
    go : Fresh n (with_variable f) (new_bits n (with_variable f)) → Fresh (suc n) f (next_literal f ∷ (new_bits n (with_variable f)).0, (new_bits n (with_variable f)).1)
    go r =
        let out : List Literal × Cnf = new_bits n (with_variable f) in
        let up : f.vars + 1 ≤ out.1.vars = r.grows in
        record {
          same = r.same;
          grows = omega arith;
          long = ap suc r.long;
          within = within-more out.1.vars (next_literal f) out.0 up r.within;
          choose = λ v bs e. choose v bs e;
        }
      where
        choose : (v : ℕ → Bool) (bs : List Bool) → length bs ≡ suc n → Choice f.vars v (λ w. bits_under w (next_literal f ∷ (new_bits n (with_variable f)).0) ≡ bs)
        choose v [] e = absurd (omega arith)
        choose v (b ∷ bs) e =
            let v1 : ℕ → Bool = set_at v (f.vars + 1) b in
            let c : Choice (f.vars + 1) v1 (λ w. bits_under w (new_bits n (with_variable f)).0 ≡ bs) = r.choose v1 bs (omega arith) in
            record {
              assignment = c.assignment;
              agrees = λ i le. set_at-agrees v f.vars b i le ∙ c.agrees i (omega arith);
              good = ap (λ x. x ∷ bits_under c.assignment (new_bits n (with_variable f)).0) (sym (c.agrees (f.vars + 1) (omega arith)) ∙ set_at-same v (f.vars + 1) b)
                  ∙ ap (λ xs. b ∷ xs) c.good;
            }

-- ---- one variable

circuit-same : (f g : Cnf) → IsCircuit f → f.vars ≤ g.vars → g.clauses ≡ f.clauses → IsCircuit g
circuit-same f g h le same = record {
  variable = let low : 1 ≤ f.vars = h.variable in omega arith;
  first = subst BeginsTrue (sym same) h.first;
  within = subst (AllWithin g.vars) (sym same) (AllWithin_more f.vars g.vars f.clauses le h.within);
}

record Varies (kind : VarKind) (f : Cnf) (out : List Literal × Cnf) : Type 0 where
  pub same : out.1.clauses ≡ f.clauses
  pub grows : f.vars ≤ out.1.vars
  pub word : IsWord out.1.vars out.0
  pub fits : (v : ℕ → Bool) → is_true v truth ≡ true → KindFits kind (int_under v out.0)
  pub choose : (v : ℕ → Bool) (x : ℤ) → is_true v truth ≡ true → KindFits kind x → Choice f.vars v (λ w. int_under w out.0 ≡ x)

int_varies : (f : Cnf) → Varies IntKind f (new_bits 32 f)
unfolding int_under
int_varies f =
    let r : Fresh 32 f (new_bits 32 f) = fresh_bits 32 f in
    record {
      same = r.same;
      grows = r.grows;
      word = record { long = r.long; within = r.within };
      fits = λ v e. int_of_bits-fits (number (bits_under v (new_bits 32 f).0));
      choose = λ v x e fit. chosen v x fit (r.choose v (bits 32 (bits_of x)) (length-bits 32 (bits_of x)));
    }
  where
    chosen : (v : ℕ → Bool) (x : ℤ) → FitsSigned w32 x → Choice f.vars v (λ w. bits_under w (new_bits 32 f).0 ≡ bits 32 (bits_of x))
        → Choice f.vars v (λ w. int_of_bits (number (bits_under w (new_bits 32 f).0)) ≡ x)
    chosen v x fit c = record {
      assignment = c.assignment;
      agrees = c.agrees;
      good = ap (λ bs. int_of_bits (number bs)) c.good ∙ ap int_of_bits (number-bits 32 (bits_of x) (bits_of-below x fit)) ∙ int_of_bits-bits_of x fit;
    }

truth_fits : (b : Bool) → KindFits BoolKind (truth_value b)
truth_fits true = inr refl
truth_fits false = inl refl

bool_varies : (f : Cnf) → IsCircuit f → Varies BoolKind f (truth_bits (next_literal f), with_variable f)
bool_varies f c = record {
  same = refl;
  grows = omega arith;
  word = let low : 1 ≤ f.vars = c.variable in word-truth_bits (f.vars + 1) (next_literal f) (omega arith) (omega arith);
  fits = λ v e. subst (KindFits BoolKind) (sym (int-truth_bits v (next_literal f) e)) (truth_fits (is_true v (next_literal f)));
  choose = λ v x e fit. choose v x e fit;
}
  where
    set_to : (v : ℕ → Bool) (b : Bool) (x : ℤ) → is_true v truth ≡ true → x ≡ truth_value b → Choice f.vars v (λ w. int_under w (truth_bits (next_literal f)) ≡ x)
    set_to v b x e is =
        let w : ℕ → Bool = set_at v (f.vars + 1) b in
        let low : 1 ≤ f.vars = c.variable in
        record {
          assignment = w;
          agrees = set_at-agrees v f.vars b;
          good = int-truth_bits w (next_literal f) (sym (set_at-agrees v f.vars b 1 low) ∙ e) ∙ (ap truth_value (set_at-same v (f.vars + 1) b) ∙ sym is);
        }

    choose : (v : ℕ → Bool) (x : ℤ) → is_true v truth ≡ true → KindFits BoolKind x → Choice f.vars v (λ w. int_under w (truth_bits (next_literal f)) ≡ x)
    choose v x e (inl is) = set_to v false x e is
    choose v x e (inr is) = set_to v true x e is

variable_varies : (kind : VarKind) (f : Cnf) → IsCircuit f → Varies kind f (variable_word kind f)
unfolding variable_word
variable_varies IntKind f c = int_varies f
variable_varies BoolKind f c = bool_varies f c

-- ---- all variables

pub record AllVary (vs : List (ℕ × VarKind)) (f : Cnf) (out : Words × Cnf) : Type 0 where
  pub circuit : IsCircuit out.1
  pub same : out.1.clauses ≡ f.clauses
  pub grows : f.vars ≤ out.1.vars
  pub words : AreWords out.1.vars (literals_of out.0)
  pub numbers : numbers_of out.0 ≡ numbers_of vs
  pub fits : (v : ℕ → Bool) (inputs : List ℤ) → is_true v truth ≡ true → Reads v out.0 inputs → InputsFit vs inputs
  pub choose : (v : ℕ → Bool) (inputs : List ℤ) → is_true v truth ≡ true → InputsFit vs inputs → Choice f.vars v (λ w. Reads w out.0 inputs)

pub reads-agree : (n : ℕ) (v w : ℕ → Bool) (vars : Words) (inputs : List ℤ) → Agrees n v w → AreWords n (literals_of vars) → Reads v vars inputs → Reads w vars inputs
reads-agree n v w [] inputs a h r = tt
reads-agree n v w (x ∷ vars) inputs a h r = (r.0 ∙ int-agrees n v w x.1 a h.0.within, reads-agree n v w vars inputs a h.1 r.1)

pub variables_vary : (vs : List (ℕ × VarKind)) (f : Cnf) → IsCircuit f → AllVary vs f (variable_words vs f)
unfolding variable_words
variables_vary [] f c = record {
  circuit = c;
  same = refl;
  grows = omega arith;
  words = tt;
  numbers = refl;
  fits = λ v inputs e r. tt;
  choose = λ v inputs e fit. record { assignment = v; agrees = λ i le. refl; good = tt };
}
variables_vary (x ∷ vs) f c =
    let first : Varies x.1 f (variable_word x.1 f) = variable_varies x.1 f c in
    let g : Cnf = (variable_word x.1 f).1 in
    let d : IsCircuit g = circuit-same f g c first.grows first.same in
    go first (variables_vary vs g d)
  where
    go : Varies x.1 f (variable_word x.1 f) → AllVary vs (variable_word x.1 f).1 (variable_words vs (variable_word x.1 f).1)
        → AllVary (x ∷ vs) f ((x.0, (variable_word x.1 f).0) ∷ (variable_words vs (variable_word x.1 f).1).0, (variable_words vs (variable_word x.1 f).1).1)
    go first rest =
        let one : List Literal × Cnf = variable_word x.1 f in
        let out : Words × Cnf = variable_words vs one.1 in
        let up : f.vars ≤ one.1.vars = first.grows in
        let more : one.1.vars ≤ out.1.vars = rest.grows in
        record {
          circuit = rest.circuit;
          same = rest.same ∙ first.same;
          grows = omega arith;
          words = (word-more one.1.vars out.1.vars one.0 more first.word, rest.words);
          numbers = ap (λ ns. x.0 ∷ ns) rest.numbers;
          fits = λ v inputs e r. (subst (KindFits x.1) (sym r.0) (first.fits v e), rest.fits v inputs e r.1);
          choose = λ v inputs e fit. both v inputs e fit (first.choose v (int_at inputs x.0) e fit.0);
        }
      where
        both : (v : ℕ → Bool) (inputs : List ℤ) → is_true v truth ≡ true → InputsFit (x ∷ vs) inputs
            → Choice f.vars v (λ w. int_under w (variable_word x.1 f).0 ≡ int_at inputs x.0)
            → Choice f.vars v (λ w. Reads w ((x.0, (variable_word x.1 f).0) ∷ (variable_words vs (variable_word x.1 f).1).0) inputs)
        both v inputs e fit a =
            let one : List Literal × Cnf = variable_word x.1 f in
            let low : 1 ≤ f.vars = c.variable in
            let up : f.vars ≤ one.1.vars = first.grows in
            let b = rest.choose a.assignment inputs (sym (a.agrees 1 low) ∙ e) fit.1 in
            record {
              assignment = b.assignment;
              agrees = λ i le. a.agrees i le ∙ b.agrees i (omega arith);
              good = (sym (sym (int-agrees one.1.vars a.assignment b.assignment one.0 b.agrees first.word.within) ∙ a.good), b.good);
            }
