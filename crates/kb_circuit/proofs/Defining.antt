-- Definitions of new variables by old ones, one after the other.
use Rattle.std.proofs.Common.{◌≡◌, ℕ, ◌+◌, ◌≤◌, ◌≢◌, Bool, true, false, cond, nat_eq, List, refl, ap, ◌∙◌, arith}
use Rattle.std.proofs.lemmas.Bool.{eq-eqb, eqb-true}
use Rattle.kb_chain.specs.Literal.{Literal, is_true}
use Rattle.kb_chain.specs.Clause.{Satisfies}
use Rattle.kb_chain.specs.Cnf.{Cnf, AllWithin}
use Rattle.kb_chain.proofs.CnfLaws.{AllWithin_more}
use Rattle.kb_circuit.specs.Circuit.{with_variable, next_literal}
use Rattle.kb_circuit.specs.Gates.{defined}
use Rattle.kb_circuit.specs.Meaning.{Agrees, Extends, Defines}
use Rattle.kb_circuit.proofs.Formulas.{satisfies-clauses, clauses-satisfied, vars-clauses, within-clauses, satisfies-agrees}

pub Defines-none : (f : Cnf) → Defines f f (λ _. Unit {0})
Defines-none f = record {
  grows = omega arith;
  within = λ h. h;
  keeps = λ v s. s;
  means = λ v s. tt;
  extends = λ h v s. record { assignment = v; agrees = λ n le. refl; satisfies = s };
}

pub Defines-then : {f g h : Cnf} {P Q : (ℕ → Bool) → Type 0} → Defines f g P → Defines g h Q → Defines f h (λ v. P v × Q v)
Defines-then {f} {g} {h} {P} {Q} d e = record {
  grows = let a : f.vars ≤ g.vars = d.grows in let b : g.vars ≤ h.vars = e.grows in omega arith;
  within = λ k. e.within (d.within k);
  keeps = λ v s. d.keeps v (e.keeps v s);
  means = λ v s. (d.means v (e.keeps v s), e.means v s);
  extends = λ k v s. both (d.within k) (d.extends k v s);
}
  where
    both : {v : ℕ → Bool} → AllWithin g.vars g.clauses → Extends f g v → Extends f h v
    both {v} k first =
        let second : Extends g h first.assignment = e.extends k first.assignment first.satisfies in
        let grows : f.vars ≤ g.vars = d.grows in
        record {
          assignment = second.assignment;
          agrees = λ n le. first.agrees n le ∙ second.agrees n (omega arith);
          satisfies = second.satisfies;
        }

-- another property that follows for the assignments that satisfy the old formula
pub Defines-known : {f g : Cnf} {P : (ℕ → Bool) → Type 0} (Q : (ℕ → Bool) → Type 0) → Defines f g P → ((v : ℕ → Bool) → Satisfies v f.clauses → P v → Q v) → Defines f g Q
Defines-known Q d k = record {
  grows = d.grows;
  within = d.within;
  keeps = d.keeps;
  means = λ v s. k v (d.keeps v s) (d.means v s);
  extends = d.extends;
}

pub Defines-map : {f g : Cnf} {P : (ℕ → Bool) → Type 0} (Q : (ℕ → Bool) → Type 0) → Defines f g P → ((v : ℕ → Bool) → P v → Q v) → Defines f g Q
Defines-map Q d k = Defines-known Q d (λ v s p. k v p)

-- ---- one new variable

abbrev pub set_at : (ℕ → Bool) → ℕ → Bool → ℕ → Bool
set_at v n b i = cond (nat_eq i n) b (v i)

pub set_at-same : (v : ℕ → Bool) (n : ℕ) (b : Bool) → set_at v n b n ≡ b
set_at-same v n b = ap (λ t. cond t b (v n)) (eq-eqb n n refl)

pub set_at-other : (v : ℕ → Bool) (n : ℕ) (b : Bool) (i : ℕ) → i ≢ n → v i ≡ set_at v n b i
set_at-other v n b i apart = go (nat_eq i n) refl
  where
    go : (t : Bool) → nat_eq i n ≡ t → v i ≡ cond t b (v i)
    go true e = absurd (apart (eqb-true i n e))
    go false e = refl

pub set_at-agrees : (v : ℕ → Bool) (n : ℕ) (b : Bool) → Agrees n v (set_at v (n + 1) b)
set_at-agrees v n b = λ i le. set_at-other v (n + 1) b i (λ e. absurd (omega arith))

-- what makes clauses on a new literal its definition: they say that it has a value, which hangs on the old variables alone
pub record IsDefinition (f : Cnf) (clauses : List (List Literal)) (value : (ℕ → Bool) → Bool) : Type 0 where
  pub inside : AllWithin (f.vars + 1) clauses
  pub says : (v : ℕ → Bool) → Satisfies v clauses → is_true v (next_literal f) ≡ value v
  pub holds : (v : ℕ → Bool) → is_true v (next_literal f) ≡ value v → Satisfies v clauses
  pub fixed : (v w : ℕ → Bool) → Agrees f.vars v w → value v ≡ value w

pub defined-defines : (f : Cnf) (clauses : Literal → List (List Literal)) (value : (ℕ → Bool) → Bool) → IsDefinition f (clauses (next_literal f)) value
    → Defines f (defined clauses f).1 (λ v. is_true v (next_literal f) ≡ value v)
defined-defines f clauses value d = record {
  grows = let e = vars-clauses (with_variable f) (clauses (next_literal f)) in omega arith;
  within = λ h. within-clauses (with_variable f) (clauses (next_literal f)) (AllWithin_more f.vars (f.vars + 1) f.clauses (omega arith) h) d.inside;
  keeps = λ v s. (clauses-satisfied v (with_variable f) (clauses (next_literal f)) s).0;
  means = λ v s. d.says v (clauses-satisfied v (with_variable f) (clauses (next_literal f)) s).1;
  extends = λ h v s. reach h v s;
}
  where
    reach : AllWithin f.vars f.clauses → (v : ℕ → Bool) → Satisfies v f.clauses → Extends f (defined clauses f).1 v
    reach h v s =
        let w : ℕ → Bool = set_at v (f.vars + 1) (value v) in
        let a : Agrees f.vars v w = set_at-agrees v f.vars (value v) in
        record {
          assignment = w;
          agrees = a;
          satisfies = satisfies-clauses w (with_variable f) (clauses (next_literal f)) (satisfies-agrees f.vars v w f.clauses a h s)
              (d.holds w (set_at-same v (f.vars + 1) (value v) ∙ d.fixed v w a));
        }
