-- Formulas with more variables and clauses: what satisfies them, and that they are circuits.
use Rattle.std.proofs.Common.{◌≡◌, ℕ, ◌+◌, ◌≤◌, Bool, true, false, not, ◌||◌, cond, nat_lt, nat_le, List, [], ◌∷◌, ◌++◌, refl, sym, ap, subst, ◌∙◌, arith}
use Rattle.std.proofs.lemmas.Bool.{and_parts, and_from, leb-true, le-leb, false≢true}
use Rattle.kb_chain.specs.Literal.{Literal, place_of, same, is_true}
use Rattle.kb_chain.specs.Clause.{with_literal, clause_of, clause_true, Satisfies}
use Rattle.kb_chain.specs.Cnf.{Cnf, is_within, IsWithin, AllWithin}
use Rattle.kb_chain.proofs.LiteralLaws.{same-true}
use Rattle.kb_chain.proofs.CnfLaws.{AllWithin_more}
use Rattle.kb_circuit.specs.Circuit.{truth, with_clause, with_clauses, BeginsTrue, IsCircuit}
use Rattle.kb_circuit.specs.Meaning.{Agrees}

-- ---- clauses of literals

or_swap : (a b c : Bool) → (a || (b || c)) ≡ (b || (a || c))
or_swap true true c = refl
or_swap true false c = refl
or_swap false true c = refl
or_swap false false c = refl

or_twice : (a b c : Bool) → a ≡ b → (b || c) ≡ (a || (b || c))
or_twice true true c e = refl
or_twice true false c e = absurd (false≢true (sym e))
or_twice false b c e = refl

true-with_literal : (v : ℕ → Bool) (l : Literal) (ms : List Literal) → clause_true v (with_literal l ms) ≡ (is_true v l || clause_true v ms)
true-with_literal v l [] = refl
true-with_literal v l (m ∷ ms) = go (nat_lt (place_of l) (place_of m)) (same l m) refl (true-with_literal v l ms)
  where
    go : (b c : Bool) → same l m ≡ c → clause_true v (with_literal l ms) ≡ (is_true v l || clause_true v ms)
        → clause_true v (cond b (l ∷ m ∷ ms) (cond c (m ∷ ms) (m ∷ with_literal l ms))) ≡ (is_true v l || (is_true v m || clause_true v ms))
    go true c e rec = refl
    go false true e rec = or_twice (is_true v l) (is_true v m) (clause_true v ms) (ap (is_true v) (same-true l m e))
    go false false e rec = rw rec (or_swap (is_true v m) (is_true v l) (clause_true v ms))

pub true-clause_of : (v : ℕ → Bool) (ls : List Literal) → clause_true v (clause_of ls) ≡ clause_true v ls
true-clause_of v [] = refl
true-clause_of v (l ∷ ls) = true-with_literal v l (clause_of ls) ∙ ap (λ b. is_true v l || b) (true-clause_of v ls)

within-with_literal : (n : ℕ) (l : Literal) (ms : List Literal) → IsWithin n (l ∷ ms) → IsWithin n (with_literal l ms)
within-with_literal n l [] h = h
within-with_literal n l (m ∷ ms) h =
    let p = and_parts (nat_le l.variable n) (is_within n (m ∷ ms)) h in
    let q = and_parts (nat_le m.variable n) (is_within n ms) p.1 in
    go (nat_lt (place_of l) (place_of m)) (same l m) h p.1 q.0 (within-with_literal n l ms (and_from (nat_le l.variable n) (is_within n ms) p.0 q.1))
  where
    go : (b c : Bool) → IsWithin n (l ∷ m ∷ ms) → IsWithin n (m ∷ ms) → nat_le m.variable n ≡ true → IsWithin n (with_literal l ms)
        → IsWithin n (cond b (l ∷ m ∷ ms) (cond c (m ∷ ms) (m ∷ with_literal l ms)))
    go true c all rest first rec = all
    go false true all rest first rec = rest
    go false false all rest first rec = and_from (nat_le m.variable n) (is_within n (with_literal l ms)) first rec

pub within-clause_of : (n : ℕ) (ls : List Literal) → IsWithin n ls → IsWithin n (clause_of ls)
within-clause_of n [] h = refl
within-clause_of n (l ∷ ls) h =
    let p = and_parts _ _ h in within-with_literal n l (clause_of ls) (and_from _ _ p.0 (within-clause_of n ls p.1))

-- ---- lists within variables

pub within-one : (n : ℕ) (l : Literal) → l.variable ≤ n → IsWithin n (l ∷ [])
within-one n l h = and_from _ _ (le-leb l.variable n h) refl

pub within-more : (n : ℕ) (l : Literal) (ls : List Literal) → l.variable ≤ n → IsWithin n ls → IsWithin n (l ∷ ls)
within-more n l ls h k = and_from _ _ (le-leb l.variable n h) k

pub all-more : (n : ℕ) (c : List Literal) (cs : List (List Literal)) → IsWithin n c → AllWithin n cs → AllWithin n (c ∷ cs)
all-more n c cs h k = and_from _ _ h k

pub within-head : (n : ℕ) (l : Literal) (ls : List Literal) → IsWithin n (l ∷ ls) → l.variable ≤ n
within-head n l ls h = leb-true l.variable n (and_parts _ _ h).0

pub within-tail : (n : ℕ) (l : Literal) (ls : List Literal) → IsWithin n (l ∷ ls) → IsWithin n ls
within-tail n l ls h = (and_parts _ _ h).1

all_within-append : (n : ℕ) (xs : List (List Literal)) (c : List Literal) → AllWithin n xs → IsWithin n c → AllWithin n (xs ++ c ∷ [])
all_within-append n [] c h k = and_from _ _ k refl
all_within-append n (x ∷ xs) c h k = let p = and_parts _ _ h in and_from _ _ p.0 (all_within-append n xs c p.1 k)

-- ---- satisfied clauses

satisfies-push : (v : ℕ → Bool) (xs : List (List Literal)) (c : List Literal) → Satisfies v xs → clause_true v c ≡ true → Satisfies v (xs ++ c ∷ [])
satisfies-push v [] c h k = (k, tt)
satisfies-push v (x ∷ xs) c h k = (h.0, satisfies-push v xs c h.1 k)

satisfies-pushed : (v : ℕ → Bool) (xs : List (List Literal)) (c : List Literal) → Satisfies v (xs ++ c ∷ []) → Satisfies v xs × (clause_true v c ≡ true)
satisfies-pushed v [] c h = (tt, h.0)
satisfies-pushed v (x ∷ xs) c h = let r = satisfies-pushed v xs c h.1 in ((h.0, r.0), r.1)

pub satisfies-clauses : (v : ℕ → Bool) (f : Cnf) (cs : List (List Literal)) → Satisfies v f.clauses → Satisfies v cs → Satisfies v (with_clauses f cs).clauses
satisfies-clauses v f [] h k = h
satisfies-clauses v f (c ∷ cs) h k =
    satisfies-clauses v (with_clause f c) cs (satisfies-push v f.clauses (clause_of c) h (true-clause_of v c ∙ k.0)) k.1

pub clauses-satisfied : (v : ℕ → Bool) (f : Cnf) (cs : List (List Literal)) → Satisfies v (with_clauses f cs).clauses → Satisfies v f.clauses × Satisfies v cs
clauses-satisfied v f [] h = (h, tt)
clauses-satisfied v f (c ∷ cs) h =
    let r = clauses-satisfied v (with_clause f c) cs h in
    let s = satisfies-pushed v f.clauses (clause_of c) r.0 in
    (s.0, (sym (true-clause_of v c) ∙ s.1, r.1))

pub vars-clauses : (f : Cnf) (cs : List (List Literal)) → (with_clauses f cs).vars ≡ f.vars
vars-clauses f [] = refl
vars-clauses f (c ∷ cs) = vars-clauses (with_clause f c) cs

pub within-clauses : (f : Cnf) (cs : List (List Literal)) → AllWithin f.vars f.clauses → AllWithin f.vars cs → AllWithin (with_clauses f cs).vars (with_clauses f cs).clauses
within-clauses f [] h k = h
within-clauses f (c ∷ cs) h k =
    let p = and_parts _ _ k in
    within-clauses (with_clause f c) cs (all_within-append f.vars f.clauses (clause_of c) h (within-clause_of f.vars c p.0)) p.1

-- ---- assignments that agree

pub is_true-agrees : (n : ℕ) (v w : ℕ → Bool) (l : Literal) → Agrees n v w → l.variable ≤ n → is_true v l ≡ is_true w l
is_true-agrees n v w l a h = ap (λ b. cond l.positive b (not b)) (a l.variable h)

clause-agrees : (n : ℕ) (v w : ℕ → Bool) (ls : List Literal) → Agrees n v w → IsWithin n ls → clause_true v ls ≡ clause_true w ls
clause-agrees n v w [] a h = refl
clause-agrees n v w (l ∷ ls) a h =
    ap (λ b. b || clause_true v ls) (is_true-agrees n v w l a (within-head n l ls h))
    ∙ ap (λ b. is_true w l || b) (clause-agrees n v w ls a (within-tail n l ls h))

pub satisfies-agrees : (n : ℕ) (v w : ℕ → Bool) (cs : List (List Literal)) → Agrees n v w → AllWithin n cs → Satisfies v cs → Satisfies w cs
satisfies-agrees n v w [] a h s = tt
satisfies-agrees n v w (c ∷ cs) a h s =
    let p = and_parts _ _ h in (sym (clause-agrees n v w c a p.0) ∙ s.0, satisfies-agrees n v w cs a p.1 s.1)

-- ---- circuits

pub begins-push : (xs : List (List Literal)) (c : List Literal) → BeginsTrue xs → BeginsTrue (xs ++ c ∷ [])
begins-push [] c h = absurd h
begins-push (x ∷ xs) c h = h

pub circuit_with_variable : (f g : Cnf) → IsCircuit f → g.vars ≡ f.vars + 1 → g.clauses ≡ f.clauses → IsCircuit g
circuit_with_variable f g h e k = record {
  variable = let low : 1 ≤ f.vars = h.variable in omega arith;
  first = subst BeginsTrue (sym k) h.first;
  within = subst (AllWithin g.vars) (sym k) (AllWithin_more f.vars g.vars f.clauses (omega arith) h.within);
}

pub circuit_same : (f g : Cnf) → IsCircuit f → g.vars ≡ f.vars → g.clauses ≡ f.clauses → IsCircuit g
circuit_same f g h e k = record {
  variable = let low : 1 ≤ f.vars = h.variable in omega arith;
  first = subst BeginsTrue (sym k) h.first;
  within = subst (AllWithin g.vars) (sym k) (AllWithin_more f.vars g.vars f.clauses (omega arith) h.within);
}

pub circuit_with_clause : (f g : Cnf) (ls : List Literal) → IsCircuit f → IsWithin f.vars ls → g.vars ≡ f.vars → g.clauses ≡ f.clauses ++ clause_of ls ∷ [] → IsCircuit g
circuit_with_clause f g ls h w e k = record {
  variable = let low : 1 ≤ f.vars = h.variable in omega arith;
  first = subst BeginsTrue (sym k) (begins-push f.clauses (clause_of ls) h.first);
  within = subst (AllWithin g.vars) (sym k) (AllWithin_more f.vars g.vars (f.clauses ++ clause_of ls ∷ []) (omega arith)
      (all_within-append f.vars f.clauses (clause_of ls) h.within (within-clause_of f.vars ls w)));
}

-- an assignment that satisfies a circuit makes variable 1 true
pub truth-true : (v : ℕ → Bool) (f : Cnf) → IsCircuit f → Satisfies v f.clauses → is_true v truth ≡ true
truth-true v f h = go f.clauses h.first
  where
    one : (b : Bool) → (b || false) ≡ true → b ≡ true
    one true e = refl
    one false e = absurd (false≢true e)

    go : (cs : List (List Literal)) → BeginsTrue cs → Satisfies v cs → is_true v truth ≡ true
    go [] b s = absurd b
    go (c ∷ cs) b s = one (is_true v truth) (sym (ap (clause_true v) b) ∙ s.0)
