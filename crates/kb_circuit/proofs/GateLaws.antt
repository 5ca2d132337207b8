-- What each gate means, and that it is a definition.
use Rattle.std.proofs.Common.{◌≡◌, ℕ, ◌+◌, ◌*◌, ◌≤◌, Bool, true, false, not, ◌&&◌, ◌||◌, cond, [], ◌∷◌, refl, sym, ap, ◌∙◌, arith}
use Rattle.std.proofs.lemmas.Bool.{false≢true}
use Rattle.kb_chain.specs.Literal.{Literal, negated, is_true}
use Rattle.kb_chain.specs.Cnf.{Cnf, IsWithin, AllWithin}
use Rattle.kb_circuit.specs.Circuit.{next_literal}
use Rattle.kb_circuit.specs.Gates.{and_clauses, xor_clauses, and_gate, xor_gate, or_gate, mux_gate, masked_mux_gate, gate_of, full_adder}
use Rattle.kb_circuit.specs.Words.{GateFits}
use Rattle.kb_circuit.specs.declared.gate.Gate.{Gate}
use Rattle.kb_circuit.specs.declared.gate.Gate.TheVariants.{And, Or, Xor, Mux, MaskedMux}
use Rattle.kb_circuit.specs.Meaning.{bit, Defines}
use Rattle.kb_circuit.proofs.Formulas.{within-more, all-more, is_true-agrees}
use Rattle.kb_circuit.proofs.Defining.{Defines-then, Defines-map, defined-defines}

pub is_true-negated : (v : ℕ → Bool) (l : Literal) → is_true v (negated l) ≡ not (is_true v l)
is_true-negated v l = go l.positive (v l.variable)
  where
    go : (p b : Bool) → cond (not p) b (not b) ≡ not (cond p b (not b))
    go true b = refl
    go false true = refl
    go false false = refl

pub differ : Bool → Bool → Bool
differ a b = cond a (not b) b

-- ---- the clauses of a conjunction and of a difference

abbrev AndClauses : (g a b ng na nb : Bool) → Type 0
AndClauses g a b ng na nb = ((ng || (a || false)) ≡ true) × (((ng || (b || false)) ≡ true) × (((g || (na || (nb || false))) ≡ true) × Unit {0}))

and_says : (g a b ng na nb : Bool) → ng ≡ not g → na ≡ not a → nb ≡ not b → AndClauses g a b ng na nb → g ≡ (a && b)
and_says g a b ng na nb e f k = rw (e, f, k) (go g a b)
  where
    go : (g a b : Bool) → AndClauses g a b (not g) (not a) (not b) → g ≡ (a && b)
    go true true true h = refl
    go true true false h = absurd (false≢true h.1.0)
    go true false b h = absurd (false≢true h.0)
    go false true true h = absurd (false≢true h.1.1.0)
    go false true false h = refl
    go false false b h = refl

and_holds : (g a b ng na nb : Bool) → ng ≡ not g → na ≡ not a → nb ≡ not b → g ≡ (a && b) → AndClauses g a b ng na nb
and_holds g a b ng na nb e f k = rw (e, f, k) (go g a b)
  where
    go : (g a b : Bool) → g ≡ (a && b) → AndClauses g a b (not g) (not a) (not b)
    go true true true h = (refl, (refl, (refl, tt)))
    go true true false h = absurd (false≢true (sym h))
    go true false b h = absurd (false≢true (sym h))
    go false true true h = absurd (false≢true h)
    go false true false h = (refl, (refl, (refl, tt)))
    go false false b h = (refl, (refl, (refl, tt)))

abbrev XorClauses : (g a b ng na nb : Bool) → Type 0
XorClauses g a b ng na nb =
    ((ng || (a || (b || false))) ≡ true) × (((ng || (na || (nb || false))) ≡ true) × (((g || (na || (b || false))) ≡ true) × (((g || (a || (nb || false))) ≡ true) × Unit {0})))

xor_says : (g a b ng na nb : Bool) → ng ≡ not g → na ≡ not a → nb ≡ not b → XorClauses g a b ng na nb → g ≡ cond a (not b) b
xor_says g a b ng na nb e f k = rw (e, f, k) (go g a b)
  where
    go : (g a b : Bool) → XorClauses g a b (not g) (not a) (not b) → g ≡ cond a (not b) b
    go true true true h = absurd (false≢true h.1.0)
    go true true false h = refl
    go true false true h = refl
    go true false false h = absurd (false≢true h.0)
    go false true true h = refl
    go false true false h = absurd (false≢true h.1.1.0)
    go false false true h = absurd (false≢true h.1.1.1.0)
    go false false false h = refl

xor_holds : (g a b ng na nb : Bool) → ng ≡ not g → na ≡ not a → nb ≡ not b → g ≡ cond a (not b) b → XorClauses g a b ng na nb
xor_holds g a b ng na nb e f k = rw (e, f, k) (go g a b)
  where
    go : (g a b : Bool) → g ≡ cond a (not b) b → XorClauses g a b (not g) (not a) (not b)
    go true true true h = absurd (false≢true (sym h))
    go true true false h = (refl, (refl, (refl, (refl, tt))))
    go true false true h = (refl, (refl, (refl, (refl, tt))))
    go true false false h = absurd (false≢true (sym h))
    go false true true h = (refl, (refl, (refl, (refl, tt))))
    go false true false h = absurd (false≢true h)
    go false false true h = absurd (false≢true h)
    go false false false h = (refl, (refl, (refl, (refl, tt))))

-- ---- the gates

-- a gate's literal has a value under each assignment that satisfies the clauses, and its variable is the formula's
pub record Gives (f : Cnf) (out : Literal × Cnf) (value : (ℕ → Bool) → Bool) : Type 0 where
  pub within : out.0.variable ≤ out.1.vars
  pub defines : Defines f out.1 (λ v. is_true v out.0 ≡ value v)

two_within : (n : ℕ) (a b : Literal) → a.variable ≤ n → b.variable ≤ n → IsWithin n (a ∷ b ∷ [])
two_within n a b h k = within-more n a (b ∷ []) h (within-more n b [] k refl)

three_within : (n : ℕ) (a b c : Literal) → a.variable ≤ n → b.variable ≤ n → c.variable ≤ n → IsWithin n (a ∷ b ∷ c ∷ [])
three_within n a b c h k j = within-more n a (b ∷ c ∷ []) h (two_within n b c k j)

and_inside : (a b : Literal) (f : Cnf) → a.variable ≤ f.vars → b.variable ≤ f.vars → AllWithin (f.vars + 1) (and_clauses a b (next_literal f))
and_inside a b f h k =
    let n : ℕ = f.vars + 1 in
    let g : Literal = next_literal f in
    let a_in : a.variable ≤ n = omega arith in
    let b_in : b.variable ≤ n = omega arith in
    let g_in : g.variable ≤ n = omega arith in
    all-more n (negated g ∷ a ∷ []) ((negated g ∷ b ∷ []) ∷ (g ∷ negated a ∷ negated b ∷ []) ∷ []) (two_within n (negated g) a g_in a_in)
    (all-more n (negated g ∷ b ∷ []) ((g ∷ negated a ∷ negated b ∷ []) ∷ []) (two_within n (negated g) b g_in b_in)
    (all-more n (g ∷ negated a ∷ negated b ∷ []) [] (three_within n g (negated a) (negated b) g_in a_in b_in) refl))

xor_inside : (a b : Literal) (f : Cnf) → a.variable ≤ f.vars → b.variable ≤ f.vars → AllWithin (f.vars + 1) (xor_clauses a b (next_literal f))
xor_inside a b f h k =
    let n : ℕ = f.vars + 1 in
    let g : Literal = next_literal f in
    let a_in : a.variable ≤ n = omega arith in
    let b_in : b.variable ≤ n = omega arith in
    let g_in : g.variable ≤ n = omega arith in
    all-more n (negated g ∷ a ∷ b ∷ []) ((negated g ∷ negated a ∷ negated b ∷ []) ∷ (g ∷ negated a ∷ b ∷ []) ∷ (g ∷ a ∷ negated b ∷ []) ∷ []) (three_within n (negated g) a b g_in a_in b_in)
    (all-more n (negated g ∷ negated a ∷ negated b ∷ []) ((g ∷ negated a ∷ b ∷ []) ∷ (g ∷ a ∷ negated b ∷ []) ∷ []) (three_within n (negated g) (negated a) (negated b) g_in a_in b_in)
    (all-more n (g ∷ negated a ∷ b ∷ []) ((g ∷ a ∷ negated b ∷ []) ∷ []) (three_within n g (negated a) b g_in a_in b_in)
    (all-more n (g ∷ a ∷ negated b ∷ []) [] (three_within n g a (negated b) g_in a_in b_in) refl)))

pub and_gives : (a b : Literal) (f : Cnf) → a.variable ≤ f.vars → b.variable ≤ f.vars → Gives f (and_gate a b f) (λ v. is_true v a && is_true v b)
unfolding and_gate
and_gives a b f h k =
    let g : Literal = next_literal f in
    record {
      within = omega arith;
      defines = defined-defines f (and_clauses a b) (λ v. is_true v a && is_true v b) (record {
        inside = and_inside a b f h k;
        says = λ v s. and_says (is_true v g) (is_true v a) (is_true v b) (is_true v (negated g)) (is_true v (negated a)) (is_true v (negated b))
            (is_true-negated v g) (is_true-negated v a) (is_true-negated v b) s;
        holds = λ v e. and_holds (is_true v g) (is_true v a) (is_true v b) (is_true v (negated g)) (is_true v (negated a)) (is_true v (negated b))
            (is_true-negated v g) (is_true-negated v a) (is_true-negated v b) e;
        fixed = λ v w e. ap (λ x. x && is_true v b) (is_true-agrees f.vars v w a e h) ∙ ap (λ x. is_true w a && x) (is_true-agrees f.vars v w b e k);
      });
    }

pub xor_gives : (a b : Literal) (f : Cnf) → a.variable ≤ f.vars → b.variable ≤ f.vars → Gives f (xor_gate a b f) (λ v. cond (is_true v a) (not (is_true v b)) (is_true v b))
unfolding xor_gate
xor_gives a b f h k =
    let g : Literal = next_literal f in
    record {
      within = omega arith;
      defines = defined-defines f (xor_clauses a b) (λ v. cond (is_true v a) (not (is_true v b)) (is_true v b)) (record {
        inside = xor_inside a b f h k;
        says = λ v s. xor_says (is_true v g) (is_true v a) (is_true v b) (is_true v (negated g)) (is_true v (negated a)) (is_true v (negated b))
            (is_true-negated v g) (is_true-negated v a) (is_true-negated v b) s;
        holds = λ v e. xor_holds (is_true v g) (is_true v a) (is_true v b) (is_true v (negated g)) (is_true v (negated a)) (is_true v (negated b))
            (is_true-negated v g) (is_true-negated v a) (is_true-negated v b) e;
        fixed = λ v w e. ap (λ x. cond x (not (is_true v b)) (is_true v b)) (is_true-agrees f.vars v w a e h)
            ∙ ap (λ x. cond (is_true w a) (not x) x) (is_true-agrees f.vars v w b e k);
      });
    }

or_of_and : (a b na nb g ng : Bool) → na ≡ not a → nb ≡ not b → ng ≡ not g → g ≡ (na && nb) → ng ≡ (a || b)
or_of_and a b na nb g ng e f k h = k ∙ ap not h ∙ rw (e, f) (go a b)
  where
    go : (a b : Bool) → not (not a && not b) ≡ (a || b)
    go true b = refl
    go false true = refl
    go false false = refl

pub or_gives : (a b : Literal) (f : Cnf) → a.variable ≤ f.vars → b.variable ≤ f.vars → Gives f (or_gate a b f) (λ v. is_true v a || is_true v b)
unfolding or_gate
or_gives a b f h k =
    let d = and_gives (negated a) (negated b) f h k in
    record {
      within = d.within;
      defines = Defines-map _ d.defines (λ v e. or_of_and (is_true v a) (is_true v b) _ _ (is_true v (and_gate (negated a) (negated b) f).0) _
          (is_true-negated v a) (is_true-negated v b) (is_true-negated v (and_gate (negated a) (negated b) f).0) e);
    }

mux_of : (s a b ns p q g : Bool) → ns ≡ not s → p ≡ (s && a) → q ≡ (ns && b) → g ≡ (p || q) → g ≡ cond s a b
mux_of s a b ns p q g e f h k = k ∙ rw (f, h, e) (go s a b)
  where
    go : (s a b : Bool) → ((s && a) || (not s && b)) ≡ cond s a b
    go true true b = refl
    go true false b = refl
    go false a b = refl

pub mux_gives : (s a b : Literal) (f : Cnf) → s.variable ≤ f.vars → a.variable ≤ f.vars → b.variable ≤ f.vars → Gives f (mux_gate s a b f) (λ v. cond (is_true v s) (is_true v a) (is_true v b))
unfolding mux_gate
mux_gives s a b f i h k =
    let p = and_gate s a f in
    let d = and_gives s a f i h in
    let up : f.vars ≤ p.1.vars = d.defines.grows in
    let q = and_gate (negated s) b p.1 in
    let e = and_gives (negated s) b p.1 (omega arith) (omega arith) in
    let more : p.1.vars ≤ q.1.vars = e.defines.grows in
    let low : p.0.variable ≤ p.1.vars = d.within in
    let j = or_gives p.0 q.0 q.1 (omega arith) e.within in
    record {
      within = j.within;
      defines = Defines-map _ (Defines-then d.defines (Defines-then e.defines j.defines)) (λ v m.
          mux_of (is_true v s) (is_true v a) (is_true v b) (is_true v (negated s)) (is_true v p.0) (is_true v q.0) _ (is_true-negated v s) m.0 m.1.0 m.1.1);
    }

pub masked_mux_gives : (m s a b : Literal) (f : Cnf) → m.variable ≤ f.vars → s.variable ≤ f.vars → a.variable ≤ f.vars → b.variable ≤ f.vars
    → Gives f (masked_mux_gate m s a b f) (λ v. is_true v m && cond (is_true v s) (is_true v a) (is_true v b))
unfolding masked_mux_gate
masked_mux_gives m s a b f j i h k =
    let p = mux_gate s a b f in
    let d = mux_gives s a b f i h k in
    let up : f.vars ≤ p.1.vars = d.defines.grows in
    let e = and_gives m p.0 p.1 (omega arith) d.within in
    record {
      within = e.within;
      defines = Defines-map _ (Defines-then d.defines e.defines) (λ v w. w.1 ∙ ap (λ x. is_true v m && x) w.0);
    }

-- what a gate gives of two bits, and that its own literal is of the formula
abbrev pub gate_value : Gate → (ℕ → Bool) → Bool → Bool → Bool
gate_value And v a b = a && b
gate_value Or v a b = a || b
gate_value Xor v a b = cond a (not b) b
gate_value (Mux s) v a b = cond (is_true v s) a b
gate_value (MaskedMux m s) v a b = is_true v m && cond (is_true v s) a b

-- the sum of three bits
adder_bits : (a b c x s p q o : Bool) → x ≡ cond a (not b) b → s ≡ cond x (not c) c → p ≡ (a && b) → q ≡ (x && c) → o ≡ (p || q) → bit s + 2 * bit o ≡ bit a + bit b + bit c
adder_bits a b c x s p q o e f h k j =
    ap (λ z. bit z + 2 * bit o) f ∙ (ap (λ z. bit (cond x (not c) c) + 2 * bit z) (j ∙ ap (λ z. z || q) h ∙ ap (λ z. (a && b) || z) k)
    ∙ (ap (λ z. bit (cond z (not c) c) + 2 * bit ((a && b) || (z && c))) e ∙ go a b c))
  where
    go : (a b c : Bool) → bit (cond (cond a (not b) b) (not c) c) + 2 * bit ((a && b) || (cond a (not b) b && c)) ≡ bit a + bit b + bit c
    go true true true = refl
    go true true false = refl
    go true false true = refl
    go true false false = refl
    go false true true = refl
    go false true false = refl
    go false false true = refl
    go false false false = refl

pub record Adds (f : Cnf) (out : (Literal × Literal) × Cnf) (a b c : Literal) : Type 0 where
  pub sum : out.0.0.variable ≤ out.1.vars
  pub carry : out.0.1.variable ≤ out.1.vars
  pub defines : Defines f out.1 (λ v. bit (is_true v out.0.0) + 2 * bit (is_true v out.0.1) ≡ bit (is_true v a) + bit (is_true v b) + bit (is_true v c))

pub adder_adds : (a b c : Literal) (f : Cnf) → a.variable ≤ f.vars → b.variable ≤ f.vars → c.variable ≤ f.vars → Adds f (full_adder a b c f) a b c
unfolding full_adder
adder_adds a b c f h i j =
    let x = xor_gate a b f in
    let dx = xor_gives a b f h i in
    let gx : f.vars ≤ x.1.vars = dx.defines.grows in
    let wx : x.0.variable ≤ x.1.vars = dx.within in
    let s = xor_gate x.0 c x.1 in
    let ds = xor_gives x.0 c x.1 wx (omega arith) in
    let gs : x.1.vars ≤ s.1.vars = ds.defines.grows in
    let ws : s.0.variable ≤ s.1.vars = ds.within in
    let p = and_gate a b s.1 in
    let dp = and_gives a b s.1 (omega arith) (omega arith) in
    let gp : s.1.vars ≤ p.1.vars = dp.defines.grows in
    let wp : p.0.variable ≤ p.1.vars = dp.within in
    let q = and_gate x.0 c p.1 in
    let dq = and_gives x.0 c p.1 (omega arith) (omega arith) in
    let gq : p.1.vars ≤ q.1.vars = dq.defines.grows in
    let wq : q.0.variable ≤ q.1.vars = dq.within in
    let o = or_gate p.0 q.0 q.1 in
    let dor = or_gives p.0 q.0 q.1 (omega arith) wq in
    let gor : q.1.vars ≤ o.1.vars = dor.defines.grows in
    record {
      sum = omega arith;
      carry = dor.within;
      defines = Defines-map _ (Defines-then dx.defines (Defines-then ds.defines (Defines-then dp.defines (Defines-then dq.defines dor.defines))))
          (λ v m. adder_bits (is_true v a) (is_true v b) (is_true v c) (is_true v x.0) (is_true v s.0) (is_true v p.0) (is_true v q.0) (is_true v o.0)
          m.0 m.1.0 m.1.1.0 m.1.1.1.0 m.1.1.1.1);
    }

pub gate_gives : (gate : Gate) (a b : Literal) (f : Cnf) → GateFits gate f.vars → a.variable ≤ f.vars → b.variable ≤ f.vars
    → Gives f (gate_of gate a b f) (λ v. gate_value gate v (is_true v a) (is_true v b))
gate_gives And a b f i h k = and_gives a b f h k
gate_gives Or a b f i h k = or_gives a b f h k
gate_gives Xor a b f i h k = xor_gives a b f h k
gate_gives (Mux s) a b f i h k = mux_gives s a b f i h k
gate_gives (MaskedMux m s) a b f i h k = masked_mux_gives m s a b f i.0 i.1 h k
