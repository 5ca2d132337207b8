-- The plain list of a pool's conditions: its kinds, its variables, its values.
use Rattle.std.proofs.Common.{◌≡◌, ◌≢◌, ℕ, zero, suc, ◌+◌, ◌-◌, ◌<◌, ◌≤◌, ◌==◌, Bool, true, false, cond, nat_lt, List, [], ◌∷◌, ◌++◌, length, fold, take, drop, get_or, slice_get, Option, Some, None, refl, sym, ap, subst, ◌∙◌, arith, append_assoc}
use Rattle.std.specs.List.{list_all, cons_option}
use Rattle.std.specs.BTreeMap.{insert_entry}
use Rattle.std.specs.Ordering.{nat_cmp, match_ordering}
use Rattle.std.proofs.lemmas.Bool.{and_parts, eqb-true, eq-eqb, ltb-true, ltb-false, false≢true}
use Rattle.std.proofs.lemmas.List.Sums.{fold-append}
use Rattle.std.proofs.lemmas.Option.{slice_get_within}
use Rattle.kb_terms.specs.declared.op.Op.{Op}
use Rattle.kb_terms.specs.declared.node.TermId.{TermId}
use Rattle.kb_terms.specs.declared.node.VarKind.{VarKind}
use Rattle.kb_terms.specs.declared.node.Node.{Node}
use Rattle.kb_terms.specs.declared.node.Node.TheVariants.{Const, Var, Op as Apply}
use Rattle.kb_terms.specs.declared.listing.Operand.{Operand}
use Rattle.kb_terms.specs.declared.listing.Operand.TheVariants.{Const as ConstOperand, Var as VarOperand, Term as TermOperand}
use Rattle.kb_terms.specs.declared.listing.Term.{Term}
use Rattle.kb_terms.specs.Terms.{IsTerm, node_at, is_variable, variables_of, IsPool}
use Rattle.kb_terms.proofs.Walking.{first-before, second-before}
use Rattle.kb_blast.specs.Query.{operand_from, operand_of, operands_of, listed_from, listed, kinds_of, node_passes, is_any}
use Rattle.kb_blast.specs.Conditions.{Words, with_number, with_operand, with_second, with_variables, occurring, kind_at, with_kinds}
use Rattle.kb_blast.specs.Meaning.{OperandFits, SecondFits, TermsFit, IsBelowAll, IsRising, AreReadable}
use Rattle.kb_blast.specs.Listing.{noted, noted_all, numbers_of, literals_of}
use Rattle.kb_blast.proofs.Ints.{AreWords}
use Rattle.kb_blast.proofs.Loops.{rest-is}

-- ---- kinds

counted : (n : ℕ) (xs : List Node) → fold (λ (a : ℕ) x. a + cond (is_variable x) 1 0) n xs ≡ n + variables_of xs
counted n [] = omega arith
counted n (x ∷ xs) =
    let a = counted (n + cond (is_variable x) 1 0) xs in
    let b = counted (0 + cond (is_variable x) 1 0) xs in
    a ∙ omega (arith, b)

count-var : (v : ℕ) (kind : VarKind) (nodes : List Node) → variables_of (Var v kind ∷ nodes) ≡ suc (variables_of nodes)
count-var v kind nodes = counted 1 nodes ∙ omega arith

kind-at : (nodes : List Node) (i v : ℕ) (kind : VarKind) → slice_get nodes i ≡ Some (Var v kind) → kind_at (kinds_of nodes) (variables_of (take i nodes)) ≡ kind
kind-at [] i v kind e = absurd (cc)
kind-at (n ∷ nodes) zero v kind e =
    let same : n ≡ Var v kind = cc in ap (λ x. kind_at (kinds_of (x ∷ nodes)) 0) same
kind-at (Const c ∷ nodes) (suc i) v kind e = kind-at nodes i v kind e
kind-at (Var x k ∷ nodes) (suc i) v kind e =
    ap (kind_at (k ∷ kinds_of nodes)) (count-var x k (take i nodes)) ∙ kind-at nodes i v kind e
kind-at (Apply op l r ∷ nodes) (suc i) v kind e = kind-at nodes i v kind e

below_more : (a b m n : ℕ) → a ≡ suc m → b ≡ suc n → m < n → a < b
below_more a b m n e f h = omega arith

variables-below : (nodes : List Node) (i v : ℕ) (kind : VarKind) → slice_get nodes i ≡ Some (Var v kind) → variables_of (take i nodes) < variables_of nodes
variables-below [] i v kind e = absurd (cc)
variables-below (n ∷ nodes) zero v kind e =
    let same : n ≡ Var v kind = cc in
    subst (λ x. 0 < variables_of (x ∷ nodes)) (sym same) (omega (arith, count-var v kind nodes))
variables-below (Const c ∷ nodes) (suc i) v kind e = variables-below nodes i v kind e
variables-below (Var x k ∷ nodes) (suc i) v kind e = below_more _ _ _ _ (count-var x k (take i nodes)) (count-var x k nodes) (variables-below nodes i v kind e)
variables-below (Apply op l r ∷ nodes) (suc i) v kind e = variables-below nodes i v kind e

-- ---- rising numbers

below-with_number : (m n : ℕ) (ms : List ℕ) → m < n → IsBelowAll m ms → IsBelowAll m (with_number n ms)
below-with_number m n [] lt h = (lt, tt)
below-with_number m n (k ∷ ks) lt h = go (nat_lt n k) (n == k) (below-with_number m n ks lt h.1)
  where
    go : (a b : Bool) → IsBelowAll m (with_number n ks) → IsBelowAll m (cond a (n ∷ k ∷ ks) (cond b (k ∷ ks) (k ∷ with_number n ks)))
    go true b rec = (lt, h)
    go false true rec = h
    go false false rec = (h.0, rec)

below-all : (m n : ℕ) (ks : List ℕ) → m < n → IsBelowAll n ks → IsBelowAll m ks
below-all m n [] lt h = tt
below-all m n (k ∷ ks) lt h = (let a : n < k = h.0 in omega arith, below-all m n ks lt h.1)

rising-with_number : (n : ℕ) (ms : List ℕ) → IsRising ms → IsRising (with_number n ms)
rising-with_number n [] h = (tt, tt)
rising-with_number n (m ∷ ms) h = go (nat_lt n m) (n == m) refl refl (rising-with_number n ms h.1)
  where
    go : (a b : Bool) → nat_lt n m ≡ a → (n == m) ≡ b → IsRising (with_number n ms) → IsRising (cond a (n ∷ m ∷ ms) (cond b (m ∷ ms) (m ∷ with_number n ms)))
    go true b e f rec = let lt : n < m = ltb-true n m e in ((lt, below-all n m ms lt h.0), h)
    go false true e f rec = h
    go false false e f rec =
        let le : m ≤ n = ltb-false n m e in
        let apart : n ≢ m = λ z. false≢true (sym f ∙ eq-eqb n m z) in
        (below-with_number m n ms (omega arith) h.0, rec)

rising-operand : (ns : List ℕ) (o : Operand) → IsRising ns → IsRising (with_operand ns o)
rising-operand ns (ConstOperand c) h = h
rising-operand ns (VarOperand v) h = rising-with_number v ns h
rising-operand ns (TermOperand t) h = h

rising-second : (ns : List ℕ) (o : Option Operand) → IsRising ns → IsRising (with_second ns o)
rising-second ns None h = h
rising-second ns (Some o) h = rising-operand ns o h

rising-all : (ns : List ℕ) (terms : List Term) → IsRising ns → IsRising (fold with_variables ns terms)
rising-all ns [] h = h
rising-all ns (t ∷ ts) h = rising-all (with_variables ns t) ts (rising-second (with_operand ns t.left) t.right (rising-operand ns t.left h))

pub occurring-rising : (terms : List Term) → IsRising (occurring terms)
occurring-rising terms = rising-all [] terms tt

-- ---- the map of kinds

insert-kind : (kinds : List VarKind) (ns : List ℕ) (v : ℕ) → insert_entry nat_cmp (with_kinds kinds ns) v (kind_at kinds v) ≡ with_kinds kinds (with_number v ns)
insert-kind kinds [] v = refl
insert-kind kinds (n ∷ ns) v = go (nat_lt v n) (v == n) refl (insert-kind kinds ns v)
  where
    go : (a b : Bool) → (v == n) ≡ b → insert_entry nat_cmp (with_kinds kinds ns) v (kind_at kinds v) ≡ with_kinds kinds (with_number v ns)
        → match_ordering (cond a (nat_cmp 0 1) (cond b (nat_cmp 0 0) (nat_cmp 1 0))) ((v, kind_at kinds v) ∷ (n, kind_at kinds n) ∷ with_kinds kinds ns) ((n, kind_at kinds v) ∷ with_kinds kinds ns)
        ((n, kind_at kinds n) ∷ insert_entry nat_cmp (with_kinds kinds ns) v (kind_at kinds v))
        ≡ with_kinds kinds (cond a (v ∷ n ∷ ns) (cond b (n ∷ ns) (n ∷ with_number v ns)))
    go true b e rec = refl
    go false true e rec = ap (λ k. (n, k) ∷ with_kinds kinds ns) (ap (kind_at kinds) (eqb-true v n e))
    go false false e rec = ap (λ xs. (n, kind_at kinds n) ∷ xs) rec

-- ---- the numbered terms of a pool

pub is-operation : (n : Option Node) (test : Op → Bool) → node_passes test n ≡ true → (op : Op) × (left : TermId) × (right : Option TermId) × (n ≡ Some (Apply op left right)) × (test op ≡ true)
is-operation None test e = absurd (cc)
is-operation (Some (Const c)) test e = absurd (cc)
is-operation (Some (Var v kind)) test e = absurd (cc)
is-operation (Some (Apply op left right)) test e = (op, left, right, refl, e)

module _ (nodes : List Node) (formed : IsPool nodes) where
  -- noting the kind of a term's variable
  pub noted-kinds : (numbered : List TermId) (ns : List ℕ) (t : TermId) → noted (with_kinds (kinds_of nodes) ns) (node_at nodes t) ≡ with_kinds (kinds_of nodes) (with_operand ns (operand_of nodes numbered t))
  noted-kinds numbered ns t = go (node_at nodes t) refl
    where
      go : (n : Option Node) → node_at nodes t ≡ n → noted (with_kinds (kinds_of nodes) ns) n ≡ with_kinds (kinds_of nodes) (with_operand ns (operand_from numbered t n))
      go None e = refl
      go (Some (Const c)) e = refl
      go (Some (Apply op left right)) e = refl
      go (Some (Var v kind)) e =
          let number : v ≡ variables_of (take t.0 nodes) = formed.fits t.0 (Var v kind) e in
          let k : kind_at (kinds_of nodes) v ≡ kind = ap (kind_at (kinds_of nodes)) number ∙ kind-at nodes t.0 v kind e in
          ap (insert_entry nat_cmp (with_kinds (kinds_of nodes) ns) v) (sym k) ∙ insert-kind (kinds_of nodes) ns v

  pub noted_all-kinds : (numbered : List TermId) (ns : List ℕ) (t : Option TermId)
      → noted_all nodes (with_kinds (kinds_of nodes) ns) t ≡ with_kinds (kinds_of nodes) (with_second ns (operands_of nodes numbered t))
  noted_all-kinds numbered ns None = refl
  noted_all-kinds numbered ns (Some t) = noted-kinds numbered ns t

  -- constants are ints
  operand-fits : (numbered : List TermId) (t : TermId) → OperandFits (operand_of nodes numbered t)
  operand-fits numbered t = go (node_at nodes t) refl
    where
      go : (n : Option Node) → node_at nodes t ≡ n → OperandFits (operand_from numbered t n)
      go None e = record { sfits = omega arith }
      go (Some (Const c)) e = formed.fits t.0 (Const c) e
      go (Some (Var v kind)) e = tt
      go (Some (Apply op left right)) e = tt

  second-fits : (numbered : List TermId) (t : Option TermId) → SecondFits (operands_of nodes numbered t)
  second-fits numbered None = tt
  second-fits numbered (Some t) = operand-fits numbered t

  pub listed-cons : (numbered : List TermId) (t : TermId) (ts : List TermId) (op : Op) (left : TermId) (right : Option TermId) → node_at nodes t ≡ Some (Apply op left right)
      → listed nodes numbered (t ∷ ts) ≡ record { op = op; left = operand_of nodes numbered left; right = operands_of nodes numbered right } ∷ listed nodes numbered ts
  listed-cons numbered t ts op left right e = ap (λ n. cons_option (listed_from nodes numbered n) (listed nodes numbered ts)) e

  pub listed-fit : (numbered ts : List TermId) → list_all (λ t. node_passes is_any (node_at nodes t)) ts ≡ true → TermsFit (listed nodes numbered ts)
  listed-fit numbered [] h = tt
  listed-fit numbered (t ∷ ts) h =
      let p = and_parts _ _ h in
      let o = is-operation (node_at nodes t) is_any p.0 in
      subst TermsFit (sym (listed-cons numbered t ts o.0 o.1 o.2 o.3))
      (record { left = operand-fits numbered o.1; right = second-fits numbered o.2 }, listed-fit numbered ts p.1)

-- ---- the numbers of variables are below how many there are

abbrev pub AllBelow : ℕ → List ℕ → Type 0
AllBelow n [] = Unit {0}
AllBelow n (m ∷ ms) = (m < n) × AllBelow n ms

below-inserted : (n m : ℕ) (ms : List ℕ) → m < n → AllBelow n ms → AllBelow n (with_number m ms)
below-inserted n m [] lt h = (lt, tt)
below-inserted n m (k ∷ ks) lt h = go (nat_lt m k) (m == k) (below-inserted n m ks lt h.1)
  where
    go : (a b : Bool) → AllBelow n (with_number m ks) → AllBelow n (cond a (m ∷ k ∷ ks) (cond b (k ∷ ks) (k ∷ with_number m ks)))
    go true b rec = (lt, h)
    go false true rec = h
    go false false rec = (h.0, rec)

module _ (nodes : List Node) (formed : IsPool nodes) (numbered : List TermId) where
  operand-below : (ns : List ℕ) (t : TermId) → AllBelow (variables_of nodes) ns → AllBelow (variables_of nodes) (with_operand ns (operand_of nodes numbered t))
  operand-below ns t h = go (node_at nodes t) refl
    where
      go : (n : Option Node) → node_at nodes t ≡ n → AllBelow (variables_of nodes) (with_operand ns (operand_from numbered t n))
      go None e = h
      go (Some (Const c)) e = h
      go (Some (Apply op left right)) e = h
      go (Some (Var v kind)) e =
          let number : v ≡ variables_of (take t.0 nodes) = formed.fits t.0 (Var v kind) e in
          below-inserted (variables_of nodes) v ns (omega (arith, variables-below nodes t.0 v kind e)) h

  second-below : (ns : List ℕ) (t : Option TermId) → AllBelow (variables_of nodes) ns → AllBelow (variables_of nodes) (with_second ns (operands_of nodes numbered t))
  second-below ns None h = h
  second-below ns (Some t) h = operand-below ns t h

  below-run : (ns : List ℕ) (ts : List TermId) → list_all (λ t. node_passes is_any (node_at nodes t)) ts ≡ true → AllBelow (variables_of nodes) ns
      → AllBelow (variables_of nodes) (fold with_variables ns (listed nodes numbered ts))
  below-run ns [] h k = k
  below-run ns (t ∷ ts) h k =
      let p = and_parts _ _ h in
      let o = is-operation (node_at nodes t) is_any p.0 in
      subst (λ terms. AllBelow (variables_of nodes) (fold with_variables ns terms)) (sym (listed-cons nodes formed numbered t ts o.0 o.1 o.2 o.3))
      (below-run (with_second (with_operand ns (operand_of nodes numbered o.1)) (operands_of nodes numbered o.2)) ts p.1 (second-below (with_operand ns (operand_of nodes numbered o.1)) o.2 (operand-below ns o.1 k)))

  pub occurring-below : (ts : List TermId) → list_all (λ t. node_passes is_any (node_at nodes t)) ts ≡ true → AllBelow (variables_of nodes) (occurring (listed nodes numbered ts))
  occurring-below ts h = below-run [] ts h tt

pub readable : (n places : ℕ) (words : Words) → AreWords n (literals_of words) → IsRising (numbers_of words) → AllBelow places (numbers_of words) → AreReadable n places words
readable n places [] h r b = tt
readable n places (w ∷ words) h r b = (b.0, h.0.within, r.0, readable n places words h.1 r.1 b.1)

-- ---- what the loop over the numbered terms makes

pub first-term : (nodes : List Node) (t : TermId) (op : Op) (left : TermId) (right : Option TermId) → IsPool nodes → node_at nodes t ≡ Some (Apply op left right) → IsTerm nodes left
first-term nodes t op left right formed e =
    let below = first-before nodes t op left right formed e in
    let within = slice_get_within nodes t.0 (Apply op left right) e in
    omega arith

pub second-term : (nodes : List Node) (t : TermId) (op : Op) (left : TermId) (right : Option TermId) → IsPool nodes → node_at nodes t ≡ Some (Apply op left right)
    → (x : TermId) → right ≡ Some x → IsTerm nodes x
second-term nodes t op left right formed e x is =
    let f : node_at nodes t ≡ Some (Apply op left (Some x)) = e ∙ ap (λ r. Some (Apply op left r)) is in
    let below = second-before nodes t op left x formed f in
    let within = slice_get_within nodes t.0 (Apply op left (Some x)) f in
    omega arith

pub all-rest : (nodes : List Node) (rest : List TermId) → 1 ≤ length rest → list_all (λ t. node_passes is_any (node_at nodes t)) rest ≡ true
    → list_all (λ t. node_passes is_any (node_at nodes t)) (take (length rest - 1) (drop 1 rest)) ≡ true
all-rest nodes [] le h = absurd (omega arith)
all-rest nodes (t ∷ ts) le h = ap (list_all (λ t. node_passes is_any (node_at nodes t))) (rest-is t ts) ∙ (and_parts _ _ h).1

pub listed_next : (nodes : List Node) (formed : IsPool nodes) (numbered : List TermId) (done more : List Term) (rest : List TermId) (d : TermId)
    (op : Op) (left : TermId) (right : Option TermId) (l : Operand) (r : Option Operand) → 1 ≤ length rest → node_at nodes (get_or rest 0 d) ≡ Some (Apply op left right)
    → l ≡ operand_of nodes numbered left → r ≡ operands_of nodes numbered right → more ≡ done ++ record { op = op; left = l; right = r } ∷ []
    → more ++ listed nodes numbered (take (length rest - 1) (drop 1 rest)) ≡ done ++ listed nodes numbered rest
listed_next nodes formed numbered done more [] d op left right l r le e f g h = absurd (omega arith)
listed_next nodes formed numbered done more (t ∷ ts) d op left right l r le e f g h =
    ap (λ xs. xs ++ listed nodes numbered (take (length (t ∷ ts) - 1) (drop 1 (t ∷ ts)))) h
    ∙ ap (λ xs. (done ++ record { op = op; left = l; right = r } ∷ []) ++ listed nodes numbered xs) (rest-is t ts)
    ∙ append_assoc done (record { op = op; left = l; right = r } ∷ []) (listed nodes numbered ts)
    ∙ ap (λ x. done ++ record { op = op; left = x; right = r } ∷ listed nodes numbered ts) f
    ∙ ap (λ x. done ++ record { op = op; left = operand_of nodes numbered left; right = x } ∷ listed nodes numbered ts) g
    ∙ sym (ap (λ xs. done ++ xs) (listed-cons nodes formed numbered t ts op left right e))

pub kinds_next : (nodes : List Node) (formed : IsPool nodes) (numbered : List TermId) (done more : List Term) (kinds kinds1 kinds2 : List (ℕ × VarKind))
    (op : Op) (left : TermId) (right : Option TermId) (l : Operand) (r : Option Operand) → kinds ≡ with_kinds (kinds_of nodes) (occurring done)
    → kinds1 ≡ noted kinds (node_at nodes left) → kinds2 ≡ noted_all nodes kinds1 right
    → l ≡ operand_of nodes numbered left → r ≡ operands_of nodes numbered right → more ≡ done ++ record { op = op; left = l; right = r } ∷ []
    → kinds2 ≡ with_kinds (kinds_of nodes) (occurring more)
kinds_next nodes formed numbered done more kinds kinds1 kinds2 op left right l r e e1 e2 f g h =
    let first : kinds1 ≡ with_kinds (kinds_of nodes) (with_operand (occurring done) (operand_of nodes numbered left)) =
    e1 ∙ ap (λ k. noted k (node_at nodes left)) e ∙ noted-kinds nodes formed numbered (occurring done) left in
    let second : kinds2 ≡ with_kinds (kinds_of nodes) (with_second (with_operand (occurring done) (operand_of nodes numbered left)) (operands_of nodes numbered right)) =
    e2 ∙ ap (λ k. noted_all nodes k right) first ∙ noted_all-kinds nodes formed numbered (with_operand (occurring done) (operand_of nodes numbered left)) right in
    second
    ∙ ap (λ x. with_kinds (kinds_of nodes) (with_second (with_operand (occurring done) x) (operands_of nodes numbered right))) (sym f)
    ∙ ap (λ x. with_kinds (kinds_of nodes) (with_second (with_operand (occurring done) l) x)) (sym g)
    ∙ ap (with_kinds (kinds_of nodes)) (sym (fold-append with_variables [] done (record { op = op; left = l; right = r } ∷ [])))
    ∙ ap (λ ts. with_kinds (kinds_of nodes) (occurring ts)) (sym h)
