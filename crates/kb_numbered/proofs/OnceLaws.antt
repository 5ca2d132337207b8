-- The terms of a path are all different: equal operations of a pool are one, and so are their operands.
use Rattle.std.proofs.Common.{◌≡◌, ℕ, suc, ◌<◌, Bool, true, false, List, [], ◌∷◌, length, take, drop, get_or, slice_get, pos, Option, Some, None, refl, sym, ap, subst, ◌∙◌, arith, inl, inr, ◌⊎◌, length-take, take-take}
use Rattle.std.proofs.lemmas.Bool.{cases_order}
use Rattle.std.proofs.lemmas.Option.{slice_get_within, slice_get-get_or}
use Rattle.kb_terms.specs.declared.op.Op.{Op}
use Rattle.kb_terms.specs.declared.node.TermId.{TermId}
use Rattle.kb_terms.specs.declared.node.VarKind.{VarKind}
use Rattle.kb_terms.specs.declared.node.Node.{Node}
use Rattle.kb_terms.specs.declared.node.Node.TheVariants.{Const, Var, Op as Apply}
use Rattle.kb_terms.specs.declared.listing.Term.{Term}
use Rattle.kb_terms.specs.Op.{is_binary}
use Rattle.kb_terms.specs.Terms.{IsTerm, node_at, variables_of, IsPool, IsSecond}
use Rattle.kb_terms.specs.Numbering.{place_of, is_operation, IsOperandOf, IsNumbering}
use Rattle.kb_terms.proofs.Entries.{slice_get-take, split_at}
use Rattle.kb_terms.proofs.Interned.{variables-append}
use Rattle.kb_blast.specs.Query.{number_in, operand_from, operand_of, operands_of, listed}
use Rattle.kb_numbered.specs.Numbered.{term_id}
use Rattle.kb_numbered.proofs.Renumbering.{term_of, listed-at, listed-length}
use Rattle.kb_numbered.proofs.PathLaws.{operation-shape, some-same, place-there}

-- ---- one node a variable

variable-later : (nodes : List Node) → IsPool nodes → (i j v : ℕ) (kind other : VarKind) → slice_get nodes i ≡ Some (Var v kind) → slice_get nodes j ≡ Some (Var v other) → i < j → ⊥
variable-later nodes formed i j v kind other at under less =
    let first : v ≡ variables_of (take i nodes) = formed.fits i (Var v kind) at in
    let second : v ≡ variables_of (take j nodes) = formed.fits j (Var v other) under in
    let there : slice_get (take j nodes) i ≡ Some (Var v kind) = slice_get-take j nodes i less ∙ at in
    let front : take i (take j nodes) ≡ take i nodes = take-take i j nodes (omega (arith, less)) in
    let whole = ap variables_of (split_at (take j nodes) i (Var v kind) there) in
    let parts = variables-append (take i (take j nodes)) (Var v kind ∷ drop (suc i) (take j nodes)) in
    let entry = variables-append (Var v kind ∷ []) (drop (suc i) (take j nodes)) in
    omega (arith, first, second, whole, ap variables_of front, parts, entry)

one-variable : (nodes : List Node) → IsPool nodes → (i j v : ℕ) (kind other : VarKind) → slice_get nodes i ≡ Some (Var v kind) → slice_get nodes j ≡ Some (Var v other) → i ≡ j
one-variable nodes formed i j v kind other at under = go (cases_order i j) where
  go : (i ≡ j) ⊎ ((i < j) ⊎ (j < i)) → i ≡ j
  go (inl same) = same
  go (inr (inl less)) = absurd (variable-later nodes formed i j v kind other at under less)
  go (inr (inr more)) = absurd (variable-later nodes formed j i v other kind under at more)

-- ---- one term an operand

pub no-node : (nodes : List Node) (t : TermId) → IsTerm nodes t → node_at nodes t ≡ None → ⊥
no-node nodes t there e = let entry = slice_get-get_or nodes t.0 (Const (pos 0)) there in absurd (cc)

second-there : (before : List Node) (binary : Bool) (right : Option TermId) → IsSecond before binary right → (o : TermId) → right ≡ Some o → IsTerm before o
second-there before true (Some p) there o e = let same : p ≡ o = some-same e in subst (IsTerm before) same there
second-there before true None there o e = absurd there
second-there before false (Some p) there o e = absurd there
second-there before false None there o e = absurd (cc)

module _ (nodes : List Node) (formed : IsPool nodes) (numbered : List TermId) where
  abbrev IsPlaced : TermId → Type 0
  IsPlaced t = is_operation (node_at nodes t) ≡ true → (k : ℕ) × (place_of numbered t ≡ Some k)

  one-place : (t u : TermId) (k l : ℕ) → place_of numbered t ≡ Some k → place_of numbered u ≡ Some l → number_in numbered t ≡ number_in numbered u → t ≡ u
  one-place t u k l at under same =
      let number : k ≡ l = cc in
      some-same (sym (place-there numbered t k at) ∙ ap (slice_get numbered) number ∙ place-there numbered u l under)

  one-operand : (t u : TermId) → IsTerm nodes t → IsTerm nodes u → IsPlaced t → IsPlaced u → operand_of nodes numbered t ≡ operand_of nodes numbered u → t ≡ u
  one-operand t u there under placed other = go (node_at nodes t) (node_at nodes u) refl refl
    where
      go : (n m : Option Node) → node_at nodes t ≡ n → node_at nodes u ≡ m → operand_from numbered t n ≡ operand_from numbered u m → t ≡ u
      go None m e f s = absurd (no-node nodes t there e)
      go (Some n) None e f s = absurd (no-node nodes u under f)
      go (Some (Const c)) (Some (Const d)) e f s =
          let same : Some (Const d) ≡ Some (Const c) = cc in
          ap term_id (formed.distinct t.0 u.0 (Const c) e (f ∙ same))
      go (Some (Const c)) (Some (Var w kind)) e f s = absurd (cc)
      go (Some (Const c)) (Some (Apply op left right)) e f s = absurd (cc)
      go (Some (Var v kind)) (Some (Const d)) e f s = absurd (cc)
      go (Some (Var v kind)) (Some (Var w other_kind)) e f s =
          let same : w ≡ v = cc in
          ap term_id (one-variable nodes formed t.0 u.0 v kind other_kind e (f ∙ ap (λ x. Some (Var x other_kind)) same))
      go (Some (Var v kind)) (Some (Apply op left right)) e f s = absurd (cc)
      go (Some (Apply op left right)) (Some (Const d)) e f s = absurd (cc)
      go (Some (Apply op left right)) (Some (Var w kind)) e f s = absurd (cc)
      go (Some (Apply op left right)) (Some (Apply op' left' right')) e f s =
          let same : number_in numbered t ≡ number_in numbered u = cc in
          let p = placed (ap is_operation e) in
          let q = other (ap is_operation f) in
          one-place t u p.0 q.0 p.1 q.1 same

  one-second : (l r : Option TermId)
      → ((o : TermId) → l ≡ Some o → IsTerm nodes o × IsPlaced o) → ((o : TermId) → r ≡ Some o → IsTerm nodes o × IsPlaced o)
      → operands_of nodes numbered l ≡ operands_of nodes numbered r → l ≡ r
  one-second None None f g s = refl
  one-second None (Some p) f g s = absurd (cc)
  one-second (Some o) None f g s = absurd (cc)
  one-second (Some o) (Some p) f g s =
      let one = f o refl in
      let other = g p refl in
      ap Some (one-operand o p one.0 other.0 one.1 other.1 (some-same s))

-- ---- the terms of a path

-- a listed term, with the operation that it lists
record IsListed (nodes : List Node) (numbered : List TermId) (i : ℕ) (term : Term) : Type 0 where
  t : TermId
  op : Op
  left : TermId
  right : Option TermId
  there : slice_get numbered i ≡ Some t
  node_is : node_at nodes t ≡ Some (Apply op left right)
  listed_is : term_of nodes numbered op left right ≡ term

module _ (nodes : List Node) (formed : IsPool nodes) (roots numbered : List TermId) (is : IsNumbering nodes roots numbered) where
  found : (i : ℕ) (term : Term) → slice_get (listed nodes numbered numbered) i ≡ Some term → IsListed nodes numbered i term
  found i term at =
      let many = listed-length nodes numbered numbered is.operation in
      let inside : i < length numbered = omega (arith, many, slice_get_within (listed nodes numbered numbered) i term at) in
      let t : TermId = get_or numbered i (term_id 0) in
      let there : slice_get numbered i ≡ Some t = slice_get-get_or numbered i (term_id 0) inside in
      let shape = operation-shape (node_at nodes t) (is.operation i t there) in
      record {
        t = t;
        op = shape.0;
        left = shape.1;
        right = shape.2;
        there = there;
        node_is = shape.3;
        listed_is = some-same (sym (listed-at nodes numbered numbered i t shape.0 shape.1 shape.2 is.operation there shape.3) ∙ at);
      }

  -- an operand is a term of the pool, and has a number where it is an operation
  operand-is : (i : ℕ) (term : Term) (l : IsListed nodes numbered i term) (o : TermId) → IsOperandOf (Some (Apply l.op l.left l.right)) o
      → IsTerm (take l.t.0 nodes) o → IsTerm nodes o × IsPlaced nodes formed numbered o
  operand-is i term l o of below = (
    omega (arith, below, length-take l.t.0 nodes),
    λ operation.
        let p = is.operands i l.t o l.there (subst (λ n. IsOperandOf n o) (sym l.node_is) of) operation in
        (p.0, p.2),
  )

  firsts : (i : ℕ) (term : Term) (l : IsListed nodes numbered i term) → IsTerm nodes l.left × IsPlaced nodes formed numbered l.left
  firsts i term l = operand-is i term l l.left (inl refl) ((formed.fits l.t.0 (Apply l.op l.left l.right) l.node_is).0.first)

  seconds : (i : ℕ) (term : Term) (l : IsListed nodes numbered i term) → (o : TermId) → l.right ≡ Some o → IsTerm nodes o × IsPlaced nodes formed numbered o
  seconds i term l o e =
      operand-is i term l o (inr e) (second-there (take l.t.0 nodes) (is_binary l.op) l.right ((formed.fits l.t.0 (Apply l.op l.left l.right) l.node_is).0.second) o e)

  -- equal listed terms are one
  pub terms-once : (i j : ℕ) (term : Term) → slice_get (listed nodes numbered numbered) i ≡ Some term → slice_get (listed nodes numbered numbered) j ≡ Some term → i ≡ j
  terms-once i j term at under =
      let one = found i term at in
      let other = found j term under in
      let both : term_of nodes numbered one.op one.left one.right ≡ term_of nodes numbered other.op other.left other.right = one.listed_is ∙ sym other.listed_is in
      let op : one.op ≡ other.op = ap (λ (x : Term). x.op) both in
      let first = firsts i term one in
      let first_other = firsts j term other in
      let left : one.left ≡ other.left =
      one-operand nodes formed numbered one.left other.left first.0 first_other.0 first.1 first_other.1 (ap (λ (x : Term). x.left) both) in
      let right : one.right ≡ other.right =
      one-second nodes formed numbered one.right other.right (seconds i term one) (seconds j term other) (ap (λ (x : Term). x.right) both) in
      let node : Some (Apply other.op other.left other.right) ≡ Some (Apply one.op one.left one.right) = cc in
      let same : one.t ≡ other.t = ap term_id (formed.distinct one.t.0 other.t.0 (Apply one.op one.left one.right) one.node_is (other.node_is ∙ node)) in
      some-same (sym (is.once i one.t one.there) ∙ ap (place_of numbered) same ∙ is.once j other.t other.there)
