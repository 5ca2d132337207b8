-- The terms of a path are well-formed: they are those that a walk from its conditions and its leaf meets, in its order, each
-- with the operands that its operation has.
use Rattle.std.proofs.Common.{◌≡◌, ℕ, zero, suc, ◌<◌, Bool, true, false, List, [], ◌∷◌, ◌++◌, ◌+◌, length, map, take, drop, get_or, slice_get, Option, Some, None, refl, sym, ap, subst, ◌∙◌, arith, inl, inr}
use Rattle.std.specs.Prelude.{unwrap_or, ◌==◌}
use Rattle.std.specs.List.{flat_map}
use Rattle.std.proofs.lemmas.Bool.{and_parts}
use Rattle.std.proofs.lemmas.Bool.Decides.{Decides-eqb}
use Rattle.std.proofs.lemmas.Grind.{flat_map-append}
use Rattle.std.proofs.lemmas.List.{append-nil, map-append}
use Rattle.std.proofs.lemmas.List.Quantifiers.{position-Some}
use Rattle.std.proofs.lemmas.Option.{slice_get_within, slice_get-get_or}
use Rattle.kb_terms.specs.declared.op.Op.{Op}
use Rattle.kb_terms.specs.declared.node.TermId.{TermId}
use Rattle.kb_terms.specs.declared.node.VarKind.{VarKind}
use Rattle.kb_terms.specs.declared.node.Node.{Node}
use Rattle.kb_terms.specs.declared.node.Node.TheVariants.{Const, Var, Op as Apply}
use Rattle.kb_terms.specs.declared.listing.Operand.TheVariants.{Const as ConstOperand, Var as VarOperand, Term as TermOperand}
use Rattle.kb_terms.specs.declared.listing.Term.{Term}
use Rattle.kb_terms.specs.Op.{is_binary}
use Rattle.kb_terms.specs.Terms.{node_at, variables_of, IsPool, IsSecond as IsSecondTerm}
use Rattle.kb_terms.specs.Numbering.{place_of, is_operation, IsOperandOf, IsNumbering}
use Rattle.kb_terms.proofs.Entries.{split_at}
use Rattle.kb_terms.proofs.Interned.{variables-append}
use Rattle.kb_blast.specs.Query.{number_in, operand_from, operand_of, operands_of, listed, roots_of as condition_roots, numbered_conditions, node_passes, is_comparison, AreConditions}
use Rattle.kb_blast.specs.Meaning.{IsComparison}
use Rattle.kb_picture.specs.declared.picture.Picture.{Picture}
use Rattle.kb_picture.specs.declared.path.Out.{Out}
use Rattle.kb_picture.specs.declared.path.Out.TheVariants.{Int, Null, Loc, Obj, Literal, New}
use Rattle.kb_picture.specs.declared.path.Write.{Write}
use Rattle.kb_picture.specs.declared.path.Made.{Made}
use Rattle.kb_picture.specs.declared.path.SymEnding.{SymEnding}
use Rattle.kb_picture.specs.declared.path.SymEnding.TheVariants.{Returned, Threw, IllTyped}
use Rattle.kb_picture.specs.declared.path.Ended.{Ended}
use Rattle.kb_picture.specs.declared.path.Leaf.{Leaf}
use Rattle.kb_picture.specs.declared.path.Leaf.TheVariants.{Ended as EndedLeaf, Cut, Undecided, Open}
use Rattle.kb_picture.specs.Numbering.{terms_of_operand, terms_of_out, ending_outs, ended_outs, leaf_outs, condition_terms}
use Rattle.kb_picture.specs.WellFormed.{IsOperand, IsSecond, IsTermAt, variables_seen}
use Rattle.kb_numbered.specs.Numbered.{term_id, terms_stated, numbered_out, numbered_outs, numbered_ending, numbered_write, numbered_made, numbered_ended, numbered_leaf}
use Rattle.kb_numbered.proofs.Renumbering.{term_of, listed-at, listed-length}

-- ---- the nodes of terms

pub operation-shape : (n : Option Node) → is_operation n ≡ true → (op : Op) × (left : TermId) × (right : Option TermId) × (n ≡ Some (Apply op left right))
operation-shape None e = absurd (cc)
operation-shape (Some (Const c)) e = absurd (cc)
operation-shape (Some (Var v kind)) e = absurd (cc)
operation-shape (Some (Apply op left right)) e = (op, left, right, refl)

pub comparison-shape : (n : Option Node) → node_passes is_comparison n ≡ true
    → (op : Op) × (left : TermId) × (right : Option TermId) × (n ≡ Some (Apply op left right)) × (is_comparison op ≡ true)
comparison-shape None e = absurd (cc)
comparison-shape (Some (Const c)) e = absurd (cc)
comparison-shape (Some (Var v kind)) e = absurd (cc)
comparison-shape (Some (Apply op left right)) e = (op, left, right, refl, e)

-- the number of a variable is below how many there are
pub variable-below : (nodes : List Node) → IsPool nodes → (i v : ℕ) (kind : VarKind) → slice_get nodes i ≡ Some (Var v kind) → v < variables_of nodes
variable-below nodes formed i v kind e =
    let rest : List Node = drop (suc i) nodes in
    let number : v ≡ variables_of (take i nodes) = formed.fits i (Var v kind) e in
    let parts : variables_of (take i nodes ++ Var v kind ∷ rest) ≡ variables_of nodes = ap variables_of (split_at nodes i (Var v kind) e) in
    let one : variables_of (Var v kind ∷ []) ≡ 1 = refl in
    let behind : variables_of (Var v kind ∷ rest) ≡ variables_of (Var v kind ∷ []) + variables_of rest = variables-append (Var v kind ∷ []) rest in
    omega (arith, number, parts, variables-append (take i nodes) (Var v kind ∷ rest), behind, one)

-- a place is that of the term
pub place-there : (ts : List TermId) (t : TermId) (j : ℕ) → place_of ts t ≡ Some j → slice_get ts j ≡ Some t
place-there ts t j e =
    let p = position-Some (λ x. t.0 == x.0) ts j t e in
    let same : t.0 ≡ (get_or ts j t).0 = (Decides-eqb t.0 (get_or ts j t).0).0 p.1 in
    slice_get-get_or ts j t p.0 ∙ ap (λ n. Some (term_id n)) (sym same)

pub some-same : {A : Type 0} {a b : A} → Some a ≡ Some b → a ≡ b
some-same {A} {a} {b} h = cc

module _ (nodes : List Node) (formed : IsPool nodes) (roots numbered : List TermId) (is : IsNumbering nodes roots numbered)
    (picture : Picture) (variables : variables_of nodes ≡ length (variables_seen picture)) where
  number-is : (t : TermId) (j : ℕ) → place_of numbered t ≡ Some j → number_in numbered t ≡ j
  number-is t j e = ap (λ p. unwrap_or p 0) e

  -- a term as an operand is there, where its number is below the limit
  pub operand-in : (limit : ℕ) (t : TermId) → (is_operation (node_at nodes t) ≡ true → number_in numbered t < limit) → IsOperand picture limit (operand_of nodes numbered t)
  operand-in limit t below = go (node_at nodes t) refl below
    where
      go : (n : Option Node) → node_at nodes t ≡ n → (is_operation n ≡ true → number_in numbered t < limit) → IsOperand picture limit (operand_from numbered t n)
      go None e h = record { sfits = omega arith }
      go (Some (Const c)) e h = formed.fits t.0 (Const c) e
      go (Some (Var v kind)) e h = let less = variable-below nodes formed t.0 v kind e in omega (arith, less, variables)
      go (Some (Apply op left right)) e h = h refl

  -- a term that is an operand of a numbered one has a smaller number
  operand-before : (i : ℕ) (t o : TermId) → slice_get numbered i ≡ Some t → IsOperandOf (node_at nodes t) o → is_operation (node_at nodes o) ≡ true → number_in numbered o < i
  operand-before i t o at of operation =
      let p = is.operands i t o at of operation in
      let same = number-is o p.0 p.2 in
      omega (arith, p.1, same)

  seconds : (i : ℕ) (before : List Node) (binary : Bool) (right : Option TermId) → IsSecondTerm before binary right
      → ((o : TermId) → right ≡ Some o → is_operation (node_at nodes o) ≡ true → number_in numbered o < i) → IsSecond picture i binary (operands_of nodes numbered right)
  seconds i before true (Some o) there below = operand-in i o (below o refl)
  seconds i before true None there below = absurd there
  seconds i before false (Some o) there below = absurd there
  seconds i before false None there below = tt

  -- each listed term has the operands of its operation, and they stand before it
  pub terms-there : (i : ℕ) (term : Term) → slice_get (listed nodes numbered numbered) i ≡ Some term → IsTermAt picture i term
  terms-there i term at =
      let many = listed-length nodes numbered numbered is.operation in
      let inside : i < length numbered = omega (arith, many, slice_get_within (listed nodes numbered numbered) i term at) in
      let t : TermId = get_or numbered i (term_id 0) in
      let there : slice_get numbered i ≡ Some t = slice_get-get_or numbered i (term_id 0) inside in
      let shape = operation-shape (node_at nodes t) (is.operation i t there) in
      let same : term_of nodes numbered shape.0 shape.1 shape.2 ≡ term =
      some-same (sym (listed-at nodes numbered numbered i t shape.0 shape.1 shape.2 is.operation there shape.3) ∙ at) in
      subst (IsTermAt picture i) same (record {
        left = operand-in i shape.1 (operand-before i t shape.1 there (subst (λ n. IsOperandOf n shape.1) (sym shape.3) (inl refl)));
        right = seconds i (take t.0 nodes) (is_binary shape.0) shape.2 ((formed.fits t.0 (Apply shape.0 shape.1 shape.2) shape.3).0.second)
            (λ o e. operand-before i t o there (subst (λ n. IsOperandOf n o) (sym shape.3) (inr e)));
      })

  -- a root's number is that of a listed term
  pub root-below : (k : ℕ) (root : TermId) → slice_get roots k ≡ Some root → is_operation (node_at nodes root) ≡ true → number_in numbered root < length (listed nodes numbered numbered)
  root-below k root at operation =
      let p = is.rooted k root at operation in
      let many = listed-length nodes numbered numbered is.operation in
      let same = number-is root p.0 p.1 in
      omega (arith, many, same, slice_get_within numbered p.0 root (place-there numbered root p.0 p.1))

  -- each condition is on a comparison of the list
  pub conditions-there : (when : List (TermId × Bool)) (more : List TermId) → AreConditions nodes when → roots ≡ condition_roots when ++ more
      → (i : ℕ) (condition : ℕ × Bool) → slice_get (numbered_conditions numbered when) i ≡ Some condition → IsComparison (slice_get (listed nodes numbered numbered) condition.0)
  conditions-there when more all whole i condition at =
      let entry = picked when more i all condition at in
      go entry.0 entry.1.0 (ap (λ l. slice_get l i) whole ∙ entry.1.1) entry.1.2
    where
      picked : (ws : List (TermId × Bool)) (rest : List TermId) (k : ℕ) → AreConditions nodes ws → (c : ℕ × Bool) → slice_get (numbered_conditions numbered ws) k ≡ Some c
          → (t : TermId) × ((node_passes is_comparison (node_at nodes t) ≡ true) × (slice_get (condition_roots ws ++ rest) k ≡ Some t) × (number_in numbered t ≡ c.0))
      picked [] rest k a c e = absurd (cc)
      picked (w ∷ ws) rest zero a c e = (w.0, ((and_parts _ _ a).0, refl, ap (λ (x : ℕ × Bool). x.0) (some-same e)))
      picked (w ∷ ws) rest (suc k) a c e = picked ws rest k (and_parts _ _ a).1 c e

      go : (t : TermId) → node_passes is_comparison (node_at nodes t) ≡ true → slice_get roots i ≡ Some t → number_in numbered t ≡ condition.0
          → IsComparison (slice_get (listed nodes numbered numbered) condition.0)
      go t passes rooted number =
          let shape = comparison-shape (node_at nodes t) passes in
          let p = is.rooted i t rooted (ap is_operation shape.3) in
          let there = listed-at nodes numbered numbered p.0 t shape.0 shape.1 shape.2 is.operation (place-there numbered t p.0 p.1) shape.3 in
          subst (λ n. IsComparison (slice_get (listed nodes numbered numbered) n)) (sym (number-is t p.0 p.1) ∙ number) (subst IsComparison (sym there) shape.4)

-- ---- from what the walks begin

module _ (nodes : List Node) (numbered : List TermId) where
  abbrev named : TermId → List ℕ
  named t = terms_of_operand (operand_of nodes numbered t)

  pub condition-roots : (when : List (TermId × Bool)) → AreConditions nodes when → condition_terms (numbered_conditions numbered when) ≡ flat_map named (condition_roots when)
  condition-roots [] all = refl
  condition-roots (w ∷ ws) all =
      let parts = and_parts _ _ all in
      let shape = comparison-shape (node_at nodes w.0) parts.0 in
      ap (λ (l : List ℕ). number_in numbered w.0 ∷ l) (condition-roots ws parts.1)
      ∙ ap (λ n. terms_of_operand (operand_from numbered w.0 n) ++ flat_map named (condition_roots ws)) (sym shape.3)

  out-roots : (out : Out) → terms_of_out (numbered_out nodes numbered out) ≡ flat_map named (map term_id (terms_of_out out))
  out-roots (Int (ConstOperand c)) = refl
  out-roots (Int (VarOperand v)) = refl
  out-roots (Int (TermOperand t)) = sym (append-nil (named (term_id t)))
  out-roots Null = refl
  out-roots (Loc number) = refl
  out-roots (Obj number) = refl
  out-roots (Literal number) = refl
  out-roots (New number) = refl

  outs-roots : (outs : List Out) → flat_map terms_of_out (numbered_outs nodes numbered outs) ≡ flat_map named (terms_stated outs)
  outs-roots [] = refl
  outs-roots (out ∷ others) =
      ap (λ (l : List ℕ). l ++ flat_map terms_of_out (numbered_outs nodes numbered others)) (out-roots out)
      ∙ ap (λ (l : List ℕ). flat_map named (map term_id (terms_of_out out)) ++ l) (outs-roots others)
      ∙ sym (flat_map-append named (map term_id (terms_of_out out)) (terms_stated others))
      ∙ ap (flat_map named) (sym (map-append term_id (terms_of_out out) (flat_map terms_of_out others)))

  ending-outs : (ending : SymEnding) → ending_outs (numbered_ending nodes numbered ending) ≡ numbered_outs nodes numbered (ending_outs ending)
  ending-outs (Returned None) = refl
  ending-outs (Returned (Some value)) = refl
  ending-outs (Threw value) = refl
  ending-outs (IllTyped place) = refl

  write-outs : (writes : List Write) → map (λ (write : Write). write.value) (map (numbered_write nodes numbered) writes) ≡ numbered_outs nodes numbered (map (λ (write : Write). write.value) writes)
  write-outs [] = refl
  write-outs (write ∷ others) = ap (λ (l : List Out). numbered_out nodes numbered write.value ∷ l) (write-outs others)

  made-outs : (made : List Made) → flat_map (λ (object : Made). object.values) (map (numbered_made nodes numbered) made) ≡ numbered_outs nodes numbered (flat_map (λ (object : Made). object.values) made)
  made-outs [] = refl
  made-outs (object ∷ others) =
      ap (λ (l : List Out). numbered_outs nodes numbered object.values ++ l) (made-outs others)
      ∙ sym (map-append (numbered_out nodes numbered) object.values (flat_map (λ (o : Made). o.values) others))

  pub ended-outs : (ended : Ended) → ended_outs (numbered_ended nodes numbered ended) ≡ numbered_outs nodes numbered (ended_outs ended)
  ended-outs ended =
      let f = numbered_out nodes numbered in
      let writes = map (λ (write : Write). write.value) ended.writes in
      let made = flat_map (λ (object : Made). object.values) ended.made in
      ap (λ (l : List Out). l ++ map (λ (write : Write). write.value) (map (numbered_write nodes numbered) ended.writes) ++ flat_map (λ (object : Made). object.values) (map (numbered_made nodes numbered) ended.made)) (ending-outs ended.ending)
      ∙ ap (λ (l : List Out). map f (ending_outs ended.ending) ++ l ++ flat_map (λ (object : Made). object.values) (map (numbered_made nodes numbered) ended.made)) (write-outs ended.writes)
      ∙ ap (λ (l : List Out). map f (ending_outs ended.ending) ++ map f writes ++ l) (made-outs ended.made)
      ∙ ap (λ (l : List Out). l ++ map f made) (sym (map-append f (ending_outs ended.ending) writes))
      ∙ sym (map-append f (ending_outs ended.ending ++ writes) made)

  leaf-outs : (leaf : Leaf) → leaf_outs (numbered_leaf nodes numbered leaf) ≡ numbered_outs nodes numbered (leaf_outs leaf)
  leaf-outs (EndedLeaf ended) = ended-outs ended
  leaf-outs (Cut bound input) = refl
  leaf-outs (Undecided log) = refl
  leaf-outs Open = refl

  -- what a path's own walk begins with
  pub roots-same : (when : List (TermId × Bool)) (leaf : Leaf) → AreConditions nodes when
      → condition_terms (numbered_conditions numbered when) ++ flat_map terms_of_out (leaf_outs (numbered_leaf nodes numbered leaf))
      ≡ flat_map named (condition_roots when ++ terms_stated (leaf_outs leaf))
  roots-same when leaf all =
      ap (λ (l : List ℕ). l ++ flat_map terms_of_out (leaf_outs (numbered_leaf nodes numbered leaf))) (condition-roots when all)
      ∙ ap (λ (l : List ℕ). flat_map named (condition_roots when) ++ l) (ap (flat_map terms_of_out) (leaf-outs leaf) ∙ outs-roots (leaf_outs leaf))
      ∙ sym (flat_map-append named (condition_roots when) (terms_stated (leaf_outs leaf)))
