-- The path of a state says of inputs what the state says: its terms have the values of the pool's, so its conditions are met by
-- the same inputs and make the same comparisons.
use Rattle.std.proofs.Common.{◌≡◌, ◌↔◌, ℕ, zero, suc, ◌<◌, ℤ, Bool, true, List, [], ◌∷◌, length, map, take, Option, Some, None, slice_get, inl, inr, refl, sym, ap, ◌∙◌, subst, take_all, arith}
use Rattle.std.specs.Prelude.{unwrap_or, option_map}
use Rattle.std.proofs.lemmas.Bool.{and_parts}
use Rattle.std.proofs.lemmas.Option.{slice_get_within}
use Rattle.kb_blast.specs.Meaning.{AreMet, AreMetInPool, listed_values, operand_value as listed_operand}
use Rattle.kb_blast.specs.Query.{AreConditions, is_comparison, listed, node_passes, number_in, numbered_conditions, operand_from, operand_of, roots_of as condition_roots}
use Rattle.kb_blast.proofs.Pooled.{Placed, at-place, met-in-list, met-in-pool, placed, value-at}
use Rattle.kb_heap.specs.declared.heap.Input.{Input}
use Rattle.kb_classes.specs.World.{World}
use Rattle.kb_semantics.specs.Comparisons.{Relation}
use Rattle.kb_terms.specs.Numbering.{IsNumbering, IsOperandOf, is_operation, place_of}
use Rattle.kb_terms.specs.Op.{is_binary}
use Rattle.kb_terms.specs.Terms.{AreTerms, IsPool, IsSecond, IsTerm, node_at, value_of}
use Rattle.kb_terms.specs.declared.node.Node.{Node}
use Rattle.kb_terms.specs.declared.node.Node.TheVariants.{Const, Var, Op as Apply}
use Rattle.kb_terms.specs.declared.node.TermId.{TermId}
use Rattle.kb_terms.specs.declared.op.Op.{Op}
use Rattle.kb_terms.specs.declared.op.Op.TheVariants.{Add, Sub, Mul, Div, Rem, Neg, Shl, Shr, Ushr, And, Or, Xor, Byte, Char, Short, Eq, Lt, Ult}
use Rattle.kb_terms.proofs.Entries.{slice_get-append-left}
use Rattle.kb_terms.proofs.Order.{numbering-is, term-at}
use Rattle.kb_terms.proofs.Values.{value_of-constant, value_of-variable}
use Rattle.kb_terms.proofs.Walking.{first-before, second-before}
use Rattle.kb_picture.specs.declared.path.Leaf.{Leaf}
use Rattle.kb_picture.specs.Instances.{IsInstance, term_values, variable_values, with_conditions}
use Rattle.kb_numbered.proofs.OnceLaws.{no-node}
use Rattle.kb_numbered.proofs.PathLaws.{comparison-shape}
use Rattle.kb_numbered.proofs.Renumbering.{listed-at, term_of}
use Rattle.kb_frames.specs.Paths.{path_numbering, path_of, path_roots}
use Rattle.kb_frames.specs.StandsFor.{IsInstanceOf}
use Rattle.kb_frames.specs.State.{State}
use Rattle.kb_frames.specs.States.{IsLeafIn, IsState}
use Rattle.kb_frames.proofs.FormedPaths.{roots_are_terms}
use Rattle.kb_frames.specs.Comparing.{comparison_at, comparison_in, comparison_listed, comparison_of, relation_of}
use Rattle.kb_frames_laws.specs.Meant.{IsConditionOf, PathMeans, with_first}
use Rattle.kb_frames_laws.proofs.QueryLaws.{same_query}

-- ---- numbered terms

take_map : {A B : Type 0} (f : A → B) (n : ℕ) (xs : List A) → take n (map f xs) ≡ map f (take n xs)
take_map f zero xs = refl
take_map f (suc n) [] = refl
take_map f (suc n) (x ∷ xs) = ap (λ l. f x ∷ l) (take_map f n xs)

-- a comparison has two operands
two : (op : Op) → is_comparison op ≡ true → is_binary op ≡ true
two Add e = absurd cc
two Sub e = absurd cc
two Mul e = absurd cc
two Div e = absurd cc
two Rem e = absurd cc
two Neg e = absurd cc
two Shl e = absurd cc
two Shr e = absurd cc
two Ushr e = absurd cc
two And e = absurd cc
two Or e = absurd cc
two Xor e = absurd cc
two Byte e = absurd cc
two Char e = absurd cc
two Short e = absurd cc
two Eq e = refl
two Lt e = refl
two Ult e = refl

module _ (nodes : List Node) (formed : IsPool nodes) (roots numbered : List TermId) (is : IsNumbering nodes roots numbered) where
  -- a term that has a number where it is an operation has its value as an operand
  pub operand_placed : (inputs : List ℤ) (o : TermId) → IsTerm nodes o → (is_operation (node_at nodes o) ≡ true → (j : ℕ) × (place_of numbered o ≡ Some j))
      → listed_operand inputs (listed_values inputs (listed nodes numbered numbered)) (operand_of nodes numbered o) ≡ value_of nodes o inputs
  operand_placed inputs o there has = go (node_at nodes o) refl
    where
      go : (node : Option Node) → node_at nodes o ≡ node
          → listed_operand inputs (listed_values inputs (listed nodes numbered numbered)) (operand_from numbered o node) ≡ value_of nodes o inputs
      go None e = absurd (no-node nodes o there e)
      go (Some (Const c)) e = sym (value_of-constant nodes o c inputs e)
      go (Some (Var v kind)) e = sym (value_of-variable nodes o v kind inputs e)
      go (Some (Apply op left right)) e =
          let place = has (ap is_operation e) in
          value-at nodes formed roots numbered is inputs o place.0 place.1

  -- so has an operand of a numbered term
  operand_whole : (inputs : List ℤ) (t o : TermId) (i : ℕ) → slice_get numbered i ≡ Some t → IsOperandOf (node_at nodes t) o → IsTerm nodes o
      → listed_operand inputs (listed_values inputs (listed nodes numbered numbered)) (operand_of nodes numbered o) ≡ value_of nodes o inputs
  operand_whole inputs t o i at operand there =
      operand_placed inputs o there (λ operation. let place = is.operands i t o at operand operation in (place.0, place.2))

  -- conditions with the first so many placed
  placed_front : (n : ℕ) (when : List (TermId × Bool)) → Placed nodes formed roots numbered is when → Placed nodes formed roots numbered is (take n when)
  placed_front zero when h = tt
  placed_front (suc n) [] h = tt
  placed_front (suc n) (condition ∷ when) h = (h.0, placed_front n when h.1)

-- ---- the path of a state

module _ (world : World) (state : State) (decisions : List ℕ) (leaf : Leaf) (formed : IsState world state) (leaf_in : IsLeafIn world state leaf) where
  abbrev numbered : List TermId
  numbered = path_numbering state leaf

  terms : AreTerms state.nodes (path_roots state leaf)
  terms = roots_are_terms world state leaf formed leaf_in

  is_numbering : IsNumbering state.nodes (path_roots state leaf) numbered
  is_numbering = numbering-is state.nodes formed.pool (path_roots state leaf) (λ i root at. term-at state.nodes (path_roots state leaf) i root terms at)

  -- the conditions come first in the walk, and each has a number
  front : (i : ℕ) (root : TermId) → slice_get (condition_roots state.when) i ≡ Some root → slice_get (path_roots state leaf) i ≡ Some root
  front i root at = slice_get-append-left (condition_roots state.when) _ i (slice_get_within (condition_roots state.when) i root at) ∙ at

  all_placed : Placed state.nodes formed.pool (path_roots state leaf) numbered is_numbering state.when
  all_placed = placed state.nodes formed.pool (path_roots state leaf) numbered is_numbering state.when formed.conditions
      (λ i root at operation. is_numbering.rooted i root (front i root at) operation)

  -- ---- instances

  meets : (count : ℕ) (input : Input) (places : List ℕ) → AreMetInPool state.nodes (variable_values state.picture input places) (take count state.when)
      → AreMet (term_values (path_of state decisions leaf) input places) (take count (path_of state decisions leaf).when)
  unfolding path_of term_values
  meets count input places met =
      subst (AreMet (listed_values (variable_values state.picture input places) (listed state.nodes numbered numbered))) (sym (take_map (λ (c : TermId × Bool). (number_in numbered c.0, c.1)) count state.when))
      (met-in-list state.nodes formed.pool (path_roots state leaf) numbered is_numbering (variable_values state.picture input places) (take count state.when)
      (placed_front state.nodes formed.pool (path_roots state leaf) numbered is_numbering count state.when all_placed) met)

  is_met : (count : ℕ) (input : Input) (places : List ℕ) → AreMet (term_values (path_of state decisions leaf) input places) (take count (path_of state decisions leaf).when)
      → AreMetInPool state.nodes (variable_values state.picture input places) (take count state.when)
  unfolding path_of term_values
  is_met count input places met =
      met-in-pool state.nodes formed.pool (path_roots state leaf) numbered is_numbering (variable_values state.picture input places) (take count state.when)
      (placed_front state.nodes formed.pool (path_roots state leaf) numbered is_numbering count state.when all_placed)
      (subst (AreMet (listed_values (variable_values state.picture input places) (listed state.nodes numbered numbered))) (take_map (λ (c : TermId × Bool). (number_in numbered c.0, c.1)) count state.when) met)

  short : (count : ℕ) (input : Input) → IsInstance (with_conditions (path_of state decisions leaf) count) input ↔ IsInstanceOf (with_first state count) input
  unfolding path_of term_values
  short count input = (
    λ h. record { shape = h.shape; conditions = is_met count input h.shape.places.objects h.conditions },
    λ h. record { shape = h.shape; conditions = meets count input h.shape.places.objects h.conditions },
  )

  -- ---- comparisons

  -- the condition that stands there, as the state has it
  condition_at : (when : List (TermId × Bool)) → AreConditions state.nodes when → (place : ℕ) (condition : ℕ × Bool)
      → slice_get (numbered_conditions numbered when) place ≡ Some condition
      → (of : TermId × Bool) × (slice_get when place ≡ Some of) × (condition ≡ (number_in numbered of.0, of.1))
      × (slice_get (condition_roots when) place ≡ Some of.0) × (node_passes is_comparison (node_at state.nodes of.0) ≡ true)
  condition_at [] all place condition e = absurd cc
  condition_at (first ∷ others) all zero condition e = (first, refl, cc, refl, (and_parts _ _ all).0)
  condition_at (first ∷ others) all (suc place) condition e = condition_at others (and_parts _ _ all).1 place condition e

  module _ (input : Input) (places : List ℕ) where
    abbrev variables : List ℤ
    variables = variable_values state.picture input places

    abbrev listed_there : List ℤ
    listed_there = listed_values variables (listed state.nodes numbered numbered)

    -- a comparison of two terms, listed
    same_operands : (t : TermId) (i : ℕ) (op : Op) (left : TermId) (right : Option TermId) → slice_get numbered i ≡ Some t
        → node_at state.nodes t ≡ Some (Apply op left right) → is_binary op ≡ true → IsSecond (take t.0 state.nodes) (is_binary op) right
        → comparison_listed variables listed_there (Some (term_of state.nodes numbered op left right))
        ≡ comparison_in (λ operand. value_of state.nodes operand variables) (Some (Apply op left right))
    same_operands t i op left None at node binary second = absurd (subst (λ b. IsSecond (take t.0 state.nodes) b None) binary second)
    same_operands t i op left (Some right) at node binary second =
        let below : t.0 < length state.nodes = slice_get_within state.nodes t.0 (Apply op left (Some right)) node in
        let first : left.0 < t.0 = first-before state.nodes t op left (Some right) formed.pool node in
        let other : right.0 < t.0 = second-before state.nodes t op left right formed.pool node in
        ap (λ (l : ℤ). option_map (λ (relation : Relation). record {
          relation = relation;
          left = l;
          right = listed_operand variables listed_there (operand_of state.nodes numbered right);
        }) (relation_of op))
        (operand_whole state.nodes formed.pool (path_roots state leaf) numbered is_numbering variables t left i at
        (subst (λ n. IsOperandOf n left) (sym node) (inl refl)) (omega (arith, below, first)))
        ∙ ap (λ (r : ℤ). option_map (λ (relation : Relation). record { relation = relation; left = value_of state.nodes left variables; right = r }) (relation_of op))
        (operand_whole state.nodes formed.pool (path_roots state leaf) numbered is_numbering variables t right i at
        (subst (λ n. IsOperandOf n right) (sym node) (inr refl)) (omega (arith, below, other)))

    -- the term of a condition, listed, makes the comparison that it makes in the pool
    same_comparison : (t : TermId) (i : ℕ) → place_of numbered t ≡ Some i → node_passes is_comparison (node_at state.nodes t) ≡ true
        → comparison_at (path_of state decisions leaf) input places (number_in numbered t) ≡ comparison_of state.nodes variables t
    unfolding path_of term_values
    same_comparison t i at comparison =
        let shape = comparison-shape (node_at state.nodes t) comparison in
        let there : slice_get numbered i ≡ Some t = at-place numbered t i at in
        let operands = (formed.pool.fits t.0 (Apply shape.0 shape.1 shape.2) shape.3).0 in
        ap (λ n. comparison_listed variables listed_there (slice_get (listed state.nodes numbered numbered) (unwrap_or n 0))) at
        ∙ ap (comparison_listed variables listed_there)
        (listed-at state.nodes numbered numbered i t shape.0 shape.1 shape.2 is_numbering.operation there shape.3)
        ∙ same_operands t i shape.0 shape.1 shape.2 there shape.3 (two shape.0 shape.4) operands.second
        ∙ ap (comparison_in (λ operand. value_of state.nodes operand variables)) (sym shape.3)

  is_condition : (place : ℕ) (condition : ℕ × Bool) → slice_get (path_of state decisions leaf).when place ≡ Some condition → IsConditionOf state decisions leaf place condition
  unfolding path_of
  is_condition place condition e =
      let is = condition_at state.when formed.conditions place condition e in
      let shape = comparison-shape (node_at state.nodes is.0.0) is.4 in
      let number = is_numbering.rooted place is.0.0 (front place is.0.0 is.3) (ap is_operation shape.3) in
      record {
        term = is.0.0;
        there = is.1 ∙ ap (λ b. Some (is.0.0, b)) (sym (ap (λ (c : ℕ × Bool). c.1) is.2));
        comparison = λ input places.
            ap (λ (c : ℕ × Bool). comparison_at (path_of state decisions leaf) input places c.0) is.2
            ∙ same_comparison input places is.0.0 number.0 number.1 is.4;
      }

  same_count : length (path_of state decisions leaf).when ≡ length state.when
  unfolding path_of
  same_count = many state.when
    where
      many : (when : List (TermId × Bool)) → length (numbered_conditions numbered when) ≡ length when
      many [] = refl
      many (condition ∷ others) = ap suc (many others)

  whole : (input : Input) → IsInstance (path_of state decisions leaf) input ↔ IsInstanceOf state input
  unfolding path_of
  whole input =
      let all_when : take (length state.when) state.when ≡ state.when = take_all (length state.when) state.when (omega arith) in
      let all_stated : take (length state.when) (path_of state decisions leaf).when ≡ (path_of state decisions leaf).when =
      take_all (length state.when) (path_of state decisions leaf).when (omega (arith, same_count)) in (
        λ h. record {
          shape = h.shape;
          conditions = subst (AreMetInPool state.nodes (variable_values state.picture input h.shape.places.objects)) all_when
              (is_met (length state.when) input h.shape.places.objects
              (subst (AreMet (term_values (path_of state decisions leaf) input h.shape.places.objects)) (sym all_stated) h.conditions));
        },
        λ h. record {
          shape = h.shape;
          conditions = subst (AreMet (term_values (path_of state decisions leaf) input h.shape.places.objects)) all_stated
              (meets (length state.when) input h.shape.places.objects
              (subst (AreMetInPool state.nodes (variable_values state.picture input h.shape.places.objects)) (sym all_when) h.conditions));
        },
      )

  pub means : PathMeans world state decisions leaf
  means = record {
    instances = whole;
    short = short;
    query = same_query world state decisions leaf formed leaf_in;
    count = same_count;
    conditions = is_condition;
  }
