-- What is asked about the path of a state is what the state asks: the walk that numbers a path's terms begins with its
-- conditions, so the conditions' own terms come first, with the numbers that they have alone.
use Rattle.std.proofs.Common.{◌≡◌, ℕ, zero, suc, Bool, true, List, [], ◌∷◌, ◌++◌, length, take, take_at, fold, Option, Some, None, slice_get, inl, inr, refl, sym, ap, ◌∙◌, subst, arith}
use Rattle.std.specs.Prelude.{unwrap_or}
use Rattle.std.specs.List.{cons_option}
use Rattle.std.proofs.lemmas.Bool.{and_parts}
use Rattle.std.proofs.lemmas.List.Elements.{filter_map-append}
use Rattle.std.proofs.lemmas.List.Sums.{fold-append}
use Rattle.std.proofs.lemmas.Option.{slice_get_within}
use Rattle.kb_blast.specs.Query.{AreConditions, is_comparison, listed, listed_from, node_passes, number_in, numbered_conditions, operand_from, operand_of, query_of, roots_of as condition_roots}
use Rattle.kb_blast.proofs.Pooled.{at-place}
use Rattle.kb_classes.specs.World.{World}
use Rattle.kb_semantics.specs.Looks.{numbers_below}
use Rattle.kb_terms.specs.Numbering.{IsNumbering, IsOperandOf, is_operation, numbering, place_of, visit}
use Rattle.kb_terms.specs.Terms.{IsTerm, node_at}
use Rattle.kb_terms.specs.declared.listing.Operand.{Operand}
use Rattle.kb_terms.specs.declared.listing.Operand.TheVariants.{Term as TermOperand}
use Rattle.kb_terms.specs.declared.listing.Term.{Term}
use Rattle.kb_terms.specs.declared.node.Node.{Node}
use Rattle.kb_terms.specs.declared.node.Node.TheVariants.{Const, Var, Op as Apply}
use Rattle.kb_terms.specs.declared.node.TermId.{TermId}
use Rattle.kb_terms.specs.declared.node.VarKind.{VarKind}
use Rattle.kb_terms.proofs.Entries.{slice_get-append-left}
use Rattle.kb_terms.proofs.Order.{numbering-is, term-at}
use Rattle.kb_picture.specs.declared.path.Leaf.{Leaf}
use Rattle.kb_picture.specs.Numbering.{condition_terms, leaf_outs, met_below, met_from}
use Rattle.kb_picture.specs.Queries.{kinds_seen, query_of_path}
use Rattle.kb_numbered.specs.Numbered.{terms_stated}
use Rattle.kb_numbered.proofs.PathLaws.{comparison-shape, condition-roots}
use Rattle.kb_numbered.proofs.Renumbering.{length-below, listed-length, roots-grow, roots-same}
use Rattle.kb_frames.specs.Paths.{path_numbering, path_of, path_roots}
use Rattle.kb_frames.specs.State.{State}
use Rattle.kb_frames.specs.States.{IsLeafIn, IsState}
use Rattle.kb_frames.proofs.FormedPaths.{roots_are_terms}

-- ---- conditions on a pool

-- each condition is on a comparison
pub root_passes : (nodes : List Node) (when : List (TermId × Bool)) → AreConditions nodes when → (i : ℕ) (t : TermId) → slice_get (condition_roots when) i ≡ Some t
    → node_passes is_comparison (node_at nodes t) ≡ true
root_passes nodes [] all i t e = absurd cc
root_passes nodes (first ∷ others) all zero t e =
    let same : first.0 ≡ t = cc in
    subst (λ (x : TermId). node_passes is_comparison (node_at nodes x) ≡ true) same (and_parts _ _ all).0
root_passes nodes (first ∷ others) all (suc i) t e = root_passes nodes others (and_parts _ _ all).1 i t e

-- ---- a numbering that begins with another

module _ (nodes : List Node) (all inner rest : List TermId) (parts : all ≡ inner ++ rest) (roots conditions : List TermId)
    (all_is : IsNumbering nodes roots all) (inner_is : IsNumbering nodes conditions inner) where
  -- a term of the front has its number in both
  placed_too : (t : TermId) (j : ℕ) → place_of inner t ≡ Some j → place_of all t ≡ Some j
  placed_too t j e =
      let there : slice_get inner j ≡ Some t = at-place inner t j e in
      all_is.once j t (ap (λ (ts : List TermId). slice_get ts j) parts ∙ slice_get-append-left inner rest j (slice_get_within inner j t there) ∙ there)

  same_number : (t : TermId) (j : ℕ) → place_of inner t ≡ Some j → number_in all t ≡ number_in inner t
  same_number t j e = ap (λ p. unwrap_or p 0) (placed_too t j e ∙ sym e)

  -- and so has an operand of such a term
  same_operand : (t o : TermId) (i : ℕ) → slice_get inner i ≡ Some t → IsOperandOf (node_at nodes t) o → operand_of nodes all o ≡ operand_of nodes inner o
  same_operand t o i at operand = go (node_at nodes o) refl
    where
      go : (node : Option Node) → node_at nodes o ≡ node → operand_from all o node ≡ operand_from inner o node
      go None e = refl
      go (Some (Const c)) e = refl
      go (Some (Var v kind)) e = refl
      go (Some (Apply op left right)) e =
          let p = inner_is.operands i t o at operand (ap is_operation e) in
          ap TermOperand (same_number o p.0 p.2)

  same_listing : (t : TermId) (i : ℕ) → slice_get inner i ≡ Some t → listed_from nodes all (node_at nodes t) ≡ listed_from nodes inner (node_at nodes t)
  same_listing t i at = go (node_at nodes t) refl
    where
      go : (node : Option Node) → node_at nodes t ≡ node → listed_from nodes all node ≡ listed_from nodes inner node
      go None e = refl
      go (Some (Const c)) e = refl
      go (Some (Var v kind)) e = refl
      go (Some (Apply op left None)) e =
          ap (λ (l : Operand). Some (record { op = op; left = l; right = None }))
          (same_operand t left i at (subst (λ n. IsOperandOf n left) (sym e) (inl refl)))
      go (Some (Apply op left (Some right))) e =
          ap (λ (l : Operand). Some (record { op = op; left = l; right = Some (operand_of nodes all right) }))
          (same_operand t left i at (subst (λ n. IsOperandOf n left) (sym e) (inl refl)))
          ∙ ap (λ (r : Operand). Some (record { op = op; left = operand_of nodes inner left; right = Some r }))
          (same_operand t right i at (subst (λ n. IsOperandOf n right) (sym e) (inr refl)))

  same_list : (part : List TermId) → ((i : ℕ) (t : TermId) → slice_get part i ≡ Some t → listed_from nodes all (node_at nodes t) ≡ listed_from nodes inner (node_at nodes t))
      → listed nodes all part ≡ listed nodes inner part
  same_list [] each = refl
  same_list (t ∷ ts) each =
      ap (λ (o : Option Term). cons_option o (listed nodes all ts)) (each 0 t refl)
      ∙ ap (λ (l : List Term). cons_option (listed_from nodes inner (node_at nodes t)) l) (same_list ts (λ i u at. each (suc i) u at))

  -- the terms of the front, listed, are the first ones of all
  front_listed : take (length inner) (listed nodes all all) ≡ listed nodes inner inner
  front_listed =
      let many : length (listed nodes all inner) ≡ length inner = listed-length nodes all inner inner_is.operation in
      ap (λ (ts : List TermId). take (length inner) (listed nodes all ts)) parts
      ∙ ap (take (length inner)) (filter_map-append (λ (t : TermId). listed_from nodes all (node_at nodes t)) inner rest)
      ∙ ap (λ (n : ℕ). take n (listed nodes all inner ++ listed nodes all rest)) (sym many)
      ∙ take_at (listed nodes all inner) (listed nodes all rest) (length (listed nodes all inner)) refl
      ∙ same_list inner (λ i t at. same_listing t i at)

  same_conditions : (when : List (TermId × Bool)) → ((i : ℕ) (t : TermId) → slice_get (condition_roots when) i ≡ Some t → number_in all t ≡ number_in inner t)
      → numbered_conditions all when ≡ numbered_conditions inner when
  same_conditions [] each = refl
  same_conditions (first ∷ others) each =
      ap (λ (n : ℕ). (n, first.1) ∷ numbered_conditions all others) (each 0 first.0 refl)
      ∙ ap (λ (l : List (ℕ × Bool)). (number_in inner first.0, first.1) ∷ l) (same_conditions others (λ i t at. each (suc i) t at))

-- ---- the path of a state

module _ (world : World) (state : State) (decisions : List ℕ) (leaf : Leaf) (formed : IsState world state) (leaf_in : IsLeafIn world state leaf) where
  abbrev conditions : List TermId
  conditions = condition_roots state.when

  abbrev inner : List TermId
  inner = numbering state.nodes conditions

  abbrev all : List TermId
  all = path_numbering state leaf

  abbrev stated : List TermId
  stated = terms_stated (leaf_outs leaf)

  abbrev terms : List Term
  terms = listed state.nodes all all

  root_term : (i : ℕ) (root : TermId) → slice_get (path_roots state leaf) i ≡ Some root → IsTerm state.nodes root
  root_term i root at = term-at state.nodes (path_roots state leaf) i root (roots_are_terms world state leaf formed leaf_in) at

  condition_term : (i : ℕ) (root : TermId) → slice_get conditions i ≡ Some root → IsTerm state.nodes root
  condition_term i root at = root_term i root (slice_get-append-left conditions stated i (slice_get_within conditions i root at) ∙ at)

  all_is : IsNumbering state.nodes (path_roots state leaf) all
  all_is = numbering-is state.nodes formed.pool (path_roots state leaf) root_term

  inner_is : IsNumbering state.nodes conditions inner
  inner_is = numbering-is state.nodes formed.pool conditions condition_term

  -- what the leaf adds behind the conditions' terms
  added : (rest : List TermId) × (all ≡ inner ++ rest)
  unfolding numbering
  added =
      let grown = roots-grow state.nodes (length state.nodes) inner stated in
      (grown.0, fold-append (visit (length state.nodes) state.nodes) [] conditions stated ∙ grown.1)

  -- the walk from the path's conditions meets as many terms as the conditions' own numbering has
  met : met_from terms (condition_terms (numbered_conditions all state.when)) ≡ numbers_below (length inner)
  unfolding numbering met_from
  met =
      let many : length terms ≡ length all = listed-length state.nodes all all all_is.operation in
      ap (fold (met_below (length terms) terms) []) (condition-roots state.nodes all state.when formed.conditions)
      ∙ roots-same state.nodes formed.pool (path_roots state leaf) all all_is (length state.nodes) (length terms) [] added.0 conditions
      condition_term (sym added.1)
      (λ t operation j placed. omega (arith, many, slice_get_within all j t (at-place all t j placed)))

  same_terms : take (length (met_from terms (condition_terms (numbered_conditions all state.when)))) terms ≡ listed state.nodes inner inner
  same_terms =
      ap (λ (numbers : List ℕ). take (length numbers) terms) met
      ∙ ap (λ (n : ℕ). take n terms) (length-below (length inner))
      ∙ front_listed state.nodes all inner added.0 added.1 (path_roots state leaf) conditions all_is inner_is

  condition_number : (i : ℕ) (t : TermId) → slice_get conditions i ≡ Some t → number_in all t ≡ number_in inner t
  condition_number i t at =
      let shape = comparison-shape (node_at state.nodes t) (root_passes state.nodes state.when formed.conditions i t at) in
      let placed = inner_is.rooted i t at (ap is_operation shape.3) in
      same_number state.nodes all inner added.0 added.1 (path_roots state leaf) conditions all_is inner_is t placed.0 placed.1

  pub same_query : query_of_path world state.method (path_of state decisions leaf) ≡ query_of state.nodes state.when
  unfolding query_of_path path_of
  same_query =
      ap (λ (ts : List Term). record { kinds = kinds_seen world state.method state.picture; terms = ts; conditions = numbered_conditions all state.when }) same_terms
      ∙ ap (λ (cs : List (ℕ × Bool)). record { kinds = kinds_seen world state.method state.picture; terms = listed state.nodes inner inner; conditions = cs })
      (same_conditions state.nodes all inner added.0 added.1 (path_roots state leaf) conditions all_is inner_is state.when condition_number)
      ∙ ap (λ (ks : List VarKind). record { kinds = ks; terms = listed state.nodes inner inner; conditions = numbered_conditions inner state.when }) (sym formed.kinds)
