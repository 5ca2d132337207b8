-- The term with a node: which one is found, and that making a node gives it.
use Rattle.std.proofs.Common.{◌≡◌, ℕ, ◌<◌, ◌≤◌, Bool, false, List, [], ◌∷◌, ◌++◌, length, get_or, slice_get, position, Option, Some, None, refl, sym, ap, ◌∙◌, inl, inr, true≢false, arith}
use Rattle.std.specs.Option.{option_map, option_map_or}
use Rattle.std.specs.List.{position_or_len}
use Rattle.std.proofs.lemmas.Grind.{common_steps}
use Rattle.std.proofs.lemmas.List.Sums.{fails_before_first}
use Rattle.std.proofs.lemmas.Option.{slice_get-get_or, slice_get_within}
use Rattle.kb_terms.specs.declared.node.TermId.{TermId}
use Rattle.kb_terms.specs.declared.node.Node.{Node}
use Rattle.kb_terms.specs.contracts.node.NodePartialEq.TheImpl.{eq-value}
use Rattle.kb_terms.specs.Terms.{node_at, IsPool, HasNode, term_with, interned}
use Rattle.kb_terms.proofs.Entries.{slice_get-append-left, slice_get-append-end}
use Rattle.kb_terms.proofs.Equality.{found-node, node-itself}

none_fails : {X : Type 0} (p : X → Bool) (xs : List X) (i : ℕ) (x : X) → position p xs ≡ None → slice_get xs i ≡ Some x → p x ≡ false
none_fails p xs i x none e =
    let inside : i < length xs = slice_get_within xs i x e in
    let beyond : length xs ≤ position_or_len p xs = grind (arith, common_steps) in
    let fails : p (get_or xs i x) ≡ false = fails_before_first p xs i x (omega (arith, beyond, inside)) in
    let entry : slice_get xs i ≡ Some (get_or xs i x) = slice_get-get_or xs i x inside in
    let same : get_or xs i x ≡ x = cc in
    ap p (sym same) ∙ fails

-- the term that is found has the node
pub found : (nodes : List Node) (node : Node) (t : TermId) → term_with nodes node ≡ Some t → node_at nodes t ≡ Some node
unfolding term_with
found nodes node t e = go (position ((eq-value.it) node) nodes) refl e where
  go : (p : Option ℕ) → position ((eq-value.it) node) nodes ≡ p → option_map (λ (i : ℕ). record { 0 = i }) p ≡ Some t → node_at nodes t ≡ Some node
  go None at e = absurd cc
  go (Some i) at e =
      let same : record { 0 = i } ≡ t = cc in
      ap (λ (u : TermId). slice_get nodes u.0) (sym same) ∙ found-node nodes node i at

-- and a term of a pool with the node is found
pub found_there : (nodes : List Node) (node : Node) (t : TermId) → IsPool nodes → node_at nodes t ≡ Some node → term_with nodes node ≡ Some t
unfolding term_with
found_there nodes node t formed e = go (position ((eq-value.it) node) nodes) refl where
  go : (p : Option ℕ) → position ((eq-value.it) node) nodes ≡ p → option_map (λ (i : ℕ). record { 0 = i }) p ≡ Some t
  go None at = absurd (true≢false (sym (node-itself node) ∙ none_fails ((eq-value.it) node) nodes t.0 node at e))
  go (Some i) at =
      let same : i ≡ t.0 = formed.distinct i t.0 node (found-node nodes node i at) e in
      ap (λ (n : ℕ). Some (record { 0 = n })) same

-- what making a node leaves is the pool with the node, and its term
pub made : (old new : List Node) (t : TermId) (node : Node) → IsPool new → HasNode old new t node → interned old node ≡ (new, t)
made old new t node formed h = elim h.added [ inl same ↦ kept same | inr more ↦ grown more (term_with old node) refl ] where
  kept : new ≡ old → interned old node ≡ (new, t)
  kept same =
      let there : term_with old node ≡ Some t = ap (λ (ns : List Node). term_with ns node) (sym same) ∙ found_there new node t formed h.node_is in
      ap (λ (f : Option TermId). option_map_or (λ (u : TermId). (old, u)) f (old ++ node ∷ [], record { 0 = length old })) there ∙ ap (λ (ns : List Node). (ns, t)) (sym same)

  grown : new ≡ old ++ node ∷ [] → (f : Option TermId) → term_with old node ≡ f → interned old node ≡ (new, t)
  grown more None at =
      let last : node_at new (record { 0 = length old }) ≡ Some node = ap (λ (ns : List Node). slice_get ns (length old)) more ∙ slice_get-append-end old node [] in
      let same : length old ≡ t.0 = formed.distinct (length old) t.0 node last h.node_is in
      ap (λ (f : Option TermId). option_map_or (λ (u : TermId). (old, u)) f (old ++ node ∷ [], record { 0 = length old })) at
      ∙ ap (λ (n : ℕ). (old ++ node ∷ [], record { 0 = n })) same ∙ ap (λ (ns : List Node). (ns, t)) (sym more)
  grown more (Some u) at =
      let before : node_at old u ≡ Some node = found old node u at in
      let inside : u.0 < length old = slice_get_within old u.0 node before in
      let first : slice_get new u.0 ≡ Some node = ap (λ (ns : List Node). slice_get ns u.0) more ∙ slice_get-append-left old (node ∷ []) u.0 inside ∙ before in
      let last : slice_get new (length old) ≡ Some node = ap (λ (ns : List Node). slice_get ns (length old)) more ∙ slice_get-append-end old node [] in
      let same : u.0 ≡ length old = formed.distinct u.0 (length old) node first last in
      absurd (omega (arith, same, inside))

pub pool_is : (old new : List Node) (t : TermId) (node : Node) → IsPool new → HasNode old new t node → new ≡ (interned old node).0
pool_is old new t node formed h = sym (ap (λ (p : List Node × TermId). p.0) (made old new t node formed h))

pub term_is : (old new : List Node) (t : TermId) (node : Node) → IsPool new → HasNode old new t node → t ≡ (interned old node).1
term_is old new t node formed h = sym (ap (λ (p : List Node × TermId). p.1) (made old new t node formed h))
