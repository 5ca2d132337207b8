-- What a pool has after a node that was not there is inserted.
use Rattle.std.proofs.Common.{length-take, ◌≤◌, ◌≡◌, ℕ, ◌+◌, ◌<◌, ◌^◌, List, [], ◌∷◌, ◌++◌, length, slice_get, false, Some, sym, ap, subst, ◌∙◌, inl, inr, if◌then◌else◌, arith}
use Rattle.std.proofs.Common.{IfOk, OnErr, Result, Ok, Err}
use Rattle.std.specs.List.{list_any}
use Rattle.kb_terms.specs.declared.node.VarKind.{VarKind}
use Rattle.kb_terms.specs.declared.node.Node.TheVariants.{Var}
use Rattle.kb_terms.specs.declared.node.TermId.{TermId}
use Rattle.kb_terms.specs.declared.node.Node.{Node}
use Rattle.kb_terms.specs.contracts.node.NodePartialEq.TheImpl.{eq-value}
use Rattle.kb_terms.specs.Terms.{IsTerm, NodeFits, IsPool, HasNode, Extends, variables_of, is_variable}
use Rattle.kb_terms.proofs.Entries.{slice_get-append-end, split_at, end-cases}
use Rattle.kb_terms.proofs.Equality.{absent-node}
use Rattle.std.proofs.lemmas.List.Sums.{sum_by-append}
use Rattle.std.proofs.lemmas.Option.{slice_get_within}
use Rattle.std.proofs.Common.{suc, take, drop, cond}
use Rattle.kb_terms.proofs.Growth.{grown, extends-same, has_node-extends}

module _ (old new : List Node) (node : Node) (miss : list_any ((eq-value.it) node) old ≡ false)
    (keys : new ≡ (if list_any ((eq-value.it) node) old then old else old ++ node ∷ [])) where
  pub pushed : new ≡ old ++ node ∷ []
  pushed = keys ∙ ap (λ b. if b then old else old ++ node ∷ []) miss

  pub has_node : (n : ℕ) → n ≡ length old → HasNode old new (record { 0 = n }) node
  has_node n e = record {
    node_is = ap (λ ns. slice_get ns n) pushed ∙ ap (slice_get (old ++ node ∷ [])) e ∙ slice_get-append-end old node [];
    added = inr pushed;
  }

  pub formed : IsPool old → NodeFits old node → length old + 1 < 2 ^ 32 → IsPool new
  formed f fit room = subst IsPool (sym pushed) (grown old node f fit (absent-node old node miss) room)

-- ---- how many variables there are

pub variables-append : (xs ys : List Node) → variables_of (xs ++ ys) ≡ variables_of xs + variables_of ys
variables-append xs ys = sum_by-append (λ x. cond (is_variable x) 1 0) xs ys

variables-push : (nodes : List Node) (node : Node) → is_variable node ≡ false → variables_of (nodes ++ node ∷ []) ≡ variables_of nodes
variables-push nodes node e =
    let one : variables_of (node ∷ []) ≡ 0 = ap (λ b. 0 + cond b 1 0) e in
    omega (arith, variables-append nodes (node ∷ []), one)

pub variables-more : (nodes : List Node) (v : ℕ) (kind : VarKind) → variables_of (nodes ++ Var v kind ∷ []) ≡ variables_of nodes + 1
variables-more nodes v kind = variables-append nodes (Var v kind ∷ [])

-- the variable of the next number is not there
next-absent : (nodes : List Node) (kind : VarKind) (i : ℕ) → IsPool nodes → slice_get nodes i ≡ Some (Var (variables_of nodes) kind) → ⊥
next-absent nodes kind i formed e =
    let node : Node = Var (variables_of nodes) kind in
    let fit : variables_of nodes ≡ variables_of (take i nodes) = formed.fits i node e in
    let parts : variables_of (take i nodes ++ node ∷ drop (suc i) nodes) ≡ variables_of nodes = ap variables_of (split_at nodes i node e) in
    omega (arith, fit, parts, variables-append (take i nodes) (node ∷ drop (suc i) nodes), variables-append (node ∷ []) (drop (suc i) nodes))

-- so it stands at the end of the new pool
pub new_variable : (old new : List Node) (t : TermId) (v : ℕ) (kind : VarKind) → IsPool old → v ≡ variables_of old → HasNode old new t (Var v kind)
    → (t.0 ≡ length old) × (new ≡ old ++ Var (variables_of old) kind ∷ [])
new_variable old new t v kind formed next h =
    let node : Node = Var (variables_of old) kind in
    let same : Var v kind ≡ node = ap (λ n. Var n kind) next in
    elim h.added [
      | inl e ↦ absurd (next-absent old kind t.0 formed (ap (λ ns. slice_get ns t.0) (sym e) ∙ h.node_is ∙ ap Some same))
      | inr e ↦
          let there : slice_get (old ++ node ∷ []) t.0 ≡ Some node = ap (λ n. slice_get (old ++ n ∷ []) t.0) (sym same) ∙ ap (λ ns. slice_get ns t.0) (sym e) ∙ h.node_is ∙ ap Some same in
          elim (end-cases old node t.0 node there) [
            | inl a ↦ absurd (next-absent old kind t.0 formed a.1)
            | inr a ↦ (a.0, e ∙ ap (λ n. old ++ n ∷ []) same)
          ]
    ]

-- a node that is no variable leaves their number
pub same_variables : {E : Type 0} (r : Result TermId E) (old new : List Node) (node : Node) → is_variable node ≡ false
    → IfOk r (λ t. HasNode old new t node) → OnErr r (new ≡ old) → variables_of new ≡ variables_of old
same_variables (Ok t) old new node e h k = elim h.added [ inl s ↦ ap variables_of s | inr s ↦ ap variables_of s ∙ variables-push old node e ]
same_variables (Err x) old new node e h k = ap variables_of k

pub if_ok : {A E : Type 0} (P Q : A → Type 0) (r : Result A E) → ((a : A) → P a → Q a) → IfOk r P → IfOk r Q
if_ok P Q (Ok a) f h = f a h
if_ok P Q (Err e) f h = h

pub extends : {E : Type 0} (r : Result TermId E) (old new : List Node) (node : Node) → IfOk r (λ t. HasNode old new t node) → OnErr r (new ≡ old) → Extends old new
extends (Ok t) old new node h k = has_node-extends old new t node h
extends (Err x) old new node h k = extends-same old new k

pub is_term : (old new : List Node) (t : TermId) (node : Node) → HasNode old new t node → IsTerm new t
is_term old new t node h = slice_get_within new t.0 node h.node_is

pub result_is_term : {E : Type 0} (r : Result TermId E) (old new : List Node) (node : Node) → IfOk r (λ t. HasNode old new t node) → IfOk r (IsTerm new)
result_is_term (Ok t) old new node h = is_term old new t node h
result_is_term (Err x) old new node h = h

pub extends-length : (old new : List Node) → Extends old new → length old ≤ length new
extends-length old new e = omega (arith, ap length e.kept, length-take (length old) new)
