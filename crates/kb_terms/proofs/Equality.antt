-- The derived `==` of terms and nodes is equality.
use Rattle.std.proofs.Common.{◌≡◌, ℕ, zero, suc, List, [], ◌∷◌, get_or, slice_get, ◌||◌, true≢false, position, Bool, true, false, Option, Some, None, refl, sym, ap, ◌∙◌, rules, eqb, ◌&&◌}
use Rattle.std.proofs.lemmas.Bool.Decides.{Decides-int_eq, Decides-eqb}
use Rattle.std.specs.Option.{option_eq}
use Rattle.std.specs.List.{list_any}
use Rattle.std.proofs.lemmas.List.Quantifiers.{position-Some}
use Rattle.std.proofs.lemmas.Option.{slice_get-get_or}
use denote.Enum.Bare.{same_true, true_same}
use Rattle.kb_terms.specs.contracts.op.Op.{the_type as op_type}
use Rattle.kb_terms.specs.contracts.node.VarKind.{the_type as kind_type}
use Rattle.kb_terms.specs.contracts.op.OpPartialEq.TheImpl.{eq-value as op-eq-value}
use Rattle.kb_terms.specs.contracts.node.VarKindPartialEq.TheImpl.{eq-value as kind-eq-value}
use Rattle.kb_terms.specs.declared.op.Op.{Op}
use Rattle.kb_terms.specs.declared.node.TermId.{TermId}
use Rattle.kb_terms.specs.declared.node.VarKind.{VarKind}
use Rattle.kb_terms.specs.declared.node.Node.{Node}
use Rattle.kb_terms.specs.declared.node.Node.TheVariants.{Const, Var, Op as Apply}
use Rattle.kb_terms.specs.contracts.node.NodePartialEq.TheImpl.{eq-value}
use Rattle.kb_terms.specs.contracts.node.TermIdPartialEq.TheImpl.{eq-value as term-eq-value}

pub same_term : (a b : TermId) → (term-eq-value.it) a b ≡ true → a ≡ b
same_term a b e = ap (λ n. record { 0 = n }) ((Decides-eqb a.0 b.0).0 e)

same_op : (a b : Op) → (op-eq-value.it) a b ≡ true → a ≡ b
same_op a b e = same_true op_type (search rules) _ _ e

same_kind : (a b : VarKind) → (kind-eq-value.it) a b ≡ true → a ≡ b
same_kind a b e = same_true kind_type (search rules) _ _ e

-- both parts of a conjunction
both : (a b : Bool) → (a && b) ≡ true → (a ≡ true) × (b ≡ true)
both true b e = (refl, e)
both false b e = absurd (cc)

same_second : (r s : Option TermId) → option_eq (term-eq-value.it) r s ≡ true → r ≡ s
same_second None None e = refl
same_second None (Some s) e = absurd (cc)
same_second (Some r) None e = absurd (cc)
same_second (Some r) (Some s) e = ap Some (same_term r s e)

pub same_node : (a b : Node) → (eq-value.it) a b ≡ true → a ≡ b
same_node (Const c) (Const d) e = ap Const ((Decides-int_eq c d).0 e)
same_node (Const c) (Var w k) e = absurd (cc)
same_node (Const c) (Apply op l r) e = absurd (cc)
same_node (Var v j) (Const d) e = absurd (cc)
same_node (Var v j) (Var w k) e =
    let h = both (eqb v w) ((kind-eq-value.it) j k) e in
    let numbers : v ≡ w = (Decides-eqb v w).0 h.0 in
    let kinds : j ≡ k = same_kind j k h.1 in
    cc
same_node (Var v j) (Apply op l r) e = absurd (cc)
same_node (Apply op l r) (Const d) e = absurd (cc)
same_node (Apply op l r) (Var w k) e = absurd (cc)
same_node (Apply op l r) (Apply op2 m s) e =
    let h = both ((op-eq-value.it) op op2) ((term-eq-value.it) l m && option_eq (term-eq-value.it) r s) e in
    let k = both ((term-eq-value.it) l m) (option_eq (term-eq-value.it) r s) h.1 in
    let ops : op ≡ op2 = same_op op op2 h.0 in
    let lefts : l ≡ m = same_term l m k.0 in
    let rights : r ≡ s = same_second r s k.1 in
    cc

-- and each node is equal to itself by it
term-itself : (a : TermId) → (term-eq-value.it) a a ≡ true
term-itself a = (Decides-eqb a.0 a.0).1 refl

second-itself : (r : Option TermId) → option_eq (term-eq-value.it) r r ≡ true
second-itself None = refl
second-itself (Some r) = term-itself r

join : (a b : Bool) → a ≡ true → b ≡ true → (a && b) ≡ true
join a b p q = ap (λ x. x && b) p ∙ q

pub node-itself : (a : Node) → (eq-value.it) a a ≡ true
node-itself (Const c) = (Decides-int_eq c c).1 refl
node-itself (Var v k) = join (eqb v v) ((kind-eq-value.it) k k) ((Decides-eqb v v).1 refl) (true_same kind_type _ _ refl)
node-itself (Apply op l r) =
    join ((op-eq-value.it) op op) ((term-eq-value.it) l l && option_eq (term-eq-value.it) r r) (true_same op_type _ _ refl)
    (join ((term-eq-value.it) l l) (option_eq (term-eq-value.it) r r) (term-itself l) (second-itself r))

-- ---- looking a node up

-- the entry at the place that was found
pub found-node : (nodes : List Node) (node : Node) (i : ℕ) → position ((eq-value.it) node) nodes ≡ Some i → slice_get nodes i ≡ Some node
found-node nodes node i e =
    let p = position-Some ((eq-value.it) node) nodes i node e in
    slice_get-get_or nodes i node p.0 ∙ ap Some (sym (same_node node (get_or nodes i node) p.1))

-- no entry is the node, where none was found
pub absent-node : (nodes : List Node) (node : Node) → list_any ((eq-value.it) node) nodes ≡ false → (i : ℕ) → slice_get nodes i ≡ Some node → ⊥
absent-node [] node e i h = cc
absent-node (x ∷ xs) node e zero h =
    let s : x ≡ node = cc in
    true≢false (sym (ap (λ b. b || list_any ((eq-value.it) node) xs) (ap ((eq-value.it) node) s ∙ node-itself node)) ∙ e)
absent-node (x ∷ xs) node e (suc i) h = absent-node xs node (later ((eq-value.it) node x) (list_any ((eq-value.it) node) xs) e) i h
  where
    later : (a b : Bool) → (a || b) ≡ false → b ≡ false
    later true b e = absurd (cc)
    later false b e = e
