-- How conditions grow a state: its terms and its conditions go on, and nothing else changes.
use Rattle.std.proofs.Common.{◌≡◌, ◌≤◌, ℤ, Bool, true, false, List, [], ◌∷◌, ◌++◌, length, take, Option, Some, None, refl, sym, ap, subst, ◌∙◌, if◌then◌else◌, is_some, arith}
use Rattle.std.specs.Option.{option_map_or}
use Rattle.std.proofs.lemmas.List.{append-nil, take-append-le, length-take, take-append-drop}
use Rattle.std.proofs.lemmas.List.Elements.{filter_map-append}
use Rattle.std.proofs.Math.Seq.{take-append_seam}
use Rattle.std.specs.Prelude.{drop}
use Rattle.std.specs.List.{cons_option}
use Rattle.kb_blast.specs.Query.{kind_from, kinds_of}
use Rattle.kb_terms.specs.declared.op.Op.{Op}
use Rattle.kb_terms.specs.declared.node.TermId.{TermId}
use Rattle.kb_terms.specs.declared.node.Node.{Node}
use Rattle.kb_terms.specs.declared.node.Node.TheVariants.{Const}
use Rattle.kb_terms.specs.declared.node.VarKind.{VarKind}
use Rattle.kb_terms.specs.Terms.{Extends, constant_at, folded, made_node, second_constant, term_with, interned}
use Rattle.kb_terms.proofs.Growth.{extends-more}
use Rattle.kb_terms.proofs.Values.{Extends-refl, Extends-trans}
use Rattle.kb_frames.specs.State.{State}
use Rattle.kb_frames.specs.Truths.{truth_in, conditioned}
use Rattle.kb_frames.specs.Lent.{with_nodes}
use Rattle.kb_ways.specs.declared.condition.Side.{Side}
use Rattle.kb_ways.specs.declared.condition.Side.TheVariants.{Term, Number}
use Rattle.kb_ways.specs.declared.condition.Condition.{Condition}
use Rattle.kb_ways.specs.Asked.{interned_side, interned_op, interned_condition, asked, all_asked}

-- ---- what each of two branches has

pub if_has : {A : Type 0} (P : A → Type 0) (b : Bool) (x y : A) → P x → P y → P (if b then x else y)
if_has P true x y hx hy = hx
if_has P false x y hx hy = hy

pub option_has : {A B : Type 0} (P : B → Type 0) (it : Option A) (f : A → B) (y : B) → ((x : A) → P (f x)) → P y → P (option_map_or f it y)
option_has P None f y h hy = hy
option_has P (Some x) f y h hy = h x

-- ---- growing

-- a pool goes on as another one, which has no further variable
pub record GoesOn (old new : List Node) : Type 0 where
  pub terms : Extends old new
  pub kinds : kinds_of new ≡ kinds_of old

pub record Grows (old new : State) : Type 0 where
  pub rest : new ≡ record old { nodes = new.nodes; when = new.when }
  pub terms : Extends old.nodes new.nodes
  pub kinds : kinds_of new.nodes ≡ kinds_of old.nodes
  pub conditions : take (length old.when) new.when ≡ old.when

pub front_itself : {A : Type 0} (xs : List A) → take (length xs) xs ≡ xs
front_itself [] = refl
front_itself (x ∷ xs) = ap (λ (l : List _). x ∷ l) (front_itself xs)

pub front_of_front : {A : Type 0} (a b c : List A) → take (length a) b ≡ a → take (length b) c ≡ b → take (length a) c ≡ a
front_of_front a b c ab bc =
    let within : length a ≤ length b = omega (arith, ap length ab, length-take (length a) b) in
    let parts : c ≡ b ++ drop (length b) c = sym (take-append-drop (length b) c) ∙ ap (λ (xs : List _). xs ++ drop (length b) c) bc in
    ap (take (length a)) parts ∙ take-append-le (length a) b (drop (length b) c) within ∙ ab

pub grows_itself : (state : State) → Grows state state
grows_itself state = record { rest = refl; terms = Extends-refl state.nodes; kinds = refl; conditions = front_itself state.when }

pub grows_on : (a b c : State) → Grows a b → Grows b c → Grows a c
grows_on a b c ab bc = record {
  rest = bc.rest ∙ ap (λ (s : State). record s { nodes = c.nodes; when = c.when }) ab.rest;
  terms = Extends-trans a.nodes b.nodes c.nodes ab.terms bc.terms;
  kinds = bc.kinds ∙ ab.kinds;
  conditions = front_of_front a.when b.when c.when ab.conditions bc.conditions;
}

-- ---- terms

abbrev pub from_found : List Node → Node → Option TermId → List Node × TermId
from_found nodes node found = option_map_or (λ (t : TermId). (nodes, t)) found (nodes ++ node ∷ [], record { 0 = length nodes })

pub interned_extends : (nodes : List Node) (node : Node) → Extends nodes (interned nodes node).0
interned_extends nodes node = go (term_with nodes node) where
  go : (found : Option TermId) → Extends nodes (from_found nodes node found).0
  go None = extends-more nodes node
  go (Some t) = Extends-refl nodes

pub goes_on_itself : (nodes : List Node) → GoesOn nodes nodes
goes_on_itself nodes = record { terms = Extends-refl nodes; kinds = refl }

pub goes_on_behind : (a b c : List Node) → GoesOn a b → GoesOn b c → GoesOn a c
goes_on_behind a b c ab bc = record { terms = Extends-trans a b c ab.terms bc.terms; kinds = bc.kinds ∙ ab.kinds }

-- a node that is no variable
pub interned_goes_on : (nodes : List Node) (node : Node) → kind_from node ≡ None → GoesOn nodes (interned nodes node).0
interned_goes_on nodes node plain = record { terms = interned_extends nodes node; kinds = go (term_with nodes node) } where
  more : kinds_of (nodes ++ node ∷ []) ≡ kinds_of nodes
  more = filter_map-append kind_from nodes (node ∷ []) ∙ ap (λ (o : Option VarKind). kinds_of nodes ++ cons_option o []) plain ∙ append-nil (kinds_of nodes)

  go : (found : Option TermId) → kinds_of (from_found nodes node found).0 ≡ kinds_of nodes
  go None = more
  go (Some t) = refl

-- an operation, or the constant that it is
plain_made : (nodes : List Node) (op : Op) (left : TermId) (right : Option TermId) → kind_from (made_node nodes op left right) ≡ None
unfolding made_node
plain_made nodes op left right = go (constant_at nodes left) (second_constant nodes right) where
  go : (a b : Option ℤ) → kind_from (folded op left right a b) ≡ None
  go (Some a) (Some b) = refl
  go (Some a) None = refl
  go None b = refl

pub op_goes_on : (nodes : List Node) (op : Op) (left : TermId) (right : Option TermId) → GoesOn nodes (interned_op nodes op left right).0
op_goes_on nodes op left right = interned_goes_on nodes (made_node nodes op left right) (plain_made nodes op left right)

pub side_goes_on : (nodes : List Node) (side : Side) → GoesOn nodes (interned_side nodes side).0
side_goes_on nodes (Term t) = goes_on_itself nodes
side_goes_on nodes (Number z) = interned_goes_on nodes (Const z) refl

pub condition_goes_on : (nodes : List Node) (c : Condition) → GoesOn nodes (interned_condition nodes c).0
condition_goes_on nodes c =
    let left = interned_side nodes c.left in
    let right = interned_side left.0 c.right in
    goes_on_behind nodes left.0 (interned_condition nodes c).0 (side_goes_on nodes c.left)
    (goes_on_behind left.0 right.0 (interned_condition nodes c).0 (side_goes_on left.0 c.right) (op_goes_on right.0 c.op left.1 (Some right.1)))

pub side_extends : (nodes : List Node) (side : Side) → Extends nodes (interned_side nodes side).0
side_extends nodes side = (side_goes_on nodes side).terms

pub op_extends : (nodes : List Node) (op : Op) (left : TermId) (right : Option TermId) → Extends nodes (interned_op nodes op left right).0
op_extends nodes op left right = interned_extends nodes (made_node nodes op left right)

-- ---- states with more terms

-- the state has more terms, and is else the same
pub record HasMore (old new : State) : Type 0 where
  pub rest : new ≡ with_nodes old new.nodes
  pub on : GoesOn old.nodes new.nodes

pub more_itself : (state : State) → HasMore state state
more_itself state = record { rest = refl; on = goes_on_itself state.nodes }

pub more_terms : (state : State) (nodes : List Node) → GoesOn state.nodes nodes → HasMore state (with_nodes state nodes)
more_terms state nodes on = record { rest = refl; on = on }

-- ---- conditions

pub nodes_grow : (state : State) (nodes : List Node) → GoesOn state.nodes nodes → Grows state (with_nodes state nodes)
nodes_grow state nodes on = record { rest = refl; terms = on.terms; kinds = on.kinds; conditions = front_itself state.when }

pub more_grows : (old new : State) → HasMore old new → Grows old new
more_grows old new more = subst (Grows old) (sym more.rest) (nodes_grow old new.nodes more.on)

condition_grows : (state : State) (t : TermId) (truth : Bool) → Grows state (conditioned state t truth)
condition_grows state t truth =
    if_has (Grows state) (is_some (truth_in state t)) state (record state { when = state.when ++ (t, truth) ∷ [] }) (grows_itself state)
    (record { rest = refl; terms = Extends-refl state.nodes; kinds = refl; conditions = take-append_seam state.when ((t, truth) ∷ []) })

pub asked_grows : (state : State) (c : Condition) → Grows state (asked state c)
asked_grows state c =
    let made = interned_condition state.nodes c in
    grows_on state (with_nodes state made.0) (asked state c) (nodes_grow state made.0 (condition_goes_on state.nodes c)) (condition_grows (with_nodes state made.0) made.1 c.truth)

pub all_asked_grows : (cs : List Condition) (state : State) → Grows state (all_asked state cs)
all_asked_grows [] state = grows_itself state
all_asked_grows (c ∷ cs) state = grows_on state (asked state c) (all_asked (asked state c) cs) (asked_grows state c) (all_asked_grows cs (asked state c))
