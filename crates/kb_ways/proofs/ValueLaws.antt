-- The values of terms that are made, whether they are found, folded or new, in pools whose operations stand behind their
-- operands; and that the inputs behind those of the variables are none to a pool.
use Rattle.std.proofs.Common.{◌≡◌, ℕ, zero, suc, ◌<◌, ◌≤◌, ℤ, pos, Bool, true, false, List, [], ◌∷◌, ◌++◌, length, take, drop, fold, slice_get, Option, Some, None, refl, sym, ap, subst, ◌∙◌, inl, inr, arith, length-take}
use Rattle.std.proofs.lemmas.List.{take-append-drop, take-append-le}
use Rattle.std.proofs.lemmas.List.Elements.{filter_map-append}
use Rattle.std.proofs.lemmas.Option.{same_Some, slice_get_within}
use Rattle.std.proofs.Math.ListN.{get_or-append}
use Rattle.std.proofs.Math.Seq.{take-append_seam}
use Rattle.std.specs.List.{cons_option}
use Rattle.kb_arith.specs.Word.{word_and}
use Rattle.kb_blast.specs.Query.{kind_from, kinds_of}
use Rattle.kb_class.proofs.Lists.{has_either}
use Rattle.kb_terms.specs.declared.op.Op.{Op}
use Rattle.kb_terms.specs.declared.op.Op.TheVariants.{And}
use Rattle.kb_terms.specs.declared.node.TermId.{TermId}
use Rattle.kb_terms.specs.declared.node.VarKind.{VarKind}
use Rattle.kb_terms.specs.declared.node.Node.{Node}
use Rattle.kb_terms.specs.declared.node.Node.TheVariants.{Const, Var, Op as Apply}
use Rattle.kb_terms.specs.Op.{is_binary, op_value}
use Rattle.kb_terms.specs.Terms.{IsSecond, AreOperands, IsPool, IsTerm, NodeFits, Extends, constant_at, second_constant, folded, made_node, term_with, interned, node_at, second_value, node_value, values, value_of, operand_value, variables_of}
use Rattle.kb_terms.proofs.Entries.{end-cases}
use Rattle.kb_terms.proofs.Values.{IsTerm-extends, with_value, before-value, value_of-node, value_of-constant, value_of-constant_at, value_of-extends}
use Rattle.kb_numbered.proofs.PathLaws.{variable-below}
use Rattle.kb_ways.specs.Asked.{interned_op}
use Rattle.kb_ways.proofs.AskedLaws.{interned_is_term, interned_node}
use Rattle.kb_ways.proofs.GrowLaws.{GoesOn, from_found, interned_extends}

-- ---- pools whose operations stand behind their operands

abbrev pub HasOperands : List Node → Node → Type 0
HasOperands before (Const c) = Unit {0}
HasOperands before (Var v kind) = Unit {0}
HasOperands before (Apply op left right) = AreOperands before op left right

-- unlike a pool, it may have any number of nodes
pub record IsOrdered (nodes : List Node) : Type 0 where
  pub each : (i : ℕ) (node : Node) → slice_get nodes i ≡ Some node → HasOperands (take i nodes) node

pub pool_ordered : (nodes : List Node) → IsPool nodes → IsOrdered nodes
pool_ordered nodes pool = record { each = λ i node e. go i node (pool.fits i node e) } where
  go : (i : ℕ) (node : Node) → NodeFits (take i nodes) node → HasOperands (take i nodes) node
  go i (Const c) fits = tt
  go i (Var v kind) fits = tt
  go i (Apply op left right) fits = fits.0

pub ordered_more : (nodes : List Node) (node : Node) → IsOrdered nodes → HasOperands nodes node → IsOrdered (nodes ++ node ∷ [])
ordered_more nodes node ordered has = record {
  each = λ i other e. elim (end-cases nodes node i other e) [
    | inl before ↦ subst (λ (front : List Node). HasOperands front other) (sym (early i before.0)) (ordered.each i other before.1)
    | inr last ↦ subst (λ (n : Node). HasOperands (take i (nodes ++ node ∷ [])) n) last.1 (subst (λ (front : List Node). HasOperands front node) (sym (whole i last.0)) has)
  ];
} where
  early : (i : ℕ) → i < length nodes → take i (nodes ++ node ∷ []) ≡ take i nodes
  early i below = take-append-le i nodes (node ∷ []) (omega (arith, below))

  whole : (i : ℕ) → i ≡ length nodes → take i (nodes ++ node ∷ []) ≡ nodes
  whole i e = ap (λ (n : ℕ). take n (nodes ++ node ∷ [])) e ∙ take-append_seam nodes (node ∷ [])

pub interned_ordered : (nodes : List Node) (node : Node) → IsOrdered nodes → HasOperands nodes node → IsOrdered (interned nodes node).0
interned_ordered nodes node ordered has = go (term_with nodes node) where
  go : (found : Option TermId) → IsOrdered (from_found nodes node found).0
  go None = ordered_more nodes node ordered has
  go (Some t) = ordered

made_has : (nodes : List Node) (op : Op) (left : TermId) (right : Option TermId) → AreOperands nodes op left right → HasOperands nodes (made_node nodes op left right)
unfolding made_node
made_has nodes op left right are = go (constant_at nodes left) (second_constant nodes right) where
  go : (a b : Option ℤ) → HasOperands nodes (folded op left right a b)
  go (Some a) (Some b) = tt
  go (Some a) None = are
  go None b = are

pub op_ordered : (nodes : List Node) (op : Op) (left : TermId) (right : Option TermId) → IsOrdered nodes → AreOperands nodes op left right
    → IsOrdered (interned nodes (made_node nodes op left right)).0
op_ordered nodes op left right ordered are = interned_ordered nodes (made_node nodes op left right) ordered (made_has nodes op left right are)

-- ---- values

second_before : (nodes : List Node) (n : ℕ) (b : Bool) (right : Option TermId) (inputs : List ℤ) → n ≤ length nodes → IsSecond (take n nodes) b right
    → second_value (values inputs (take n nodes)) right ≡ operand_value nodes right inputs
second_before nodes n b None inputs h s = refl
second_before nodes n true (Some r) inputs h s = before-value nodes n r inputs h (omega (arith, length-take n nodes))
second_before nodes n false (Some r) inputs h s = absurd s

-- of an operation
pub operation_value : (nodes : List Node) (t : TermId) (op : Op) (left : TermId) (right : Option TermId) (inputs : List ℤ) → IsOrdered nodes → node_at nodes t ≡ Some (Apply op left right)
    → value_of nodes t inputs ≡ op_value op (value_of nodes left inputs) (operand_value nodes right inputs)
operation_value nodes t op left right inputs ordered e =
    let inside : t.0 < length nodes = slice_get_within nodes t.0 (Apply op left right) e in
    let operands : AreOperands (take t.0 nodes) op left right = ordered.each t.0 (Apply op left right) e in
    let first : left.0 < t.0 = omega (arith, length-take t.0 nodes, operands.first) in
    value_of-node nodes t (Apply op left right) inputs e
    ∙ ap (λ a. op_value op a (second_value (values inputs (take t.0 nodes)) right)) (before-value nodes t.0 left inputs (omega arith) first)
    ∙ ap (λ b. op_value op (value_of nodes left inputs) b) (second_before nodes t.0 (is_binary op) right inputs (omega arith) operands.second)

constant_second : (nodes : List Node) (right : Option TermId) (c : ℤ) (inputs : List ℤ) → second_constant nodes right ≡ Some c → operand_value nodes right inputs ≡ c
constant_second nodes None c inputs e = cc
constant_second nodes (Some r) c inputs e = value_of-constant_at nodes r c inputs e

second_later : (old new : List Node) (b : Bool) (right : Option TermId) (inputs : List ℤ) → Extends old new → IsSecond old b right → operand_value new right inputs ≡ operand_value old right inputs
second_later old new b None inputs e s = refl
second_later old new true (Some r) inputs e s = value_of-extends old new r inputs e s
second_later old new false (Some r) inputs e s = absurd s

-- of the term that has the node of an operation, folded or not
node_made : (old new : List Node) (t : TermId) (op : Op) (left : TermId) (right : Option TermId) (inputs : List ℤ)
    → IsOrdered new → Extends old new → AreOperands old op left right → node_at new t ≡ Some (made_node old op left right)
    → value_of new t inputs ≡ op_value op (value_of old left inputs) (operand_value old right inputs)
unfolding made_node
node_made old new t op left right inputs ordered grown operands e = go (constant_at old left) (second_constant old right) refl refl e where
  itself : node_at new t ≡ Some (Apply op left right) → value_of new t inputs ≡ op_value op (value_of old left inputs) (operand_value old right inputs)
  itself h =
      operation_value new t op left right inputs ordered h
      ∙ ap (λ a. op_value op a (operand_value new right inputs)) (value_of-extends old new left inputs grown operands.first)
      ∙ ap (λ b. op_value op (value_of old left inputs) b) (second_later old new (is_binary op) right inputs grown operands.second)

  go : (x y : Option ℤ) → constant_at old left ≡ x → second_constant old right ≡ y → node_at new t ≡ Some (folded op left right x y)
      → value_of new t inputs ≡ op_value op (value_of old left inputs) (operand_value old right inputs)
  go (Some a) (Some b) p q h =
      value_of-constant new t (op_value op a b) inputs h
      ∙ ap (λ z. op_value op z b) (sym (value_of-constant_at old left a inputs p))
      ∙ ap (λ z. op_value op (value_of old left inputs) z) (sym (constant_second old right b inputs q))
  go (Some a) None p q h = itself h
  go None y p q h = itself h

pub op_made : (nodes : List Node) (op : Op) (left : TermId) (right : Option TermId) (inputs : List ℤ) → IsOrdered nodes → AreOperands nodes op left right
    → value_of (interned nodes (made_node nodes op left right)).0 (interned nodes (made_node nodes op left right)).1 inputs
    ≡ op_value op (value_of nodes left inputs) (operand_value nodes right inputs)
op_made nodes op left right inputs ordered are =
    let node = made_node nodes op left right in
    node_made nodes (interned nodes node).0 (interned nodes node).1 op left right inputs (op_ordered nodes op left right ordered are) (interned_extends nodes node) are (interned_node nodes node)

pub constant_made : (nodes : List Node) (z : ℤ) (inputs : List ℤ) → value_of (interned nodes (Const z)).0 (interned nodes (Const z)).1 inputs ≡ z
constant_made nodes z inputs = value_of-constant (interned nodes (Const z)).0 (interned nodes (Const z)).1 z inputs (interned_node nodes (Const z))

-- of the low bit of an int
pub low_made : (nodes : List Node) (t : TermId) (inputs : List ℤ) → IsOrdered nodes → IsTerm nodes t
    → value_of (interned_op (interned nodes (Const (pos 1))).0 And t (Some (interned nodes (Const (pos 1))).1)).0
    (interned_op (interned nodes (Const (pos 1))).0 And t (Some (interned nodes (Const (pos 1))).1)).1 inputs
    ≡ word_and (value_of nodes t inputs) (pos 1)
low_made nodes t inputs ordered is =
    let one = interned nodes (Const (pos 1)) in
    let first : Extends nodes one.0 = interned_extends nodes (Const (pos 1)) in
    let operands : AreOperands one.0 And t (Some one.1) = record { first = IsTerm-extends nodes one.0 t first is; second = interned_is_term nodes (Const (pos 1)) } in
    op_made one.0 And t (Some one.1) inputs (interned_ordered nodes (Const (pos 1)) ordered tt) operands
    ∙ ap (λ (z : ℤ). word_and z (value_of one.0 one.1 inputs)) (value_of-extends nodes one.0 t inputs first is) ∙ ap (λ (z : ℤ). word_and (value_of nodes t inputs) z) (constant_made nodes (pos 1) inputs)

-- ---- inputs

-- each variable's number is below
abbrev pub VariablesBelow : ℕ → List Node → Type 0
VariablesBelow n nodes = (i v : ℕ) (kind : VarKind) → slice_get nodes i ≡ Some (Var v kind) → v < n

more_of_node : (inputs more done : List ℤ) (node : Node) → ((v : ℕ) (kind : VarKind) → node ≡ Var v kind → v < length inputs)
    → node_value (inputs ++ more) done node ≡ node_value inputs done node
more_of_node inputs more done (Const c) below = refl
more_of_node inputs more done (Var v kind) below = get_or-append inputs more (pos 0) v (below v kind refl)
more_of_node inputs more done (Apply op left right) below = refl

more_of_nodes : (inputs more done : List ℤ) (nodes : List Node) → VariablesBelow (length inputs) nodes
    → fold (with_value (inputs ++ more)) done nodes ≡ fold (with_value inputs) done nodes
more_of_nodes inputs more done [] below = refl
more_of_nodes inputs more done (node ∷ nodes) below =
    ap (λ (z : ℤ). fold (with_value (inputs ++ more)) (done ++ z ∷ []) nodes) (more_of_node inputs more done node (λ v kind e. below 0 v kind (ap Some e)))
    ∙ more_of_nodes inputs more (with_value inputs done node) nodes (λ i v kind e. below (suc i) v kind e)

-- the inputs behind those of the variables change no value
pub inputs_behind : (nodes : List Node) (inputs more : List ℤ) → VariablesBelow (length inputs) nodes → values (inputs ++ more) nodes ≡ values inputs nodes
unfolding values
inputs_behind nodes inputs more below = more_of_nodes inputs more [] nodes (λ i v kind e. below i v kind e)

pub pool_below : (nodes : List Node) → IsPool nodes → VariablesBelow (variables_of nodes) nodes
pool_below nodes pool i v kind e = variable-below nodes pool i v kind e

pub enough_below : (n m : ℕ) (nodes : List Node) → n ≤ m → VariablesBelow n nodes → VariablesBelow m nodes
enough_below n m nodes enough below i v kind e = (let less : v < n = below i v kind e in omega (arith, less, enough))

no_kind : (nodes : List Node) (i v : ℕ) (kind : VarKind) → slice_get nodes i ≡ Some (Var v kind) → kinds_of nodes ≡ [] → ⊥
no_kind [] i v kind e none = absurd cc
no_kind (node ∷ nodes) zero v kind e none = absurd (some (ap (λ (n : Node). kinds_of (n ∷ nodes)) (sym (same_Some node (Var v kind) e)) ∙ none)) where
  some : kind ∷ kinds_of nodes ≡ [] → ⊥
  some h = cc
no_kind (node ∷ nodes) (suc i) v kind e none = no_kind nodes i v kind e (rest (kind_from node) none) where
  rest : (it : Option VarKind) → cons_option it (kinds_of nodes) ≡ [] → kinds_of nodes ≡ []
  rest None h = h
  rest (Some k) h = absurd cc

-- a pool that goes on has no further variable
pub below_later : (old new : List Node) (n : ℕ) → GoesOn old new → VariablesBelow n old → VariablesBelow n new
below_later old new n on below i v kind e = elim (has_either old rest (Var v kind) (i, ap (λ (nodes : List Node). slice_get nodes i) parts ∙ e)) [
  | inl before ↦ below before.0 v kind before.1
  | inr behind ↦ absurd (no_kind rest behind.0 v kind behind.1 none)
] where
  rest : List Node
  rest = drop (length old) new

  parts : old ++ rest ≡ new
  parts = ap (λ (front : List Node). front ++ rest) (sym on.terms.kept) ∙ take-append-drop (length old) new

  none : kinds_of rest ≡ []
  none = no_more (kinds_of old) (kinds_of rest) (sym (filter_map-append kind_from old rest) ∙ ap kinds_of parts ∙ on.kinds) where
    no_more : (front back : List VarKind) → front ++ back ≡ front → back ≡ []
    no_more [] back h = h
    no_more (k ∷ front) back h = no_more front back cc
