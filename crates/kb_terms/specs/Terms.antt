-- Terms: the nodes of a pool, and the value of a term.
use Rattle.std.specs.Prelude.{◌≡◌, ℕ, ◌<◌, ◌^◌, ℤ, pos, Bool, true, false, List, [], ◌∷◌, ◌++◌, length, take, fold, Option, Some, None, option_map, slice_get, ◌⊎◌, FitsSigned, count_by, position}
use Rattle.std.specs.List.{slice_index_or}
use Rattle.std.specs.Int.{w32}
use Rattle.std.specs.Option.{ForSome, option_map_or}
use Rattle.kb_terms.specs.declared.op.Op.{Op}
use Rattle.kb_terms.specs.declared.node.TermId.{TermId}
use Rattle.kb_terms.specs.declared.node.Node.{Node}
use Rattle.kb_terms.specs.declared.node.Node.TheVariants.{Const, Var, Op as Apply}
use Rattle.kb_terms.specs.Op.{is_binary, op_value}
use Rattle.kb_terms.specs.contracts.node.NodePartialEq.TheImpl.{eq-value as same_node}

-- ---- terms and their nodes

-- t is a term of the pool
abbrev pub IsTerm : List Node → TermId → Type 0
IsTerm nodes t = t.0 < length nodes

-- each of some terms, as those on a stack, is a term of the pool
abbrev pub AreTerms : List Node → List TermId → Type 0
AreTerms nodes [] = Unit {0}
AreTerms nodes (t ∷ ts) = IsTerm nodes t × AreTerms nodes ts

-- the node of a term
abbrev pub node_at : List Node → TermId → Option Node
node_at nodes t = slice_get nodes t.0

-- whether a node is a variable, and how many variables there are
abbrev pub is_variable : Node → Bool
is_variable (Const c) = false
is_variable (Var v kind) = true
is_variable (Apply op left right) = false

abbrev pub variables_of : List Node → ℕ
variables_of nodes = count_by is_variable nodes

-- the operands of an operation are terms of the pool, as many as it has
abbrev pub IsSecond : List Node → Bool → Option TermId → Type 0
IsSecond nodes true (Some t) = IsTerm nodes t
IsSecond nodes true None = ⊥
IsSecond nodes false (Some t) = ⊥
IsSecond nodes false None = Unit {0}

pub record AreOperands (nodes : List Node) (op : Op) (left : TermId) (right : Option TermId) : Type 0 where
  pub first : IsTerm nodes left
  pub second : IsSecond nodes (is_binary op) right

-- ---- constants, and the folding of operations on them

-- the int of a node that is a constant
abbrev pub constant_of : Option Node → Option ℤ
constant_of (Some (Const c)) = Some c
constant_of (Some (Var v kind)) = None
constant_of (Some (Apply op left right)) = None
constant_of None = None

-- the int of a term that is a constant
abbrev pub constant_at : List Node → TermId → Option ℤ
constant_at nodes t = constant_of (node_at nodes t)

-- the second operand's int, where it is a constant; 0 where there is no second operand
abbrev pub second_constant : List Node → Option TermId → Option ℤ
second_constant nodes (Some t) = constant_at nodes t
second_constant nodes None = Some (pos 0)

-- the node of an operation on two ints, or where one of them is not known
abbrev pub folded : Op → TermId → Option TermId → Option ℤ → Option ℤ → Node
folded op left right (Some a) (Some b) = Const (op_value op a b)
folded op left right (Some a) None = Apply op left right
folded op left right None b = Apply op left right

-- the node of an operation on terms: a constant where its operands all are, else the operation itself
unfoldable pub made_node : List Node → Op → TermId → Option TermId → Node
made_node nodes op left right = folded op left right (constant_at nodes left) (second_constant nodes right)

-- ---- pools

-- what the node after the nodes `before` may be: an int, the variable of the next number, or an operation on terms before it
-- that are not all constants
abbrev pub NodeFits : List Node → Node → Type 0
NodeFits before (Const c) = FitsSigned w32 c
NodeFits before (Var v kind) = v ≡ variables_of before
NodeFits before (Apply op left right) = AreOperands before op left right × (made_node before op left right ≡ Apply op left right)

-- what holds of every pool
pub record IsPool (nodes : List Node) : Type 0 where
  pub small : length nodes < 2 ^ 32
  pub fits : (i : ℕ) (node : Node) → slice_get nodes i ≡ Some node → NodeFits (take i nodes) node
  pub distinct : (i j : ℕ) (node : Node) → slice_get nodes i ≡ Some node → slice_get nodes j ≡ Some node → i ≡ j

-- the later pool has the terms of the earlier one, with their numbers and nodes
pub record Extends (old new : List Node) : Type 0 where
  pub kept : take (length old) new ≡ old

-- term t has the node in the later pool, which is the earlier pool, or that with the node at its end
pub record HasNode (old new : List Node) (t : TermId) (node : Node) : Type 0 where
  pub node_is : node_at new t ≡ Some node
  pub added : (new ≡ old) ⊎ (new ≡ old ++ node ∷ [])

-- the term with a node, where there is one
unfoldable pub term_with : List Node → Node → Option TermId
term_with nodes node = option_map (λ (i : ℕ). record { 0 = i }) (position ((same_node.it) node) nodes)

-- the pool with a node, and its term: the one that is there, else a new one
abbrev pub interned : List Node → Node → List Node × TermId
interned nodes node = option_map_or (λ t. (nodes, t)) (term_with nodes node) (nodes ++ node ∷ [], record { 0 = length nodes })

-- the pool with just its first so many terms, and so with the variables that are among them
abbrev pub cut_pool : List Node → ℕ → List Node
cut_pool nodes terms = take terms nodes

-- ---- values

-- the entry of a list of ints, 0 past its end
abbrev pub int_at : List ℤ → ℕ → ℤ
int_at ints i = slice_index_or ints i (pos 0)

abbrev pub second_value : List ℤ → Option TermId → ℤ
second_value done (Some t) = int_at done t.0
second_value done None = pos 0

-- the value of a node, where each variable has the input of its number and `done` are the values of the terms before it
abbrev pub node_value : List ℤ → List ℤ → Node → ℤ
node_value inputs done (Const c) = c
node_value inputs done (Var v kind) = int_at inputs v
node_value inputs done (Apply op left right) = op_value op (int_at done left.0) (second_value done right)

-- whether the value of a node can be computed from the values of the terms before it
abbrev pub CanCompute : List ℤ → Node → Type 0
CanCompute done (Const c) = Unit {0}
CanCompute done (Var v kind) = Unit {0}
CanCompute done (Apply op left right) = (left.0 < length done) × ForSome right (λ t. t.0 < length done)

-- the values of all terms, in order
unfoldable pub values : List ℤ → List Node → List ℤ
values inputs nodes = fold (λ done node. done ++ node_value inputs done node ∷ []) [] nodes

-- these are the values of the first so many terms
abbrev pub AreFirstValues : List ℤ → List Node → List ℤ → Type 0
AreFirstValues inputs nodes done = done ≡ take (length done) (values inputs nodes)

-- the value of a term, where each variable has the input of its number
unfoldable pub value_of : List Node → TermId → List ℤ → ℤ
value_of nodes t inputs = int_at (values inputs nodes) t.0

-- the values of some terms, as those on a stack
abbrev pub values_of : List Node → List TermId → List ℤ → List ℤ
values_of nodes [] inputs = []
values_of nodes (t ∷ ts) inputs = value_of nodes t inputs ∷ values_of nodes ts inputs

-- the value of a second operand, where there is one
abbrev pub operand_value : List Node → Option TermId → List ℤ → ℤ
operand_value nodes (Some t) inputs = value_of nodes t inputs
operand_value nodes None inputs = pos 0
