-- Conditions in a plain list: their terms as texts number them, and the kinds of the variables.
use Rattle.std.specs.Prelude.{◌≡◌, ℕ, pos, Bool, true, false, List, map, Option, Some, None, option_map, unwrap_or}
use Rattle.std.specs.List.{filter_map, list_all}
use Rattle.kb_terms.specs.declared.op.Op.{Op}
use Rattle.kb_terms.specs.declared.op.Op.TheVariants.{Eq, Lt, Ult}
use Rattle.kb_terms.specs.declared.node.TermId.{TermId}
use Rattle.kb_terms.specs.declared.node.VarKind.{VarKind}
use Rattle.kb_terms.specs.declared.node.Node.{Node}
use Rattle.kb_terms.specs.declared.node.Node.TheVariants.{Const, Var, Op as Apply}
use Rattle.kb_terms.specs.declared.listing.Operand.{Operand}
use Rattle.kb_terms.specs.declared.listing.Operand.TheVariants.{Const as ConstOperand, Var as VarOperand, Term as TermOperand}
use Rattle.kb_terms.specs.declared.listing.Term.{Term}
use Rattle.kb_terms.specs.Terms.{node_at}
use Rattle.kb_terms.specs.Numbering.{place_of, numbering}

-- the kinds of all variables, by their numbers; the terms, each after those that it names; and the conditions, each the
-- number of a term and the truth that it is to have
pub record Query : Type 0 where
  pub kinds : List VarKind
  pub terms : List Term
  pub conditions : List (ℕ × Bool)

-- ---- the conditions of a pool

-- the number of a term in a list of terms
abbrev pub number_in : List TermId → TermId → ℕ
number_in numbered t = unwrap_or (place_of numbered t) 0

-- the operand that a term with this node is
abbrev pub operand_from : List TermId → TermId → Option Node → Operand
operand_from numbered t (Some (Const c)) = ConstOperand c
operand_from numbered t (Some (Var v kind)) = VarOperand v
operand_from numbered t (Some (Apply op left right)) = TermOperand (number_in numbered t)
operand_from numbered t None = ConstOperand (pos 0)

abbrev pub operand_of : List Node → List TermId → TermId → Operand
operand_of nodes numbered t = operand_from numbered t (node_at nodes t)

abbrev pub operands_of : List Node → List TermId → Option TermId → Option Operand
operands_of nodes numbered right = option_map (operand_of nodes numbered) right

-- a node that is an operation, as a listed term
abbrev pub listed_from : List Node → List TermId → Option Node → Option Term
listed_from nodes numbered (Some (Const c)) = None
listed_from nodes numbered (Some (Var v kind)) = None
listed_from nodes numbered (Some (Apply op left right)) =
    Some (record { op = op; left = operand_of nodes numbered left; right = operands_of nodes numbered right })
listed_from nodes numbered None = None

-- some numbered terms of a pool, listed
abbrev pub listed : List Node → List TermId → List TermId → List Term
listed nodes numbered terms = filter_map (λ t. listed_from nodes numbered (node_at nodes t)) terms

-- the kind of a variable, and those of all variables of a pool, by their numbers
abbrev pub kind_from : Node → Option VarKind
kind_from (Const c) = None
kind_from (Var v kind) = Some kind
kind_from (Apply op left right) = None

abbrev pub kinds_of : List Node → List VarKind
kinds_of nodes = filter_map kind_from nodes

-- the terms that a list of conditions speaks of
abbrev pub roots_of : List (TermId × Bool) → List TermId
roots_of when = map (λ condition. condition.0) when

abbrev pub numbered_conditions : List TermId → List (TermId × Bool) → List (ℕ × Bool)
numbered_conditions numbered when = map (λ condition. (number_in numbered condition.0, condition.1)) when

-- conditions on terms of a pool, as a plain list
abbrev pub numbered_query : List Node → List (TermId × Bool) → List TermId → Query
numbered_query nodes when numbered = record {
  kinds = kinds_of nodes;
  terms = listed nodes numbered numbered;
  conditions = numbered_conditions numbered when;
}

abbrev pub query_of : List Node → List (TermId × Bool) → Query
query_of nodes when = numbered_query nodes when (numbering nodes (roots_of when))

-- ---- which conditions can be blasted

abbrev pub is_any : Op → Bool
is_any _ = true

abbrev pub is_comparison : Op → Bool
is_comparison Eq = true
is_comparison Lt = true
is_comparison Ult = true
is_comparison _ = false

-- whether a node's operation passes a test; constants and variables do not
abbrev pub node_passes : (Op → Bool) → Option Node → Bool
node_passes test (Some (Const c)) = false
node_passes test (Some (Var v kind)) = false
node_passes test (Some (Apply op left right)) = test op
node_passes test None = false

-- each condition is on a comparison
abbrev pub AreConditions : List Node → List (TermId × Bool) → Type 0
AreConditions nodes when = list_all (λ t. node_passes is_comparison (node_at nodes t)) (roots_of when) ≡ true
