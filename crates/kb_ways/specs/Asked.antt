-- Conditions that the alternatives of a choice ask for: comparisons of terms and numbers, each with the truth that it is to
-- have (path conditions: King, 1976). One whose two sides are numbers, or whose term stands among the conditions of the state,
-- is decided: it adds nothing.
use Rattle.std.specs.Prelude.{ℤ, Bool, false, not, List, fold, Option, Some, None, option_and_then}
use Rattle.std.specs.List.{list_any}
use Rattle.kb_code.specs.declared.instruction.Cond.{Cond}
use Rattle.kb_code.specs.declared.instruction.Cond.TheVariants as conds
use Rattle.kb_semantics.specs.Comparisons.{is_plain}
use Rattle.kb_semantics.specs.Instructions.{is_wanted}
use Rattle.kb_terms.specs.declared.op.Op.{Op}
use Rattle.kb_terms.specs.declared.op.Op.TheVariants.{Eq, Lt, Ult}
use Rattle.kb_terms.specs.declared.node.TermId.{TermId}
use Rattle.kb_terms.specs.declared.node.Node.{Node}
use Rattle.kb_terms.specs.declared.node.Node.TheVariants.{Const, Op as Apply}
use Rattle.kb_terms.specs.Op.{op_value}
use Rattle.kb_terms.specs.Terms.{constant_at, made_node, term_with, interned}
use Rattle.kb_frames.specs.State.{State}
use Rattle.kb_numbered.specs.Conditions.{truth_among}
use Rattle.kb_frames.specs.Truths.{decided, conditioned}
use Rattle.kb_frames.specs.Lent.{with_nodes}
use Rattle.kb_ways.specs.declared.condition.Side.{Side}
use Rattle.kb_ways.specs.declared.condition.Side.TheVariants.{Term, Number}
use Rattle.kb_ways.specs.declared.condition.Condition.{Condition}

-- ---- which comparison is asked

-- that two sides are equal, or are not
abbrev pub equal_sides : Side → Side → Bool → Condition
equal_sides a b so = record { op = Eq; left = a; right = b; truth = so }

-- that the first is less than the second, with sign, or is not
abbrev pub less_sides : Side → Side → Bool → Condition
less_sides a b so = record { op = Lt; left = a; right = b; truth = so }

-- that the first is less than the second, without sign, or is not
abbrev pub unsigned_sides : Side → Side → Bool → Condition
unsigned_sides a b so = record { op = Ult; left = a; right = b; truth = so }

-- that a condition of a branch holds of two sides, or does not: the comparison is the one that the instruction makes
abbrev pub branch_condition : Cond → Side → Side → Bool → Condition
branch_condition conds.Eq a b so = equal_sides a b (is_plain conds.Eq so)
branch_condition conds.Ne a b so = equal_sides a b (is_plain conds.Ne so)
branch_condition conds.Lt a b so = less_sides a b (is_plain conds.Lt so)
branch_condition conds.Ge a b so = less_sides a b (is_plain conds.Ge so)
branch_condition conds.Gt a b so = less_sides b a (is_plain conds.Gt so)
branch_condition conds.Le a b so = less_sides b a (is_plain conds.Le so)

-- ---- whether it is decided

-- the number of a side, where it is known
abbrev pub number_of : List Node → Side → Option ℤ
number_of nodes (Term t) = constant_at nodes t
number_of nodes (Number z) = Some z

-- the term of a side, where there is one
abbrev pub term_of : List Node → Side → Option TermId
term_of nodes (Term t) = Some t
term_of nodes (Number z) = term_with nodes (Const z)

-- what the comparison of two known numbers gives
abbrev pub known_value : Op → Option ℤ → Option ℤ → Option ℤ
known_value op (Some a) (Some b) = Some (op_value op a b)
known_value op (Some a) None = None
known_value op None b = None

-- the term of the comparison of two terms, where there is one
abbrev pub comparison_with : List Node → Op → Option TermId → Option TermId → Option TermId
comparison_with nodes op (Some left) (Some right) = term_with nodes (Apply op left (Some right))
comparison_with nodes op (Some left) None = None
comparison_with nodes op None right = None

-- The truth that a comparison has in a state, if it is decided there, whatever truth is asked for.
abbrev pub asked_truth : State → Condition → Option Bool
asked_truth state c =
    decided (known_value c.op (number_of state.nodes c.left) (number_of state.nodes c.right))
    (option_and_then (truth_among state.when) (comparison_with state.nodes c.op (term_of state.nodes c.left) (term_of state.nodes c.right)))

-- it is decided, and not as is asked for
abbrev pub is_against : Option Bool → Bool → Bool
is_against (Some so) truth = not (is_wanted truth so)
is_against None truth = false

-- some of these conditions is decided as false
abbrev pub is_refuted : State → List Condition → Bool
is_refuted state conditions = list_any (λ (c : Condition). is_against (asked_truth state c) c.truth) conditions

-- ---- how it is added

abbrev pub interned_side : List Node → Side → List Node × TermId
interned_side nodes (Term t) = (nodes, t)
interned_side nodes (Number z) = interned nodes (Const z)

-- the term of an operation on terms, folded where they are constants
abbrev pub interned_op : List Node → Op → TermId → Option TermId → List Node × TermId
interned_op nodes op left right = interned nodes (made_node nodes op left right)

-- the term of a comparison: its left side is made first, then its right one
abbrev pub interned_between : Op → List Node × TermId → List Node × TermId → List Node × TermId
interned_between op left right = interned_op right.0 op left.1 (Some right.1)

abbrev pub interned_from : Op → Side → List Node × TermId → List Node × TermId
interned_from op right left = interned_between op left (interned_side left.0 right)

abbrev pub interned_condition : List Node → Condition → List Node × TermId
interned_condition nodes c = interned_from c.op c.right (interned_side nodes c.left)

-- The state with one condition more, unless it is decided.
abbrev pub asked : State → Condition → State
asked state c =
    let made = interned_condition state.nodes c in
    conditioned (with_nodes state made.0) made.1 c.truth

-- with all of these, in order
abbrev pub all_asked : State → List Condition → State
all_asked state conditions = fold asked state conditions
