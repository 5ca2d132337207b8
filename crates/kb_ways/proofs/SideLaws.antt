-- The sides of conditions are there, and stay there while their terms are made.
use Rattle.std.proofs.Common.{◌≡◌, ℤ, Bool, true, List, Some, refl, subst, sym}
use Rattle.kb_code.specs.declared.instruction.Cond.{Cond}
use Rattle.kb_code.specs.declared.instruction.Cond.TheVariants as conds
use Rattle.kb_terms.specs.declared.op.Op.{Op}
use Rattle.kb_terms.specs.declared.node.TermId.{TermId}
use Rattle.kb_terms.specs.declared.node.Node.{Node}
use Rattle.kb_terms.specs.Op.{is_binary}
use Rattle.kb_terms.specs.Terms.{AreOperands, Extends, IsSecond, IsTerm}
use Rattle.kb_terms.proofs.Values.{IsTerm-extends}
use Rattle.kb_frames.specs.State.{State}
use Rattle.kb_ways.specs.declared.condition.Condition.{Condition}
use Rattle.kb_ways.specs.declared.condition.Side.{Side}
use Rattle.kb_ways.specs.declared.condition.Side.TheVariants.{Term, Number}
use Rattle.kb_ways.specs.Asked.{asked, branch_condition, equal_sides, less_sides, unsigned_sides}
use Rattle.kb_ways.specs.Needs.{AreSides, IsSide}
use Rattle.kb_ways.proofs.GrowLaws.{asked_grows}

pub branch_sides : (nodes : List Node) (cond : Cond) (a b : Side) (so : Bool) → IsSide nodes a → IsSide nodes b → AreSides nodes (branch_condition cond a b so)
branch_sides nodes conds.Eq a b so p q = record { left = p; right = q; binary = refl }
branch_sides nodes conds.Ne a b so p q = record { left = p; right = q; binary = refl }
branch_sides nodes conds.Lt a b so p q = record { left = p; right = q; binary = refl }
branch_sides nodes conds.Ge a b so p q = record { left = p; right = q; binary = refl }
branch_sides nodes conds.Gt a b so p q = record { left = q; right = p; binary = refl }
branch_sides nodes conds.Le a b so p q = record { left = q; right = p; binary = refl }

-- a term and a number
pub key_sides : (nodes : List Node) (x : TermId) (z : ℤ) (so : Bool) → IsTerm nodes x → AreSides nodes (equal_sides (Term x) (Number z) so)
key_sides nodes x z so is = record { left = is; right = tt; binary = refl }

pub below_sides : (nodes : List Node) (x : TermId) (z : ℤ) (so : Bool) → IsTerm nodes x → AreSides nodes (unsigned_sides (Term x) (Number z) so)
below_sides nodes x z so is = record { left = is; right = tt; binary = refl }

pub negative_sides : (nodes : List Node) (x : TermId) (z : ℤ) (so : Bool) → IsTerm nodes x → AreSides nodes (less_sides (Term x) (Number z) so)
negative_sides nodes x z so is = record { left = is; right = tt; binary = refl }

-- a number and a term
pub above_sides : (nodes : List Node) (x : TermId) (z : ℤ) (so : Bool) → IsTerm nodes x → AreSides nodes (less_sides (Number z) (Term x) so)
above_sides nodes x z so is = record { left = tt; right = is; binary = refl }

pub operands_there : (before nodes : List Node) (op : Op) (left right : TermId) → IsTerm before left → Extends before nodes → IsTerm nodes right → is_binary op ≡ true → AreOperands nodes op left (Some right)
operands_there before nodes op left right first e second binary = record {
  first = IsTerm-extends before nodes left e first;
  second = subst (λ (b : Bool). IsSecond nodes b (Some right)) (sym binary) second;
}

pub asked_extends : (state : State) (c : Condition) → Extends state.nodes (asked state c).nodes
asked_extends state c = (asked_grows state c).terms

-- a term is there still where a condition was asked for
pub term_asked : (state : State) (c : Condition) (x : TermId) → IsTerm state.nodes x → IsTerm (asked state c).nodes x
term_asked state c x is = IsTerm-extends state.nodes (asked state c).nodes x (asked_extends state c) is
