-- An input meets conditions that were added exactly where each of them holds of the values of its sides; unless one was decided
-- against what is asked for, which is told before the first one is added.
use Rattle.std.proofs.Common.{◌≡◌, ◌⊎◌, ℕ, zero, suc, ◌<◌, ◌==◌, ℤ, pos, Bool, true, false, not, List, [], ◌∷◌, ◌++◌, length, take, map, Option, Some, None, cond, refl, sym, ap, subst, ◌∙◌, inl, inr, if◌then◌else◌, is_some, true≢false, int_eq}
use Rattle.std.specs.List.{list_all}
use Rattle.std.proofs.lemmas.Bool.{and_parts, eqb-true}
use Rattle.std.proofs.lemmas.Option.{slice_get_within}
use Rattle.kb_arith.specs.Word.{truth}
use Rattle.kb_blast.specs.Meaning.{AreMetInPool}
use Rattle.kb_blast.specs.Query.{AreConditions, is_comparison, node_passes}
use Rattle.kb_terms.specs.declared.op.Op.{Op}
use Rattle.kb_terms.specs.declared.node.TermId.{TermId}
use Rattle.kb_terms.specs.declared.node.Node.{Node}
use Rattle.kb_terms.specs.declared.node.Node.TheVariants.{Const}
use Rattle.kb_terms.specs.Op.{op_value}
use Rattle.kb_terms.specs.Terms.{IsTerm, IsSecond, AreOperands, Extends, constant_at, made_node, node_at, value_of}
use Rattle.kb_terms.proofs.Values.{Extends-trans, IsTerm-extends, value_of-extends, value_of-constant_at}
use Rattle.kb_frames.specs.State.{State}
use Rattle.kb_numbered.specs.Conditions.{truth_among}
use Rattle.kb_frames.specs.Truths.{decided, truth_in}
use Rattle.kb_frames.specs.Lent.{with_nodes}
use Rattle.kb_ways.specs.declared.condition.Side.{Side}
use Rattle.kb_ways.specs.declared.condition.Side.TheVariants.{Term, Number}
use Rattle.kb_ways.specs.declared.condition.Condition.{Condition}
use Rattle.kb_ways.specs.Asked.{interned_side, interned_condition, asked}
use Rattle.kb_ways.specs.Needs.{IsSide, AreSides}
use Rattle.kb_ways.proofs.AskedLaws.{interned_is_term, side_value, side_is_term, side_is, later_side, later_is_side}
use Rattle.kb_ways.proofs.GrowLaws.{side_extends, op_extends}
use Rattle.kb_ways.proofs.ValueLaws.{IsOrdered, interned_ordered, op_ordered, op_made}

-- ---- conditions of a state

-- each is on a term of the pool
abbrev pub AreTermsOf : List Node → List (TermId × Bool) → Type 0
AreTermsOf nodes [] = Unit {0}
AreTermsOf nodes (x ∷ when) = IsTerm nodes x.0 × AreTermsOf nodes when

passes_there : (nodes : List Node) (t : TermId) (n : Option Node) → node_at nodes t ≡ n → node_passes is_comparison n ≡ true → IsTerm nodes t
passes_there nodes t None e p = absurd (true≢false (sym p))
passes_there nodes t (Some n) e p = slice_get_within nodes t.0 n e

pub conditions_there : (nodes : List Node) (when : List (TermId × Bool)) → AreConditions nodes when → AreTermsOf nodes when
conditions_there nodes [] are = tt
conditions_there nodes (x ∷ when) are =
    let parts = and_parts (node_passes is_comparison (node_at nodes x.0)) (list_all (λ (t : TermId). node_passes is_comparison (node_at nodes t)) (map (λ (condition : TermId × Bool). condition.0) when)) are in
    (passes_there nodes x.0 (node_at nodes x.0) refl parts.0, conditions_there nodes when parts.1)

pub terms_later : (old new : List Node) (when : List (TermId × Bool)) → Extends old new → AreTermsOf old when → AreTermsOf new when
terms_later old new [] e h = tt
terms_later old new (x ∷ when) e h = (IsTerm-extends old new x.0 e h.0, terms_later old new when e h.1)

terms_more : (nodes : List Node) (when : List (TermId × Bool)) (x : TermId × Bool) → AreTermsOf nodes when → IsTerm nodes x.0 → AreTermsOf nodes (when ++ x ∷ [])
terms_more nodes [] x h is = (is, tt)
terms_more nodes (y ∷ when) x h is = (h.0, terms_more nodes when x h.1 is)

pub among_there : (nodes : List Node) (when : List (TermId × Bool)) (t : TermId) (so : Bool) → AreTermsOf nodes when → truth_among when t ≡ Some so → IsTerm nodes t
among_there nodes [] t so h e = absurd cc
among_there nodes (x ∷ when) t so h e = go (among_there nodes when t so h.1) (t.0 == x.0.0) refl e where
  go : (truth_among when t ≡ Some so → IsTerm nodes t) → (b : Bool) → (t.0 == x.0.0) ≡ b → cond b (Some x.1) (truth_among when t) ≡ Some so → IsTerm nodes t
  go later true same e = subst (λ (n : ℕ). n < length nodes) (sym (eqb-true t.0 x.0.0 same)) h.0
  go later false other e = later e

-- ---- what an input meets

pub met_later : (old new : List Node) (variables : List ℤ) (when : List (TermId × Bool)) → Extends old new → AreTermsOf old when → AreMetInPool old variables when → AreMetInPool new variables when
met_later old new variables [] e h met = tt
met_later old new variables (x ∷ when) e h met = (value_of-extends old new x.0 variables e h.0 ∙ met.0, met_later old new variables when e h.1 met.1)

pub met_earlier : (old new : List Node) (variables : List ℤ) (when : List (TermId × Bool)) → Extends old new → AreTermsOf old when → AreMetInPool new variables when → AreMetInPool old variables when
met_earlier old new variables [] e h met = tt
met_earlier old new variables (x ∷ when) e h met = (sym (value_of-extends old new x.0 variables e h.0) ∙ met.0, met_earlier old new variables when e h.1 met.1)

pub met_front : (nodes : List Node) (variables : List ℤ) (n : ℕ) (when : List (TermId × Bool)) → AreMetInPool nodes variables when → AreMetInPool nodes variables (take n when)
met_front nodes variables zero when met = tt
met_front nodes variables (suc n) [] met = tt
met_front nodes variables (suc n) (x ∷ when) met = (met.0, met_front nodes variables n when met.1)

met_last : (nodes : List Node) (variables : List ℤ) (when : List (TermId × Bool)) (x : TermId × Bool) → AreMetInPool nodes variables (when ++ x ∷ []) → value_of nodes x.0 variables ≡ truth x.1
met_last nodes variables [] x met = met.0
met_last nodes variables (y ∷ when) x met = met_last nodes variables when x met.1

met_more : (nodes : List Node) (variables : List ℤ) (when : List (TermId × Bool)) (x : TermId × Bool) → AreMetInPool nodes variables when → value_of nodes x.0 variables ≡ truth x.1
    → AreMetInPool nodes variables (when ++ x ∷ [])
met_more nodes variables [] x met is = (is, tt)
met_more nodes variables (y ∷ when) x met is = (met.0, met_more nodes variables when x met.1 is)

-- the truth that a term has among conditions that are met is that of its value
pub met_among : (nodes : List Node) (variables : List ℤ) (when : List (TermId × Bool)) (t : TermId) (so : Bool) → AreMetInPool nodes variables when → truth_among when t ≡ Some so
    → value_of nodes t variables ≡ truth so
met_among nodes variables [] t so met e = absurd cc
met_among nodes variables (x ∷ when) t so met e = go (met_among nodes variables when t so met.1) (t.0 == x.0.0) refl e where
  go : (truth_among when t ≡ Some so → value_of nodes t variables ≡ truth so) → (b : Bool) → (t.0 == x.0.0) ≡ b → cond b (Some x.1) (truth_among when t) ≡ Some so
      → value_of nodes t variables ≡ truth so
  go later true same e =
      let number : t.0 ≡ x.0.0 = eqb-true t.0 x.0.0 same in
      let asks : x.1 ≡ so = cc in
      ap (λ (n : ℕ). value_of nodes (record { 0 = n }) variables) number ∙ met.0 ∙ ap truth asks
  go later false other e = later e

-- a truth among conditions with one more is that of the others, or of that one
among_more : (when : List (TermId × Bool)) (u : TermId) (b : Bool) (t : TermId) (so : Bool) → truth_among (when ++ (u, b) ∷ []) t ≡ Some so
    → (truth_among when t ≡ Some so) ⊎ ((t.0 ≡ u.0) × (so ≡ b))
among_more [] u b t so e = go (t.0 == u.0) refl e where
  go : (same : Bool) → (t.0 == u.0) ≡ same → cond same (Some b) None ≡ Some so → (None ≡ Some so) ⊎ ((t.0 ≡ u.0) × (so ≡ b))
  go true is e = inr (eqb-true t.0 u.0 is, (let asks : b ≡ so = cc in sym asks))
  go false is e = inl e
among_more (x ∷ when) u b t so e = go (among_more when u b t so) (t.0 == x.0.0) e where
  go : (truth_among (when ++ (u, b) ∷ []) t ≡ Some so → (truth_among when t ≡ Some so) ⊎ ((t.0 ≡ u.0) × (so ≡ b))) → (same : Bool)
      → cond same (Some x.1) (truth_among (when ++ (u, b) ∷ []) t) ≡ Some so → (cond same (Some x.1) (truth_among when t) ≡ Some so) ⊎ ((t.0 ≡ u.0) × (so ≡ b))
  go later true e = inl e
  go later false e = later e

-- ---- what holds

-- the condition holds of the values of its sides
abbrev pub ConditionHolds : List Node → List ℤ → Condition → Type 0
ConditionHolds nodes variables c = op_value c.op (side_value nodes variables c.left) (side_value nodes variables c.right) ≡ truth c.truth

abbrev pub AllHold : List Node → List ℤ → List Condition → Type 0
AllHold nodes variables [] = Unit {0}
AllHold nodes variables (c ∷ cs) = ConditionHolds nodes variables c × AllHold nodes variables cs

abbrev pub AllSides : List Node → List Condition → Type 0
AllSides nodes [] = Unit {0}
AllSides nodes (c ∷ cs) = AreSides nodes c × AllSides nodes cs

pub sides_later_one : (old new : List Node) (c : Condition) → Extends old new → AreSides old c → AreSides new c
sides_later_one old new c e are = record { left = later_is_side old new c.left e are.left; right = later_is_side old new c.right e are.right; binary = are.binary }

pub sides_later : (old new : List Node) (cs : List Condition) → Extends old new → AllSides old cs → AllSides new cs
sides_later old new [] e are = tt
sides_later old new (c ∷ cs) e are = (sides_later_one old new c e are.0, sides_later old new cs e are.1)

pub compared_later : (old new : List Node) (variables : List ℤ) (c : Condition) → Extends old new → AreSides old c
    → op_value c.op (side_value new variables c.left) (side_value new variables c.right) ≡ op_value c.op (side_value old variables c.left) (side_value old variables c.right)
compared_later old new variables c e are =
    ap (λ (z : ℤ). op_value c.op z (side_value new variables c.right)) (later_side old new variables c.left e are.left)
    ∙ ap (λ (z : ℤ). op_value c.op (side_value old variables c.left) z) (later_side old new variables c.right e are.right)

pub hold_later : (old new : List Node) (variables : List ℤ) (cs : List Condition) → Extends old new → AllSides old cs → AllHold old variables cs → AllHold new variables cs
hold_later old new variables [] e are hold = tt
hold_later old new variables (c ∷ cs) e are hold = (compared_later old new variables c e are.0 ∙ hold.0, hold_later old new variables cs e are.1 hold.1)

-- what a comparison gives is a truth
abbrev pub IsTruth : Op → Type 0
IsTruth op = (a b : ℤ) → (so : Bool) × (op_value op a b ≡ truth so)

pub truth_not_0 : (so : Bool) → not (int_eq (truth so) (pos 0)) ≡ so
truth_not_0 true = refl
truth_not_0 false = refl

-- ---- a state to which conditions may be added

pub record IsReady (state : State) : Type 0 where
  pub ordered : IsOrdered state.nodes
  pub terms : AreTermsOf state.nodes state.when

side_ordered : (nodes : List Node) (side : Side) → IsOrdered nodes → IsOrdered (interned_side nodes side).0
side_ordered nodes (Term t) ordered = ordered
side_ordered nodes (Number z) ordered = interned_ordered nodes (Const z) ordered tt

-- one condition is asked for
module _ (state : State) (c : Condition) (are : AreSides state.nodes c) (ready : IsReady state) where
  abbrev left : List Node × TermId
  left = interned_side state.nodes c.left

  abbrev right : List Node × TermId
  right = interned_side left.0 c.right

  abbrev term : List Node × TermId
  term = interned_condition state.nodes c

  abbrev grown : State
  grown = with_nodes state term.0

  abbrev next : Bool → State
  next b = if b then grown else record grown { when = state.when ++ (term.1, c.truth) ∷ [] }

  right_side : IsSide left.0 c.right
  right_side = later_is_side state.nodes left.0 c.right (side_extends state.nodes c.left) are.right

  operands : AreOperands right.0 c.op left.1 (Some right.1)
  operands = record {
    first = IsTerm-extends left.0 right.0 left.1 (side_extends left.0 c.right) (side_is_term state.nodes c.left are.left);
    second = subst (λ (b : Bool). IsSecond right.0 b (Some right.1)) (sym are.binary) (side_is_term left.0 c.right right_side);
  }

  right_ordered : IsOrdered right.0
  right_ordered = side_ordered left.0 c.right (side_ordered state.nodes c.left ready.ordered)

  term_ordered : IsOrdered term.0
  term_ordered = op_ordered right.0 c.op left.1 (Some right.1) right_ordered operands

  term_there : IsTerm term.0 term.1
  term_there = interned_is_term right.0 (made_node right.0 c.op left.1 (Some right.1))

  term_value : (variables : List ℤ) → value_of term.0 term.1 variables ≡ op_value c.op (side_value state.nodes variables c.left) (side_value state.nodes variables c.right)
  term_value variables =
      op_made right.0 c.op left.1 (Some right.1) variables right_ordered operands
      ∙ ap (λ (z : ℤ). op_value c.op z (value_of right.0 right.1 variables))
      (value_of-extends left.0 right.0 left.1 variables (side_extends left.0 c.right) (side_is_term state.nodes c.left are.left) ∙ side_is state.nodes variables c.left are.left)
      ∙ ap (λ (z : ℤ). op_value c.op (side_value state.nodes variables c.left) z)
      (side_is left.0 variables c.right right_side ∙ later_side state.nodes left.0 variables c.right (side_extends state.nodes c.left) are.right)

  state_term : Extends state.nodes term.0
  state_term =
      Extends-trans state.nodes left.0 term.0 (side_extends state.nodes c.left)
      (Extends-trans left.0 right.0 term.0 (side_extends left.0 c.right) (op_extends right.0 c.op left.1 (Some right.1)))

  old_terms : AreTermsOf term.0 state.when
  old_terms = terms_later state.nodes term.0 state.when state_term ready.terms

  pub asked_ready : IsReady (asked state c)
  asked_ready = go (is_some (truth_in grown term.1)) where
    go : (b : Bool) → IsReady (next b)
    go true = record { ordered = term_ordered; terms = old_terms }
    go false = record { ordered = term_ordered; terms = terms_more term.0 state.when (term.1, c.truth) old_terms term_there }

  pub asked_met : (variables : List ℤ) → ConditionHolds state.nodes variables c → AreMetInPool state.nodes variables state.when → AreMetInPool (asked state c).nodes variables (asked state c).when
  asked_met variables holds met = go (is_some (truth_in grown term.1)) where
    before : AreMetInPool term.0 variables state.when
    before = met_later state.nodes term.0 variables state.when state_term ready.terms met

    go : (b : Bool) → AreMetInPool (next b).nodes variables (next b).when
    go true = before
    go false = met_more term.0 variables state.when (term.1, c.truth) before (term_value variables ∙ holds)

  -- unless it is decided against what is asked for
  pub asked_holds : (variables : List ℤ) → IsTruth c.op → ((so : Bool) → truth_in grown term.1 ≡ Some so → so ≡ c.truth)
      → AreMetInPool (asked state c).nodes variables (asked state c).when → ConditionHolds state.nodes variables c
  asked_holds variables is wanted met = go (truth_in grown term.1) refl met where
    by_value : (so : Bool) → so ≡ c.truth → value_of term.0 term.1 variables ≡ truth so → ConditionHolds state.nodes variables c
    by_value so same e = sym (term_value variables) ∙ e ∙ ap truth same

    by_constant : (so : Bool) (z : ℤ) → so ≡ c.truth → constant_at term.0 term.1 ≡ Some z → not (int_eq z (pos 0)) ≡ so → ConditionHolds state.nodes variables c
    by_constant so z same at e =
        let known = is (side_value state.nodes variables c.left) (side_value state.nodes variables c.right) in
        let value : z ≡ truth known.0 = sym (value_of-constant_at term.0 term.1 z variables at) ∙ term_value variables ∙ known.1 in
        let truths : known.0 ≡ so = sym (truth_not_0 known.0) ∙ ap (λ (k : ℤ). not (int_eq k (pos 0))) (sym value) ∙ e in
        known.1 ∙ ap truth (truths ∙ same)

    by_decided : (so : Bool) → so ≡ c.truth → AreMetInPool term.0 variables state.when → (k : Option ℤ) → constant_at term.0 term.1 ≡ k
        → decided k (truth_among state.when term.1) ≡ Some so → ConditionHolds state.nodes variables c
    by_decided so same met None at e = by_value so same (met_among term.0 variables state.when term.1 so met e)
    by_decided so same met (Some z) at e = by_constant so z same at (let inside : not (int_eq z (pos 0)) ≡ so = cc in inside)

    go : (known : Option Bool) → truth_in grown term.1 ≡ known → AreMetInPool (next (is_some known)).nodes variables (next (is_some known)).when → ConditionHolds state.nodes variables c
    go None e met = by_value c.truth refl (met_last term.0 variables state.when (term.1, c.truth) met)
    go (Some so) e met = by_decided so (wanted so e) met (constant_at term.0 term.1) refl e

  -- a truth among the conditions behind it is one from before, or the one that is asked for
  pub asked_among : (t : TermId) (so : Bool) → truth_among (asked state c).when t ≡ Some so → (truth_among state.when t ≡ Some so) ⊎ ((t.0 ≡ term.1.0) × (so ≡ c.truth))
  asked_among t so = go (is_some (truth_in grown term.1)) where
    go : (b : Bool) → truth_among (next b).when t ≡ Some so → (truth_among state.when t ≡ Some so) ⊎ ((t.0 ≡ term.1.0) × (so ≡ c.truth))
    go true e = inl e
    go false e = among_more state.when term.1 c.truth t so e
