-- The term of a condition that is added makes the comparison that is asked for, of the values of its sides.
use Rattle.std.proofs.Common.{◌≡◌, ℕ, ◌<◌, ◌≤◌, ℤ, Bool, true, false, List, [], ◌∷◌, ◌++◌, length, slice_get, Option, Some, None, refl, sym, ap, subst, ◌∙◌, inl, inr, if◌then◌else◌, is_some, nat_lt, true≢false, arith}
use Rattle.std.specs.Option.{option_map}
use Rattle.std.proofs.lemmas.Option.{slice_get_within}
use Rattle.kb_semantics.specs.Comparisons.{Relation, Comparison}
use Rattle.kb_terms.specs.declared.op.Op.{Op}
use Rattle.kb_terms.specs.declared.node.TermId.{TermId}
use Rattle.kb_terms.specs.declared.node.Node.{Node}
use Rattle.kb_terms.specs.declared.node.Node.TheVariants.{Const, Op as Apply}
use Rattle.kb_terms.specs.Terms.{IsTerm, Extends, constant_at, constant_of, folded, interned, made_node, node_at, term_with, value_of}
use Rattle.kb_terms.proofs.Entries.{slice_get-append-end, slice_get-take, end-cases}
use Rattle.std.proofs.lemmas.Bool.{ltb-true, ltb-false}
use Rattle.kb_terms.proofs.Finding.{found}
use Rattle.kb_terms.proofs.Values.{Extends-refl, Extends-trans, IsTerm-extends, value_of-extends, value_of-constant}
use Rattle.kb_frames.specs.State.{State}
use Rattle.kb_numbered.specs.Conditions.{truth_among}
use Rattle.kb_frames.specs.Truths.{decided, truth_in}
use Rattle.kb_frames.specs.Lent.{with_nodes}
use Rattle.kb_ways.specs.declared.condition.Side.{Side}
use Rattle.kb_ways.specs.declared.condition.Side.TheVariants.{Term, Number}
use Rattle.kb_ways.specs.declared.condition.Condition.{Condition}
use Rattle.kb_ways.specs.Asked.{interned_side, interned_condition, asked, all_asked}
use Rattle.kb_ways.specs.Needs.{IsSide, AreSides}
use Rattle.kb_frames.specs.Comparing.{relation_of, comparison_in, comparison_of}
use Rattle.kb_ways.proofs.GrowLaws.{Grows, from_found, if_has, side_extends, op_extends, asked_grows, all_asked_grows}

-- ---- terms that are made

-- the term that is made has the node
pub interned_node : (nodes : List Node) (node : Node) → node_at (interned nodes node).0 (interned nodes node).1 ≡ Some node
interned_node nodes node = go (term_with nodes node) refl where
  go : (it : Option TermId) → term_with nodes node ≡ it → node_at (from_found nodes node it).0 (from_found nodes node it).1 ≡ Some node
  go None e = slice_get-append-end nodes node []
  go (Some t) e = found nodes node t e

pub interned_is_term : (nodes : List Node) (node : Node) → IsTerm (interned nodes node).0 (interned nodes node).1
interned_is_term nodes node = slice_get_within (interned nodes node).0 (interned nodes node).1.0 node (interned_node nodes node)

-- ---- sides

-- the value of a side, where the variables have these values
abbrev pub side_value : List Node → List ℤ → Side → ℤ
side_value nodes variables (Term t) = value_of nodes t variables
side_value nodes variables (Number z) = z

pub side_is_term : (nodes : List Node) (side : Side) → IsSide nodes side → IsTerm (interned_side nodes side).0 (interned_side nodes side).1
side_is_term nodes (Term t) is = is
side_is_term nodes (Number z) is = interned_is_term nodes (Const z)

pub side_is : (nodes : List Node) (variables : List ℤ) (side : Side) → IsSide nodes side → value_of (interned_side nodes side).0 (interned_side nodes side).1 variables ≡ side_value nodes variables side
side_is nodes variables (Term t) is = refl
side_is nodes variables (Number z) is = value_of-constant (interned nodes (Const z)).0 (interned nodes (Const z)).1 z variables (interned_node nodes (Const z))

pub later_side : (old new : List Node) (variables : List ℤ) (side : Side) → Extends old new → IsSide old side → side_value new variables side ≡ side_value old variables side
later_side old new variables (Term t) e is = value_of-extends old new t variables e is
later_side old new variables (Number z) e is = refl

pub later_is_side : (old new : List Node) (side : Side) → Extends old new → IsSide old side → IsSide new side
later_is_side old new (Term t) e is = IsTerm-extends old new t e is
later_is_side old new (Number z) e is = tt

-- ---- the comparison

-- the comparison that a condition asks for
abbrev pub asks_for : List Node → List ℤ → Condition → Option Comparison
asks_for nodes variables c =
    option_map (λ relation. record { relation = relation; left = side_value nodes variables c.left; right = side_value nodes variables c.right }) (relation_of c.op)

-- an operation on terms that is no constant is itself
pub not_folded : (nodes : List Node) (op : Op) (left right : TermId) → constant_of (Some (made_node nodes op left (Some right))) ≡ None → made_node nodes op left (Some right) ≡ Apply op left (Some right)
unfolding made_node
not_folded nodes op left right e = go (constant_at nodes left) (constant_at nodes right) e where
  go : (a b : Option ℤ) → constant_of (Some (folded op left (Some right) a b)) ≡ None → folded op left (Some right) a b ≡ Apply op left (Some right)
  go (Some a) (Some b) h = absurd cc
  go (Some a) None h = refl
  go None b h = refl

-- a pool that goes on has the node of each earlier term
pub later_node : (old new : List Node) (t : TermId) → Extends old new → IsTerm old t → node_at new t ≡ node_at old t
later_node old new t e is = sym (slice_get-take (length old) new t.0 is) ∙ ap (λ (ns : List Node). slice_get ns t.0) e.kept

-- the pool may go on behind the comparison
module _ (nodes : List Node) (variables : List ℤ) (c : Condition) (are : AreSides nodes c) (later : List Node) where
  abbrev left : List Node × TermId
  left = interned_side nodes c.left

  abbrev right : List Node × TermId
  right = interned_side left.0 c.right

  abbrev made : List Node × TermId
  made = interned_condition nodes c

  left_right : Extends left.0 right.0
  left_right = side_extends left.0 c.right

  right_made : Extends right.0 made.0
  right_made = op_extends right.0 c.op left.1 (Some right.1)

  right_side : IsSide left.0 c.right
  right_side = later_is_side nodes left.0 c.right (side_extends nodes c.left) are.right

  left_value : Extends made.0 later → value_of later left.1 variables ≡ side_value nodes variables c.left
  left_value e =
      value_of-extends left.0 later left.1 variables (Extends-trans left.0 right.0 later left_right (Extends-trans right.0 made.0 later right_made e)) (side_is_term nodes c.left are.left)
      ∙ side_is nodes variables c.left are.left

  right_value : Extends made.0 later → value_of later right.1 variables ≡ side_value nodes variables c.right
  right_value e =
      value_of-extends right.0 later right.1 variables (Extends-trans right.0 made.0 later right_made e) (side_is_term left.0 c.right right_side) ∙ side_is left.0 variables c.right right_side
      ∙ later_side nodes left.0 variables c.right (side_extends nodes c.left) are.right

  -- where it is no constant
  pub comparison_made : Extends made.0 later → constant_at made.0 made.1 ≡ None → comparison_of later variables made.1 ≡ asks_for nodes variables c
  comparison_made e none =
      let node : node_at made.0 made.1 ≡ Some (made_node right.0 c.op left.1 (Some right.1)) = interned_node right.0 (made_node right.0 c.op left.1 (Some right.1)) in
      let same : made_node right.0 c.op left.1 (Some right.1) ≡ Apply c.op left.1 (Some right.1) = not_folded right.0 c.op left.1 right.1 (ap constant_of (sym node) ∙ none) in
      let there : node_at later made.1 ≡ Some (Apply c.op left.1 (Some right.1)) = later_node made.0 later made.1 e (interned_is_term right.0 (made_node right.0 c.op left.1 (Some right.1))) ∙ node ∙ ap Some same in
      ap (comparison_in (λ (t : TermId). value_of later t variables)) there
      ∙ ap (λ (z : ℤ). option_map (λ (relation : Relation). record { relation = relation; left = z; right = value_of later right.1 variables }) (relation_of c.op)) (left_value e)
      ∙ ap (λ (z : ℤ). option_map (λ (relation : Relation). record { relation = relation; left = side_value nodes variables c.left; right = z }) (relation_of c.op)) (right_value e)

-- the terms of a comparison that was asked for are there
pub asked_keeps : (state : State) (c : Condition) → Extends (interned_condition state.nodes c).0 (asked state c).nodes
asked_keeps state c =
    let made : List Node × TermId = interned_condition state.nodes c in
    let grown : State = with_nodes state made.0 in
    if_has (λ (s : State). Extends made.0 s.nodes) (is_some (truth_in grown made.1)) grown (record grown { when = state.when ++ (made.1, c.truth) ∷ [] }) (Extends-refl made.0) (Extends-refl made.0)

-- ---- conditions that are added

-- what a term that has no truth is no constant of
pub no_constant : (state : State) (t : TermId) → is_some (truth_in state t) ≡ false → constant_at state.nodes t ≡ None
no_constant state t e = go (constant_at state.nodes t) refl e where
  go : (k : Option ℤ) → constant_at state.nodes t ≡ k → is_some (decided k (truth_among state.when t)) ≡ false → k ≡ None
  go None is h = refl
  go (Some z) is h = absurd (true≢false h)

-- it holds of the comparison of each condition from a place on, however the pool goes on
abbrev pub AreAddedFrom : (Option Comparison → Type 0) → List Node → List ℤ → List (TermId × Bool) → ℕ → Type 0
AreAddedFrom P nodes variables when from =
    (i : ℕ) (condition : TermId × Bool) → from ≤ i → slice_get when i ≡ Some condition → (later : List Node) → Extends nodes later → P (comparison_of later variables condition.0)

past : (n i : ℕ) → n ≤ i → i < n → ⊥
past n i le lt = omega (arith, le, lt)

pub none_added : (P : Option Comparison → Type 0) (nodes : List Node) (variables : List ℤ) (when : List (TermId × Bool)) → AreAddedFrom P nodes variables when (length when)
none_added P nodes variables when = λ i condition from at later e. absurd (past (length when) i from (slice_get_within when i condition at))

-- one condition is asked for
module _ (P : Option Comparison → Type 0) (variables : List ℤ) (state : State) (c : Condition) (are : AreSides state.nodes c) (p : P (asks_for state.nodes variables c)) where
  abbrev term : List Node × TermId
  term = interned_condition state.nodes c

  abbrev grown : State
  grown = with_nodes state term.0

  added : constant_at term.0 term.1 ≡ None → AreAddedFrom P term.0 variables (state.when ++ (term.1, c.truth) ∷ []) (length state.when)
  added none = λ i condition from at later e. elim (end-cases state.when (term.1, c.truth) i condition at) [
    | inl before ↦ absurd (past (length state.when) i from before.0)
    | inr last ↦ subst (λ (x : TermId × Bool). P (comparison_of later variables x.0)) last.1 (subst P (sym (comparison_made state.nodes variables c are later e none)) p)
  ]

  pub asked_adds : AreAddedFrom P (asked state c).nodes variables (asked state c).when (length state.when)
  asked_adds = go (is_some (truth_in grown term.1)) refl where
    go : (b : Bool) → is_some (truth_in grown term.1) ≡ b
        → AreAddedFrom P (if b then grown else record grown { when = state.when ++ (term.1, c.truth) ∷ [] }).nodes variables (if b then grown else record grown { when = state.when ++ (term.1, c.truth) ∷ [] }).when (length state.when)
    go true e = none_added P term.0 variables state.when
    go false e = added (no_constant grown term.1 e)

-- ---- all of them

-- each of the conditions is on sides that are there, and it holds of its comparison
abbrev pub AreAskable : (Option Comparison → Type 0) → List Node → List ℤ → List Condition → Type 0
AreAskable P nodes variables [] = Unit {0}
AreAskable P nodes variables (c ∷ cs) = AreSides nodes c × P (asks_for nodes variables c) × AreAskable P nodes variables cs

later_askable : (P : Option Comparison → Type 0) (old new : List Node) (variables : List ℤ) (cs : List Condition) → Extends old new → AreAskable P old variables cs → AreAskable P new variables cs
later_askable P old new variables [] e h = tt
later_askable P old new variables (c ∷ cs) e h =
    let same : asks_for old variables c ≡ asks_for new variables c =
    ap (λ (z : ℤ). option_map (λ (relation : Relation). record { relation = relation; left = z; right = side_value old variables c.right }) (relation_of c.op)) (sym (later_side old new variables c.left e h.0.left))
    ∙ ap (λ (z : ℤ). option_map (λ (relation : Relation). record { relation = relation; left = side_value new variables c.left; right = z }) (relation_of c.op)) (sym (later_side old new variables c.right e h.0.right)) in
    (record { left = later_is_side old new c.left e h.0.left; right = later_is_side old new c.right e h.0.right; binary = h.0.binary }, subst P same h.1, later_askable P old new variables cs e h.2)

module _ (P : Option Comparison → Type 0) (variables : List ℤ) (c : Condition) (cs : List Condition) (state : State) where
  abbrev last : State
  last = all_asked (asked state c) cs

  grows : Grows (asked state c) last
  grows = all_asked_grows cs (asked state c)

  -- what the first condition adds, and what the others do
  both : AreAddedFrom P (asked state c).nodes variables (asked state c).when (length state.when) → AreAddedFrom P last.nodes variables last.when (length (asked state c).when)
      → AreAddedFrom P last.nodes variables last.when (length state.when)
  both first rest = λ i condition from at later e. go i condition from at later e (nat_lt i (length (asked state c).when)) refl where
    go : (i : ℕ) (condition : TermId × Bool) → length state.when ≤ i → slice_get last.when i ≡ Some condition → (later : List Node) → Extends last.nodes later
        → (b : Bool) → nat_lt i (length (asked state c).when) ≡ b → P (comparison_of later variables condition.0)
    go i condition from at later e true below =
        let inside : i < length (asked state c).when = ltb-true i (length (asked state c).when) below in
        let early : slice_get (asked state c).when i ≡ Some condition =
        ap (λ (l : List (TermId × Bool)). slice_get l i) (sym grows.conditions) ∙ slice_get-take (length (asked state c).when) last.when i inside ∙ at in
        first i condition from early later (Extends-trans (asked state c).nodes last.nodes later grows.terms e)
    go i condition from at later e false below = rest i condition (ltb-false i (length (asked state c).when) below) at later e

pub all_asked_adds : (P : Option Comparison → Type 0) (variables : List ℤ) (cs : List Condition) (state : State) → AreAskable P state.nodes variables cs
    → AreAddedFrom P (all_asked state cs).nodes variables (all_asked state cs).when (length state.when)
all_asked_adds P variables [] state h = none_added P state.nodes variables state.when
all_asked_adds P variables (c ∷ cs) state h =
    both P variables c cs state (asked_adds P variables state c h.0 h.1)
    (all_asked_adds P variables cs (asked state c) (later_askable P state.nodes (asked state c).nodes variables cs (asked_grows state c).terms h.2))
