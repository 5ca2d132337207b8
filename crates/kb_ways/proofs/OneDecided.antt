-- What a state decides of conditions before they are added, and so which alternatives are refuted: where none of an
-- alternative's is decided against what is asked for, an input meets them exactly where they all hold, and where they all hold
-- none is.
use Rattle.std.proofs.Common.{◌≡◌, ◌⊎◌, ℕ, ℤ, pos, Bool, true, false, not, List, [], ◌∷◌, length, take, Option, Some, None, refl, sym, ap, subst, ◌∙◌, inl, inr, true≢false, arith, int_eq, length-take}
use Rattle.std.specs.Option.{option_and_then}
use Rattle.std.proofs.lemmas.Bool.{or_from, or_parts}
use Rattle.kb_arith.specs.Word.{truth}
use Rattle.kb_blast.specs.Meaning.{AreMetInPool}
use Rattle.kb_terms.specs.declared.node.TermId.{TermId}
use Rattle.kb_terms.specs.declared.node.Node.{Node}
use Rattle.kb_terms.specs.declared.node.Node.TheVariants.{Const, Op as Apply}
use Rattle.kb_terms.specs.Op.{op_value}
use Rattle.kb_terms.specs.Terms.{IsTerm, IsSecond, AreOperands, IsPool, Extends, constant_at, constant_of, folded, interned, made_node, node_at, term_with, value_of}
use Rattle.kb_terms.proofs.Finding.{found, found_there}
use Rattle.kb_terms.proofs.Values.{Extends-refl, Extends-trans, value_of-constant, value_of-constant_at}
use Rattle.kb_frames.specs.State.{State}
use Rattle.kb_numbered.specs.Conditions.{truth_among}
use Rattle.kb_frames.specs.Truths.{decided, truth_in}
use Rattle.kb_frames.specs.Lent.{with_nodes}
use Rattle.kb_ways.specs.declared.condition.Side.{Side}
use Rattle.kb_ways.specs.declared.condition.Side.TheVariants.{Term, Number}
use Rattle.kb_ways.specs.declared.condition.Condition.{Condition}
use Rattle.kb_ways.specs.Asked.{number_of, term_of, known_value, comparison_with, asked_truth, is_against, is_refuted, interned_side, interned_condition, asked, all_asked}
use Rattle.kb_ways.specs.Needs.{IsSide, AreSides}
use Rattle.kb_ways.proofs.AskedLaws.{interned_node, interned_is_term, side_value, later_node}
use Rattle.kb_ways.proofs.GrowLaws.{Grows, side_extends, op_extends, asked_grows, all_asked_grows}
use Rattle.kb_ways.proofs.ValueLaws.{IsOrdered, operation_value}
use Rattle.kb_ways.proofs.OneAsked.{AreTermsOf, among_there, met_front, met_earlier, met_among, ConditionHolds, AllHold, AllSides, sides_later_one, sides_later, compared_later, hold_later, IsTruth, truth_not_0, IsReady, asked_ready, asked_met, asked_holds, asked_among}

-- ---- what is decided

number_same : (old mid new : List Node) (side : Side) → Extends old mid → Extends (interned_side mid side).0 new → IsSide old side → constant_at new (interned_side mid side).1 ≡ number_of old side
number_same old mid new (Term t) e f is = ap constant_of (later_node old new t (Extends-trans old mid new e f) is)
number_same old mid new (Number z) e f is =
    ap constant_of (later_node (interned mid (Const z)).0 new (interned mid (Const z)).1 f (interned_is_term mid (Const z)) ∙ interned_node mid (Const z))

term_same : (old mid new : List Node) (side : Side) → IsPool old → Extends old new → Extends (interned_side mid side).0 new → IsTerm old (interned_side mid side).1 → term_of old side ≡ Some (interned_side mid side).1
term_same old mid new (Term t) pool e f is = refl
term_same old mid new (Number z) pool e f is =
    let t = (interned mid (Const z)).1 in
    found_there old (Const z) t pool (sym (later_node old new t e is) ∙ later_node (interned mid (Const z)).0 new t f (interned_is_term mid (Const z)) ∙ interned_node mid (Const z))

-- each truth among the conditions of a later state is one of the earlier state, or such a one of its term
abbrev pub From : State → State → (TermId → Bool → Type 0) → Type 0
From old state P = (t : TermId) (so : Bool) → truth_among state.when t ≡ Some so → (truth_among old.when t ≡ Some so) ⊎ P t so

-- what a later state decides of a condition was decided in the earlier one, or it is such a truth of its term, which is no constant
module _ (old : State) (pool : IsPool old.nodes) (terms : AreTermsOf old.nodes old.when) (state : State) (e : Extends old.nodes state.nodes) (P : TermId → Bool → Type 0) (from : From old state P)
    (c : Condition) (are : AreSides old.nodes c) where
  abbrev one : List Node × TermId
  one = interned_side state.nodes c.left

  abbrev other : List Node × TermId
  other = interned_side one.0 c.right

  abbrev made : List Node × TermId
  made = interned_condition state.nodes c

  one_other : Extends one.0 other.0
  one_other = side_extends one.0 c.right

  other_made : Extends other.0 made.0
  other_made = op_extends other.0 c.op one.1 (Some other.1)

  old_one : Extends old.nodes one.0
  old_one = Extends-trans old.nodes state.nodes one.0 e (side_extends state.nodes c.left)

  old_other : Extends old.nodes other.0
  old_other = Extends-trans old.nodes one.0 other.0 old_one one_other

  old_made : Extends old.nodes made.0
  old_made = Extends-trans old.nodes other.0 made.0 old_other other_made

  pub left_number : constant_at other.0 one.1 ≡ number_of old.nodes c.left
  left_number = number_same old.nodes state.nodes other.0 c.left e one_other are.left

  right_number : constant_at other.0 other.1 ≡ number_of old.nodes c.right
  right_number = number_same old.nodes one.0 other.0 c.right old_one (Extends-refl other.0) are.right

  pub node_is : node_at made.0 made.1 ≡ Some (folded c.op one.1 (Some other.1) (number_of old.nodes c.left) (number_of old.nodes c.right))
  unfolding made_node
  node_is =
      interned_node other.0 (made_node other.0 c.op one.1 (Some other.1))
      ∙ ap (λ (k : Option ℤ). Some (folded c.op one.1 (Some other.1) k (constant_at other.0 other.1))) left_number
      ∙ ap (λ (k : Option ℤ). Some (folded c.op one.1 (Some other.1) (number_of old.nodes c.left) k)) right_number

  -- the term of a comparison that stands among the earlier conditions is found
  found_before : (so : Bool) → node_at made.0 made.1 ≡ Some (Apply c.op one.1 (Some other.1)) → truth_among old.when made.1 ≡ Some so
      → option_and_then (truth_among old.when) (comparison_with old.nodes c.op (term_of old.nodes c.left) (term_of old.nodes c.right)) ≡ Some so
  found_before so node among =
      let there : IsTerm old.nodes made.1 = among_there old.nodes old.when made.1 so terms among in
      let before : node_at old.nodes made.1 ≡ Some (Apply c.op one.1 (Some other.1)) = sym (later_node old.nodes made.0 made.1 old_made there) ∙ node in
      let operands : AreOperands (take made.1.0 old.nodes) c.op one.1 (Some other.1) = (pool.fits made.1.0 (Apply c.op one.1 (Some other.1)) before).0 in
      let second : IsTerm (take made.1.0 old.nodes) other.1 = subst (λ (x : Bool). IsSecond (take made.1.0 old.nodes) x (Some other.1)) are.binary operands.second in
      let first_there : IsTerm old.nodes one.1 = front_there old.nodes made.1.0 one.1 operands.first in
      let second_there : IsTerm old.nodes other.1 = front_there old.nodes made.1.0 other.1 second in
      let first_is : term_of old.nodes c.left ≡ Some one.1 = term_same old.nodes state.nodes one.0 c.left pool old_one (Extends-refl one.0) first_there in
      let second_is : term_of old.nodes c.right ≡ Some other.1 = term_same old.nodes one.0 other.0 c.right pool old_other (Extends-refl other.0) second_there in
      ap (λ (l : Option TermId). option_and_then (truth_among old.when) (comparison_with old.nodes c.op l (term_of old.nodes c.right))) first_is
      ∙ ap (λ (r : Option TermId). option_and_then (truth_among old.when) (comparison_with old.nodes c.op (Some one.1) r)) second_is
      ∙ ap (option_and_then (truth_among old.when)) (found_there old.nodes (Apply c.op one.1 (Some other.1)) made.1 pool before) ∙ among
    where
      front_there : (nodes : List Node) (n : ℕ) (t : TermId) → IsTerm (take n nodes) t → IsTerm nodes t
      front_there nodes n t is = omega (arith, is, length-take n nodes)

  -- the truth is one of those, of a comparison of two terms
  abbrev Such : Bool → Type 0
  Such so = P made.1 so × (node_at made.0 made.1 ≡ Some (Apply c.op one.1 (Some other.1)))

  pub decided_before : (so : Bool) → truth_in (with_nodes state made.0) made.1 ≡ Some so → (asked_truth old c ≡ Some so) ⊎ Such so
  decided_before so known = go (number_of old.nodes c.left) (number_of old.nodes c.right) node_is where
    -- where it is no constant
    open_one : node_at made.0 made.1 ≡ Some (Apply c.op one.1 (Some other.1))
        → (option_and_then (truth_among old.when) (comparison_with old.nodes c.op (term_of old.nodes c.left) (term_of old.nodes c.right)) ≡ Some so) ⊎ Such so
    open_one node =
        let none : constant_at made.0 made.1 ≡ None = ap constant_of node in
        let among : truth_among state.when made.1 ≡ Some so = ap (λ (k : Option ℤ). decided k (truth_among state.when made.1)) (sym none) ∙ known in
        elim (from made.1 so among) [ inl before ↦ inl (found_before so node before) | inr such ↦ inr (such, node) ]

    go : (k m : Option ℤ) → node_at made.0 made.1 ≡ Some (folded c.op one.1 (Some other.1) k m)
        → (decided (known_value c.op k m) (option_and_then (truth_among old.when) (comparison_with old.nodes c.op (term_of old.nodes c.left) (term_of old.nodes c.right))) ≡ Some so) ⊎ Such so
    go (Some x) (Some y) node =
        let constant : constant_at made.0 made.1 ≡ Some (op_value c.op x y) = ap constant_of node in
        inl (ap (λ (k : Option ℤ). decided k (truth_among state.when made.1)) (sym constant) ∙ known)
    go (Some x) None node = open_one node
    go None m node = open_one node

-- ---- all of them

pub all_ready : (cs : List Condition) (state : State) → AllSides state.nodes cs → IsReady state → IsReady (all_asked state cs)
all_ready [] state are ready = ready
all_ready (c ∷ cs) state are ready =
    all_ready cs (asked state c) (sides_later state.nodes (asked state c).nodes cs (asked_grows state c).terms are.1) (asked_ready state c are.0 ready)

-- where they all hold, they are met
pub all_met : (cs : List Condition) (state : State) (variables : List ℤ) → AllSides state.nodes cs → IsReady state → AllHold state.nodes variables cs
    → AreMetInPool state.nodes variables state.when → AreMetInPool (all_asked state cs).nodes variables (all_asked state cs).when
all_met [] state variables are ready hold met = met
all_met (c ∷ cs) state variables are ready hold met =
    let more = (asked_grows state c).terms in
    all_met cs (asked state c) variables (sides_later state.nodes (asked state c).nodes cs more are.1) (asked_ready state c are.0 ready)
    (hold_later state.nodes (asked state c).nodes variables cs more are.1 hold.1) (asked_met state c are.0 ready variables hold.0 met)

-- what is met at the end was met before
pub met_before : (old new : State) (variables : List ℤ) → Grows old new → AreTermsOf old.nodes old.when → AreMetInPool new.nodes variables new.when → AreMetInPool old.nodes variables old.when
met_before old new variables grows terms met =
    met_earlier old.nodes new.nodes variables old.when grows.terms terms
    (subst (AreMetInPool new.nodes variables) grows.conditions (met_front new.nodes variables (length old.when) new.when met))

-- a comparison that is to have this truth, and is not decided against it
pub record IsOpen (old : State) (b : Bool) (c : Condition) : Type 0 where
  pub is : IsTruth c.op
  pub same : c.truth ≡ b
  pub undecided : is_against (asked_truth old c) c.truth ≡ false

abbrev pub AllOpen : State → Bool → List Condition → Type 0
AllOpen old b [] = Unit {0}
AllOpen old b (c ∷ cs) = IsOpen old b c × AllOpen old b cs

pub not_against : (so wanted : Bool) → is_against (Some so) wanted ≡ false → so ≡ wanted
not_against true true e = refl
not_against false true e = absurd (true≢false e)
not_against true false e = absurd (true≢false e)
not_against false false e = refl

-- where they are met, they all hold
module _ (old : State) (pool : IsPool old.nodes) (terms : AreTermsOf old.nodes old.when) (b : Bool) (variables : List ℤ) where
  -- each truth that is added is this one
  abbrev pub IsThis : TermId → Bool → Type 0
  IsThis t so = so ≡ b

  pub one_holds : (c : Condition) (state : State) → Extends old.nodes state.nodes → From old state IsThis → IsReady state → AreSides old.nodes c → IsOpen old b c
      → AreMetInPool (asked state c).nodes variables (asked state c).when → ConditionHolds old.nodes variables c
  one_holds c state e from ready are is met =
      let sides : AreSides state.nodes c = sides_later_one old.nodes state.nodes c e are in
      sym (compared_later old.nodes state.nodes variables c e are) ∙ asked_holds state c sides ready variables is.is wanted met where
        wanted : (so : Bool) → truth_in (with_nodes state (interned_condition state.nodes c).0) (interned_condition state.nodes c).1 ≡ Some so → so ≡ c.truth
        wanted so known = elim (decided_before old pool terms state e IsThis from c are so known) [
          | inl before ↦ not_against so c.truth (ap (λ (k : Option Bool). is_against k c.truth) (sym before) ∙ is.undecided)
          | inr such ↦ such.0 ∙ sym is.same
        ]

  from_next : (c : Condition) (state : State) → IsReady state → AreSides state.nodes c → c.truth ≡ b → From old state IsThis → From old (asked state c) IsThis
  from_next c state ready are same from t so among = elim (asked_among state c are ready t so among) [ inl before ↦ from t so before | inr this ↦ inr (this.1 ∙ same) ]

  all_hold_from : (cs : List Condition) (state : State) → Extends old.nodes state.nodes → From old state IsThis → IsReady state → AllSides old.nodes cs → AllOpen old b cs
      → AreMetInPool (all_asked state cs).nodes variables (all_asked state cs).when → AllHold old.nodes variables cs
  all_hold_from [] state e from ready are is met = tt
  all_hold_from (c ∷ cs) state e from ready are is met =
      let sides : AreSides state.nodes c = sides_later_one old.nodes state.nodes c e are.0 in
      let next : IsReady (asked state c) = asked_ready state c sides ready in
      let more : Extends old.nodes (asked state c).nodes = Extends-trans old.nodes state.nodes (asked state c).nodes e (asked_grows state c).terms in
      let first : AreMetInPool (asked state c).nodes variables (asked state c).when =
      met_before (asked state c) (all_asked (asked state c) cs) variables (all_asked_grows cs (asked state c)) next.terms met in
      (one_holds c state e from ready are.0 is.0 first, all_hold_from cs (asked state c) more (from_next c state ready sides is.0.same from) next are.1 is.1 met)

  pub all_hold : (cs : List Condition) → IsOrdered old.nodes → AllSides old.nodes cs → AllOpen old b cs → AreMetInPool (all_asked old cs).nodes variables (all_asked old cs).when → AllHold old.nodes variables cs
  all_hold cs ordered are is met = all_hold_from cs old (Extends-refl old.nodes) (λ t so e. inl e) (record { ordered = ordered; terms = terms }) are is met

-- ---- what is refuted

-- what the comparison of each gives is a truth, and they all are to have this one
abbrev pub AreAlike : Bool → List Condition → Type 0
AreAlike b [] = Unit {0}
AreAlike b (c ∷ cs) = IsTruth c.op × (c.truth ≡ b) × AreAlike b cs

pub truth_same : (a b : Bool) → truth a ≡ truth b → a ≡ b
truth_same a b e = sym (truth_not_0 a) ∙ ap (λ (k : ℤ). not (int_eq k (pos 0))) e ∙ truth_not_0 b

not_against_itself : (so : Bool) → is_against (Some so) so ≡ false
not_against_itself true = refl
not_against_itself false = refl

-- a condition that holds is not decided against what is asked for
module _ (old : State) (ordered : IsOrdered old.nodes) (variables : List ℤ) (met : AreMetInPool old.nodes variables old.when) where
  side_of_number : (side : Side) (z : ℤ) → number_of old.nodes side ≡ Some z → side_value old.nodes variables side ≡ z
  side_of_number (Term t) z e = value_of-constant_at old.nodes t z variables e
  side_of_number (Number y) z e = (let same : y ≡ z = cc in same)

  side_of_term : (side : Side) (t : TermId) → term_of old.nodes side ≡ Some t → value_of old.nodes t variables ≡ side_value old.nodes variables side
  side_of_term (Term u) t e = (let same : u ≡ t = cc in ap (λ (x : TermId). value_of old.nodes x variables) (sym same))
  side_of_term (Number z) t e = value_of-constant old.nodes t z variables (found old.nodes (Const z) t e)

  module _ (c : Condition) (holds : ConditionHolds old.nodes variables c) where
    by_numbers : (a b : ℤ) → number_of old.nodes c.left ≡ Some a → number_of old.nodes c.right ≡ Some b → not (int_eq (op_value c.op a b) (pos 0)) ≡ c.truth
    by_numbers a b p q =
        let value : op_value c.op a b ≡ truth c.truth =
        ap (λ (z : ℤ). op_value c.op z b) (sym (side_of_number c.left a p)) ∙ ap (λ (z : ℤ). op_value c.op (side_value old.nodes variables c.left) z) (sym (side_of_number c.right b q)) ∙ holds in
        ap (λ (z : ℤ). not (int_eq z (pos 0))) value ∙ truth_not_0 c.truth

    by_term : (l r t : TermId) (so : Bool) → term_of old.nodes c.left ≡ Some l → term_of old.nodes c.right ≡ Some r → term_with old.nodes (Apply c.op l (Some r)) ≡ Some t
        → truth_among old.when t ≡ Some so → so ≡ c.truth
    by_term l r t so p q at among =
        let value : value_of old.nodes t variables ≡ truth c.truth =
        operation_value old.nodes t c.op l (Some r) variables ordered (found old.nodes (Apply c.op l (Some r)) t at)
        ∙ ap (λ (z : ℤ). op_value c.op z (value_of old.nodes r variables)) (side_of_term c.left l p)
        ∙ ap (λ (z : ℤ). op_value c.op (side_value old.nodes variables c.left) z) (side_of_term c.right r q) ∙ holds in
        truth_same so c.truth (sym (met_among old.nodes variables old.when t so met among) ∙ value)

    by_terms : (l r : Option TermId) (so : Bool) → term_of old.nodes c.left ≡ l → term_of old.nodes c.right ≡ r
        → option_and_then (truth_among old.when) (comparison_with old.nodes c.op l r) ≡ Some so → so ≡ c.truth
    by_terms None r so p q e = absurd cc
    by_terms (Some l) None so p q e = absurd cc
    by_terms (Some l) (Some r) so p q e = go (term_with old.nodes (Apply c.op l (Some r))) refl e where
      go : (t : Option TermId) → term_with old.nodes (Apply c.op l (Some r)) ≡ t → option_and_then (truth_among old.when) t ≡ Some so → so ≡ c.truth
      go None at e = absurd cc
      go (Some t) at e = by_term l r t so p q at e

    decided_so : (so : Bool) (a b : Option ℤ) → number_of old.nodes c.left ≡ a → number_of old.nodes c.right ≡ b
        → decided (known_value c.op a b) (option_and_then (truth_among old.when) (comparison_with old.nodes c.op (term_of old.nodes c.left) (term_of old.nodes c.right))) ≡ Some so → so ≡ c.truth
    decided_so so (Some a) (Some b) p q e =
        let known : not (int_eq (op_value c.op a b) (pos 0)) ≡ so = cc in
        sym known ∙ by_numbers a b p q
    decided_so so (Some a) None p q e = by_terms (term_of old.nodes c.left) (term_of old.nodes c.right) so refl refl e
    decided_so so None b p q e = by_terms (term_of old.nodes c.left) (term_of old.nodes c.right) so refl refl e

    not_refuted_one : is_against (asked_truth old c) c.truth ≡ false
    not_refuted_one = go (asked_truth old c) refl where
      go : (known : Option Bool) → asked_truth old c ≡ known → is_against known c.truth ≡ false
      go None e = refl
      go (Some so) e =
          let same : so ≡ c.truth = decided_so so (number_of old.nodes c.left) (number_of old.nodes c.right) refl refl e in
          ap (λ (b : Bool). is_against (Some b) c.truth) same ∙ not_against_itself c.truth

  pub not_refuted : (cs : List Condition) → AllHold old.nodes variables cs → is_refuted old cs ≡ false
  not_refuted [] hold = refl
  not_refuted (c ∷ cs) hold = or_from (is_against (asked_truth old c) c.truth) (is_refuted old cs) (not_refuted_one c hold.0) (not_refuted cs hold.1)

-- none of some that are not refuted is decided against what is asked for
pub all_open : (old : State) (b : Bool) (cs : List Condition) → AreAlike b cs → is_refuted old cs ≡ false → AllOpen old b cs
all_open old b [] are e = tt
all_open old b (c ∷ cs) are e =
    let parts = or_parts (is_against (asked_truth old c) c.truth) (is_refuted old cs) e in
    (record { is = are.0; same = are.1; undecided = parts.0 }, all_open old b cs are.2 parts.1)
