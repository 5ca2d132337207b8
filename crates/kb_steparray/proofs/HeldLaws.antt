-- An input that meets what an alternative of an index or of a length asks for has all of it, where none of it was decided as
-- false. A length above the bound asks for two conditions, of which one is to be true and one is not: they are on two terms.
use Rattle.std.proofs.Common.{◌≡◌, ◌⊎◌, ℕ, zero, suc, ℤ, pos, Bool, true, false, List, [], ◌∷◌, Option, Some, None, refl, sym, ap, ◌∙◌, inl, inr, nat_lt}
use Rattle.std.proofs.lemmas.Bool.{or_parts}
use Rattle.kb_arith.specs.Word.{bits_of, word_ult}
use Rattle.kb_blast.specs.Meaning.{AreMetInPool}
use Rattle.kb_terms.specs.declared.op.Op.TheVariants.{Lt, Ult}
use Rattle.kb_terms.specs.declared.node.TermId.{TermId}
use Rattle.kb_terms.specs.declared.node.Node.{Node}
use Rattle.kb_terms.specs.declared.node.Node.TheVariants.{Const, Op as Apply}
use Rattle.kb_terms.specs.Terms.{Extends, IsPool, IsTerm, constant_at, constant_of, folded, interned, node_at}
use Rattle.kb_terms.proofs.Values.{Extends-refl, Extends-trans}
use Rattle.kb_picture.specs.declared.choice.Choice.{Choice}
use Rattle.kb_picture.specs.declared.choice.Choice.TheVariants.{Index, Outside, Negative, Size, TooLarge}
use Rattle.kb_numbered.specs.Conditions.{truth_among}
use Rattle.kb_frames.specs.Lent.{with_nodes}
use Rattle.kb_frames.specs.State.{State}
use Rattle.kb_frames.specs.Truths.{truth_in}
use Rattle.kb_ways.specs.declared.condition.Condition.{Condition}
use Rattle.kb_ways.specs.declared.condition.Side.TheVariants.{Term, Number}
use Rattle.kb_ways.specs.Asked.{all_asked, asked, asked_truth, interned_condition, is_against, is_refuted, less_sides}
use Rattle.kb_ways.specs.Choosing.{index_conditions, length_conditions}
use Rattle.kb_ways.specs.Needs.{AreSides}
use Rattle.kb_ways.proofs.AskedLaws.{asked_keeps, interned_is_term, later_node}
use Rattle.kb_ways.proofs.GrowLaws.{asked_grows, op_extends, side_extends}
use Rattle.kb_ways.proofs.OneAsked.{AllHold, AllSides, AreTermsOf, ConditionHolds, IsReady, IsTruth, asked_among, asked_holds, asked_ready, compared_later, sides_later_one}
use Rattle.kb_ways.proofs.OneDecided.{AreAlike, all_hold, all_open, decided_before, left_number, met_before, node_is, not_against, one_holds}
use Rattle.kb_ways.proofs.SideLaws.{above_sides, negative_sides}
use Rattle.kb_ways.proofs.TruthLaws.{eq_truth, lt_truth}
use Rattle.kb_ways.proofs.ValueLaws.{pool_ordered}
use Rattle.kb_steparray.proofs.ChoosingLaws.{index_sides, length_sides}

-- ---- what a comparison gives

ult_truth : IsTruth Ult
unfolding word_ult
ult_truth a b = (nat_lt (bits_of a) (bits_of b), refl)

-- ---- conditions of one truth

-- that which those of an index are to have, and those of a length but for one above the bound
abbrev index_truth : Choice → Bool
index_truth Outside = false
index_truth _ = true

index_alike : (x : TermId) (count : ℕ) (choice : Choice) → AreAlike (index_truth choice) (index_conditions x count choice)
index_alike x count (Index place) = (eq_truth, refl, tt)
index_alike x zero Outside = tt
index_alike x (suc n) Outside = (ult_truth, refl, tt)
index_alike x count _ = tt

module _ (old : State) (pool : IsPool old.nodes) (terms : AreTermsOf old.nodes old.when) (variables : List ℤ) (x : TermId) (is : IsTerm old.nodes x) where
  abbrev IsMet : State → Type 0
  IsMet state = AreMetInPool state.nodes variables state.when

  ready : IsReady old
  ready = record { ordered = pool_ordered old.nodes pool; terms = terms }

  pub index_held : (count : ℕ) (choice : Choice) → is_refuted old (index_conditions x count choice) ≡ false → IsMet (all_asked old (index_conditions x count choice))
      → AllHold old.nodes variables (index_conditions x count choice)
  index_held count choice kept met =
      let cs = index_conditions x count choice in
      all_hold old pool terms (index_truth choice) variables cs (pool_ordered old.nodes pool) (index_sides old.nodes x count choice is) (all_open old (index_truth choice) cs (index_alike x count choice) kept) met

  -- ---- a length above the bound

  module _ (most : ℕ) where
    abbrev first : Condition
    first = less_sides (Term x) (Number (pos 0)) false

    abbrev second : Condition
    second = less_sides (Number (pos most)) (Term x) true

    abbrev middle : State
    middle = asked old first

    first_side : AreSides old.nodes first
    first_side = negative_sides old.nodes x (pos 0) false is

    second_side : AreSides old.nodes second
    second_side = above_sides old.nodes x (pos most) true is

    grown : Extends old.nodes middle.nodes
    grown = (asked_grows old first).terms

    abbrev one_term : List Node × TermId
    one_term = interned_condition old.nodes first

    abbrev other_term : List Node × TermId
    other_term = interned_condition middle.nodes second

    -- a truth that is none of the earlier state is that of the first condition
    abbrev OfFirst : TermId → Bool → Type 0
    OfFirst t so = (t.0 ≡ one_term.1.0) × (so ≡ false)

    from_first : (t : TermId) (so : Bool) → truth_among middle.when t ≡ Some so → (truth_among old.when t ≡ Some so) ⊎ OfFirst t so
    from_first t so among = asked_among old first first_side ready t so among

    nothing_new : (t : TermId) (so : Bool) → truth_among old.when t ≡ Some so → (truth_among old.when t ≡ Some so) ⊎ (so ≡ false)
    nothing_new t so among = inl among

    -- the first comparison is of the length and 0
    first_node : node_at one_term.0 one_term.1 ≡ Some (folded Lt x (Some (interned old.nodes (Const (pos 0))).1) (constant_at old.nodes x) (Some (pos 0)))
    first_node = node_is old pool terms old (Extends-refl old.nodes) (λ t so. so ≡ false) nothing_new first first_side

    abbrev bound_term : List Node × TermId
    bound_term = interned middle.nodes (Const (pos most))

    bound_is : constant_at bound_term.0 bound_term.1 ≡ Some (pos most)
    bound_is = left_number old pool terms middle grown OfFirst from_first second second_side

    one_there : IsTerm one_term.0 one_term.1
    one_there = interned_is_term _ _

    one_middle : Extends one_term.0 middle.nodes
    one_middle = asked_keeps old first

    -- the second comparison is another one
    never : (so : Bool) → OfFirst other_term.1 so → node_at other_term.0 other_term.1 ≡ Some (Apply Lt bound_term.1 (Some x)) → ⊥
    never so of node = go (constant_at old.nodes x) refl first_node where
      one_other : Extends one_term.0 other_term.0
      one_other =
          Extends-trans one_term.0 middle.nodes other_term.0 one_middle
          (Extends-trans middle.nodes bound_term.0 other_term.0 (side_extends middle.nodes (Number (pos most))) (op_extends bound_term.0 Lt bound_term.1 (Some x)))

      same : node_at one_term.0 one_term.1 ≡ Some (Apply Lt bound_term.1 (Some x))
      same =
          sym (later_node one_term.0 other_term.0 one_term.1 one_other one_there)
          ∙ ap (λ (n : ℕ). node_at other_term.0 (record { 0 = n })) (sym of.0) ∙ node

      -- so the length would be the bound, a constant
      constant : x ≡ bound_term.1 → constant_at old.nodes x ≡ Some (pos most)
      constant e =
          sym (ap constant_of (later_node old.nodes bound_term.0 x (Extends-trans old.nodes middle.nodes bound_term.0 grown (side_extends middle.nodes (Number (pos most)))) is))
          ∙ ap (constant_at bound_term.0) e ∙ bound_is

      go : (k : Option ℤ) → constant_at old.nodes x ≡ k
          → node_at one_term.0 one_term.1 ≡ Some (folded Lt x (Some (interned old.nodes (Const (pos 0))).1) k (Some (pos 0))) → ⊥
      go (Some z) at here = (let both : Some (folded Lt x (Some (interned old.nodes (Const (pos 0))).1) (Some z) (Some (pos 0))) ≡ Some (Apply Lt bound_term.1 (Some x)) = sym here ∙ same in cc)
      go None at here =
          let both : Some (Apply Lt x (Some (interned old.nodes (Const (pos 0))).1)) ≡ Some (Apply Lt bound_term.1 (Some x)) = sym here ∙ same in
          let alike : x ≡ bound_term.1 = cc in
          let known : None ≡ Some (pos most) = sym at ∙ constant alike in
          cc

    above_held : is_refuted old (first ∷ second ∷ []) ≡ false → IsMet (all_asked old (first ∷ second ∷ [])) → AllHold old.nodes variables (first ∷ second ∷ [])
    above_held kept met =
        let one = or_parts (is_against (asked_truth old first) false) (is_refuted old (second ∷ [])) kept in
        let other = or_parts (is_against (asked_truth old second) true) false one.1 in
        let next : IsReady middle = asked_ready old first first_side ready in
        let first_met : IsMet middle = met_before middle (asked middle second) variables (asked_grows middle second) next.terms met in
        let holds : ConditionHolds middle.nodes variables second =
        asked_holds middle second (sides_later_one old.nodes middle.nodes second grown second_side) next variables lt_truth (wanted other.0) met in (
          one_holds old pool terms false variables first old (Extends-refl old.nodes) nothing_new ready first_side (record { is = lt_truth; same = refl; undecided = one.0 }) first_met,
          (sym (compared_later old.nodes middle.nodes variables second grown second_side) ∙ holds, tt),
        )
      where
        wanted : is_against (asked_truth old second) true ≡ false → (so : Bool) → truth_in (with_nodes middle other_term.0) other_term.1 ≡ Some so → so ≡ true
        wanted undecided so known = elim (decided_before old pool terms middle grown OfFirst from_first second second_side so known) [
          | inl before ↦ not_against so true (ap (λ (k : Option Bool). is_against k true) (sym before) ∙ undecided)
          | inr such ↦ absurd (never so such.0 such.1)
        ]

    -- conditions that are all to be true
    alike_held : (cs : List Condition) → AreAlike true cs → AllSides old.nodes cs → is_refuted old cs ≡ false → IsMet (all_asked old cs) → AllHold old.nodes variables cs
    alike_held cs alike sides kept met = all_hold old pool terms true variables cs (pool_ordered old.nodes pool) sides (all_open old true cs alike kept) met

    pub length_held : (choice : Choice) → is_refuted old (length_conditions x most choice) ≡ false → IsMet (all_asked old (length_conditions x most choice))
        → AllHold old.nodes variables (length_conditions x most choice)
    length_held TooLarge kept met = above_held kept met
    length_held Negative kept met = alike_held (length_conditions x most Negative) (lt_truth, refl, tt) (length_sides old.nodes x most Negative is) kept met
    length_held (Size count) kept met = alike_held (length_conditions x most (Size count)) (eq_truth, refl, tt) (length_sides old.nodes x most (Size count) is) kept met
    length_held _ kept met = tt
