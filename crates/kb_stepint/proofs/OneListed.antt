-- Of the alternatives that an instruction lists exactly one has conditions that all hold, and which one that is.
use Rattle.std.proofs.Common.{◌≡◌, ℕ, suc, ◌+◌, ℤ, pos, ◌+ℤ◌, Bool, true, false, not, List, [], ◌∷◌, map, slice_get, Option, Some, None, refl, sym, ap, subst, ◌∙◌, inl, inr, if◌then◌else◌, is_some, true≢false, arith, int_eq}
use Rattle.std.specs.Prelude.{◌<ℤ◌, ◌≤ℤ◌, int_lt}
use Rattle.std.proofs.lemmas.Bool.{not-false, not-true, false_from_ne_true}
use Rattle.std.proofs.lemmas.Bool.Decides.{Decides-int_eq}
use Rattle.std.proofs.lemmas.Int.{ints}
use Rattle.kb_arith.specs.Word.{truth, word_eq, word_lt}
use Rattle.kb_code.specs.Listing.{IsAbove, IsIncreasing, whole_pair, HasRisingKeys}
use Rattle.kb_code.specs.declared.instruction.Cond.{Cond}
use Rattle.kb_code.specs.declared.instruction.Cond.TheVariants as conds
use Rattle.kb_code.specs.declared.instruction.Instr.{Instr}
use Rattle.kb_code.specs.declared.instruction.Instr.TheVariants as instrs
use Rattle.kb_code.specs.declared.instruction.IntOp.{IntOp}
use Rattle.kb_code.specs.declared.instruction.IntOp.TheVariants as ops
use Rattle.kb_semantics.specs.Comparisons.{holds, is_plain, table_keys}
use Rattle.kb_semantics.specs.Looks.{if_some}
use Rattle.kb_terms.specs.declared.op.Op.TheVariants.{Eq, Lt}
use Rattle.kb_terms.specs.declared.node.TermId.{TermId}
use Rattle.kb_terms.specs.declared.node.Node.{Node}
use Rattle.kb_terms.specs.Terms.{IsTerm, value_of}
use Rattle.kb_picture.specs.declared.choice.Choice.{Choice}
use Rattle.kb_picture.specs.declared.choice.Choice.TheVariants.{Branch, Key, Default, Zero, NotZero}
use Rattle.kb_picture.specs.Exactly.{NoneHas, ExactlyOneHas}
use Rattle.kb_frames.specs.declared.value.SymValue.{SymValue}
use Rattle.kb_ways.specs.declared.condition.Condition.{Condition}
use Rattle.kb_ways.specs.declared.condition.Side.{Side}
use Rattle.kb_ways.specs.declared.condition.Side.TheVariants.{Term, Number}
use Rattle.kb_ways.specs.Asked.{branch_condition, equal_sides}
use Rattle.kb_stepint.specs.Choices.{both_ways, keys_from, divisors, listed, branch_conditions, key_conditions, divisor_conditions, division_conditions, conditions_of}
use Rattle.kb_ways.specs.Advancing.{only}
use Rattle.kb_ways.specs.Needs.{IsSide}
use Rattle.kb_ways.specs.Operands.{an_int, two_ints}
use Rattle.kb_ways.proofs.AskedLaws.{side_value}
use Rattle.kb_ways.proofs.TruthLaws.{eq_truth, equal_so, lt_truth, so_equal}
use Rattle.kb_ways.proofs.OneAsked.{ConditionHolds, AllHold, AllSides, IsTruth}
use Rattle.kb_ways.proofs.SideLaws.{branch_sides, key_sides}
use Rattle.kb_ways.proofs.OneDecided.{AreAlike, truth_same}

-- ---- keys that rise

abbrev pub AreAbove : ℤ → List (ℤ × ℕ) → Type 0
AreAbove low keys = IsAbove low (map whole_pair keys)

abbrev pub AreRising : List (ℤ × ℕ) → Type 0
AreRising keys = IsIncreasing (map whole_pair keys)

pub rising_rest : (key : ℤ × ℕ) (keys : List (ℤ × ℕ)) → AreRising (key ∷ keys) → AreRising keys
rising_rest key [] rising = tt
rising_rest key (next ∷ keys) rising = rising.1

table_above : (low next : ℤ) (targets : List ℕ) → low <ℤ next → AreAbove low (table_keys next targets)
table_above low next [] less = tt
table_above low next (target ∷ targets) less = (less, table_above next (next +ℤ pos 1) targets (omega (arith, ints)))

pub table_rising : (low : ℤ) (targets : List ℕ) → AreRising (table_keys low targets)
table_rising low [] = tt
table_rising low (target ∷ targets) = table_above low (low +ℤ pos 1) targets (omega (arith, ints))

-- no key is the int
abbrev pub IsNoKey : ℤ → List (ℤ × ℕ) → Type 0
IsNoKey z [] = Unit {0}
IsNoKey z (key ∷ keys) = (int_eq z key.0 ≡ false) × IsNoKey z keys

above_none : (z low : ℤ) (keys : List (ℤ × ℕ)) → z ≤ℤ low → AreAbove low keys → IsNoKey z keys
above_none z low [] le above = tt
above_none z low (key ∷ keys) le above =
    let less : z <ℤ key.0 = omega (arith, ints, le, above.0) in
    (false_from_ne_true (int_eq z key.0) (λ e. apart ((Decides-int_eq z key.0).0 e) less), above_none z key.0 keys (omega (arith, ints, less)) above.1)
  where
    apart : z ≡ key.0 → z <ℤ key.0 → ⊥
    apart e l = omega (arith, ints, e, l)

-- a key that the int is stands once
pub rising_none : (z : ℤ) (key : ℤ × ℕ) (keys : List (ℤ × ℕ)) → int_eq z key.0 ≡ true → AreRising (key ∷ keys) → IsNoKey z keys
rising_none z key keys e rising =
    let same : z ≡ key.0 = (Decides-int_eq z key.0).0 e in
    above_none z key.0 keys (omega (arith, ints, same)) rising

-- ---- one of two

two_ways : (P : Choice → List ℤ → Type 0) (values : List ℤ) (a b : Choice) (v : Bool) → (v ≡ false → P a values) → (v ≡ false → P b values → ⊥) → (v ≡ true → P b values)
    → (v ≡ true → P a values → ⊥) → ExactlyOneHas P (a ∷ b ∷ []) values
two_ways P values a b false p q r s = inl (p refl, (q refl, tt))
two_ways P values a b true p q r s = inr (s refl, inl (r refl, tt))

not_not : (b : Bool) → not (not b) ≡ b
not_not true = refl
not_not false = refl

module _ (nodes : List Node) (variables : List ℤ) where
  abbrev W : Side → ℤ
  W side = side_value nodes variables side

  -- ---- branches

  -- the condition of a branch holds exactly where the machine's does, or does not
  pub branch_so : (cond : Cond) (a b : Side) (so : Bool) → ConditionHolds nodes variables (branch_condition cond a b so) → holds cond (W a) (W b) ≡ so
  unfolding word_eq word_lt
  branch_so conds.Eq a b so h = truth_same (int_eq (W a) (W b)) so h
  branch_so conds.Ne a b so h = ap not (truth_same (int_eq (W a) (W b)) (not so) h) ∙ not_not so
  branch_so conds.Lt a b so h = truth_same (int_lt (W a) (W b)) so h
  branch_so conds.Ge a b so h = ap not (truth_same (int_lt (W a) (W b)) (not so) h) ∙ not_not so
  branch_so conds.Gt a b so h = truth_same (int_lt (W b) (W a)) so h
  branch_so conds.Le a b so h = ap not (truth_same (int_lt (W b) (W a)) (not so) h) ∙ not_not so

  so_branch : (cond : Cond) (a b : Side) (so : Bool) → holds cond (W a) (W b) ≡ so → ConditionHolds nodes variables (branch_condition cond a b so)
  unfolding word_eq word_lt
  so_branch conds.Eq a b so e = ap truth e
  so_branch conds.Ne a b so e = ap truth (sym (not_not (int_eq (W a) (W b))) ∙ ap not e)
  so_branch conds.Lt a b so e = ap truth e
  so_branch conds.Ge a b so e = ap truth (sym (not_not (int_lt (W a) (W b))) ∙ ap not e)
  so_branch conds.Gt a b so e = ap truth e
  so_branch conds.Le a b so e = ap truth (sym (not_not (int_lt (W b) (W a))) ∙ ap not e)

  branch_one : (cond : Cond) (a b : Side) → ExactlyOneHas (λ (choice : Choice) (values : List ℤ). AllHold nodes values (branch_conditions cond a b choice)) both_ways variables
  branch_one cond a b =
      two_ways (λ (choice : Choice) (values : List ℤ). AllHold nodes values (branch_conditions cond a b choice)) variables (Branch false) (Branch true) (holds cond (W a) (W b))
      (λ e. (so_branch cond a b false e, tt)) (λ e h. true≢false (sym (branch_so cond a b true h.0) ∙ e))
      (λ e. (so_branch cond a b true e, tt)) (λ e h. true≢false (sym e ∙ branch_so cond a b false h.0))

  -- ---- equalities

  abbrev is_zero : TermId → Bool
  is_zero x = int_eq (value_of nodes x variables) (pos 0)

  divisor_one : (x : TermId) → ExactlyOneHas (λ (choice : Choice) (values : List ℤ). AllHold nodes values (divisor_conditions x choice)) (Zero ∷ NotZero ∷ []) variables
  divisor_one x =
      two_ways (λ (choice : Choice) (values : List ℤ). AllHold nodes values (divisor_conditions x choice)) variables Zero NotZero (not (is_zero x))
      (λ e. (so_equal nodes variables x (pos 0) true (not-false (is_zero x) e), tt)) (λ e h. true≢false (sym (not-false (is_zero x) e) ∙ equal_so nodes variables x (pos 0) false h.0))
      (λ e. (so_equal nodes variables x (pos 0) false (not-true (is_zero x) e), tt)) (λ e h. true≢false (sym (equal_so nodes variables x (pos 0) true h.0) ∙ not-true (is_zero x) e))

  division_one : (op : IntOp) (x : TermId) → ExactlyOneHas (λ (choice : Choice) (values : List ℤ). AllHold nodes values (division_conditions op x choice)) (divisors op) variables
  division_one ops.Div x = divisor_one x
  division_one ops.Rem x = divisor_one x
  division_one _ x = inl (tt, tt)

  -- ---- switches

  module _ (x : TermId) (all : List (ℤ × ℕ)) where
    abbrev FitsAt : Choice → List ℤ → Type 0
    FitsAt choice values = AllHold nodes values (key_conditions x all choice)

    abbrev Fits : Choice → Type 0
    Fits choice = FitsAt choice variables

    abbrev z : ℤ
    z = value_of nodes x variables

    none_hold : (keys : List (ℤ × ℕ)) → IsNoKey z keys → AllHold nodes variables (map (λ (key : ℤ × ℕ). equal_sides (Term x) (Number key.0) false) keys)
    none_hold [] none = tt
    none_hold (key ∷ keys) none = (so_equal nodes variables x key.0 false none.0, none_hold keys none.1)

    hold_none : (keys : List (ℤ × ℕ)) → AllHold nodes variables (map (λ (key : ℤ × ℕ). equal_sides (Term x) (Number key.0) false) keys) → IsNoKey z keys
    hold_none [] hold = tt
    hold_none (key ∷ keys) hold = (equal_so nodes variables x key.0 false hold.0, hold_none keys hold.1)

    pub default_none : Fits Default → IsNoKey z all
    default_none fits = hold_none all fits

    abbrev AtKey : Option (ℤ × ℕ) → Type 0
    AtKey found = AllHold nodes variables (if_some found (λ (k : ℤ × ℕ). equal_sides (Term x) (Number k.0) true ∷ []))

    key_fits : (place : ℕ) (key : ℤ × ℕ) → slice_get all place ≡ Some key → int_eq z key.0 ≡ true → Fits (Key place)
    key_fits place key at e = subst AtKey (sym at) (so_equal nodes variables x key.0 true e, tt)

    pub fits_key : (place : ℕ) (key : ℤ × ℕ) → slice_get all place ≡ Some key → Fits (Key place) → int_eq z key.0 ≡ true
    fits_key place key at fits = (let h : AtKey (Some key) = subst AtKey at fits in equal_so nodes variables x key.0 true h.0)

    -- these are the keys from that place on
    abbrev AreAt : ℕ → List (ℤ × ℕ) → Type 0
    AreAt place keys = (i n : ℕ) (key : ℤ × ℕ) → slice_get keys i ≡ Some key → n ≡ place + i → slice_get all n ≡ Some key

    next_at : (place : ℕ) (key : ℤ × ℕ) (keys : List (ℤ × ℕ)) → AreAt place (key ∷ keys) → AreAt (place + 1) keys
    next_at place key keys at i n k e same = at (suc i) n k e (omega (arith, same))

    first_at : (place : ℕ) (key : ℤ × ℕ) (keys : List (ℤ × ℕ)) → AreAt place (key ∷ keys) → slice_get all place ≡ Some key
    first_at place key keys at = at 0 place key refl (omega arith)

    none_of : (place : ℕ) (keys : List (ℤ × ℕ)) → AreAt place keys → IsNoKey z keys → (Fits Default → ⊥) → NoneHas FitsAt (keys_from place keys) variables
    none_of place [] at none never = (never, tt)
    none_of place (key ∷ keys) at none never =
        ((λ fits. true≢false (sym (fits_key place key (first_at place key keys at) fits) ∙ none.0)), none_of (place + 1) keys (next_at place key keys at) none.1 never)

    one_of : (place : ℕ) (keys : List (ℤ × ℕ)) → AreAt place keys → AreRising keys → (IsNoKey z keys → Fits Default) → (Fits Default → IsNoKey z keys)
        → ExactlyOneHas FitsAt (keys_from place keys) variables
    one_of place [] at rising gives has = inl (gives tt, tt)
    one_of place (key ∷ keys) at rising gives has =
        go (one_of (place + 1) keys (next_at place key keys at) (rising_rest key keys rising)) (int_eq z key.0) refl
      where
        go : ((IsNoKey z keys → Fits Default) → (Fits Default → IsNoKey z keys) → ExactlyOneHas FitsAt (keys_from (place + 1) keys) variables)
            → (b : Bool) → int_eq z key.0 ≡ b → ExactlyOneHas FitsAt (keys_from place (key ∷ keys)) variables
        go later true e =
            inl (key_fits place key (first_at place key keys at) e, none_of (place + 1) keys (next_at place key keys at) (rising_none z key keys e rising) (λ fits. true≢false (sym e ∙ (has fits).0)))
        go later false e =
            inr ((λ fits. true≢false (sym (fits_key place key (first_at place key keys at) fits) ∙ e)), later (λ none. gives (e, none)) (λ fits. (has fits).1))

    keys_one : AreRising all → ExactlyOneHas FitsAt (keys_from 0 all) variables
    keys_one rising = one_of 0 all whole rising (λ none. none_hold all none) (λ fits. hold_none all fits) where
      whole : AreAt 0 all
      whole i n key e same = ap (slice_get all) (let number : n ≡ i = omega (arith, same) in number) ∙ e

  -- ---- instructions

  pub listed_one : (instr : Instr) (stack : List SymValue) → HasRisingKeys instr → ExactlyOneHas (λ (choice : Choice) (values : List ℤ). AllHold nodes values (conditions_of instr stack choice)) (listed instr stack) variables
  listed_one (instrs.IfInt cond target) stack rising = go (an_int stack) where
    go : (it : Option TermId) → ExactlyOneHas (λ (choice : Choice) (values : List ℤ). AllHold nodes values (if_some it (λ x. branch_conditions cond (Term x) (Number (pos 0)) choice))) (if is_some it then both_ways else only) variables
    go None = inl (tt, tt)
    go (Some x) = branch_one cond (Term x) (Number (pos 0))
  listed_one (instrs.IfPair cond target) stack rising = go (two_ints stack) where
    go : (it : Option (TermId × TermId)) → ExactlyOneHas (λ (choice : Choice) (values : List ℤ). AllHold nodes values (if_some it (λ t. branch_conditions cond (Term t.0) (Term t.1) choice))) (if is_some it then both_ways else only) variables
    go None = inl (tt, tt)
    go (Some t) = branch_one cond (Term t.0) (Term t.1)
  listed_one (instrs.Table low default targets) stack rising = go (an_int stack) where
    go : (it : Option TermId) → ExactlyOneHas (λ (choice : Choice) (values : List ℤ). AllHold nodes values (if_some it (λ x. key_conditions x (table_keys low targets) choice))) (if is_some it then keys_from 0 (table_keys low targets) else only) variables
    go None = inl (tt, tt)
    go (Some x) = keys_one x (table_keys low targets) (table_rising low targets)
  listed_one (instrs.Lookup default keys) stack rising = go (an_int stack) where
    go : (it : Option TermId) → ExactlyOneHas (λ (choice : Choice) (values : List ℤ). AllHold nodes values (if_some it (λ x. key_conditions x keys choice))) (if is_some it then keys_from 0 keys else only) variables
    go None = inl (tt, tt)
    go (Some x) = keys_one x keys rising
  listed_one (instrs.Int2 op) stack rising = go (two_ints stack) where
    go : (it : Option (TermId × TermId)) → ExactlyOneHas (λ (choice : Choice) (values : List ℤ). AllHold nodes values (if_some it (λ t. division_conditions op t.1 choice))) (if is_some it then divisors op else only) variables
    go None = inl (tt, tt)
    go (Some t) = division_one op t.1
  listed_one _ stack rising = inl (tt, tt)

-- ---- what the conditions of an alternative have in common

branch_alike : (cond : Cond) (a b : Side) (so : Bool) → AreAlike (is_plain cond so) (branch_condition cond a b so ∷ [])
branch_alike conds.Eq a b so = (eq_truth, refl, tt)
branch_alike conds.Ne a b so = (eq_truth, refl, tt)
branch_alike conds.Lt a b so = (lt_truth, refl, tt)
branch_alike conds.Ge a b so = (lt_truth, refl, tt)
branch_alike conds.Gt a b so = (lt_truth, refl, tt)
branch_alike conds.Le a b so = (lt_truth, refl, tt)

default_alike : (x : TermId) (keys : List (ℤ × ℕ)) → AreAlike false (map (λ (key : ℤ × ℕ). equal_sides (Term x) (Number key.0) false) keys)
default_alike x [] = tt
default_alike x (key ∷ keys) = (eq_truth, refl, default_alike x keys)

-- the truth that they all are to have
abbrev pub wanted_of : Instr → Choice → Bool
wanted_of (instrs.IfInt cond target) (Branch so) = is_plain cond so
wanted_of (instrs.IfPair cond target) (Branch so) = is_plain cond so
wanted_of instr (Key place) = true
wanted_of instr Zero = true
wanted_of instr _ = false

branches_alike : (cond : Cond) (a b : Side) (choice : Choice) (instr : Instr) → ((so : Bool) → wanted_of instr (Branch so) ≡ is_plain cond so) → AreAlike (wanted_of instr choice) (branch_conditions cond a b choice)
branches_alike cond a b (Branch so) instr e = subst (λ (w : Bool). AreAlike w (branch_condition cond a b so ∷ [])) (sym (e so)) (branch_alike cond a b so)
branches_alike cond a b _ instr e = tt

keys_alike : (x : TermId) (keys : List (ℤ × ℕ)) (choice : Choice) (instr : Instr) → ((place : ℕ) → wanted_of instr (Key place) ≡ true) → (wanted_of instr Default ≡ false)
    → AreAlike (wanted_of instr choice) (key_conditions x keys choice)
keys_alike x keys (Key place) instr e f = subst (λ (w : Bool). AreAlike w (key_conditions x keys (Key place))) (sym (e place)) (go (slice_get keys place)) where
  go : (found : Option (ℤ × ℕ)) → AreAlike true (if_some found (λ (key : ℤ × ℕ). equal_sides (Term x) (Number key.0) true ∷ []))
  go None = tt
  go (Some key) = (eq_truth, refl, tt)
keys_alike x keys Default instr e f = subst (λ (w : Bool). AreAlike w (key_conditions x keys Default)) (sym f) (default_alike x keys)
keys_alike x keys _ instr e f = tt

divisor_alike : (x : TermId) (choice : Choice) (instr : Instr) → (wanted_of instr Zero ≡ true) → (wanted_of instr NotZero ≡ false) → AreAlike (wanted_of instr choice) (divisor_conditions x choice)
divisor_alike x Zero instr e f = subst (λ (w : Bool). AreAlike w (divisor_conditions x Zero)) (sym e) (eq_truth, refl, tt)
divisor_alike x NotZero instr e f = subst (λ (w : Bool). AreAlike w (divisor_conditions x NotZero)) (sym f) (eq_truth, refl, tt)
divisor_alike x _ instr e f = tt

division_alike : (op : IntOp) (x : TermId) (choice : Choice) → AreAlike (wanted_of (instrs.Int2 op) choice) (division_conditions op x choice)
division_alike ops.Div x choice = divisor_alike x choice (instrs.Int2 ops.Div) refl refl
division_alike ops.Rem x choice = divisor_alike x choice (instrs.Int2 ops.Rem) refl refl
division_alike _ x choice = tt

some_alike : {A : Type 0} (b : Bool) (it : Option A) (f : A → List Condition) → ((x : A) → AreAlike b (f x)) → AreAlike b (if_some it f)
some_alike b None f h = tt
some_alike b (Some x) f h = h x

pub conditions_alike : (instr : Instr) (stack : List SymValue) (choice : Choice) → AreAlike (wanted_of instr choice) (conditions_of instr stack choice)
conditions_alike (instrs.IfInt cond target) stack choice =
    some_alike (wanted_of (instrs.IfInt cond target) choice) (an_int stack) (λ x. branch_conditions cond (Term x) (Number (pos 0)) choice)
    (λ x. branches_alike cond (Term x) (Number (pos 0)) choice (instrs.IfInt cond target) (λ so. refl))
conditions_alike (instrs.IfPair cond target) stack choice =
    some_alike (wanted_of (instrs.IfPair cond target) choice) (two_ints stack) (λ t. branch_conditions cond (Term t.0) (Term t.1) choice)
    (λ t. branches_alike cond (Term t.0) (Term t.1) choice (instrs.IfPair cond target) (λ so. refl))
conditions_alike (instrs.Table low default targets) stack choice =
    some_alike (wanted_of (instrs.Table low default targets) choice) (an_int stack) (λ x. key_conditions x (table_keys low targets) choice)
    (λ x. keys_alike x (table_keys low targets) choice (instrs.Table low default targets) (λ place. refl) refl)
conditions_alike (instrs.Lookup default keys) stack choice =
    some_alike (wanted_of (instrs.Lookup default keys) choice) (an_int stack) (λ x. key_conditions x keys choice)
    (λ x. keys_alike x keys choice (instrs.Lookup default keys) (λ place. refl) refl)
conditions_alike (instrs.Int2 op) stack choice =
    some_alike (wanted_of (instrs.Int2 op) choice) (two_ints stack) (λ t. division_conditions op t.1 choice) (λ t. division_alike op t.1 choice)
conditions_alike _ stack choice = tt

-- ---- their sides are terms

module _ (nodes : List Node) where
  branches_sides : (cond : Cond) (a b : Side) (choice : Choice) → IsSide nodes a → IsSide nodes b → AllSides nodes (branch_conditions cond a b choice)
  branches_sides cond a b (Branch so) p q = (branch_sides nodes cond a b so p q, tt)
  branches_sides cond a b _ p q = tt

  default_sides : (x : TermId) (keys : List (ℤ × ℕ)) → IsTerm nodes x → AllSides nodes (map (λ (key : ℤ × ℕ). equal_sides (Term x) (Number key.0) false) keys)
  default_sides x [] is = tt
  default_sides x (key ∷ keys) is = (key_sides nodes x key.0 false is, default_sides x keys is)

  some_sides : {A : Type 0} (it : Option A) (f : A → List Condition) → ((x : A) → it ≡ Some x → AllSides nodes (f x)) → AllSides nodes (if_some it f)
  some_sides None f h = tt
  some_sides (Some x) f h = h x refl

  keys_sides : (x : TermId) (keys : List (ℤ × ℕ)) (choice : Choice) → IsTerm nodes x → AllSides nodes (key_conditions x keys choice)
  keys_sides x keys (Key place) is = some_sides (slice_get keys place) (λ (key : ℤ × ℕ). equal_sides (Term x) (Number key.0) true ∷ []) (λ key e. (key_sides nodes x key.0 true is, tt))
  keys_sides x keys Default is = default_sides x keys is
  keys_sides x keys _ is = tt

  divisor_sides : (x : TermId) (choice : Choice) → IsTerm nodes x → AllSides nodes (divisor_conditions x choice)
  divisor_sides x Zero is = (key_sides nodes x (pos 0) true is, tt)
  divisor_sides x NotZero is = (key_sides nodes x (pos 0) false is, tt)
  divisor_sides x _ is = tt

  division_sides : (op : IntOp) (x : TermId) (choice : Choice) → IsTerm nodes x → AllSides nodes (division_conditions op x choice)
  division_sides ops.Div x choice is = divisor_sides x choice is
  division_sides ops.Rem x choice is = divisor_sides x choice is
  division_sides _ x choice is = tt

  -- where the ints of the stack are
  module _ (stack : List SymValue) (one : (x : TermId) → an_int stack ≡ Some x → IsTerm nodes x) (two : (p : TermId × TermId) → two_ints stack ≡ Some p → IsTerm nodes p.0 × IsTerm nodes p.1) where
    pub conditions_sides : (instr : Instr) (choice : Choice) → AllSides nodes (conditions_of instr stack choice)
    conditions_sides (instrs.IfInt cond target) choice = some_sides (an_int stack) (λ x. branch_conditions cond (Term x) (Number (pos 0)) choice) (λ x e. branches_sides cond (Term x) (Number (pos 0)) choice (one x e) tt)
    conditions_sides (instrs.IfPair cond target) choice =
        some_sides (two_ints stack) (λ t. branch_conditions cond (Term t.0) (Term t.1) choice) (λ t e. branches_sides cond (Term t.0) (Term t.1) choice (two t e).0 (two t e).1)
    conditions_sides (instrs.Table low default targets) choice = some_sides (an_int stack) (λ x. key_conditions x (table_keys low targets) choice) (λ x e. keys_sides x (table_keys low targets) choice (one x e))
    conditions_sides (instrs.Lookup default keys) choice = some_sides (an_int stack) (λ x. key_conditions x keys choice) (λ x e. keys_sides x keys choice (one x e))
    conditions_sides (instrs.Int2 op) choice = some_sides (two_ints stack) (λ t. division_conditions op t.1 choice) (λ t e. division_sides op t.1 choice (two t e).1)
    conditions_sides _ choice = tt
