-- What the alternatives of an index and of a length ask of the value of a term: each value has exactly one alternative of which
-- all conditions hold, and each condition is on a comparison that the machine makes.
use Rattle.std.proofs.Common.{◌≡◌, ◌⊎◌, ℕ, zero, suc, ◌-◌, ◌^◌, ◌<◌, ◌≤◌, ℤ, pos, negsuc, w32, FitsSigned, Bool, true, false, List, [], ◌∷◌, ◌++◌, length, map, nat_lt, Option, Some, None, refl, sym, ap, subst, ◌∙◌, inl, inr, is_some, true≢false, arith, ltb-true, ltb-false, le-ltb, lt-ltb}
use Rattle.std.specs.Prelude.{int_lt}
use Rattle.std.proofs.lemmas.Bool.Decides.{Decides-int_eq}
use Rattle.std.proofs.lemmas.List.{map-append}
use Rattle.kb_arith.specs.Word.{bits_of, truth, word_lt, word_ult}
use Rattle.kb_classes.specs.Options.{only_where}
use Rattle.kb_class.proofs.Lists.{has_cases, has_either, has_first, has_later, has_left, has_mapped, has_none, has_right, map_has}
use Rattle.kb_class.specs.Naming.{Has}
use Rattle.kb_semantics.specs.Comparisons.{Comparison, equal, less, less_unsigned}
use Rattle.kb_semantics.specs.Config.{Setting}
use Rattle.kb_semantics.specs.Instructions.{Elements, place_in_array}
use Rattle.kb_semantics.specs.Looks.{compared_index, compared_length, numbers_below}
use Rattle.kb_terms.specs.declared.node.TermId.{TermId}
use Rattle.kb_terms.specs.declared.node.Node.{Node}
use Rattle.kb_terms.specs.Terms.{IsTerm, value_of}
use Rattle.kb_picture.specs.declared.choice.Choice.{Choice}
use Rattle.kb_picture.specs.declared.choice.Choice.TheVariants.{Index, Outside, Negative, Size, TooLarge}
use Rattle.kb_picture.specs.Exactly.{NoneHas, ExactlyOneHas}
use Rattle.kb_ways.specs.declared.condition.Side.TheVariants.{Term, Number}
use Rattle.kb_ways.specs.Asked.{less_sides, unsigned_sides}
use Rattle.kb_ways.specs.Choosing.{index_choices, index_conditions, length_choices, length_conditions, outside_conditions}
use Rattle.kb_ways.proofs.AskedLaws.{AreAskable}
use Rattle.kb_ways.proofs.OneAsked.{AllHold, AllSides, ConditionHolds}
use Rattle.kb_ways.proofs.OneDecided.{truth_same}
use Rattle.kb_ways.proofs.SideLaws.{above_sides, below_sides, key_sides, negative_sides}
use Rattle.kb_ways.proofs.SoundLaws.{below}
use Rattle.kb_ways.proofs.TruthLaws.{equal_so, so_equal}

-- ---- one of two lists

module _ {A B : Type 0} (P : A → B → Type 0) (values : B) where
  pub none_both : (xs ys : List A) → NoneHas P xs values → NoneHas P ys values → NoneHas P (xs ++ ys) values
  none_both [] ys none other = other
  none_both (x ∷ xs) ys none other = (none.0, none_both xs ys none.1 other)

  pub one_front : (xs ys : List A) → ExactlyOneHas P xs values → NoneHas P ys values → ExactlyOneHas P (xs ++ ys) values
  one_front [] ys one none = absurd one
  one_front (x ∷ xs) ys one none = elim one [
    | inl here ↦ inl (here.0, none_both xs ys here.1 none)
    | inr later ↦ inr (later.0, one_front xs ys later.1 none)
  ]

  pub one_back : (xs ys : List A) → NoneHas P xs values → ExactlyOneHas P ys values → ExactlyOneHas P (xs ++ ys) values
  one_back [] ys none one = one
  one_back (x ∷ xs) ys none one = inr (none.0, one_back xs ys none.1 one)

  -- of numbers below one
  module _ (f : ℕ → A) where
    numbers_next : (n : ℕ) → map f (numbers_below (suc n)) ≡ map f (numbers_below n) ++ f n ∷ []
    numbers_next n = map-append f (numbers_below n) (n ∷ [])

    pub no_number : (n : ℕ) → ((i : ℕ) → i < n → P (f i) values → ⊥) → NoneHas P (map f (numbers_below n)) values
    no_number zero none = tt
    no_number (suc n) none =
        subst (λ (l : List A). NoneHas P l values) (sym (numbers_next n))
        (none_both (map f (numbers_below n)) (f n ∷ []) (no_number n (λ i inside. none i (omega (arith, inside)))) (none n (omega arith), tt))

    pub one_number : (n k : ℕ) → k < n → P (f k) values → ((i : ℕ) → P (f i) values → i ≡ k) → ExactlyOneHas P (map f (numbers_below n)) values
    one_number zero k inside has only = absurd (omega (arith, inside))
    one_number (suc n) k inside has only =
        subst (λ (l : List A). ExactlyOneHas P l values) (sym (numbers_next n)) (go (λ less. one_number n k less has only) (nat_lt k n) refl)
      where
        apart : {i j : ℕ} → i < j → j ≡ i → ⊥
        apart less same = omega (arith, less, same)

        go : (k < n → ExactlyOneHas P (map f (numbers_below n)) values) → (b : Bool) → nat_lt k n ≡ b → ExactlyOneHas P (map f (numbers_below n) ++ f n ∷ []) values
        go earlier true e =
            let less : k < n = ltb-true k n e in
            one_front (map f (numbers_below n)) (f n ∷ []) (earlier less) ((λ last. apart less (only n last)), tt)
        go earlier false e =
            let last : k ≡ n = (let at_least = ltb-false k n e in omega (arith, at_least, inside)) in
            one_back (map f (numbers_below n)) (f n ∷ []) (no_number n (λ i below has_it. apart (subst (λ (m : ℕ). i < m) (sym last) below) (sym (only i has_it))))
            (inl (subst (λ (m : ℕ). P (f m) values) last has, tt))

-- ---- what a condition says

module _ (nodes : List Node) (variables : List ℤ) where
  abbrev V : TermId → ℤ
  V x = value_of nodes x variables

  less_so : (x : TermId) (z : ℤ) (so : Bool) → ConditionHolds nodes variables (less_sides (Term x) (Number z) so) → int_lt (V x) z ≡ so
  unfolding word_lt
  less_so x z so h = truth_same (int_lt (V x) z) so h

  so_less : (x : TermId) (z : ℤ) (so : Bool) → int_lt (V x) z ≡ so → ConditionHolds nodes variables (less_sides (Term x) (Number z) so)
  unfolding word_lt
  so_less x z so e = ap truth e

  above_so : (x : TermId) (z : ℤ) (so : Bool) → ConditionHolds nodes variables (less_sides (Number z) (Term x) so) → int_lt z (V x) ≡ so
  unfolding word_lt
  above_so x z so h = truth_same (int_lt z (V x)) so h

  so_above : (x : TermId) (z : ℤ) (so : Bool) → int_lt z (V x) ≡ so → ConditionHolds nodes variables (less_sides (Number z) (Term x) so)
  unfolding word_lt
  so_above x z so e = ap truth e

  unsigned_so : (x : TermId) (z : ℤ) (so : Bool) → ConditionHolds nodes variables (unsigned_sides (Term x) (Number z) so) → nat_lt (bits_of (V x)) (bits_of z) ≡ so
  unfolding word_ult
  unsigned_so x z so h = truth_same (nat_lt (bits_of (V x)) (bits_of z)) so h

  so_unsigned : (x : TermId) (z : ℤ) (so : Bool) → nat_lt (bits_of (V x)) (bits_of z) ≡ so → ConditionHolds nodes variables (unsigned_sides (Term x) (Number z) so)
  unfolding word_ult
  so_unsigned x z so e = ap truth e

-- ---- places

-- an index is a place of an array exactly where its bits are below the length
place_bits : (z : ℤ) (count : ℕ) → FitsSigned w32 z → count ≤ 2 ^ 31 → is_some (place_in_array z count) ≡ nat_lt (bits_of z) count
place_bits (pos i) count fits few = go (nat_lt i count) where
  go : (b : Bool) → is_some (only_where b i) ≡ b
  go true = refl
  go false = refl
place_bits (negsuc n) count fits few =
    let small : n < 2147483648 = fits.sfits in
    let bound : count ≤ 2147483648 = few in
    sym (le-ltb (bits_of (negsuc n)) count (let high : count ≤ 4294967296 - suc n = omega (arith, small, bound) in high))

-- a place is one of the array
place_there : (z : ℤ) (count : ℕ) → is_some (place_in_array z count) ≡ true → (i : ℕ) × (z ≡ pos i) × (i < count)
place_there (pos i) count e = (i, refl, ltb-true i count (go (nat_lt i count) e)) where
  go : (b : Bool) → is_some (only_where b i) ≡ true → b ≡ true
  go true e = refl
  go false e = absurd cc
place_there (negsuc n) count e = absurd cc

there_place : (z : ℤ) (count i : ℕ) → z ≡ pos i → i < count → is_some (place_in_array z count) ≡ true
there_place z count i is inside =
    ap (λ (y : ℤ). is_some (place_in_array y count)) is ∙ ap (λ (b : Bool). is_some (only_where b i)) (lt-ltb i count inside)

pub none_of_some : {A : Type 0} (it : Option A) → is_some it ≡ false → it ≡ None
none_of_some None e = refl
none_of_some (Some x) e = absurd cc

module _ (nodes : List Node) (variables : List ℤ) (x : TermId) (fits : FitsSigned w32 (value_of nodes x variables)) where
  abbrev z : ℤ
  z = value_of nodes x variables

  same_place : (i j : ℕ) → z ≡ pos i → z ≡ pos j → i ≡ j
  same_place i j e f = (let both : pos i ≡ pos j = sym e ∙ f in cc)

  -- ---- an index

  module _ (count : ℕ) (few : count ≤ 2 ^ 31) where
    abbrev IndexAt : Choice → List ℤ → Type 0
    IndexAt choice values = AllHold nodes values (index_conditions x count choice)

    pub place_is : (i : ℕ) → IndexAt (Index i) variables → z ≡ pos i
    place_is i hold = (Decides-int_eq z (pos i)).0 (equal_so nodes variables x (pos i) true hold.0)

    is_place : (i : ℕ) → z ≡ pos i → IndexAt (Index i) variables
    is_place i e = (so_equal nodes variables x (pos i) true ((Decides-int_eq z (pos i)).1 e), tt)

    outside_so : IndexAt Outside variables → is_some (place_in_array z count) ≡ false
    outside_so hold = place_bits z count fits few ∙ go count hold where
      go : (n : ℕ) → AllHold nodes variables (outside_conditions x n) → nat_lt (bits_of z) n ≡ false
      go zero hold = le-ltb (bits_of z) zero (omega arith)
      go (suc n) hold = unsigned_so nodes variables x (pos (suc n)) false hold.0

    so_outside : is_some (place_in_array z count) ≡ false → IndexAt Outside variables
    so_outside e = go count (sym (place_bits z count fits few) ∙ e) where
      go : (n : ℕ) → nat_lt (bits_of z) n ≡ false → AllHold nodes variables (outside_conditions x n)
      go zero h = tt
      go (suc n) h = (so_unsigned nodes variables x (pos (suc n)) false h, tt)

    -- outside there is no place
    pub outside_is : IndexAt Outside variables → place_in_array z count ≡ None
    outside_is hold = none_of_some (place_in_array z count) (outside_so hold)

    -- each index has exactly one alternative of which all conditions hold
    pub index_one : ExactlyOneHas IndexAt (index_choices count) variables
    index_one = go (is_some (place_in_array z count)) refl where
      go : (b : Bool) → is_some (place_in_array z count) ≡ b → ExactlyOneHas IndexAt (index_choices count) variables
      go true e =
          let there = place_there z count e in
          one_front IndexAt variables (map Index (numbers_below count)) (Outside ∷ [])
          (one_number IndexAt variables Index count there.0 there.2 (is_place there.0 there.1) (λ i hold. same_place i there.0 (place_is i hold) there.1))
          ((λ hold. true≢false (sym e ∙ outside_so hold)), tt)
      go false e =
          one_back IndexAt variables (map Index (numbers_below count)) (Outside ∷ [])
          (no_number IndexAt variables Index count (λ i inside hold. true≢false (sym (there_place z count i (place_is i hold) inside) ∙ e)))
          (inl (so_outside e, tt))

  -- ---- a length

  module _ (most : ℕ) where
    abbrev LengthAt : Choice → List ℤ → Type 0
    LengthAt choice values = AllHold nodes values (length_conditions x most choice)

    pub size_is : (i : ℕ) → LengthAt (Size i) variables → z ≡ pos i
    size_is i hold = (Decides-int_eq z (pos i)).0 (equal_so nodes variables x (pos i) true hold.0)

    is_size : (i : ℕ) → z ≡ pos i → LengthAt (Size i) variables
    is_size i e = (so_equal nodes variables x (pos i) true ((Decides-int_eq z (pos i)).1 e), tt)

    pub negative_is : LengthAt Negative variables → int_lt z (pos 0) ≡ true
    negative_is hold = less_so nodes variables x (pos 0) true hold.0

    -- a length above the bound is a number above it
    pub above_is : LengthAt TooLarge variables → (i : ℕ) × (z ≡ pos i) × (most < i)
    above_is hold = go z (less_so nodes variables x (pos 0) false hold.0) (above_so nodes variables x (pos most) true hold.1.0) where
      go : (y : ℤ) → int_lt y (pos 0) ≡ false → int_lt (pos most) y ≡ true → (i : ℕ) × (y ≡ pos i) × (most < i)
      go (pos i) plain above = (i, refl, ltb-true most i above)
      go (negsuc n) plain above = absurd (true≢false plain)

    -- each length has exactly one alternative of which all conditions hold
    pub length_one : ExactlyOneHas LengthAt (length_choices most) variables
    length_one = by_value z refl where
      not_above : (i : ℕ) → z ≡ pos i → i ≤ most → LengthAt TooLarge variables → ⊥
      not_above i is within hold =
          let above = above_is hold in
          let same : i ≡ above.0 = same_place i above.0 is above.1 in
          let more : most < above.0 = above.2 in
          omega (arith, same, within, more)

      by_value : (y : ℤ) → z ≡ y → ExactlyOneHas LengthAt (length_choices most) variables
      by_value (negsuc n) is =
          inl (
            (so_less nodes variables x (pos 0) true (ap (λ (v : ℤ). int_lt v (pos 0)) is), tt),
            none_both LengthAt variables (map Size (numbers_below (suc most))) (TooLarge ∷ [])
                (no_number LengthAt variables Size (suc most) (λ i inside hold. (let both : negsuc n ≡ pos i = sym is ∙ size_is i hold in cc)))
                ((λ hold. (let both : negsuc n ≡ pos (above_is hold).0 = sym is ∙ (above_is hold).1 in cc)), tt),
          )
      by_value (pos i) is =
          inr (
            (λ hold. true≢false (sym (negative_is hold) ∙ ap (λ (v : ℤ). int_lt v (pos 0)) is ∙ le-ltb i 0 (omega arith))),
            by_bound (nat_lt most i) refl,
          )
        where
          not_negative : ConditionHolds nodes variables (less_sides (Term x) (Number (pos 0)) false)
          not_negative = so_less nodes variables x (pos 0) false (ap (λ (v : ℤ). int_lt v (pos 0)) is ∙ le-ltb i 0 (omega arith))

          too_small : (j : ℕ) → j < suc most → j ≡ i → most < i → ⊥
          too_small j inside same above = omega (arith, inside, same, above)

          by_bound : (b : Bool) → nat_lt most i ≡ b → ExactlyOneHas LengthAt (map Size (numbers_below (suc most)) ++ TooLarge ∷ []) variables
          by_bound true e =
              one_back LengthAt variables (map Size (numbers_below (suc most))) (TooLarge ∷ [])
              (no_number LengthAt variables Size (suc most) (λ j inside hold. too_small j inside (same_place j i (size_is j hold) is) (ltb-true most i e)))
              (inl ((not_negative, (so_above nodes variables x (pos most) true (ap (int_lt (pos most)) is ∙ e), tt)), tt))
          by_bound false e =
              one_front LengthAt variables (map Size (numbers_below (suc most))) (TooLarge ∷ [])
              (one_number LengthAt variables Size (suc most) i (let within = ltb-false most i e in omega (arith, within)) (is_size i is) (λ j hold. same_place j i (size_is j hold) is))
              ((λ hold. not_above i is (ltb-false most i e) hold), tt)

-- ---- their sides

-- the sides of what an alternative asks for are there
pub index_sides : (nodes : List Node) (x : TermId) (count : ℕ) (choice : Choice) → IsTerm nodes x → AllSides nodes (index_conditions x count choice)
index_sides nodes x count (Index place) is = (key_sides nodes x (pos place) true is, tt)
index_sides nodes x zero Outside is = tt
index_sides nodes x (suc n) Outside is = (below_sides nodes x (pos (suc n)) false is, tt)
index_sides nodes x count _ is = tt

pub length_sides : (nodes : List Node) (x : TermId) (most : ℕ) (choice : Choice) → IsTerm nodes x → AllSides nodes (length_conditions x most choice)
length_sides nodes x most Negative is = (negative_sides nodes x (pos 0) true is, tt)
length_sides nodes x most (Size count) is = (key_sides nodes x (pos count) true is, tt)
length_sides nodes x most TooLarge is = (negative_sides nodes x (pos 0) false is, (above_sides nodes x (pos most) true is, tt))
length_sides nodes x most _ is = tt

-- ---- what is compared

-- a number below another one is among those below it
numbered : (n i : ℕ) → i < n → Has (numbers_below n) i
numbered zero i inside = absurd (omega (arith, inside))
numbered (suc n) i inside = go (λ less. numbered n i less) (nat_lt i n) refl where
  go : (i < n → Has (numbers_below n) i) → (b : Bool) → nat_lt i n ≡ b → Has (numbers_below n ++ n ∷ []) i
  go earlier true e = has_left (numbers_below n) (n ∷ []) i (earlier (ltb-true i n e))
  go earlier false e =
      let last : n ≡ i = (let at_least = ltb-false i n e in omega (arith, at_least, inside)) in
      has_right (numbers_below n) (n ∷ []) i (subst (Has (n ∷ [])) last (has_first n []))

-- the alternative of a number is one that is listed where the number is below the count
number_listed : (f : ℕ → Choice) → ((i j : ℕ) → f i ≡ f j → i ≡ j) → (n i : ℕ) → Has (map f (numbers_below n)) (f i) → i < n
number_listed f once n i has =
    let found = has_mapped f (numbers_below n) (f i) has in
    let same : found.0 ≡ i = once found.0 i found.2 in
    let inside : found.0 < n = below n found.1.0 found.0 found.1.1 in
    omega (arith, same, inside)

one_index : (i j : ℕ) → Index i ≡ Index j → i ≡ j
one_index i j e = cc

one_size : (i j : ℕ) → Size i ≡ Size j → i ≡ j
one_size i j e = cc

pub place_listed : (count i : ℕ) → Has (index_choices count) (Index i) → i < count
place_listed count i has = elim (has_either (map Index (numbers_below count)) (Outside ∷ []) (Index i) has) [
  | inl front ↦ number_listed Index one_index count i front
  | inr last ↦ absurd (never (has_cases Outside (Index i) [] last))
] where
  never : (Outside ≡ Index i) ⊎ Has [] (Index i) → ⊥
  never (inl e) = cc
  never (inr none) = has_none (Index i) none

pub size_listed : (most i : ℕ) → Has (length_choices most) (Size i) → i ≤ most
size_listed most i has = elim (has_cases Negative (Size i) (map Size (numbers_below (suc most)) ++ TooLarge ∷ []) has) [
  | inl e ↦ absurd (none e)
  | inr later ↦ elim (has_either (map Size (numbers_below (suc most))) (TooLarge ∷ []) (Size i) later) [
    | inl front ↦ (let inside = number_listed Size one_size (suc most) i front in omega (arith, inside))
    | inr last ↦ absurd (never (has_cases TooLarge (Size i) [] last))
  ]
] where
  none : Negative ≡ Size i → ⊥
  none e = cc

  never : (TooLarge ≡ Size i) ⊎ Has [] (Size i) → ⊥
  never (inl e) = cc
  never (inr nothing) = has_none (Size i) nothing

module _ (nodes : List Node) (variables : List ℤ) (x : TermId) (is : IsTerm nodes x) (P : Option Comparison → Type 0) where
  abbrev value : ℤ
  value = value_of nodes x variables

  -- each condition of a place or of outside is on the index and the place, or on the index and the length
  pub index_askable : (array : Elements) → ((comparison : Comparison) → Has (compared_index value array) comparison → P (Some comparison)) → (choice : Choice)
      → Has (index_choices (length array.values)) choice → AreAskable P nodes variables (index_conditions x (length array.values) choice)
  index_askable array compared (Index place) has =
      let there = numbered (length array.values) place (place_listed (length array.values) place has) in (
        key_sides nodes x (pos place) true is,
        compared (equal value (pos place))
            (has_later (less_unsigned value (pos (length array.values))) (equal value (pos place)) (map (λ (i : ℕ). equal value (pos i)) (numbers_below (length array.values)))
            (map_has (λ (i : ℕ). equal value (pos i)) (numbers_below (length array.values)) place there)),
        tt,
      )
  index_askable array compared Outside has = go (length array.values) refl where
    first : Has (compared_index value array) (less_unsigned value (pos (length array.values)))
    first = has_first (less_unsigned value (pos (length array.values))) (map (λ (i : ℕ). equal value (pos i)) (numbers_below (length array.values)))

    go : (n : ℕ) → length array.values ≡ n → AreAskable P nodes variables (outside_conditions x n)
    go zero e = tt
    go (suc n) e = (below_sides nodes x (pos (suc n)) false is, compared (less_unsigned value (pos (suc n))) (subst (λ (m : ℕ). Has (compared_index value array) (less_unsigned value (pos m))) e first), tt)
  index_askable array compared _ has = tt

  -- each condition of a length is on the length and 0, a number up to the bound, or the bound
  pub length_askable : (s : Setting) → ((comparison : Comparison) → Has (compared_length s value) comparison → P (Some comparison)) → (choice : Choice)
      → Has (length_choices s.bounds.alloc) choice → AreAskable P nodes variables (length_conditions x s.bounds.alloc choice)
  length_askable s compared Negative has = (negative_sides nodes x (pos 0) true is, compared (less value (pos 0)) (0, refl), tt)
  length_askable s compared (Size count) has =
      let there = numbered (suc s.bounds.alloc) count (let within = size_listed s.bounds.alloc count has in omega (arith, within)) in
      let others : List Comparison = map (λ (n : ℕ). equal value (pos n)) (numbers_below (suc s.bounds.alloc)) in (
        key_sides nodes x (pos count) true is,
        compared (equal value (pos count))
            (has_later (less value (pos 0)) (equal value (pos count)) (less (pos s.bounds.alloc) value ∷ others)
            (has_later (less (pos s.bounds.alloc) value) (equal value (pos count)) others
            (map_has (λ (n : ℕ). equal value (pos n)) (numbers_below (suc s.bounds.alloc)) count there))),
        tt,
      )
  length_askable s compared TooLarge has = (
    negative_sides nodes x (pos 0) false is,
    compared (less value (pos 0)) (0, refl),
    (above_sides nodes x (pos s.bounds.alloc) true is, compared (less (pos s.bounds.alloc) value) (1, refl), tt),
  )
  length_askable s compared _ has = tt
