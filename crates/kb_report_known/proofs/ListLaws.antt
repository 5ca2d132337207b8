-- Lists: what stands in them, once, and how many pass a test.
use Rattle.std.proofs.Common.{◌≡◌, ◌⊎◌, inl, inr, ℕ, zero, suc, ◌+◌, ◌<◌, ◌≤◌, Bool, true, false, true≢false, List, [], ◌∷◌, ◌++◌, length, Some, None, refl, sym, ap, subst, ◌∙◌, arith, if◌then◌else◌}
use Rattle.std.specs.Prelude.{slice_get, filter}
use Rattle.std.proofs.lemmas.Option.{same_Some}
use Rattle.kb_class.specs.Naming.{Has}

-- ---- what stands in a list

abbrev pub In : {A : Type 0} → A → List A → Type 0
In x [] = ⊥
In x (y ∷ ys) = (y ≡ x) ⊎ In x ys

pub in_left : {A : Type 0} (x : A) (xs ys : List A) → In x xs → In x (xs ++ ys)
in_left x [] ys there = absurd there
in_left x (y ∷ xs) ys (inl same) = inl same
in_left x (y ∷ xs) ys (inr later) = inr (in_left x xs ys later)

pub in_right : {A : Type 0} (x : A) (xs ys : List A) → In x ys → In x (xs ++ ys)
in_right x [] ys there = there
in_right x (y ∷ xs) ys there = inr (in_right x xs ys there)

pub in_either : {A : Type 0} (x : A) (xs ys : List A) → In x (xs ++ ys) → In x xs ⊎ In x ys
in_either x [] ys there = inr there
in_either x (y ∷ xs) ys (inl same) = inl (inl same)
in_either x (y ∷ xs) ys (inr later) = elim (in_either x xs ys later) [
  | inl here ↦ inl (inr here)
  | inr there ↦ inr there
]

pub at_in : {A : Type 0} (xs : List A) (i : ℕ) (x : A) → slice_get xs i ≡ Some x → In x xs
at_in [] i x at = absurd cc
at_in (y ∷ xs) zero x at = inl (same_Some y x at)
at_in (y ∷ xs) (suc i) x at = inr (at_in xs i x at)

pub in_at : {A : Type 0} (x : A) (xs : List A) → In x xs → Has xs x
in_at x [] there = absurd there
in_at x (y ∷ xs) (inl same) = (zero, ap (λ (z : _). Some z) same)
in_at x (y ∷ xs) (inr later) = let at = in_at x xs later in (suc at.0, at.1)

pub place_there : {A : Type 0} (xs : List A) (i : ℕ) → i < length xs → (x : A) × (slice_get xs i ≡ Some x)
place_there [] i inside = absurd (omega (arith, inside))
place_there (x ∷ xs) zero inside = (x, refl)
place_there (x ∷ xs) (suc i) inside = place_there xs i (omega (arith, inside))

pub in_front : {A : Type 0} (xs ys : List A) (i : ℕ) (x : A) → slice_get xs i ≡ Some x → slice_get (xs ++ ys) i ≡ Some x
in_front [] ys i x at = absurd cc
in_front (y ∷ xs) ys zero x at = at
in_front (y ∷ xs) ys (suc i) x at = in_front xs ys i x at

-- nothing stands twice
abbrev pub IsOnce : {A : Type 0} → List A → Type 0
IsOnce [] = Unit {0}
IsOnce (x ∷ xs) = (In x xs → ⊥) × IsOnce xs

pub once_append : {A : Type 0} (xs ys : List A) → IsOnce xs → IsOnce ys → ((x : A) → In x xs → In x ys → ⊥) → IsOnce (xs ++ ys)
once_append [] ys p q apart = q
once_append (x ∷ xs) ys p q apart = (head, once_append xs ys p.1 q (λ z here there. apart z (inr here) there))
  where
    head : In x (xs ++ ys) → ⊥
    head there = elim (in_either x xs ys there) [
      | inl here ↦ p.0 here
      | inr later ↦ apart x (inl refl) later
    ]

pub same_place : {A : Type 0} (xs : List A) (i j : ℕ) (x : A) → IsOnce xs → slice_get xs i ≡ Some x → slice_get xs j ≡ Some x → i ≡ j
same_place [] i j x once p q = absurd cc
same_place (y ∷ xs) zero zero x once p q = refl
same_place (y ∷ xs) zero (suc j) x once p q = absurd (once.0 (subst (λ (z : _). In z xs) (sym (same_Some y x p)) (at_in xs j x q)))
same_place (y ∷ xs) (suc i) zero x once p q = absurd (once.0 (subst (λ (z : _). In z xs) (sym (same_Some y x q)) (at_in xs i x p)))
same_place (y ∷ xs) (suc i) (suc j) x once p q = ap (λ (n : ℕ). suc n) (same_place xs i j x once.1 p q)

-- The list without one that stands in it.
record TakenOut {A : Type 0} (x : A) (ys : List A) : Type 0 where
  others : List A
  one_less : length ys ≡ suc (length others)
  stay : (y : A) → In y ys → (x ≡ y → ⊥) → In y others

taken_out : {A : Type 0} (x : A) (ys : List A) → In x ys → TakenOut x ys
taken_out x [] there = absurd there
taken_out x (y ∷ ys) (inl same) = record { others = ys; one_less = refl; stay = stay }
  where
    stay : (z : _) → In z (y ∷ ys) → (x ≡ z → ⊥) → In z ys
    stay z (inl here) apart = absurd (apart (sym same ∙ here))
    stay z (inr there) apart = there
taken_out x (y ∷ ys) (inr later) = more (taken_out x ys later)
  where
    more : TakenOut x ys → TakenOut x (y ∷ ys)
    more less = record { others = y ∷ less.others; one_less = omega (arith, less.one_less); stay = stay }
      where
        stay : (z : _) → In z (y ∷ ys) → (x ≡ z → ⊥) → In z (y ∷ less.others)
        stay z (inl here) apart = inl here
        stay z (inr there) apart = inr (less.stay z there apart)

-- different items of a list are no more than it has
pub no_longer : {A : Type 0} (xs ys : List A) → IsOnce xs → ((x : A) → In x xs → In x ys) → length xs ≤ length ys
no_longer [] ys once within = omega arith
no_longer (x ∷ xs) ys once within =
    let less = taken_out x ys (within x (inl refl)) in
    let rest : length xs ≤ length less.others = no_longer xs less.others once.1 (λ y there. less.stay y (within y (inr there)) (λ same. once.0 (subst (λ (z : _). In z xs) (sym same) there))) in
    let one : length ys ≡ suc (length less.others) = less.one_less in
    omega (arith, rest, one)

-- ---- one item more

abbrev pub one_if : Bool → ℕ
one_if true = 1
one_if false = 0

pub filter_more : {A : Type 0} (test : A → Bool) (xs : List A) (x : A) → length (filter test (xs ++ x ∷ [])) ≡ length (filter test xs) + one_if (test x)
filter_more test [] x = go (test x)
  where
    go : (b : Bool) → length (if b then x ∷ [] else []) ≡ 0 + one_if b
    go true = refl
    go false = refl
filter_more test (y ∷ xs) x = go (test y) (filter_more test xs x)
  where
    go : (b : Bool) → length (filter test (xs ++ x ∷ [])) ≡ length (filter test xs) + one_if (test x)
        → length (if b then y ∷ filter test (xs ++ x ∷ []) else filter test (xs ++ x ∷ [])) ≡ length (if b then y ∷ filter test xs else filter test xs) + one_if (test x)
    go true more = omega (arith, more)
    go false more = more

pub has_before : {A : Type 0} (xs : List A) (x y : A) → Has xs y → Has (xs ++ x ∷ []) y
has_before xs x y there = (there.0, in_front xs (x ∷ []) there.0 y there.1)

pub has_last : {A : Type 0} (xs : List A) (x : A) → Has (xs ++ x ∷ []) x
has_last [] x = (zero, refl)
has_last (y ∷ xs) x = let more = has_last xs x in (suc more.0, more.1)

pub get_next : {A : Type 0} (xs : List A) (x : A) → slice_get (xs ++ x ∷ []) (length xs) ≡ Some x
get_next [] x = refl
get_next (y ∷ xs) x = get_next xs x

-- an item is one of those before, at its place, or the last
pub at_either : {A : Type 0} (xs : List A) (x : A) (i : ℕ) (y : A) → slice_get (xs ++ x ∷ []) i ≡ Some y → (slice_get xs i ≡ Some y) ⊎ ((i ≡ length xs) × (x ≡ y))
at_either [] x zero y at = inr (refl, same_Some x y at)
at_either [] x (suc i) y at = absurd cc
at_either (z ∷ xs) x zero y at = inl at
at_either (z ∷ xs) x (suc i) y at = elim (at_either xs x i y at) [
  | inl before ↦ inl before
  | inr last ↦ inr (omega (arith, last.0), last.1)
]

pub has_either : {A : Type 0} (xs : List A) (x y : A) → Has (xs ++ x ∷ []) y → Has xs y ⊎ (x ≡ y)
has_either xs x y there = elim (at_either xs x there.0 y there.1) [
  | inl before ↦ inl (there.0, before)
  | inr last ↦ inr last.1
]

-- ---- places

pub get_inside : {A : Type 0} (xs : List A) (x : A) (i : ℕ) → i < length xs → slice_get (xs ++ x ∷ []) i ≡ slice_get xs i
get_inside [] x i inside = absurd (omega (arith, inside))
get_inside (y ∷ xs) x zero inside = refl
get_inside (y ∷ xs) x (suc i) inside = get_inside xs x i (omega (arith, inside))

pub get_past : {A : Type 0} (xs : List A) (i : ℕ) → length xs ≤ i → slice_get xs i ≡ None
get_past [] i past = refl
get_past (x ∷ xs) zero past = absurd (omega (arith, past))
get_past (x ∷ xs) (suc i) past = get_past xs i (omega (arith, past))

-- one item that does not pass any more
pub filter_less : {A : Type 0} (before after : A → Bool) (xs : List A) (i : ℕ) (x : A) → slice_get xs i ≡ Some x → before x ≡ true → after x ≡ false
    → ((j : ℕ) (y : A) → slice_get xs j ≡ Some y → (j ≡ i → ⊥) → after y ≡ before y) → length (filter before xs) ≡ suc (length (filter after xs))
filter_less before after [] i x at was is others = absurd cc
filter_less before after (y ∷ xs) zero x at was is others = go (before y) (after y) (ap before (same_Some y x at) ∙ was) (ap after (same_Some y x at) ∙ is)
  where
    rest : (l : List _) → ((j : ℕ) (z : _) → slice_get l j ≡ Some z → after z ≡ before z) → length (filter before l) ≡ length (filter after l)
    rest [] same = refl
    rest (z ∷ l) same = pick (before z) (after z) (same 0 z refl) (rest l (λ j w at. same (suc j) w at))
      where
        pick : (a b : Bool) → b ≡ a → length (filter before l) ≡ length (filter after l) → length (if a then z ∷ filter before l else filter before l) ≡ length (if b then z ∷ filter after l else filter after l)
        pick true true e more = omega (arith, more)
        pick true false e more = absurd (true≢false (sym e))
        pick false true e more = absurd (true≢false e)
        pick false false e more = more

    go : (a b : Bool) → a ≡ true → b ≡ false → length (if a then y ∷ filter before xs else filter before xs) ≡ suc (length (if b then y ∷ filter after xs else filter after xs))
    go true false p q = (let same : length (filter before xs) ≡ length (filter after xs) = rest xs (λ j z at. others (suc j) z at (λ e. omega (arith, e))) in omega (arith, same))
    go true true p q = absurd (true≢false q)
    go false b p q = absurd (true≢false (sym p))
filter_less before after (y ∷ xs) (suc i) x at was is others =
    go (before y) (after y) (others 0 y refl (λ e. omega (arith, e))) (filter_less before after xs i x at was is (λ j z there apart. others (suc j) z there (λ e. apart (omega (arith, e)))))
  where
    go : (a b : Bool) → b ≡ a → length (filter before xs) ≡ suc (length (filter after xs)) → length (if a then y ∷ filter before xs else filter before xs) ≡ suc (length (if b then y ∷ filter after xs else filter after xs))
    go true true e more = omega (arith, more)
    go true false e more = absurd (true≢false (sym e))
    go false true e more = absurd (true≢false e)
    go false false e more = more

pub filter_same : {A : Type 0} (before after : A → Bool) (xs : List A) → ((y : A) → Has xs y → after y ≡ before y) → length (filter before xs) ≡ length (filter after xs)
filter_same before after [] same = refl
filter_same before after (y ∷ xs) same = go (before y) (after y) (same y (0, refl)) (filter_same before after xs (λ z there. same z (suc there.0, there.1)))
  where
    go : (a b : Bool) → b ≡ a → length (filter before xs) ≡ length (filter after xs) → length (if a then y ∷ filter before xs else filter before xs) ≡ length (if b then y ∷ filter after xs else filter after xs)
    go true true e more = omega (arith, more)
    go true false e more = absurd (true≢false (sym e))
    go false true e more = absurd (true≢false e)
    go false false e more = more
