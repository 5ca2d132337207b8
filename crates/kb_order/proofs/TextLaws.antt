-- Laws of the order of texts.
use Rattle.std.proofs.Common.{◌≡◌, ℕ, zero, suc, ◌+◌, ◌<◌, ◌⊎◌, false, Ordering, Result, Ok, Err, List, [], ◌∷◌, ◌++◌, length, get_or, refl, sym, ap, ap₂, ◌∙◌, inl, inr, subst, arith}
use Rattle.std.proofs.lemmas.Bool.{cases_order, cases_lt, true≢false}
use Rattle.std.proofs.lemmas.Cmp.{nat_list_cmp_total}
use Rattle.std.proofs.lemmas.List.Sorted.{searchable_from_sorted}
use Rattle.std.proofs.lemmas.Map.Lookups.{exact_bytes}
use Rattle.std.specs.Cmp.{nat_cmp_is}
use Rattle.std.specs.Cmp.Lexicographic.{slice_cmp}
use Rattle.std.specs.List.{Contains}
use Rattle.std.specs.List.Sorted.{IsSortedBy, IsSearchInRange, IsBinarySearchResult}
use Rattle.std.specs.Result.{result_ok}
use Rattle.std.specs.Ordering.{nat_cmp, ordering_then, ordering_reverse, is_lt, is_gt}
use Rattle.std.specs.declared.cmp.Ordering.TheVariants.{Less, Equal, Greater}
use Rattle.kb_order.specs.Texts.{IsBefore, IsRising, IsOrderedSet, IsPlace}

-- the order of texts is std's order of lists
pub before_less : (left right : List ℕ) → IsBefore left right → slice_cmp nat_cmp left right ≡ Less
before_less [] [] b = absurd b
before_less (l ∷ left) [] b = absurd b
before_less [] (r ∷ right) b = refl
before_less (l ∷ left) (r ∷ right) (inl lt) = ap (λ o. ordering_then o (slice_cmp nat_cmp left right)) (sym (nat_cmp_is l r Less lt))
before_less (l ∷ left) (r ∷ right) (inr e) =
    ap (λ o. ordering_then o (slice_cmp nat_cmp left right)) (sym (nat_cmp_is l r Equal e.0)) ∙ before_less left right e.1

pub less_before : (left right : List ℕ) → slice_cmp nat_cmp left right ≡ Less → IsBefore left right
less_before [] [] e = absurd (true≢false (sym (ap is_lt e)))
less_before (l ∷ left) [] e = absurd (true≢false (sym (ap is_lt e)))
less_before [] (r ∷ right) e = tt
less_before (l ∷ left) (r ∷ right) e =
    elim (cases_order l r) [
      | inl s ↦ inr (s, less_before left right (ap (λ o. ordering_then o (slice_cmp nat_cmp left right)) (nat_cmp_is l r Equal s) ∙ e))
      | inr (inl lt) ↦ inl lt
      | inr (inr gt) ↦ absurd (true≢false (sym (ap is_lt (ap (λ o. ordering_then o (slice_cmp nat_cmp left right)) (nat_cmp_is l r Greater gt) ∙ e))))
    ]

pub before_itself : (text : List ℕ) → IsBefore text text → ⊥
before_itself [] b = b
before_itself (t ∷ text) (inl lt) = absurd (omega (arith, lt))
before_itself (t ∷ text) (inr e) = before_itself text e.1

pub before_chain : (left middle right : List ℕ) → IsBefore left middle → IsBefore middle right → IsBefore left right
before_chain left middle right a b =
    less_before left right (nat_list_cmp_total.trans left middle right (before_less left middle a) (before_less middle right b))

-- two texts are the same, or one comes before the other
pub before_cases : (left right : List ℕ) → (left ≡ right) ⊎ (IsBefore left right ⊎ IsBefore right left)
before_cases left right = go (slice_cmp nat_cmp left right) refl
  where
    go : (o : Ordering) → slice_cmp nat_cmp left right ≡ o → (left ≡ right) ⊎ (IsBefore left right ⊎ IsBefore right left)
    go Less e = inr (inl (less_before left right e))
    go Equal e = inl (exact_bytes left right e)
    go Greater e = inr (inr (less_before right left (nat_list_cmp_total.antisymm right left ∙ ap ordering_reverse e)))

contains_none : (text : List ℕ) → Contains [] text → ⊥
contains_none text h = let lt = h.1 in absurd (omega (arith, lt))

pub contains_head : (text : List ℕ) (texts : List (List ℕ)) → Contains (text ∷ texts) text
contains_head text texts = (zero, omega arith, refl)

pub contains_tail : (first : List ℕ) (texts : List (List ℕ)) (text : List ℕ) → Contains texts text → Contains (first ∷ texts) text
contains_tail first texts text h = let lt = h.1 in (suc h.0, omega (arith, lt), h.2)

contains_at : (first : List ℕ) (texts : List (List ℕ)) (text : List ℕ) (k : ℕ) → k < suc (length texts) → get_or (first ∷ texts) k text ≡ text
    → (first ≡ text) ⊎ Contains texts text
contains_at first texts text zero lt e = inl e
contains_at first texts text (suc k) lt e = inr (k, omega (arith, lt), e)

pub contains_cases : (first : List ℕ) (texts : List (List ℕ)) (text : List ℕ) → Contains (first ∷ texts) text → (first ≡ text) ⊎ Contains texts text
contains_cases first texts text h = contains_at first texts text h.0 h.1 h.2

pub rising_tail : (first : List ℕ) (texts : List (List ℕ)) → IsRising (first ∷ texts) → IsRising texts
rising_tail first [] h = tt
rising_tail first (next ∷ rest) h = h.1

-- the first text comes before each other one
pub rising_head : (first : List ℕ) (texts : List (List ℕ)) → IsRising (first ∷ texts) → (text : List ℕ) → Contains texts text → IsBefore first text
rising_head first [] h text c = absurd (contains_none text c)
rising_head first (next ∷ rest) h text c =
    elim (contains_cases next rest text c) [
      | inl e ↦ subst (λ z. IsBefore first z) e h.0
      | inr d ↦ before_chain first next text h.0 (rising_head next rest h.1 text d)
    ]

-- a text that comes after the last one goes behind it
pub rising_push : (texts : List (List ℕ)) (text : List ℕ) → IsRising texts
    → ((front : List (List ℕ)) (last : List ℕ) → texts ≡ front ++ last ∷ [] → IsBefore last text) → IsRising (texts ++ text ∷ [])
rising_push [] text h f = tt
rising_push (first ∷ []) text h f = (f [] first refl, tt)
rising_push (first ∷ next ∷ rest) text h f =
    (h.0, rising_push (next ∷ rest) text h.1 (λ front last e. f (first ∷ front) last (ap (λ z. first ∷ z) e)))

abbrev AreAmong : List (List ℕ) → List (List ℕ) → Type 0
AreAmong texts other = (text : List ℕ) → Contains texts text → Contains other text

same_head : (x : List ℕ) (xs : List (List ℕ)) (y : List ℕ) (ys : List (List ℕ)) → IsRising (x ∷ xs) → IsRising (y ∷ ys)
    → AreAmong (x ∷ xs) (y ∷ ys) → AreAmong (y ∷ ys) (x ∷ xs) → x ≡ y
same_head x xs y ys r s f g =
    elim (contains_cases y ys x (f x (contains_head x xs))) [
      | inl e ↦ sym e
      | inr c ↦ elim (contains_cases x xs y (g y (contains_head y ys))) [
        | inl e ↦ e
        | inr d ↦ absurd (before_itself x (before_chain x y x (rising_head x xs r y d) (rising_head y ys s x c)))
      ]
    ]

same_tail : (x : List ℕ) (xs : List (List ℕ)) (y : List ℕ) (ys : List (List ℕ)) → IsRising (x ∷ xs) → x ≡ y
    → AreAmong (x ∷ xs) (y ∷ ys) → AreAmong xs ys
same_tail x xs y ys r e f text c =
    elim (contains_cases y ys text (f text (contains_tail x xs text c))) [
      | inl d ↦ absurd (before_itself x (rising_head x xs r x (subst (λ z. Contains xs z) (sym (e ∙ d)) c)))
      | inr d ↦ d
    ]

same_rising : (xs ys : List (List ℕ)) → IsRising xs → IsRising ys → AreAmong xs ys → AreAmong ys xs → xs ≡ ys
same_rising [] [] r s f g = refl
same_rising [] (y ∷ ys) r s f g = absurd (contains_none y (g y (contains_head y ys)))
same_rising (x ∷ xs) [] r s f g = absurd (contains_none x (f x (contains_head x xs)))
same_rising (x ∷ xs) (y ∷ ys) r s f g =
    let e = same_head x xs y ys r s f g in
    ap₂ (λ a b. a ∷ b) e (same_rising xs ys (rising_tail x xs r) (rising_tail y ys s) (same_tail x xs y ys r e f) (same_tail y ys x xs s (sym e) g))

-- there is one ordered set of a list of texts at most
pub same_set : (texts one other : List (List ℕ)) → IsOrderedSet texts one → IsOrderedSet texts other → one ≡ other
same_set texts one other h g =
    same_rising one other h.rises g.rises (λ text c. (g.same text).1 ((h.same text).0 c)) (λ text c. (h.same text).1 ((g.same text).0 c))

itself_equal : (text : List ℕ) → slice_cmp nat_cmp text text ≡ Equal
itself_equal [] = refl
itself_equal (t ∷ text) = ap (λ o. ordering_then o (slice_cmp nat_cmp text text)) (sym (nat_cmp_is t t Equal refl)) ∙ itself_equal text

rising_at : (texts : List (List ℕ)) → IsRising texts → (k : ℕ) (d : List ℕ) → suc k < length texts → IsBefore (get_or texts k d) (get_or texts (suc k) d)
rising_at [] h k d lt = absurd (omega (arith, lt))
rising_at (text ∷ []) h k d lt = absurd (omega (arith, lt))
rising_at (text ∷ next ∷ rest) h zero d lt = h.0
rising_at (text ∷ next ∷ rest) h (suc k) d lt = rising_at (next ∷ rest) h.1 k d (omega (arith, lt))

after_not_less : (left right : List ℕ) → IsBefore left right → is_lt (slice_cmp nat_cmp right left) ≡ false
after_not_less left right b = ap is_lt (nat_list_cmp_total.antisymm right left ∙ ap ordering_reverse (before_less left right b))

rising_sorted : (texts : List (List ℕ)) → IsRising texts → IsSortedBy (λ a b. is_lt (slice_cmp nat_cmp a b)) texts
rising_sorted texts h k d from lt =
    let next : suc k ≡ k + 1 = omega arith in
    after_not_less (get_or texts k d) (get_or texts (k + 1) d)
    (subst (λ n. IsBefore (get_or texts k d) (get_or texts n d)) next (rising_at texts h k d (omega (arith, lt))))

-- what a binary search tells of texts that rise
pub place_found : (texts : List (List ℕ)) (text : List ℕ) (found : Result ℕ ℕ) → IsRising texts → IsSearchInRange found (length texts)
    → IsBinarySearchResult (λ one. slice_cmp nat_cmp one text) texts found → IsPlace texts text (result_ok found)
place_found texts text (Ok place) h inside s = (inside, exact_bytes (get_or texts place []) text (s []))
place_found texts text (Err place) h inside s =
    λ c. let parts = s (searchable_from_sorted nat_list_cmp_total (λ (x : List ℕ). x) texts text (rising_sorted texts h)) in
    let same : slice_cmp nat_cmp (get_or texts c.0 text) text ≡ Equal = ap (λ z. slice_cmp nat_cmp z text) c.2 ∙ itself_equal text in
    let lt = c.1 in
    elim (cases_lt c.0 place) [
      | inl below ↦ true≢false (ap is_lt (sym (parts.0 c.0 text (omega arith) below) ∙ same))
      | inr above ↦ true≢false (ap is_gt (sym (parts.1 c.0 text above lt) ∙ same))
    ]
