-- Laws of the steps by which a set of texts is made.
use Rattle.std.proofs.Common.{◌≡◌, ◌≢◌, ℕ, ◌+◌, false, List, [], ◌∷◌, ◌++◌, zero, suc, ◌-◌, Some, slice_get, length, refl, sym, ap, ap₂, ◌∙◌, inl, inr, subst, arith}
use Rattle.std.proofs.lemmas.Bool.{true≢false}
use Rattle.std.proofs.lemmas.Cmp.{nat_list_cmp_total}
use Rattle.std.proofs.lemmas.List.{get_or_append_left, get_or_push, length_push}
use Rattle.std.proofs.lemmas.List.Elements.{Contains-push, Contains-push_cases, Contains-append_left}
use Rattle.std.proofs.lemmas.List.MinMax.{ranks_by, IsStrictWeakOrder-flip}
use Rattle.std.proofs.lemmas.List.Sorted.{sorted_far}
use Rattle.std.specs.Cmp.{IsStrictWeakOrder}
use Rattle.std.specs.Cmp.Lexicographic.{slice_cmp}
use Rattle.std.specs.List.{Contains}
use Rattle.std.specs.Ordering.{nat_cmp, is_lt}
use Rattle.kb_order.specs.Texts.{IsBefore, IsOrderedSet}
use Rattle.kb_order.specs.Sorting.{IsFalling, HasSameTexts, IsTaken}
use Rattle.kb_order.proofs.TextLaws.{before_less, before_cases, rising_push}

pub rises_first : IsStrictWeakOrder (λ (x y : List ℕ). is_lt (slice_cmp nat_cmp x y))
rises_first = ranks_by nat_list_cmp_total (λ (x : List ℕ). x)

pub falls_first : IsStrictWeakOrder (λ (x y : List ℕ). is_lt (slice_cmp nat_cmp y x))
falls_first = IsStrictWeakOrder-flip (λ (x y : List ℕ). is_lt (slice_cmp nat_cmp x y)) rises_first

pub not_before : (left right : List ℕ) → is_lt (slice_cmp nat_cmp left right) ≡ false → IsBefore left right → ⊥
not_before left right e b = true≢false (sym (ap is_lt (before_less left right b)) ∙ e)

-- texts that fall, without the last one
falling_front : (left : List (List ℕ)) (text : List ℕ) → IsFalling (left ++ text ∷ []) → IsFalling left
falling_front left text h k d from lt =
    let this = get_or_append_left left (text ∷ []) d k (omega (arith, lt)) in
    let next = get_or_append_left left (text ∷ []) d (k + 1) lt in
    let e = length_push left text in
    ap₂ (λ x y. is_lt (slice_cmp nat_cmp x y)) (sym this) (sym next) ∙ h k d from (omega (arith, e, lt))

-- no text before the last one comes before it in the order
falling_last : (left : List (List ℕ)) (text : List ℕ) → IsFalling (left ++ text ∷ []) → (earlier : List ℕ) → Contains left earlier → IsBefore earlier text → ⊥
falling_last left text h earlier c b =
    let lt = c.1 in
    let e = length_push left text in
    let far = sorted_far (λ (x y : List ℕ). is_lt (slice_cmp nat_cmp y x)) falls_first (left ++ text ∷ []) h c.0 (length left) earlier
    (omega (arith, lt)) (omega (arith, e)) in
    let this = get_or_append_left left (text ∷ []) earlier c.0 lt ∙ c.2 in
    let last = get_or_push left text earlier (length left) refl in
    not_before earlier text (ap₂ (λ x y. is_lt (slice_cmp nat_cmp x y)) (sym this) (sym last) ∙ far) b

-- at the start nothing is taken
pub taken_first : (texts : List (List ℕ)) → IsFalling texts → IsTaken texts [] texts
taken_first texts h = record {
  rises = tt;
  falls = h;
  between = λ text later c. absurd (let lt = c.1 in omega (arith, lt));
  same = λ text. (λ c. inr c, λ c. elim c [ inl a ↦ absurd (let lt = a.1 in omega (arith, lt)) | inr b ↦ b ]);
}

-- at the end nothing is left
pub taken_last : (texts taken : List (List ℕ)) → IsTaken texts taken [] → IsOrderedSet texts taken
taken_last texts taken h = record {
  rises = h.rises;
  same = λ text. (
    λ c. (h.same text).1 (inl c),
    λ c. elim ((h.same text).0 c) [ inl a ↦ a | inr b ↦ absurd (let lt = b.1 in omega (arith, lt)) ],
  );
}

-- a text that was taken before is not taken again
pub taken_again : (texts taken left : List (List ℕ)) (text : List ℕ) → IsTaken texts taken (left ++ text ∷ []) → Contains taken text → IsTaken texts taken left
taken_again texts taken left text h inside = record {
  rises = h.rises;
  falls = falling_front left text h.falls;
  between = λ one later c d. h.between one later c (Contains-append_left left (text ∷ []) later d);
  same = λ one. (
    λ c. elim ((h.same one).0 c) [
      | inl a ↦ inl a
      | inr b ↦ elim (Contains-push_cases left text one b) [ inl a ↦ inr a | inr e ↦ inl (subst (λ z. Contains taken z) e inside) ]
    ],
    λ c. elim c [ inl a ↦ (h.same one).1 (inl a) | inr b ↦ (h.same one).1 (inr (Contains-append_left left (text ∷ []) one b)) ],
  );
}

-- the last text of those that are taken comes before the next one, unless they are the same
last_before : (texts taken left : List (List ℕ)) (text : List ℕ) → IsTaken texts taken (left ++ text ∷ [])
    → (front : List (List ℕ)) (last : List ℕ) → taken ≡ front ++ last ∷ [] → last ≢ text → IsBefore last text
last_before texts taken left text h front last e n =
    elim (before_cases last text) [
      | inl s ↦ absurd (n s)
      | inr (inl b) ↦ b
      | inr (inr b) ↦ absurd (h.between last text (subst (λ z. Contains z last) (sym e) (Contains-push front last)) (Contains-push left text) b)
    ]

-- another text is taken
pub taken_more : (texts taken left : List (List ℕ)) (text : List ℕ) → IsTaken texts taken (left ++ text ∷ [])
    → ((front : List (List ℕ)) (last : List ℕ) → taken ≡ front ++ last ∷ [] → last ≢ text) → IsTaken texts (taken ++ text ∷ []) left
taken_more texts taken left text h n = record {
  rises = rising_push taken text h.rises (λ front last e. last_before texts taken left text h front last e (n front last e));
  falls = falling_front left text h.falls;
  between = λ one later c d b. elim (Contains-push_cases taken text one c) [
    | inl a ↦ h.between one later a (Contains-append_left left (text ∷ []) later d) b
    | inr e ↦ falling_last left text h.falls later d (subst (λ z. IsBefore later z) (sym e) b)
  ];
  same = λ one. (
    λ c. elim ((h.same one).0 c) [
      | inl a ↦ inl (Contains-append_left taken (text ∷ []) one a)
      | inr b ↦ elim (Contains-push_cases left text one b) [
        | inl a ↦ inr a
        | inr e ↦ inl (subst (λ z. Contains (taken ++ text ∷ []) z) e (Contains-push taken text))
      ]
    ],
    λ c. elim c [
      | inl a ↦ elim (Contains-push_cases taken text one a) [
        | inl d ↦ (h.same one).1 (inl d)
        | inr e ↦ (h.same one).1 (inr (subst (λ z. Contains (left ++ text ∷ []) z) e (Contains-push left text)))
      ]
      | inr b ↦ (h.same one).1 (inr (Contains-append_left left (text ∷ []) one b))
    ],
  );
}

-- a set of the same texts
pub set_of_same : (texts other set : List (List ℕ)) → HasSameTexts other texts → IsOrderedSet other set → IsOrderedSet texts set
set_of_same texts other set h g = record {
  rises = g.rises;
  same = λ text. (λ c. (h text).0 ((g.same text).0 c), λ c. (g.same text).1 ((h text).1 c));
}

get_last : (front : List (List ℕ)) (last : List ℕ) (k : ℕ) → k ≡ length front → slice_get (front ++ last ∷ []) k ≡ Some last
get_last [] last zero e = refl
get_last [] last (suc k) e = absurd (omega (arith, e))
get_last (text ∷ front) last zero e = absurd (omega (arith, e))
get_last (text ∷ front) last (suc k) e = get_last front last k (omega (arith, e))

-- the text that is shown as the last one is the last one
pub last_shown : (texts front : List (List ℕ)) (last shown : List ℕ) → texts ≡ front ++ last ∷ [] → Some shown ≡ slice_get texts (length texts - 1)
    → last ≡ shown
last_shown texts front last shown e s =
    let long = length_push front last in
    let n = ap length e in
    let at : length texts - 1 ≡ length front = omega (arith, long, n) in
    let is : Some last ≡ Some shown = sym (s ∙ (ap (λ z. slice_get z (length texts - 1)) e ∙ get_last front last (length texts - 1) at)) in
    cc

pub contains_same : (texts other : List (List ℕ)) (text same : List ℕ) → texts ≡ other → text ≡ same → Contains texts text → Contains other same
contains_same texts other text same e f h = subst (λ z. Contains z same) e (subst (λ z. Contains texts z) f h)

pub none_left : (texts : List (List ℕ)) → length texts ≡ 0 → texts ≡ []
none_left [] e = refl
none_left (text ∷ texts) e = absurd (omega (arith, e))
