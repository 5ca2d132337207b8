-- Lists of texts that grow, and the texts of string constants.
use Rattle.std.proofs.Common.{◌≡◌, ◌↔◌, nat_lt, ℕ, zero, suc, ◌+◌, ◌<◌, ◌≤◌, ◌⊎◌, inl, inr, Bool, true, false, List, [], ◌∷◌, ◌++◌, length, take, drop, get_or, ◌-◌, Option, Some, None, Result, Ok, Err, IfOk, slice_get, slice_index_or, refl, sym, ap, subst, ◌∙◌, arith}
use Rattle.std.specs.List.{Contains, position_or_len}
use Rattle.kb_class.specs.Class.{Class, TextEntry}
use Rattle.kb_class.specs.Naming.{Has}
use Rattle.std.specs.Str.{bytes_eq}
use Rattle.std.proofs.lemmas.Bool.{lt-ltb, le-ltb}
use Rattle.std.proofs.lemmas.List.{take_all}
use Rattle.std.proofs.lemmas.Slice.Eq.{bytes_eq-Decides}
use Rattle.kb_order.specs.Texts.{IsBefore, IsRising, IsPlace}
use Rattle.kb_order.proofs.TextLaws.{before_itself, contains_tail, rising_head, rising_tail}
use Rattle.std.specs.declared.alloc.AllocError.{AllocError as NoMemory}
use Rattle.kb_classes.specs.World.{literal_in}
use Rattle.kb_classes.specs.Universe.{IsLiteral, AreLiterals}
use Rattle.kb_classes.specs.Mentions.{AddsTexts, AnyOf, HasLiteral, IsFoundText}

-- ---- what stands in a list

module _ {A : Type 0} where
  pub contains_of : (xs : List A) (x : A) → Has xs x → Contains xs x
  contains_of xs x has = go xs has.0 has.1 where
    go : (ys : List A) (i : ℕ) → slice_get ys i ≡ Some x → Contains ys x
    go [] i at = absurd cc
    go (y ∷ ys) zero at = (let same : y ≡ x = cc in (zero, omega arith, same))
    go (y ∷ ys) (suc i) at = (let rest : Contains ys x = go ys i at in (suc rest.0, (let h = rest.1 in omega (arith, h)), rest.2))

  pub has_of : (xs : List A) (x : A) → Contains xs x → Has xs x
  has_of xs x contains = go xs contains.0 contains.1 contains.2 where
    go : (ys : List A) (i : ℕ) → i < length ys → slice_index_or ys i x ≡ x → Has ys x
    go [] i below at = absurd (omega (arith, below))
    go (y ∷ ys) zero below at = (zero, ap (λ (z : A). Some z) at)
    go (y ∷ ys) (suc i) below at = (let rest : Has ys x = go ys i (omega (arith, below)) at in (suc rest.0, rest.1))

  pub has_pushed : (xs : List A) (y x : A) → Has (xs ++ y ∷ []) x → Has xs x ⊎ (x ≡ y)
  has_pushed [] y x (zero, at) = (let same : y ≡ x = cc in inr (sym same))
  has_pushed [] y x (suc i, at) = absurd cc
  has_pushed (w ∷ xs) y x (zero, at) = inl (zero, at)
  has_pushed (w ∷ xs) y x (suc i, at) = elim (has_pushed xs y x (i, at)) [ inl h ↦ inl (suc h.0, h.1) | inr h ↦ inr h ]

  pub has_kept : (xs : List A) (y x : A) → Has xs x → Has (xs ++ y ∷ []) x
  has_kept [] y x (i, at) = absurd cc
  has_kept (w ∷ xs) y x (zero, at) = (zero, at)
  has_kept (w ∷ xs) y x (suc i, at) = (let rest : Has (xs ++ y ∷ []) x = has_kept xs y x (i, at) in (suc rest.0, rest.1))

  pub has_last : (xs : List A) (y : A) → Has (xs ++ y ∷ []) y
  has_last [] y = (zero, refl)
  has_last (w ∷ xs) y = (let rest : Has (xs ++ y ∷ []) y = has_last xs y in (suc rest.0, rest.1))

pub has_none : (text : List ℕ) → Has [] text → ⊥
has_none text (i, at) = absurd cc

-- ---- texts added

pub adds_one : (before after : List (List ℕ)) (text : List ℕ) → after ≡ before ++ text ∷ [] → AddsTexts before after (λ t. t ≡ text)
adds_one before after text e = subst (λ (ts : List (List ℕ)). AddsTexts before ts (λ t. t ≡ text)) (sym e)
    (λ t. (λ has. has_pushed before text t has, λ one. elim one [ inl h ↦ has_kept before text t h | inr h ↦ subst (λ (u : List ℕ). Has (before ++ text ∷ []) u) (sym h) (has_last before text) ]))

pub adds_none : (before : List (List ℕ)) (Is : List ℕ → Type 0) → ((text : List ℕ) → Is text → ⊥) → AddsTexts before before Is
adds_none before Is none = λ t. (λ has. inl has, λ one. elim one [ inl h ↦ h | inr h ↦ absurd (none t h) ])

-- the same, said in another way
pub adds_same : (before after : List (List ℕ)) (Is Other : List ℕ → Type 0) → ((text : List ℕ) → Is text ↔ Other text) → AddsTexts before after Is → AddsTexts before after Other
adds_same before after Is Other same adds = λ t. (
  λ has. elim ((adds t).0 has) [ inl h ↦ inl h | inr h ↦ inr ((same t).0 h) ],
  λ one. (adds t).1 (elim one [ inl h ↦ inl h | inr h ↦ inr ((same t).1 h) ]),
)

-- one after the other
pub adds_both : (before middle after : List (List ℕ)) (Is Other Both : List ℕ → Type 0) → ((text : List ℕ) → Both text ↔ (Is text ⊎ Other text))
    → AddsTexts before middle Is → AddsTexts middle after Other → AddsTexts before after Both
adds_both before middle after Is Other Both both first second = λ t. (
  λ has. elim ((second t).0 has) [
    | inl h ↦ elim ((first t).0 h) [ inl b ↦ inl b | inr i ↦ inr ((both t).1 (inl i)) ]
    | inr o ↦ inr ((both t).1 (inr o))
  ],
  λ one. elim one [
    | inl b ↦ (second t).1 (inl ((first t).1 (inl b)))
    | inr d ↦ elim ((both t).0 d) [ inl i ↦ (second t).1 (inl ((first t).1 (inr i))) | inr o ↦ (second t).1 (inr o) ]
  ],
)

-- ---- string constants

pub adds_found : (before after : List (List ℕ)) (text : List ℕ) → after ≡ before ++ text ∷ [] → AddsTexts before after (IsFoundText (Some text))
adds_found before after text pushed = adds_same before after (λ t. t ≡ text) (IsFoundText (Some text))
    (λ t. (λ same. ap (λ (u : List ℕ). Some u) (sym same), λ found. (let same : t ≡ text = cc in same))) (adds_one before after text pushed)

pub adds_not_found : (before : List (List ℕ)) → AddsTexts before before (IsFoundText None)
adds_not_found before = adds_none before (IsFoundText None) (λ text found. absurd cc)

-- ---- what a walk over a list adds

module _ {A : Type 0} (Is : A → List ℕ → Type 0) where
  -- what is left to be added by a walk that has come to the rest of a list
  abbrev pub Goes : (start now : List (List ℕ)) (all rest : List A) → Type 0
  Goes start now all rest = (end : List (List ℕ)) → AddsTexts now end (AnyOf Is rest) → AddsTexts start end (AnyOf Is all)

  pub goes_next : (start now next : List (List ℕ)) (all : List A) (x : A) (rest : List A) → Goes start now all (x ∷ rest) → AddsTexts now next (Is x) → Goes start next all rest
  goes_next start now next all x rest goes adds = λ end more. goes end
      (adds_both now next end (Is x) (AnyOf Is rest) (AnyOf Is (x ∷ rest)) (λ t. (λ h. h, λ h. h)) adds more)

  -- the next item of the rest
  pub goes_more : (start now next : List (List ℕ)) (all rest : List A) (x : A) → 1 ≤ length rest → x ≡ get_or rest 0 x
      → Goes start now all rest → AddsTexts now next (Is x) → Goes start next all (take (length rest - 1) (drop 1 rest))
  goes_more start now next all [] x some at goes adds = absurd (omega (arith, some))
  goes_more start now next all (y ∷ others) x some at goes adds =
      let long : length others ≤ length (y ∷ others) - 1 = omega arith in
      let same : take (length (y ∷ others) - 1) others ≡ others = take_all (length (y ∷ others) - 1) others long in
      let is : x ≡ y = at in
      subst (Goes start next all) (sym same) (goes_next start now next all y others goes (subst (λ (z : A). AddsTexts now next (Is z)) is adds))

  pub goes_end : (start now : List (List ℕ)) (all : List A) → Goes start now all [] → AddsTexts start now (AnyOf Is all)
  goes_end start now all goes = goes now (adds_none now (AnyOf Is []) (λ t h. h))

  pub goes_done : (start now : List (List ℕ)) (all rest : List A) → length rest < 1 → Goes start now all rest → AddsTexts start now (AnyOf Is all)
  goes_done start now all [] none goes = goes_end start now all goes
  goes_done start now all (x ∷ rest) none goes = absurd (omega (arith, none))

  pub any_has : (xs : List A) (t : List ℕ) → AnyOf Is xs t ↔ ((x : A) × Has xs x × Is x t)
  any_has xs t = (there xs, λ h. back xs h.0 h.1 h.2) where
    there : (ys : List A) → AnyOf Is ys t → (x : A) × Has ys x × Is x t
    there [] any = absurd any
    there (y ∷ ys) (inl is) = (y, (zero, refl), is)
    there (y ∷ ys) (inr any) = (let h = there ys any in (h.0, (suc h.1.0, h.1.1), h.2))

    back : (ys : List A) (x : A) → Has ys x → Is x t → AnyOf Is ys t
    back [] x has is = absurd cc
    back (y ∷ ys) x (zero, at) is = (let same : y ≡ x = cc in inl (subst (λ (z : A). Is z t) (sym same) is))
    back (y ∷ ys) x (suc i, at) is = inr (back ys x (i, at) is)

-- the texts of a class's string constants are walked
pub adds_literals : (before after : List (List ℕ)) (class : Class) (texts : List (Option (List ℕ))) → ((text : List ℕ) → Has texts (Some text) ↔ Has class.entries (TextEntry text))
    → AddsTexts before after (AnyOf IsFoundText texts) → AddsTexts before after (HasLiteral class)
adds_literals before after class texts are = adds_same before after (AnyOf IsFoundText texts) (HasLiteral class)
    (λ t. (
      λ any. (let found = (any_has IsFoundText texts t).0 any in (are t).0 (subst (λ (o : Option (List ℕ)). Has texts o) found.2 found.1)),
      λ has. (any_has IsFoundText texts t).1 (Some t, (are t).1 has, refl),
    ))

-- ---- the place of a text

first_at : (texts : List (List ℕ)) (text : List ℕ) (place : ℕ) → IsRising texts → place < length texts → slice_index_or texts place [] ≡ text → position_or_len (bytes_eq text) texts ≡ place
first_at [] text place rises below at = absurd (omega (arith, below))
first_at (first ∷ texts) text zero rises below at = (let same : bytes_eq text first ≡ true = (bytes_eq-Decides text first).1 (sym at) in rw same refl)
first_at (first ∷ texts) text (suc place) rises below at =
    let there : Contains texts text = contained texts place (omega (arith, below)) at in
    let before : IsBefore first text = rising_head first texts rises text there in
    let other : bytes_eq text first ≡ false = differs (bytes_eq text first) refl before in
    let rest : position_or_len (bytes_eq text) texts ≡ place = first_at texts text place (rising_tail first texts rises) (omega (arith, below)) at in
    let next : 1 + place ≡ suc place = omega arith in
    rw other (ap (λ (n : ℕ). 1 + n) rest ∙ next)
  where
    contained : (ts : List (List ℕ)) (i : ℕ) → i < length ts → slice_index_or ts i [] ≡ text → Contains ts text
    contained [] i inside here = absurd (omega (arith, inside))
    contained (t ∷ ts) zero inside here = (zero, omega arith, here)
    contained (t ∷ ts) (suc i) inside here = (let h : Contains ts text = contained ts i (omega (arith, inside)) here in (suc h.0, (let b = h.1 in omega (arith, b)), h.2))

    differs : (b : Bool) → bytes_eq text first ≡ b → IsBefore first text → bytes_eq text first ≡ false
    differs true e before = absurd (before_itself text (subst (λ (t : List ℕ). IsBefore t text) (sym ((bytes_eq-Decides text first).0 e)) before))
    differs false e before = e

first_none : (texts : List (List ℕ)) (text : List ℕ) → (Contains texts text → ⊥) → position_or_len (bytes_eq text) texts ≡ length texts
first_none [] text none = refl
first_none (first ∷ texts) text none =
    let other : bytes_eq text first ≡ false = differs (bytes_eq text first) refl in
    let rest : position_or_len (bytes_eq text) texts ≡ length texts = first_none texts text (λ h. none (contains_tail first texts text h)) in
    let next : 1 + length texts ≡ suc (length texts) = omega arith in
    rw other (ap (λ (n : ℕ). 1 + n) rest ∙ next)
  where
    differs : (b : Bool) → bytes_eq text first ≡ b → bytes_eq text first ≡ false
    differs true e = absurd (none (zero, omega arith, sym ((bytes_eq-Decides text first).0 e)))
    differs false e = e

pub place_is : (texts : List (List ℕ)) (text : List ℕ) (place : Option ℕ) → IsRising texts → IsPlace texts text place → place ≡ literal_in texts text
place_is texts text None rises none = (let e : position_or_len (bytes_eq text) texts ≡ length texts = first_none texts text none in let over : nat_lt (length texts) (length texts) ≡ false = le-ltb (length texts) (length texts) (omega arith) in rw (e, over) refl)
place_is texts text (Some place) rises at = (let e : position_or_len (bytes_eq text) texts ≡ place = first_at texts text place rises at.0 at.1 in let below : nat_lt place (length texts) ≡ true = lt-ltb place (length texts) at.0 in rw (e, below) refl)

-- the texts of a list are added
pub adds_all : (before after texts : List (List ℕ)) → after ≡ before ++ texts → AddsTexts before after (Has texts)
adds_all before after texts e = subst (λ (ts : List (List ℕ)). AddsTexts before ts (Has texts)) (sym e) (λ t. (λ has. split before t has, λ one. elim one [ inl h ↦ front before t h | inr h ↦ rear before t h ])) where
  split : (ts : List (List ℕ)) (t : List ℕ) → Has (ts ++ texts) t → Has ts t ⊎ Has texts t
  split [] t has = inr has
  split (u ∷ ts) t (zero, at) = inl (zero, at)
  split (u ∷ ts) t (suc i, at) = elim (split ts t (i, at)) [ inl h ↦ inl (suc h.0, h.1) | inr h ↦ inr h ]

  front : (ts : List (List ℕ)) (t : List ℕ) → Has ts t → Has (ts ++ texts) t
  front [] t has = absurd cc
  front (u ∷ ts) t (zero, at) = (zero, at)
  front (u ∷ ts) t (suc i, at) = (let h : Has (ts ++ texts) t = front ts t (i, at) in (suc h.0, h.1))

  rear : (ts : List (List ℕ)) (t : List ℕ) → Has texts t → Has (ts ++ texts) t
  rear [] t has = has
  rear (u ∷ ts) t has = (let h : Has (ts ++ texts) t = rear ts t has in (suc h.0, h.1))

-- ---- all literals

pub literals_are : (classes : List Class) (texts : List (List ℕ)) (result : Result (List (List ℕ)) NoMemory) → AddsTexts [] texts (AnyOf HasLiteral classes)
    → IfOk result IsRising → IfOk result (λ set. (text : List ℕ) → Has set text ↔ Has texts text) → IfOk result (AreLiterals classes)
literals_are classes texts (Err refusal) adds rises same = tt
literals_are classes texts (Ok set) adds rises same = record {
  rises = rises;
  same = λ text. (λ has. there text ((adds text).0 ((same text).0 has)), λ is. (same text).1 ((adds text).1 (inr ((any_has HasLiteral classes text).1 is))));
} where
  there : (text : List ℕ) → Has [] text ⊎ AnyOf HasLiteral classes text → IsLiteral classes text
  there text (inl none) = absurd (has_none text none)
  there text (inr any) = (any_has HasLiteral classes text).0 any

pub none_before : (after : List (List ℕ)) (Is : List ℕ → Type 0) → AddsTexts [] after Is → (text : List ℕ) → Has after text ↔ Is text
none_before after Is adds text = (λ has. there ((adds text).0 has), λ is. (adds text).1 (inr is)) where
  there : Has [] text ⊎ Is text → Is text
  there (inl none) = absurd (has_none text none)
  there (inr is) = is

pub set_is : (texts set : List (List ℕ)) (Is : List ℕ → Type 0) → AddsTexts [] texts Is → ((text : List ℕ) → Has set text ↔ Has texts text) → (text : List ℕ) → Has set text ↔ Is text
set_is texts set Is adds same text =
    (λ has. (none_before texts Is adds text).0 ((same text).0 has), λ is. (same text).1 ((none_before texts Is adds text).1 is))
