-- Lists of what entries say, which grow at their ends.
use Rattle.std.proofs.Common.{◌≡◌, ◌⊎◌, inl, inr, ℕ, zero, suc, ◌+◌, ◌≤◌, Bool, true, false, true≢false, ◌&&◌, if◌then◌else◌, List, [], ◌∷◌, ◌++◌, length, slice_get, Some, refl, sym, ap, subst, ◌∙◌, arith, length-append}
use Rattle.std.specs.List.{list_any, list_all}
use Rattle.std.proofs.lemmas.Bool.{and_parts, and_from, or_left, or_right, or_cases}
use Rattle.std.proofs.lemmas.Bool.Decides.{Decides-int_eq}
use Rattle.std.proofs.lemmas.List.Folds.{list_any-append, list_all-append}
use Rattle.std.proofs.lemmas.Map.Keys.{any_passes_from_place}
use Rattle.std.proofs.lemmas.Slice.Eq.{bytes_eq-Decides}
use Rattle.std.specs.Str.{bytes_eq}
use Rattle.kb_asm_pool.specs.declared.items.ReferenceKind.{ReferenceKind}
use Rattle.kb_asm_pool.specs.declared.items.ReferenceKind.TheVariants as kinds
use Rattle.kb_texts.specs.Texts.{AreDistinct, Keeps}
use Rattle.kb_asm_pool.specs.Says.{Says, text, int, class, string, name_type, member, same_kind, same, added, all_added}
use Rattle.kb_asm_pool.proofs.ItemLaws.{same-true}
use Rattle.kb_asm.specs.Pool.{Has}
use Rattle.kb_asm.specs.Needs.{have}

-- ---- the same

same_kind_self : (k : ReferenceKind) → same_kind k k ≡ true
same_kind_self kinds.Field = refl
same_kind_self kinds.Method = refl
same_kind_self kinds.InterfaceMethod = refl

bytes_self : (a : List ℕ) → bytes_eq a a ≡ true
bytes_self a = (bytes_eq-Decides a a).1 refl

pub same_self : (one : Says) → same one one ≡ true
same_self (text a) = bytes_self a
same_self (int z) = (Decides-int_eq z z).1 refl
same_self (class a) = bytes_self a
same_self (string a) = bytes_self a
same_self (name_type a b) = and_from (bytes_eq a a) (bytes_eq b b) (bytes_self a) (bytes_self b)
same_self (member k a b d) =
    and_from (same_kind k k) (bytes_eq a a && (bytes_eq b b && bytes_eq d d)) (same_kind_self k)
    (and_from (bytes_eq a a) (bytes_eq b b && bytes_eq d d) (bytes_self a) (and_from (bytes_eq b b) (bytes_eq d d) (bytes_self b) (bytes_self d)))

-- ---- being there

pub here : (one : Says) (says : List Says) → Has (one ∷ says) one
here one says = or_left (same one one) (list_any (same one) says) (same_self one)

pub there : (other one : Says) (says : List Says) → Has says one → Has (other ∷ says) one
there other one says h = or_right (same one other) (list_any (same one) says) h

-- the first, or one of the others
pub which : (other one : Says) (says : List Says) → Has (other ∷ says) one → (one ≡ other) ⊎ Has says one
which other one says h = elim (or_cases (same one other) (list_any (same one) says) h) [ inl e ↦ inl (same-true one other e) | inr e ↦ inr e ]

pub none : (one : Says) → Has [] one → ⊥
none one h = true≢false (sym h)

pub in_front : (xs ys : List Says) (one : Says) → Has xs one → Has (xs ++ ys) one
in_front xs ys one h = list_any-append (same one) xs ys ∙ or_left (list_any (same one) xs) (list_any (same one) ys) h

pub in_back : (xs ys : List Says) (one : Says) → Has ys one → Has (xs ++ ys) one
in_back xs ys one h = list_any-append (same one) xs ys ∙ or_right (list_any (same one) xs) (list_any (same one) ys) h

pub in_parts : (xs ys : List Says) (one : Says) → Has (xs ++ ys) one → Has xs one ⊎ Has ys one
in_parts xs ys one h = or_cases (list_any (same one) xs) (list_any (same one) ys) (sym (list_any-append (same one) xs ys) ∙ h)

-- one that stands at a place
pub from_place : (says : List Says) (place : ℕ) (one : Says) → slice_get says place ≡ Some one → Has says one
from_place says place one e = any_passes_from_place (same one) says place one e (same_self one)

pub placed : (says : List Says) (one : Says) → Has says one → (place : ℕ) × (slice_get says place ≡ Some one)
placed [] one h = absurd (none one h)
placed (other ∷ says) one h =
    elim (which other one says h) [
      | inl e ↦ (zero, ap (λ (s : Says). Some s) (sym e))
      | inr m ↦ let r = placed says one m in (suc r.0, r.1)
    ]

-- ---- all being there

pub each_there : (says needs : List Says) (one : Says) → have says needs ≡ true → Has needs one → Has says one
each_there says [] one h m = absurd (none one m)
each_there says (need ∷ needs) one h m =
    let p = and_parts (list_any (same need) says) (have says needs) h in
    elim (which need one needs m) [ inl e ↦ subst (Has says) (sym e) p.0 | inr n ↦ each_there says needs one p.1 n ]

pub all_there : (says needs : List Says) → ((one : Says) → Has needs one → Has says one) → have says needs ≡ true
all_there says [] h = refl
all_there says (need ∷ needs) h =
    and_from (list_any (same need) says) (have says needs) (h need (here need needs)) (all_there says needs (λ one m. h one (there need one needs m)))

pub both_there : (says xs ys : List Says) → have says (xs ++ ys) ≡ true → (have says xs ≡ true) × (have says ys ≡ true)
both_there says xs ys h = and_parts (have says xs) (have says ys) (sym (list_all-append (λ (one : Says). list_any (same one) says) xs ys) ∙ h)

-- ---- more of them

pub added_keeps : (says : List Says) (more one : Says) → Has says one → Has (added says more) one
added_keeps says more one h = go (list_any (same more) says)
  where
    go : (b : Bool) → Has (if b then says else says ++ more ∷ []) one
    go true = h
    go false = in_front says (more ∷ []) one h

added_there : (says : List Says) (one : Says) → Has (added says one) one
added_there says one = go (list_any (same one) says) refl
  where
    go : (b : Bool) → list_any (same one) says ≡ b → Has (if b then says else says ++ one ∷ []) one
    go true e = e
    go false e = in_back says (one ∷ []) one (here one [])

added_from : (says : List Says) (more one : Says) → Has (added says more) one → Has says one ⊎ (one ≡ more)
added_from says more one = go (list_any (same more) says)
  where
    go : (b : Bool) → Has (if b then says else says ++ more ∷ []) one → Has says one ⊎ (one ≡ more)
    go true h = inl h
    go false h = elim (in_parts says (more ∷ []) one h) [
      | inl m ↦ inl m
      | inr m ↦ elim (which more one [] m) [ inl e ↦ inr e | inr n ↦ absurd (none one n) ]
    ]

pub all_keep : (says more : List Says) (one : Says) → Has says one → Has (all_added says more) one
all_keep says [] one h = h
all_keep says (next ∷ more) one h = all_keep (added says next) more one (added_keeps says next one h)

pub all_have : (says more : List Says) → have (all_added says more) more ≡ true
all_have says [] = refl
all_have says (next ∷ more) =
    and_from (list_any (same next) (all_added (added says next) more)) (have (all_added (added says next) more) more)
    (all_keep (added says next) more next (added_there says next)) (all_have (added says next) more)

pub all_from : (says more : List Says) (one : Says) → Has (all_added says more) one → Has says one ⊎ Has more one
all_from says [] one h = inl h
all_from says (next ∷ more) one h =
    elim (all_from (added says next) more one h) [
      | inl m ↦ elim (added_from says next one m) [
        | inl n ↦ inl n
        | inr e ↦ inr (subst (λ (s : Says). Has (s ∷ more) one) e (here one more))
      ]
      | inr m ↦ inr (there next one more m)
    ]

-- what is there is not added
pub already : (says more : List Says) → have says more ≡ true → all_added says more ≡ says
already says [] h = refl
already says (next ∷ more) h =
    let p = and_parts (list_any (same next) says) (have says more) h in
    ap (λ (b : Bool). all_added (if b then says else says ++ next ∷ []) more) p.0 ∙ already says more p.1

pub all_pass : (test : Says → Bool) (says more : List Says) → list_all test says ≡ true → list_all test more ≡ true → list_all test (all_added says more) ≡ true
all_pass test says [] h m = h
all_pass test says (next ∷ more) h m =
    let p = and_parts (test next) (list_all test more) m in
    all_pass test (added says next) more (go (list_any (same next) says) p.0) p.1
  where
    go : (b : Bool) → test next ≡ true → list_all test (if b then says else says ++ next ∷ []) ≡ true
    go true t = h
    go false t = list_all-append test says (next ∷ []) ∙ and_from (list_all test says) (list_all test (next ∷ [])) h (and_from (test next) true t refl)

-- at most one more
pub added_few : (says new : List Says) (more : Says) → new ≡ added says more → length new ≤ length says + 1
added_few says new more e = subst (λ (l : List Says). length l ≤ length says + 1) (sym e) (go (list_any (same more) says))
  where
    go : (b : Bool) → length (if b then says else says ++ more ∷ []) ≤ length says + 1
    go true = omega arith
    go false = omega (arith, length-append says (more ∷ []))

-- ---- places

get_front : (xs ys : List Says) (place : ℕ) (one : Says) → slice_get xs place ≡ Some one → slice_get (xs ++ ys) place ≡ Some one
get_front [] ys place one e = absurd cc
get_front (x ∷ xs) ys zero one e = e
get_front (x ∷ xs) ys (suc place) one e = get_front xs ys place one e

keeps_one : (says : List Says) (more : Says) → Keeps says (added says more)
keeps_one says more place one = go (list_any (same more) says)
  where
    go : (b : Bool) → slice_get says place ≡ Some one → slice_get (if b then says else says ++ more ∷ []) place ≡ Some one
    go true e = e
    go false e = get_front says (more ∷ []) place one e

pub keeps_all : (says more : List Says) → Keeps says (all_added says more)
keeps_all says [] place one e = e
keeps_all says (next ∷ more) place one e = keeps_all (added says next) more place one (keeps_one says next place one e)

-- a place in a list with one more at its end is an earlier one, or that one
last_place : (xs : List Says) (last : Says) (place : ℕ) (one : Says) → slice_get (xs ++ last ∷ []) place ≡ Some one
    → (slice_get xs place ≡ Some one) ⊎ ((place ≡ length xs) × (last ≡ one))
last_place [] last zero one e = inr (refl, cc)
last_place [] last (suc place) one e = inl e
last_place (x ∷ xs) last zero one e = inl e
last_place (x ∷ xs) last (suc place) one e = elim (last_place xs last place one e) [ inl a ↦ inl a | inr a ↦ inr (omega arith, a.1) ]

distinct_last : (says : List Says) (more : Says) → AreDistinct says → list_any (same more) says ≡ false → AreDistinct (says ++ more ∷ [])
distinct_last says more distinct new one other x p q =
    elim (last_place says more one x p) [
      | inl a ↦ elim (last_place says more other x q) [
        | inl b ↦ distinct one other x a b
        | inr b ↦ absurd (absent one (a ∙ ap (λ (s : Says). Some s) (sym b.1)))
      ]
      | inr a ↦ elim (last_place says more other x q) [
        | inl b ↦ absurd (absent other (b ∙ ap (λ (s : Says). Some s) (sym a.1)))
        | inr b ↦ a.0 ∙ sym b.0
      ]
    ]
  where
    absent : (place : ℕ) → slice_get says place ≡ Some more → ⊥
    absent place e = true≢false (sym (from_place says place more e) ∙ new)

distinct_one : (says : List Says) (more : Says) → AreDistinct says → AreDistinct (added says more)
distinct_one says more distinct = go (list_any (same more) says) refl
  where
    go : (b : Bool) → list_any (same more) says ≡ b → AreDistinct (if b then says else says ++ more ∷ [])
    go true e = distinct
    go false e = distinct_last says more distinct e

pub distinct_all : (says more : List Says) → AreDistinct says → AreDistinct (all_added says more)
distinct_all says [] distinct = distinct
distinct_all says (next ∷ more) distinct = distinct_all (added says next) more (distinct_one says next distinct)

pub distinct_none : AreDistinct {A = Says} []
distinct_none one other x p q = absurd cc
