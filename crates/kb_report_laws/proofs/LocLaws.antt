-- Locations are numbered in the order of reading, so that one slot alone is seen as each.
use Rattle.std.proofs.Common.{◌≡◌, ℕ, zero, suc, ◌+◌, ◌≤◌, List, [], ◌∷◌, ◌++◌, Option, Some, None, refl, sym, ap, ◌∙◌, arith}
use Rattle.std.specs.Prelude.{slice_get}
use Rattle.std.specs.List.{filter_map}
use Rattle.std.proofs.lemmas.Option.{same_Some}
use Rattle.kb_semantics.specs.Looks.{numbers_below}
use Rattle.kb_picture.specs.WellFormed.{location_seen}
use Rattle.kb_picture.specs.declared.picture.Origin.{Origin}
use Rattle.kb_picture.specs.declared.picture.PicLoc.{PicLoc}
use Rattle.kb_picture.specs.declared.picture.Seen.{Seen}
use Rattle.kb_picture.specs.declared.picture.Seen.TheVariants as seens
use Rattle.kb_report_laws.proofs.Sections.{EachPair, heads}

-- ---- numbers in order

abbrev upto : ℕ → ℕ → List ℕ
upto first zero = []
upto first (suc n) = first ∷ upto (suc first) n

upto_push : (first n : ℕ) → upto first (suc n) ≡ upto first n ++ (first + n) ∷ []
upto_push first zero =
    let same : first ≡ first + 0 = omega arith in
    ap (λ (k : ℕ). k ∷ []) same
upto_push first (suc n) =
    let same : suc first + n ≡ first + suc n = omega arith in
    ap (λ (l : List ℕ). first ∷ l) (upto_push (suc first) n ∙ ap (λ (k : ℕ). upto (suc first) n ++ k ∷ []) same)

numbers_upto : (n : ℕ) → numbers_below n ≡ upto 0 n
numbers_upto zero = refl
numbers_upto (suc n) =
    let same : 0 + n ≡ n = omega arith in
    ap (λ (l : List ℕ). l ++ n ∷ []) (numbers_upto n) ∙ ap (λ (k : ℕ). upto 0 n ++ k ∷ []) (sym same) ∙ sym (upto_push 0 n)

-- ---- slots that are seen as locations

abbrev numbers_of : List (Origin × Seen) → List ℕ
numbers_of seen = filter_map (λ (slot : Origin × Seen). location_seen slot.1) seen

none_first : (slot : Origin × Seen) (seen : List (Origin × Seen)) → location_seen slot.1 ≡ None → numbers_of (slot ∷ seen) ≡ numbers_of seen
none_first slot seen is = rw is refl

some_first : (slot : Origin × Seen) (seen : List (Origin × Seen)) (number : ℕ) → location_seen slot.1 ≡ Some number → numbers_of (slot ∷ seen) ≡ number ∷ numbers_of seen
some_first slot seen number is = rw is refl

at_least : (seen : List (Origin × Seen)) (first n : ℕ) → numbers_of seen ≡ upto first n → (place : ℕ) (slot : Origin × Seen) (number : ℕ) → slice_get seen place ≡ Some slot
    → location_seen slot.1 ≡ Some number → first ≤ number
at_least [] first n e place slot number at is = absurd cc
at_least (s ∷ ss) first n e place slot number at is = go (λ f m h p a. at_least ss f m h p slot number a is) (location_seen s.1) refl n e place at
  where
    go : ((f m : ℕ) → numbers_of ss ≡ upto f m → (p : ℕ) → slice_get ss p ≡ Some slot → f ≤ number) → (o : Option ℕ) → location_seen s.1 ≡ o
        → (m : ℕ) → numbers_of (s ∷ ss) ≡ upto first m → (p : ℕ) → slice_get (s ∷ ss) p ≡ Some slot → first ≤ number
    go again None none m e zero at =
        let other : location_seen s.1 ≡ Some number = ap (λ (t : Origin × Seen). location_seen t.1) (same_Some s slot at) ∙ is in
        absurd cc
    go again None none m e (suc p) at = again first m (sym (none_first s ss none) ∙ e) p at
    go again (Some k) some zero e p at = let empty : k ∷ numbers_of ss ≡ [] = sym (some_first s ss k some) ∙ e in absurd cc
    go again (Some k) some (suc m) e zero at =
        let parts = heads k first (numbers_of ss) (upto (suc first) m) (sym (some_first s ss k some) ∙ e) in
        let own : Some k ≡ Some number = sym some ∙ ap (λ (t : Origin × Seen). location_seen t.1) (same_Some s slot at) ∙ is in
        let same = same_Some k number own in
        omega (arith, same, parts.0)
    go again (Some k) some (suc m) e (suc p) at =
        let parts = heads k first (numbers_of ss) (upto (suc first) m) (sym (some_first s ss k some) ∙ e) in
        let above = again (suc first) m parts.1 p at in
        omega (arith, above)

one_seen : (seen : List (Origin × Seen)) (first n : ℕ) → numbers_of seen ≡ upto first n → (p q : ℕ) (slot other : Origin × Seen) (number : ℕ) → slice_get seen p ≡ Some slot → slice_get seen q ≡ Some other
    → location_seen slot.1 ≡ Some number → location_seen other.1 ≡ Some number → slot ≡ other
one_seen [] first n e p q slot other number at there is too = absurd cc
one_seen (s ∷ ss) first n e p q slot other number at there is too = go (λ f m h i j a b. one_seen ss f m h i j slot other number a b is too) (location_seen s.1) refl n e p q at there
  where
    clash : location_seen s.1 ≡ None → (t : Origin × Seen) → Some s ≡ Some t → location_seen t.1 ≡ Some number → ⊥
    clash none t at is =
        let own : location_seen s.1 ≡ Some number = ap (λ (u : Origin × Seen). location_seen u.1) (same_Some s t at) ∙ is in
        let no : None ≡ Some number = sym none ∙ own in
        cc

    later : (k m : ℕ) → numbers_of ss ≡ upto (suc k) m → (t u : Origin × Seen) (j : ℕ) → Some s ≡ Some t → location_seen s.1 ≡ Some k → location_seen t.1 ≡ Some number → slice_get ss j ≡ Some u → location_seen u.1 ≡ Some number → ⊥
    later k m e t u j at some is there too =
        let own : Some k ≡ Some number = sym some ∙ ap (λ (w : Origin × Seen). location_seen w.1) (same_Some s t at) ∙ is in
        let same = same_Some k number own in
        let above = at_least ss (suc k) m e j u number there too in
        omega (arith, same, above)

    go : ((f m : ℕ) → numbers_of ss ≡ upto f m → (i j : ℕ) → slice_get ss i ≡ Some slot → slice_get ss j ≡ Some other → slot ≡ other) → (o : Option ℕ) → location_seen s.1 ≡ o
        → (m : ℕ) → numbers_of (s ∷ ss) ≡ upto first m → (i j : ℕ) → slice_get (s ∷ ss) i ≡ Some slot → slice_get (s ∷ ss) j ≡ Some other → slot ≡ other
    go again None none m e zero j at there = absurd (clash none slot at is)
    go again None none m e (suc i) zero at there = absurd (clash none other there too)
    go again None none m e (suc i) (suc j) at there = again first m (sym (none_first s ss none) ∙ e) i j at there
    go again (Some k) some zero e i j at there = let empty : k ∷ numbers_of ss ≡ [] = sym (some_first s ss k some) ∙ e in absurd cc
    go again (Some k) some (suc m) e zero zero at there = sym (same_Some s slot at) ∙ same_Some s other there
    go again (Some k) some (suc m) e zero (suc j) at there =
        let parts = heads k first (numbers_of ss) (upto (suc first) m) (sym (some_first s ss k some) ∙ e) in
        let tail : numbers_of ss ≡ upto (suc k) m = parts.1 ∙ ap (λ (f : ℕ). upto (suc f) m) (sym parts.0) in
        absurd (later k m tail slot other j at some is there too)
    go again (Some k) some (suc m) e (suc i) zero at there =
        let parts = heads k first (numbers_of ss) (upto (suc first) m) (sym (some_first s ss k some) ∙ e) in
        let tail : numbers_of ss ≡ upto (suc k) m = parts.1 ∙ ap (λ (f : ℕ). upto (suc f) m) (sym parts.0) in
        absurd (later k m tail other slot i there some too at is)
    go again (Some k) some (suc m) e (suc i) (suc j) at there =
        let parts = heads k first (numbers_of ss) (upto (suc first) m) (sym (some_first s ss k some) ∙ e) in
        again (suc first) m parts.1 i j at there

pub one_origin : (seen : List (Origin × Seen)) (many : ℕ) → numbers_of seen ≡ numbers_below many → (p q : ℕ) (one other : Origin) (number : ℕ)
    → slice_get seen p ≡ Some (one, seens.Loc number) → slice_get seen q ≡ Some (other, seens.Loc number) → one ≡ other
one_origin seen many e p q one other number at there =
    ap (λ (slot : Origin × Seen). slot.0) (one_seen seen 0 many (e ∙ numbers_upto many) p q (one, seens.Loc number) (other, seens.Loc number) number at there refl refl)

-- locations that stand alike and have one origin each
pub same_locs : (xs ys : List PicLoc) → EachPair (λ (x y : PicLoc). x.standing ≡ y.standing) xs ys
    → ((n : ℕ) (x y : PicLoc) → slice_get xs n ≡ Some x → slice_get ys n ≡ Some y → x.origin ≡ y.origin) → xs ≡ ys
same_locs [] [] pairs origins = refl
same_locs [] (y ∷ ys) pairs origins = absurd pairs
same_locs (x ∷ xs) [] pairs origins = absurd pairs
same_locs (x ∷ xs) (y ∷ ys) pairs origins =
    let origin = origins zero x y refl refl in
    let standing = pairs.0 in
    let rest = same_locs xs ys pairs.1 (λ n a b p q. origins (suc n) a b p q) in
    λ i. record { origin = origin i; standing = standing i } ∷ rest i
