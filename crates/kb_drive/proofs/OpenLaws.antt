-- Where open paths stand when one path more is listed.
use Rattle.std.proofs.Common.{◌≡◌, ◌⊎◌, ℕ, zero, suc, ◌+◌, ◌<◌, ◌≤◌, Bool, true, false, not, List, [], ◌∷◌, ◌++◌, length, Some, slice_get, inl, inr, refl, sym, ap, ◌∙◌, subst, arith}
use Rattle.std.specs.Prelude.{count_by}
use Rattle.kb_picture.specs.declared.path.Leaf.{Leaf}
use Rattle.kb_picture.specs.declared.path.Leaf.TheVariants.{Ended as EndedLeaf, Cut, Undecided, Open}
use Rattle.kb_picture.specs.declared.path.Path.{Path}
use Rattle.kb_drive.proofs.SumLaws.{count_first}
use Rattle.kb_picture.specs.Carried.{EachPath}
use Rattle.kb_drive.specs.Covers.{AreOpenLast, closed_count, is_open}

-- what stands in a list with one more item: an earlier one in its place, or the last one
pub record StandsIn {A : Type 0} (xs : List A) (last item : A) (i : ℕ) : Type 0 where
  pub earlier : i < length xs → slice_get xs i ≡ Some item
  pub at_end : length xs ≤ i → (i ≡ length xs) × (item ≡ last)

pub stands_in : {A : Type 0} (xs : List A) (last item : A) (i : ℕ) → slice_get (xs ++ last ∷ []) i ≡ Some item → StandsIn xs last item i
stands_in [] last item zero e = record { earlier = λ less. absurd (omega (arith, less)); at_end = λ le. (refl, cc) }
stands_in [] last item (suc i) e = absurd cc
stands_in (x ∷ xs) last item zero e = record { earlier = λ less. e; at_end = λ le. absurd (omega (arith, le)) }
stands_in (x ∷ xs) last item (suc i) e = later (stands_in xs last item i e)
  where
    later : StandsIn xs last item i → StandsIn (x ∷ xs) last item (suc i)
    later s = record { earlier = λ less. s.earlier (omega (arith, less)); at_end = λ le. (let h = s.at_end (omega (arith, le)) in (ap suc h.0, h.1)) }

pub count_more : {A : Type 0} (test : A → Bool) (xs : List A) (x : A) → count_by test (xs ++ x ∷ []) ≡ count_by test xs + count_by test (x ∷ [])
count_more test [] x = omega arith
count_more test (y ∷ ys) x =
    let later = count_more test ys x in
    let whole = count_first test y (ys ++ x ∷ []) in
    let first = count_first test y ys in
    omega (arith, later, whole, first)

pub within : (i n : ℕ) → (i < n) ⊎ (n ≤ i)
within i zero = inr (omega arith)
within zero (suc n) = inl (omega arith)
within (suc i) (suc n) = elim (within i n) [ inl less ↦ inl (omega (arith, less)) | inr more ↦ inr (omega (arith, more)) ]

-- what holds of each path and of one more
pub each_more : (P : Path → Type 0) (listed : List Path) (path : Path) → EachPath P listed → P path → EachPath P (listed ++ path ∷ [])
each_more P listed path each here i item e = go (within i (length listed)) (stands_in listed path item i e)
  where
    go : (i < length listed) ⊎ (length listed ≤ i) → StandsIn listed path item i → P item
    go (inl less) s = each i item (s.earlier less)
    go (inr more) s = subst P (sym (s.at_end more).1) here

open_is : (leaf : Leaf) → is_open leaf ≡ false → leaf ≡ Open → false ≡ true
open_is (EndedLeaf ended) f e = absurd cc
open_is (Cut bound input) f e = absurd cc
open_is (Undecided log) f e = absurd cc
open_is Open f e = sym f

-- a path that is not open, where there is room
pub open_last_closed : (paths : ℕ) (listed : List Path) (path : Path) → AreOpenLast paths listed → closed_count listed < paths → is_open path.leaf ≡ false
    → AreOpenLast paths (listed ++ path ∷ [])
open_last_closed paths listed path kept room closed = record {
  most = omega (arith, count, one, room);
  full = λ i item e o. absurd (none i item e o);
  last = λ i j one other e f less o. absurd (none i one e o);
}
  where
    count : closed_count (listed ++ path ∷ []) ≡ closed_count listed + closed_count (path ∷ [])
    count = count_more (λ (p : Path). not (is_open p.leaf)) listed path

    one : closed_count (path ∷ []) ≡ 1
    one = rw closed refl

    -- an open path would stand before it, and then there were as many as may be
    none : (i : ℕ) (item : Path) → slice_get (listed ++ path ∷ []) i ≡ Some item → item.leaf ≡ Open → ⊥
    none i item e o = go (within i (length listed)) (stands_in listed path item i e)
      where
        go : (i < length listed) ⊎ (length listed ≤ i) → StandsIn listed path item i → ⊥
        go (inl less) s = let full = kept.full i item (s.earlier less) o in omega (arith, full, room)
        go (inr more) s = let same : item ≡ path = (s.at_end more).1 in let never : false ≡ true = open_is path.leaf closed (rw (sym same) o) in absurd cc

-- an open path, where there is none
pub open_last_open : (paths : ℕ) (listed : List Path) (path : Path) → AreOpenLast paths listed → paths ≤ closed_count listed → path.leaf ≡ Open
    → AreOpenLast paths (listed ++ path ∷ [])
open_last_open paths listed path kept none is = record {
  most = omega (arith, count, zero_more, kept.most);
  full = λ i item e o. omega (arith, count, zero_more, kept.most, none);
  last = λ i j one other e f less o. after i j one other e f less o (within j (length listed)) (stands_in listed path one i e) (stands_in listed path other j f);
}
  where
    count : closed_count (listed ++ path ∷ []) ≡ closed_count listed + closed_count (path ∷ [])
    count = count_more (λ (p : Path). not (is_open p.leaf)) listed path

    zero_more : closed_count (path ∷ []) ≡ 0
    zero_more = rw is refl

    after : (i j : ℕ) (one other : Path) → slice_get (listed ++ path ∷ []) i ≡ Some one → slice_get (listed ++ path ∷ []) j ≡ Some other → i < j → one.leaf ≡ Open
        → (j < length listed) ⊎ (length listed ≤ j) → StandsIn listed path one i → StandsIn listed path other j → other.leaf ≡ Open
    after i j one other e f less o (inl inside) s t = kept.last i j one other (s.earlier (omega (arith, less, inside))) (t.earlier inside) less o
    after i j one other e f less o (inr more) s t = ap (λ (p : Path). p.leaf) (t.at_end more).1 ∙ is
