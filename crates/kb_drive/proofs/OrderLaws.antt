-- Lists of decisions that rise, when some of them go on.
use Rattle.std.proofs.Common.{◌≡◌, ◌≢◌, ◌⊎◌, ℕ, zero, suc, ◌<◌, List, [], ◌∷◌, ◌++◌, map, Some, slice_get, inl, inr, refl, sym, ap, ◌∙◌, subst, arith, append_assoc}
use Rattle.std.specs.Option.{option_map}
use Rattle.std.proofs.lemmas.Option.{slice_get-map}
use Rattle.kb_drive.specs.Division.{DecisionsComeBefore, IsFrontOf, AreDecisions}
use Rattle.kb_drive.specs.Walks.{IsBelow, IsBelowEach, AreRising, BeginWith}

-- ---- one list below another

pub below_longer : (one other more : List ℕ) → IsBelow one other → IsBelow one (other ++ more)
below_longer [] other more h = absurd h
below_longer (n ∷ ns) [] more h = absurd h
below_longer (n ∷ ns) (m ∷ ms) more h = elim h [ inl less ↦ inl less | inr same ↦ inr (same.0, below_longer ns ms more same.1) ]

pub longer_below : (one more other : List ℕ) → IsBelow one other → IsBelow (one ++ more) other
longer_below [] more other h = absurd h
longer_below (n ∷ ns) more [] h = absurd h
longer_below (n ∷ ns) more (m ∷ ms) h = elim h [ inl less ↦ inl less | inr same ↦ inr (same.0, longer_below ns more ms same.1) ]

-- two that go on from one list by other numbers
pub next_below : (one : List ℕ) (n m : ℕ) → n < m → IsBelow (one ++ n ∷ []) (one ++ m ∷ [])
next_below [] n m less = inl less
next_below (k ∷ ks) n m less = inr (refl, next_below ks n m less)

-- a list that is below another one comes before it, and neither is the front of the other
pub below_before : (one other : List ℕ) → IsBelow one other → DecisionsComeBefore one other
below_before [] other h = absurd h
below_before (n ∷ ns) [] h = absurd h
below_before (n ∷ ns) (m ∷ ms) h = elim h [ inl less ↦ inl less | inr same ↦ inr (same.0, below_before ns ms same.1) ]

heads_same : {n m : ℕ} {ns ms : List ℕ} → n ∷ ns ≡ m ∷ ms → n ≡ m
heads_same e = cc

tails_same : {n m : ℕ} {ns ms : List ℕ} → n ∷ ns ≡ m ∷ ms → ns ≡ ms
tails_same e = cc

pub below_apart : (one other : List ℕ) → IsBelow one other → IsFrontOf one other → ⊥
below_apart [] other h front = h
below_apart (n ∷ ns) [] h front = h
below_apart (n ∷ ns) (m ∷ ms) h front = elim h [
  | inl less ↦ (let same : m ≡ n = heads_same front.1 in omega (arith, less, same))
  | inr same ↦ below_apart ns ms same.1 (front.0, tails_same front.1)
]

pub apart_below : (one other : List ℕ) → IsBelow one other → IsFrontOf other one → ⊥
apart_below [] other h front = h
apart_below (n ∷ ns) [] h front = h
apart_below (n ∷ ns) (m ∷ ms) h front = elim h [
  | inl less ↦ (let same : n ≡ m = heads_same front.1 in omega (arith, less, same))
  | inr same ↦ apart_below ns ms same.1 (front.0, tails_same front.1)
]

-- ---- one list below each of some

pub below_each_append : (one : List ℕ) (xs ys : List (List ℕ)) → IsBelowEach one xs → IsBelowEach one ys → IsBelowEach one (xs ++ ys)
below_each_append one [] ys hx hy = hy
below_each_append one (x ∷ xs) ys hx hy = (hx.0, below_each_append one xs ys hx.1 hy)

below_each_front : (one : List ℕ) (xs ys : List (List ℕ)) → IsBelowEach one (xs ++ ys) → IsBelowEach one xs
below_each_front one [] ys h = tt
below_each_front one (x ∷ xs) ys h = (h.0, below_each_front one xs ys h.1)

below_each_behind : (one : List ℕ) (xs ys : List (List ℕ)) → IsBelowEach one (xs ++ ys) → IsBelowEach one ys
below_each_behind one [] ys h = h
below_each_behind one (x ∷ xs) ys h = below_each_behind one xs ys h.1

-- a list that is below one is below each that goes on from that one
below_begun : (one d : List ℕ) (ds : List (List ℕ)) → IsBelow one d → BeginWith d ds → IsBelowEach one ds
below_begun one d [] h begin = tt
below_begun one d (e ∷ ds) h begin =
    (subst (IsBelow one) (sym begin.0.1) (below_longer one d begin.0.0 h), below_begun one d ds h begin.1)

-- each that goes on from a list is below what that list is below
begun_below : (d e : List ℕ) (ys : List (List ℕ)) → IsFrontOf d e → IsBelowEach d ys → IsBelowEach e ys
begun_below d e [] front h = tt
begun_below d e (y ∷ ys) front h =
    (subst (λ (x : List ℕ). IsBelow x y) (sym front.1) (longer_below d front.0 y h.0), begun_below d e ys front h.1)

-- ---- lists that rise

rising_append : (ds ys : List (List ℕ)) (d : List ℕ) → BeginWith d ds → AreRising ds → IsBelowEach d ys → AreRising ys → AreRising (ds ++ ys)
rising_append [] ys d begin rising below more = more
rising_append (e ∷ ds) ys d begin rising below more =
    (below_each_append e ds ys rising.0 (begun_below d e ys begin.0 below), rising_append ds ys d begin.1 rising.1 below more)

-- Where one of them is replaced by lists that go on from it and rise, they all rise.
pub rising_replaced : (xs : List (List ℕ)) (d : List ℕ) (ds ys : List (List ℕ)) → BeginWith d ds → AreRising ds → AreRising (xs ++ d ∷ ys) → AreRising (xs ++ (ds ++ ys))
rising_replaced [] d ds ys begin rising all = rising_append ds ys d begin rising all.0 all.1
rising_replaced (x ∷ xs) d ds ys begin rising all = (
  below_each_append x xs (ds ++ ys) (below_each_front x xs (d ∷ ys) all.0)
      (below_each_append x ds ys (below_begun x d ds (below_each_behind x xs (d ∷ ys) all.0).0 begin) (below_each_behind x xs (d ∷ ys) all.0).1),
  rising_replaced xs d ds ys begin rising all.1,
)

-- ---- lists that begin with a front

begin_each : (front d : List ℕ) (ds : List (List ℕ)) → IsFrontOf front d → BeginWith d ds → BeginWith front ds
begin_each front d [] begin h = tt
begin_each front d (e ∷ ds) begin h = ((begin.0 ++ h.0.0, longer begin.1 h.0.1), begin_each front d ds begin h.1)
  where
    longer : d ≡ front ++ begin.0 → e ≡ d ++ h.0.0 → e ≡ front ++ (begin.0 ++ h.0.0)
    longer de ee = ee ∙ ap (λ (l : List ℕ). l ++ h.0.0) de ∙ append_assoc front begin.0 h.0.0

pub begin_replaced : (front : List ℕ) (xs : List (List ℕ)) (d : List ℕ) (ds ys : List (List ℕ)) → BeginWith d ds → BeginWith front (xs ++ d ∷ ys) → BeginWith front (xs ++ (ds ++ ys))
begin_replaced front [] d ds ys begin all = put ds (begin_each front d ds all.0 begin)
  where
    put : (es : List (List ℕ)) → BeginWith front es → BeginWith front (es ++ ys)
    put [] h = all.1
    put (e ∷ es) h = (h.0, put es h.1)
begin_replaced front (x ∷ xs) d ds ys begin all = (all.0, begin_replaced front xs d ds ys begin all.1)

-- ---- as they are said of listed things

below_at : (one : List ℕ) (ds : List (List ℕ)) (i : ℕ) (other : List ℕ) → IsBelowEach one ds → slice_get ds i ≡ Some other → IsBelow one other
below_at one [] i other h e = absurd cc
below_at one (d ∷ ds) zero other h e = let same : d ≡ other = cc in subst (IsBelow one) same h.0
below_at one (d ∷ ds) (suc i) other h e = below_at one ds i other h.1 e

pub rising_at : (ds : List (List ℕ)) (i j : ℕ) (one other : List ℕ) → AreRising ds → slice_get ds i ≡ Some one → slice_get ds j ≡ Some other → i < j → IsBelow one other
rising_at [] i j one other h e f less = absurd cc
rising_at (d ∷ ds) zero zero one other h e f less = absurd (omega (arith, less))
rising_at (d ∷ ds) zero (suc j) one other h e f less = let same : d ≡ one = cc in below_at one ds j other (subst (λ (x : List ℕ). IsBelowEach x ds) same h.0) f
rising_at (d ∷ ds) (suc i) zero one other h e f less = absurd (omega (arith, less))
rising_at (d ∷ ds) (suc i) (suc j) one other h e f less = rising_at ds i j one other h.1 e f (omega (arith, less))

three_ways : (i j : ℕ) → (i < j) ⊎ ((i ≡ j) ⊎ (j < i))
three_ways zero zero = inr (inl refl)
three_ways zero (suc j) = inl (omega arith)
three_ways (suc i) zero = inr (inr (omega arith))
three_ways (suc i) (suc j) = elim (three_ways i j) [
  | inl less ↦ inl (omega (arith, less))
  | inr rest ↦ elim rest [ inl same ↦ inr (inl (ap suc same)) | inr more ↦ inr (inr (omega (arith, more))) ]
]

module _ {A : Type 0} (decisions : A → List ℕ) (listed : List A) where
  there : (i : ℕ) (one : A) → slice_get listed i ≡ Some one → slice_get (map decisions listed) i ≡ Some (decisions one)
  there i one e = slice_get-map decisions listed i ∙ ap (option_map decisions) e

  below : (i j : ℕ) (one other : A) → AreRising (map decisions listed) → slice_get listed i ≡ Some one → slice_get listed j ≡ Some other → i < j
      → IsBelow (decisions one) (decisions other)
  below i j one other h e f less = rising_at (map decisions listed) i j (decisions one) (decisions other) h (there i one e) (there j other f) less

  apart : (i j : ℕ) (one other : A) → AreRising (map decisions listed) → slice_get listed i ≡ Some one → slice_get listed j ≡ Some other
      → (i < j) ⊎ ((i ≡ j) ⊎ (j < i)) → i ≢ j → IsFrontOf (decisions one) (decisions other) → ⊥
  apart i j one other h e f (inl less) ne front = below_apart (decisions one) (decisions other) (below i j one other h e f less) front
  apart i j one other h e f (inr (inl same)) ne front = ne same
  apart i j one other h e f (inr (inr more)) ne front = apart_below (decisions other) (decisions one) (below j i other one h f e more) front

  -- listed things whose decisions rise are in order
  pub in_order : AreRising (map decisions listed) → AreDecisions decisions listed
  in_order h = record {
    rising = λ i j one other e f less. below_before (decisions one) (decisions other) (below i j one other h e f less);
    apart = λ i j one other e f ne front. apart i j one other h e f (three_ways i j) ne front;
  }
