-- Unit propagation: clauses against growing sets of literals.
use Rattle.std.proofs.Common.{◌≡◌, ℕ, ◌+◌, ◌*◌, ◌<◌, ◌≤◌, List, [], ◌∷◌, ◌++◌, Bool, true, false, not, ◌&&◌, ◌||◌, cond, arith, refl, ap, sym, ◌∙◌, inl, inr, ◌⊎◌, subst, length, get_or, take, zero, suc, ◌==◌, Option, Some, None, length-take, drop, drop-cons}
use Rattle.std.specs.Option.{option_to_list, is_some}
use Rattle.std.proofs.lemmas.List.Elements.{filter-append}
use Rattle.std.proofs.lemmas.Bool.{and_parts, and_from, or_cases, or_left, or_right, cases_Bool, false≢true, eqb-true, not-true, false_from_ne_true}
use Rattle.std.proofs.lemmas.List.{take_all, take_more, take-append-drop}
use Rattle.std.proofs.lemmas.List.Folds.{list_any-append}
use Rattle.std.specs.List.{filter}
use Rattle.kb_chain.specs.Literal.{Literal, literal, negated, place_of, same, has}
use Rattle.kb_chain.specs.Clause.{IsOrdered}
use Rattle.kb_chain.specs.Propagation.{others, all_negated, IsClosed, NegatesSome}
use Rattle.kb_chain.specs.Index.{joined, IsFrontOf, IsSettled, AreSettled, open_literals, status_of, has_number}
use Rattle.kb_chain.specs.declared.propagation.Status.TheVariants.{Negated, Unit, Open}
use Rattle.kb_chain.proofs.LiteralLaws.{same-true, has_head, has_tail, has-append, has-filter, negated-negated}
use Rattle.kb_chain.proofs.OrderLaws.{IsOrdered-filter, has_take-suc}

-- one set within another
abbrev pub IsPart : (Literal → Bool) → (Literal → Bool) → Type 0
IsPart s t = (l : Literal) → s l ≡ true → t l ≡ true

pub all_negated-from : (set : Literal → Bool) (clause : List Literal) → ((l : Literal) → has clause l ≡ true → set (negated l) ≡ true) → all_negated set clause ≡ true
all_negated-from set [] f = refl
all_negated-from set (x ∷ xs) f = and_from _ _ (f x (has_head x xs)) (all_negated-from set xs (λ l e. f l (has_tail x xs l e)))

pub all_negated-at : (set : Literal → Bool) (clause : List Literal) → all_negated set clause ≡ true → (l : Literal) → has clause l ≡ true → set (negated l) ≡ true
all_negated-at set [] h l e = absurd (false≢true e)
all_negated-at set (x ∷ xs) h l e =
    let p = and_parts _ _ h in
    elim (or_cases (same l x) (has xs l) e) [
      | inl s ↦ ap (λ z. set (negated z)) (same-true l x s) ∙ p.0
      | inr s ↦ all_negated-at set xs p.1 l s
    ]

pub not_all_negated : (set : Literal → Bool) (clause : List Literal) (l : Literal) → has clause l ≡ true → set (negated l) ≡ false → all_negated set clause ≡ false
not_all_negated set clause l e f = false_from_ne_true _ (λ h. false≢true (sym f ∙ all_negated-at set clause h l e))

pub all_negated_more : (s t : Literal → Bool) (clause : List Literal) → IsPart s t → all_negated s clause ≡ true → all_negated t clause ≡ true
all_negated_more s t clause f h = all_negated-from t clause (λ l e. f (negated l) (all_negated-at s clause h l e))

pub has-others : (l : Literal) (clause : List Literal) (m : Literal) → has (others l clause) m ≡ (has clause m && not (same m l))
has-others l clause m = has-filter (λ m. not (same m l)) clause m

pub IsSettled_more : (s s' t t' : Literal → Bool) (clause : List Literal) → IsPart s' s → IsPart t t' → IsSettled s t clause → IsSettled s' t' clause
IsSettled_more s s' t t' clause f g h = record {
  consistent = false_from_ne_true _ (λ e. false≢true (sym h.consistent ∙ all_negated_more s' s clause f e));
  reached = λ l i o. g l (h.reached l i (all_negated_more s' s (others l clause) f o));
}

-- what the standing of a clause says of its open literals
pub negated_status : (ls : List Literal) → Negated ≡ status_of ls → ls ≡ []
negated_status [] e = refl
negated_status (x ∷ []) e = cc
negated_status (x ∷ y ∷ zs) e = cc

pub unit_status : (ls : List Literal) (l : Literal) → Unit l ≡ status_of ls → ls ≡ l ∷ []
unit_status [] l e = cc
unit_status (x ∷ []) l e = let s : l ≡ x = cc in ap (λ z. z ∷ []) (sym s)
unit_status (x ∷ y ∷ zs) l e = cc

pub open_status : (ls : List Literal) → Open ≡ status_of ls → (x : Literal) × (y : Literal) × (zs : List Literal) × (ls ≡ x ∷ y ∷ zs)
open_status [] e = cc
open_status (x ∷ []) e = cc
open_status (x ∷ y ∷ zs) e = (x, y, zs, refl)

pub has-open : (set : Literal → Bool) (clause : List Literal) (l : Literal) → has (open_literals set clause) l ≡ (has clause l && not (set (negated l)))
has-open set clause l = has-filter (λ m. not (set (negated m))) clause l

is_open : (set : Literal → Bool) (clause : List Literal) (l : Literal) → has clause l ≡ true → set (negated l) ≡ false → has (open_literals set clause) l ≡ true
is_open set clause l e f = has-open set clause l ∙ and_from _ _ e (ap not f)

open_parts : (set : Literal → Bool) (clause : List Literal) (l : Literal) → has (open_literals set clause) l ≡ true → (has clause l ≡ true) × (set (negated l) ≡ false)
open_parts set clause l e = let p = and_parts _ _ (sym (has-open set clause l) ∙ e) in (p.0, not-true _ p.1)

-- a literal that is not open is negated
closed_literal : (set : Literal → Bool) (clause : List Literal) (l : Literal) → has clause l ≡ true → has (open_literals set clause) l ≡ false → set (negated l) ≡ true
closed_literal set clause l e f = elim (cases_Bool (set (negated l))) [
  | inl t ↦ t
  | inr n ↦ absurd (false≢true (sym f ∙ is_open set clause l e n))
]

pub none_open : (set : Literal → Bool) (clause : List Literal) → open_literals set clause ≡ [] → all_negated set clause ≡ true
none_open set clause e = all_negated-from set clause (λ l i. closed_literal set clause l i (ap (λ z. has z l) e))

pub one_open_in : (set : Literal → Bool) (clause : List Literal) (x : Literal) → open_literals set clause ≡ x ∷ [] → (has clause x ≡ true) × (set (negated x) ≡ false)
one_open_in set clause x e = open_parts set clause x (ap (λ z. has z x) e ∙ has_head x [])

pub one_open_others : (set : Literal → Bool) (clause : List Literal) (x : Literal) → open_literals set clause ≡ x ∷ [] → all_negated set (others x clause) ≡ true
one_open_others set clause x e = all_negated-from set (others x clause) (λ l i.
    (let p = and_parts _ _ (sym (has-others x clause l) ∙ i) in
    closed_literal set clause l p.0 (ap (λ z. has z l) e ∙ ap (λ b. b || false) (not-true _ p.1))))

pub one_open_settled : (set later : Literal → Bool) (clause : List Literal) (x : Literal) → open_literals set clause ≡ x ∷ [] → later x ≡ true → IsSettled set later clause
one_open_settled set later clause x e t =
    let p = one_open_in set clause x e in record {
      consistent = not_all_negated set clause x p.0 p.1;
      reached = λ l i o. elim (cases_Bool (same x l)) [
        | inl s ↦ ap later (sym (same-true x l s)) ∙ t
        | inr s ↦ absurd (false≢true (sym p.1 ∙ all_negated-at set (others l clause) o x (has-others l clause x ∙ and_from _ _ p.0 (ap not s))))
      ];
    }

pub two_open_settled : (set later : Literal → Bool) (clause : List Literal) (x y : Literal) (zs : List Literal) → IsOrdered clause
    → open_literals set clause ≡ x ∷ y ∷ zs → IsSettled set later clause
two_open_settled set later clause x y zs h e =
    let p = open_parts set clause x (ap (λ z. has z x) e ∙ has_head x (y ∷ zs)) in
    let q = open_parts set clause y (ap (λ z. has z y) e ∙ has_tail x (y ∷ zs) y (has_head y zs)) in
    let o : IsOrdered (x ∷ y ∷ zs) = subst (λ z. IsOrdered z) e (IsOrdered-filter (λ m. not (set (negated m))) clause h) in
    record {
      consistent = not_all_negated set clause x p.0 p.1;
      reached = λ l i n. elim (cases_Bool (same x l)) [
        | inr s ↦ absurd (false≢true (sym p.1 ∙ all_negated-at set (others l clause) n x (has-others l clause x ∙ and_from _ _ p.0 (ap not s))))
        | inl s ↦ elim (cases_Bool (same y l)) [
          | inr t ↦ absurd (false≢true (sym q.1 ∙ all_negated-at set (others l clause) n y (has-others l clause y ∙ and_from _ _ q.0 (ap not t))))
          | inl t ↦ absurd (apart x y l o s t)
        ]
      ];
    }
  where
    apart : (x y l : Literal) → IsOrdered (x ∷ y ∷ zs) → same x l ≡ true → same y l ≡ true → ⊥
    apart x y l o s t =
        let a : place_of x ≡ place_of l = eqb-true (place_of x) (place_of l) s in
        let b : place_of y ≡ place_of l = eqb-true (place_of y) (place_of l) t in
        let d : place_of x < place_of y = o.0.0 in
        absurd (omega arith)

-- joined literals
pub joined_has : (ls : List Literal) (l : Literal) → has (joined ls l) l ≡ true
joined_has ls l = go (has ls l) refl
  where
    go : (b : Bool) → has ls l ≡ b → has (cond b ls (ls ++ l ∷ [])) l ≡ true
    go true e = e
    go false e = has-append ls (l ∷ []) l ∙ or_right _ _ (has_head l [])

pub joined_keeps : (ls : List Literal) (l : Literal) → IsPart (has ls) (has (joined ls l))
joined_keeps ls l m e = go (has ls l)
  where
    go : (b : Bool) → has (cond b ls (ls ++ l ∷ [])) m ≡ true
    go true = e
    go false = has-append ls (l ∷ []) m ∙ or_left _ _ e

pub joined_only : (ls : List Literal) (l : Literal) (set : Literal → Bool) → set l ≡ true → IsPart (has ls) set → IsPart (has (joined ls l)) set
joined_only ls l set t f m e = go (has ls l) e
  where
    go : (b : Bool) → has (cond b ls (ls ++ l ∷ [])) m ≡ true → set m ≡ true
    go true e = f m e
    go false e = elim (or_cases (has ls m) (has (l ∷ []) m) (sym (has-append ls (l ∷ []) m) ∙ e)) [
      | inl s ↦ f m s
      | inr s ↦ elim (or_cases (same m l) false s) [ inl k ↦ ap set (same-true m l k) ∙ t | inr k ↦ absurd (false≢true k) ]
    ]

-- lists that go on
has_taken : (xs : List Literal) (i : ℕ) (l : Literal) → has (take i xs) l ≡ true → has xs l ≡ true
has_taken xs zero l e = absurd (false≢true e)
has_taken [] (suc i) l e = absurd (false≢true e)
has_taken (x ∷ xs) (suc i) l e = elim (or_cases (same l x) (has (take i xs) l) e) [
  | inl s ↦ or_left _ _ s
  | inr s ↦ or_right _ _ (has_taken xs i l s)
]

pub taken_part : (xs : List Literal) (i : ℕ) → IsPart (has (take i xs)) (has xs)
taken_part xs i l e = has_taken xs i l e

pub IsFrontOf-part : (old new : List Literal) → IsFrontOf old new → IsPart (has old) (has new)
IsFrontOf-part old new e l h = has_taken new (length old) l (ap (λ z. has z l) e ∙ h)

pub IsFrontOf-length : (old new : List Literal) → IsFrontOf old new → length old ≤ length new
IsFrontOf-length old new e = let k : length (take (length old) new) ≡ length old = ap length e in omega (arith, length-take (length old) new)

pub take-take-le : (i j : ℕ) (xs : List Literal) → i ≤ j → take i (take j xs) ≡ take i xs
take-take-le zero j xs h = refl
take-take-le (suc i) zero xs h = absurd (omega arith)
take-take-le (suc i) (suc j) [] h = refl
take-take-le (suc i) (suc j) (x ∷ xs) h = ap (λ z. x ∷ z) (take-take-le i j xs (omega arith))

pub IsFrontOf-take : (old new : List Literal) (i : ℕ) → IsFrontOf old new → i ≤ length old → take i new ≡ take i old
IsFrontOf-take old new i e h = sym (take-take-le i (length old) new h) ∙ ap (take i) e

pub IsFrontOf-trans : (a b c : List Literal) → IsFrontOf a b → IsFrontOf b c → IsFrontOf a c
IsFrontOf-trans a b c e f = IsFrontOf-take b c (length a) f (IsFrontOf-length a b e) ∙ e

-- the literal that is taken up joins those before it
negation_absent : (taken : List Literal) (p : Literal) (clause part : List Literal) → IsPart (has part) (has clause) → has clause (negated p) ≡ false
    → (more : Literal → Bool) → ((l : Literal) → more l ≡ (has taken l || same l p)) → all_negated more part ≡ true → all_negated (has taken) part ≡ true
negation_absent taken p clause part inside absent more is h = all_negated-from (has taken) part (λ l e.
    elim (or_cases (has taken (negated l)) (same (negated l) p) (sym (is (negated l)) ∙ all_negated-at more part h l e)) [
      | inl s ↦ s
      | inr s ↦ absurd (false≢true (sym absent ∙ (ap (λ z. has clause z) (sym (ap negated (same-true (negated l) p s)) ∙ negated-negated l) ∙ inside l e)))
    ])

pub IsSettled_taken : (trail later : List Literal) (i : ℕ) (d : Literal) (clause : List Literal) → i < length trail → IsFrontOf trail later
    → IsSettled (has (take i trail)) (has trail) clause
    → (has clause (negated (get_or trail i d)) ≡ true → IsSettled (has trail) (has later) clause)
    → IsSettled (has (take (i + 1) later)) (has later) clause
IsSettled_taken trail later i d clause lt e before visited =
    let same_front : take (i + 1) later ≡ take (i + 1) trail = IsFrontOf-take trail later (i + 1) e (omega arith) in
    let f = λ (l : Literal). ap (λ z. has z l) same_front ∙ has_take-suc trail i d l lt in
    elim (cases_Bool (has clause (negated (get_or trail i d)))) [
      | inl t ↦ IsSettled_more (has trail) (has (take (i + 1) later)) (has later) (has later) clause
          (λ l h. has_taken trail (i + 1) l (sym (ap (λ z. has z l) same_front) ∙ h)) (λ l h. h) (visited t)
      | inr n ↦ record {
        consistent = false_from_ne_true _ (λ h. false≢true (sym before.consistent
            ∙ negation_absent (take i trail) (get_or trail i d) clause clause (λ l k. k) n (has (take (i + 1) later)) f h));
        reached = λ l k o. IsFrontOf-part trail later e l (before.reached l k
            (negation_absent (take i trail) (get_or trail i d) clause (others l clause)
            (λ m j. (and_parts _ _ (sym (has-others l clause m) ∙ j)).0) n (has (take (i + 1) later)) f o));
      }
    ]

-- all is taken up
pub AreSettled_end : (clauses : List (List Literal)) (trail : List Literal) (i : ℕ) → length trail ≤ i → AreSettled clauses (take i trail) trail → AreSettled clauses trail trail
AreSettled_end clauses trail i h f k clause e = subst (λ z. IsSettled (has z) (has trail) clause) (take_all i trail h) (f k clause e)

-- the literals go on
pub AreSettled_more : (clauses : List (List Literal)) (earlier old new : List Literal) → IsPart (has old) (has new) → AreSettled clauses earlier old → AreSettled clauses earlier new
AreSettled_more clauses earlier old new grown f k clause e =
    IsSettled_more (has earlier) (has earlier) (has old) (has new) clause (λ l j. j) grown (f k clause e)

pub settled_closed : (clauses : List (List Literal)) (trail : List Literal) → AreSettled clauses trail trail → IsClosed clauses (has trail)
settled_closed clauses trail f k clause e l j o = (f k clause e).reached l j o

pub settled_quiet : (clauses : List (List Literal)) (trail : List Literal) → AreSettled clauses trail trail → NegatesSome clauses (has trail) → ⊥
settled_quiet clauses trail f n = false≢true (sym (f n.0 n.1 n.2).consistent ∙ n.3)

pub place_of-negated : (l : Literal) (n : ℕ) → place_of l < 2 * n + 2 → place_of (negated l) < 2 * n + 2
place_of-negated l n h = go l.variable l.positive h
  where
    go : (v : ℕ) (p : Bool) → place_of (literal v p) < 2 * n + 2 → place_of (literal v (not p)) < 2 * n + 2
    go v true h = omega arith
    go v false h = omega arith

pub IsFrontOf-refl : (xs : List Literal) → IsFrontOf xs xs
IsFrontOf-refl xs = take_all (length xs) xs (omega arith)

-- one more number is taken up
pub has_number_more : (xs : List ℕ) (i d k : ℕ) → i < length xs → has_number (take (i + 1) xs) k ≡ true → (has_number (take i xs) k ≡ true) ⊎ (get_or xs i d ≡ k)
has_number_more xs i d k lt e =
    elim (or_cases (has_number (take i xs) k) (has_number (get_or xs i d ∷ []) k)
    (sym (list_any-append (λ n. n == k) (take i xs) (get_or xs i d ∷ [])) ∙ (ap (λ z. has_number z k) (sym (take_more xs i d lt)) ∙ e))) [
      | inl s ↦ inl s
      | inr s ↦ elim (or_cases (get_or xs i d == k) false s) [ inl t ↦ inr (eqb-true (get_or xs i d) k t) | inr t ↦ absurd (false≢true t) ]
    ]

-- an open literal behind another one
pub second_open : (test : Literal → Bool) (xs : List Literal) (i : ℕ) (d : Literal) (o : Option Literal) → i < length xs → true ≡ is_some o
    → option_to_list o ≡ filter test (take i xs) → test (get_or xs i d) ≡ true → Open ≡ status_of (filter test xs)
second_open test xs i d None lt s e t = absurd (false≢true (sym s))
second_open test xs i d (Some x) lt s e t =
    sym (ap status_of parts)
  where
    rest : filter test (drop i xs) ≡ get_or xs i d ∷ filter test (drop (suc i) xs)
    rest = ap (filter test) (drop-cons xs i d lt) ∙ ap (λ b. cond b (get_or xs i d ∷ filter test (drop (suc i) xs)) (filter test (drop (suc i) xs))) t

    parts : filter test xs ≡ x ∷ get_or xs i d ∷ filter test (drop (suc i) xs)
    parts = ap (filter test) (sym (take-append-drop i xs)) ∙ (filter-append test (take i xs) (drop i xs)
        ∙ (ap (λ z. z ++ filter test (drop i xs)) (sym e) ∙ ap (λ z. (x ∷ []) ++ z) rest))
