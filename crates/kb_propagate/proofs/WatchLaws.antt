-- Watched literals as watches are taken up.
use Rattle.std.proofs.Common.{◌≡◌, ℕ, ◌+◌, ◌*◌, ◌<◌, ◌≤◌, List, [], ◌∷◌, ◌++◌, Bool, true, false, arith, refl, ap, sym, ◌∙◌, inl, inr, ◌⊎◌, subst, length, get_or, set, take, drop, zero, suc, Option, Some, None, slice_get, length-set, ◌==◌, get_or-set_same, get_or-set_other}
use Rattle.std.specs.List.{list_all}
use Rattle.std.proofs.lemmas.Bool.{false≢true, or_cases, or_left, or_right, and_parts, and_from, cases_eq, cases_lt, eq-eqb, eqb-true}
use Rattle.std.proofs.lemmas.List.{set_past, get_or_read, length_push, set-set, set_comm, take_more_set, drop_more, drop-set-lt}
use Rattle.std.proofs.lemmas.List.Folds.{list_any-append, list_all-append}
use Rattle.kb_chain.specs.Literal.{Literal, has, same, negated, place_of}
use Rattle.kb_chain.proofs.LiteralLaws.{same-true, same_refl, has_head, negated-negated, place_of-injective}
use Rattle.std.specs.Option.{IfNone, IfSome}
use Rattle.kb_chain.proofs.OrderLaws.{has_take-suc, has_get_or}
use Rattle.kb_chain.proofs.PropagationLaws.{IsPart, place_of-negated}
use Rattle.kb_propagate.specs.declared.watch.Watch.{Watch}
use Rattle.kb_propagate.specs.Rows.{StoredClause}
use Rattle.kb_propagate.specs.Watches.{Pair, is_met, IsQuiet, Quiet, AllAwake, watches_clause, at_literal, with_list, IsWatchListed, is_blocker, blocks, is_blocked, all_blocked, AreOwn, IsWatching, IsSettledOrWaiting, IsPending, Walks, AllListed, StaysQuiet, IsOther, put, paired, put_pair}
use Rattle.kb_propagate.specs.Walking.{IfKept, IfConflict}
use Rattle.kb_propagate.specs.declared.propagation.Outcome.{Outcome}
use Rattle.kb_propagate.specs.declared.propagation.Outcome.TheVariants.{Kept, Removed, Conflict}
use Rattle.kb_propagate.proofs.Places.{at_pushed, at_kept, at_last, at_inside, at_set, at_get_or, at_same}

pub listed_more : (lists : List (List Watch)) (l : Literal) (w : Watch) (m : Literal) (k : ℕ) → watches_clause (at_literal lists m) k ≡ true
    → watches_clause (at_literal (put lists l w) m) k ≡ true
listed_more lists l w m k e = elim (cases_eq (place_of m) (place_of l)) [
  | inl s ↦ elim (cases_inside (length lists) (place_of l)) [
    | inl lt ↦ ap (λ p. watches_clause (get_or (put lists l w) p []) k) s
        ∙ (ap (λ z. watches_clause z k) (get_or-set_same lists (place_of l) (at_literal lists l ++ w ∷ []) [] lt)
        ∙ (list_any-append (λ (w : Watch). w.clause == k) (at_literal lists l) (w ∷ [])
        ∙ or_left _ _ (ap (λ p. watches_clause (get_or lists p []) k) (sym s) ∙ e)))
    | inr le ↦ ap (λ z. watches_clause (get_or z (place_of m) []) k) (set_past lists (place_of l) (at_literal lists l ++ w ∷ []) le) ∙ e
  ]
  | inr n ↦ ap (λ z. watches_clause z k) (get_or-set_other lists (place_of l) (place_of m) (at_literal lists l ++ w ∷ []) [] n) ∙ e
]
  where
    cases_inside : (a b : ℕ) → (b < a) ⊎ (a ≤ b)
    cases_inside a b = cases_lt b a

pub listed_new : (lists : List (List Watch)) (l : Literal) (w : Watch) (k : ℕ) → place_of l < length lists → w.clause ≡ k
    → watches_clause (at_literal (put lists l w) l) k ≡ true
listed_new lists l w k lt e =
    ap (λ z. watches_clause z k) (get_or-set_same lists (place_of l) (at_literal lists l ++ w ∷ []) [] lt)
    ∙ (list_any-append (λ (w : Watch). w.clause == k) (at_literal lists l) (w ∷ [])
    ∙ or_right _ _ (or_left _ _ (eq-eqb w.clause k e)))

all_set : {X : Type 0} (p : X → Bool) (xs : List X) (i : ℕ) (v : X) → list_all p xs ≡ true → p v ≡ true → list_all p (set xs i v) ≡ true
all_set p [] i v h e = h
all_set p (x ∷ xs) zero v h e = let q = and_parts _ _ h in and_from _ _ e q.1
all_set p (x ∷ xs) (suc i) v h e = let q = and_parts _ _ h in and_from _ _ q.0 (all_set p xs i v q.1 e)

pub all_get_or : {X : Type 0} (p : X → Bool) (xs : List X) (i : ℕ) (d : X) → list_all p xs ≡ true → p d ≡ true → p (get_or xs i d) ≡ true
all_get_or p [] i d h e = e
all_get_or p (x ∷ xs) zero d h e = (and_parts _ _ h).0
all_get_or p (x ∷ xs) (suc i) d h e = all_get_or p xs i d (and_parts _ _ h).1 e

pub blocked_put : (rows : List (List Literal)) (lists : List (List Watch)) (l : Literal) (w : Watch) → list_all (all_blocked rows) lists ≡ true
    → is_blocked rows w ≡ true → list_all (all_blocked rows) (put lists l w) ≡ true
blocked_put rows lists l w h e =
    all_set (all_blocked rows) lists (place_of l) (at_literal lists l ++ w ∷ []) h
    (list_all-append (is_blocked rows) (at_literal lists l) (w ∷ []) ∙ and_from _ _ (all_get_or (all_blocked rows) lists (place_of l) [] h refl) (and_from _ _ e refl))

-- a row that is there blocks by its literals

blocker_in : (row : List Literal) (l : Literal) → has row l ≡ true → is_blocker row l ≡ true
blocker_in [] l e = refl
blocker_in (x ∷ row) l e = e

pub blocker_has : (row : List Literal) (l : Literal) → is_blocker row l ≡ true → 0 < length row → has row l ≡ true
blocker_has [] l e lt = absurd (omega (arith, lt))
blocker_has (x ∷ row) l e lt = e

-- a blocked watch is of a clause that is there
pub blocked_row : (rows : List (List Literal)) (w : Watch) → is_blocked rows w ≡ true → (row : List Literal) × (slice_get rows w.clause ≡ Some row) × (is_blocker row w.blocker ≡ true)
blocked_row rows w e = go (slice_get rows w.clause) refl e
  where
    go : (o : Option (List Literal)) → slice_get rows w.clause ≡ o → blocks o w.blocker ≡ true → (row : List Literal) × (slice_get rows w.clause ≡ Some row) × (is_blocker row w.blocker ≡ true)
    go None f e = absurd (false≢true e)
    go (Some row) f e = (row, f, e)

pub is_blocked-from : (rows : List (List Literal)) (w : Watch) (row : List Literal) → slice_get rows w.clause ≡ Some row → has row w.blocker ≡ true → is_blocked rows w ≡ true
is_blocked-from rows w row e h = ap (λ z. blocks z w.blocker) e ∙ blocker_in row w.blocker h

pub is_met-from : (set : Literal → Bool) (row : List Literal) (l : Literal) → has row l ≡ true → set l ≡ true → is_met set row ≡ true
is_met-from set [] l e h = absurd (false≢true e)
is_met-from set (x ∷ xs) l e h = elim (or_cases (same l x) (has xs l) e) [
  | inl s ↦ or_left _ _ (ap set (sym (same-true l x s)) ∙ h)
  | inr s ↦ or_right _ _ (is_met-from set xs l s h)
]

pub is_met-some : (set : Literal → Bool) (row : List Literal) → is_met set row ≡ true → (l : Literal) × (has row l ≡ true) × (set l ≡ true)
is_met-some set [] e = absurd (false≢true e)
is_met-some set (x ∷ xs) e = elim (or_cases (set x) (is_met set xs) e) [
  | inl s ↦ (x, has_head x xs, s)
  | inr s ↦ (let r = is_met-some set xs s in (r.0, or_right _ _ r.1, r.2))
]

pub is_met_more : (set more : Literal → Bool) (row : List Literal) → IsPart set more → is_met set row ≡ true → is_met more row ≡ true
is_met_more set more row f e = let r = is_met-some set row e in is_met-from more row r.0 r.1 (f r.0 r.2)

-- one watch is taken up
pub Walks-step : (early late later : Literal → Bool) (rows : List (List Literal)) (pairs pairs' : List Pair) (lists lists' : List (List Watch)) (w : Watch) (rest : List Watch)
    (f : Literal)
    → Walks early late rows pairs lists (w ∷ rest) f → IsPart late later
    → ((m : Literal) (k : ℕ) → watches_clause (at_literal lists m) k ≡ true → watches_clause (at_literal lists' m) k ≡ true)
    → ((k : ℕ) (pair : Pair) → slice_get pairs' k ≡ Some pair → (w.clause ≡ k → ⊥) → slice_get pairs k ≡ Some pair)
    → ((pair : Pair) → slice_get pairs' w.clause ≡ Some pair → pair.awake ≡ true → IsWatchListed lists' rest f w.clause pair.first × IsWatchListed lists' rest f w.clause pair.second)
    → ((row : List Literal) (pair : Pair) → slice_get rows w.clause ≡ Some row → slice_get pairs' w.clause ≡ Some pair → pair.awake ≡ true
    → IsPending early later row pair rest f w.clause)
    → Walks early later rows pairs' lists' rest f
Walks-step early late later rows pairs pairs' lists lists' w rest f h grown more kept listed pending = record {
  listed = record {
    first = λ k pair e aw. elim (cases_eq w.clause k) [
      | inl s ↦ subst (λ z. IsWatchListed lists' rest f z pair.first) s (listed pair (ap (slice_get pairs') s ∙ e) aw).0
      | inr n ↦ still k pair.first n (h.listed.first k pair (kept k pair e n) aw)
    ];
    second = λ k pair e aw. elim (cases_eq w.clause k) [
      | inl s ↦ subst (λ z. IsWatchListed lists' rest f z pair.second) s (listed pair (ap (slice_get pairs') s ∙ e) aw).1
      | inr n ↦ still k pair.second n (h.listed.second k pair (kept k pair e n) aw)
    ];
  };
  pending = λ k row pair r e aw. elim (cases_eq w.clause k) [
    | inl s ↦ subst (λ z. IsPending early later row pair rest f z) s (pending row pair (ap (slice_get rows) s ∙ r) (ap (slice_get pairs') s ∙ e) aw)
    | inr n ↦ (let p = h.pending k row pair r (kept k pair e n) aw in record {
      first = λ g. waits k row pair.first n (p.first g);
      second = λ g. waits k row pair.second n (p.second g);
      single = λ g. grown pair.first (p.single g);
    })
  ];
}
  where
    not_this : (k : ℕ) → (w.clause ≡ k → ⊥) → watches_clause (w ∷ rest) k ≡ true → watches_clause rest k ≡ true
    not_this k n e = elim (or_cases (w.clause == k) (watches_clause rest k) e) [ inl s ↦ absurd (n (eqb-true w.clause k s)) | inr s ↦ s ]

    still : (k : ℕ) (m : Literal) → (w.clause ≡ k → ⊥) → IsWatchListed lists (w ∷ rest) f k m → IsWatchListed lists' rest f k m
    still k m n (inl e) = inl (more m k e)
    still k m n (inr e) = inr (e.0, not_this k n e.1)

    waits : (k : ℕ) (row : List Literal) (m : Literal) → (w.clause ≡ k → ⊥) → (is_met late row ≡ true) ⊎ ((m ≡ f) × (watches_clause (w ∷ rest) k ≡ true))
        → (is_met later row ≡ true) ⊎ ((m ≡ f) × (watches_clause rest k ≡ true))
    waits k row m n (inl e) = inl (is_met_more late later row grown e)
    waits k row m n (inr e) = inr (e.0, not_this k n e.1)

-- the watch stays where it was, since its clause has a true literal
pub Walks-keep : (early late later : Literal → Bool) (rows : List (List Literal)) (pairs : List Pair) (lists : List (List Watch)) (w w' : Watch) (rest : List Watch) (f : Literal)
    → Walks early late rows pairs lists (w ∷ rest) f → IsPart late later → place_of f < length lists → w'.clause ≡ w.clause
    → ((row : List Literal) (pair : Pair) → slice_get rows w.clause ≡ Some row → slice_get pairs w.clause ≡ Some pair → pair.awake ≡ true → is_met later row ≡ true)
    → Walks early later rows pairs (put lists f w') rest f
Walks-keep early late later rows pairs lists w w' rest f h grown lt same_clause met =
    Walks-step early late later rows pairs pairs lists (put lists f w') w rest f h grown (listed_more lists f w') (λ k pair e n. e)
    (λ pair e aw. (here pair.first (h.listed.first w.clause pair e aw), here pair.second (h.listed.second w.clause pair e aw)))
    (λ row pair r e aw. record {
      first = λ g. inl (met row pair r e aw);
      second = λ g. inl (met row pair r e aw);
      single = λ g. grown pair.first ((h.pending w.clause row pair r e aw).single g);
    })
  where
    here : (m : Literal) → IsWatchListed lists (w ∷ rest) f w.clause m → IsWatchListed (put lists f w') rest f w.clause m
    here m (inl e) = inl (listed_more lists f w' m w.clause e)
    here m (inr e) = inl (subst (λ z. watches_clause (at_literal (put lists f w') z) w.clause ≡ true) (sym e.0) (listed_new lists f w' w.clause lt same_clause))

not_same : (a b : Literal) → same a b ≡ false → a ≡ b → ⊥
not_same a b e s = false≢true (sym e ∙ (ap (same a) (sym s) ∙ same_refl a))

-- the clause does not watch the literal
pub Walks-drop : (early late : Literal → Bool) (rows : List (List Literal)) (pairs : List Pair) (lists : List (List Watch)) (w : Watch) (rest : List Watch) (f : Literal)
    → Walks early late rows pairs lists (w ∷ rest) f
    → ((pair : Pair) → slice_get pairs w.clause ≡ Some pair → pair.awake ≡ true → (same pair.first f ≡ false) × (same pair.second f ≡ false))
    → Walks early late rows pairs lists rest f
Walks-drop early late rows pairs lists w rest f h apart =
    Walks-step early late late rows pairs pairs lists lists w rest f h (λ l e. e) (λ m k e. e) (λ k pair e n. e)
    (λ pair e aw. (here pair.first (apart pair e aw).0 (h.listed.first w.clause pair e aw), here pair.second (apart pair e aw).1 (h.listed.second w.clause pair e aw)))
    (λ row pair r e aw. (let p = h.pending w.clause row pair r e aw in record {
      first = λ g. waits row pair.first (apart pair e aw).0 (p.first g);
      second = λ g. waits row pair.second (apart pair e aw).1 (p.second g);
      single = p.single;
    }))
  where
    here : (m : Literal) → same m f ≡ false → IsWatchListed lists (w ∷ rest) f w.clause m → IsWatchListed lists rest f w.clause m
    here m n (inl e) = inl e
    here m n (inr e) = absurd (not_same m f n e.0)

    waits : (row : List Literal) (m : Literal) → same m f ≡ false → (is_met late row ≡ true) ⊎ ((m ≡ f) × (watches_clause (w ∷ rest) w.clause ≡ true))
        → (is_met late row ≡ true) ⊎ ((m ≡ f) × (watches_clause rest w.clause ≡ true))
    waits row m n (inl e) = inl e
    waits row m n (inr e) = absurd (not_same m f n e.0)

-- what both watched literals have
both_of : (pair : Pair) (l other : Literal) (P : Literal → Type 0) → IsOther pair l other → P l → P other → P pair.first × P pair.second
both_of pair l other P (inl e) p q = (subst P e.0 p, subst P e.1 q)
both_of pair l other P (inr e) p q = (subst P e.1 q, subst P e.0 p)

-- two literals that differ are not one literal that is watched twice
never_single : (pair : Pair) (l other : Literal) → IsOther pair l other → same l other ≡ false → same pair.first pair.second ≡ true → ⊥
never_single pair l other o apart s = go o (same-true pair.first pair.second s)
  where
    differ : l ≡ other → ⊥
    differ e = false≢true (sym apart ∙ (ap (λ z. same z other) e ∙ same_refl other))

    go : IsOther pair l other → pair.first ≡ pair.second → ⊥
    go (inl e) s = differ (e.0 ∙ (s ∙ sym e.1))
    go (inr e) s = differ (e.0 ∙ (sym s ∙ sym e.1))

-- a clause watches another literal in place of the false one
pub Walks-move : (early late : Literal → Bool) (rows : List (List Literal)) (pairs : List Pair) (lists : List (List Watch)) (w w' : Watch) (rest : List Watch) (f : Literal)
    (pair pair' : Pair) (other next : Literal)
    → Walks early late rows pairs lists (w ∷ rest) f → IsPart early late → place_of next < length lists → w'.clause ≡ w.clause
    → slice_get pairs w.clause ≡ Some pair → pair.awake ≡ true → IsOther pair f other → IsOther pair' next other → late f ≡ false → late (negated next) ≡ false → same next other ≡ false
    → (row : List Literal) → slice_get rows w.clause ≡ Some row
    → Walks early late rows (set pairs w.clause pair') (put lists next w') rest f
Walks-move early late rows pairs lists w w' rest f pair pair' other next h part lt same_clause was awake is_other is_next lacks free apart row is_row =
    Walks-step early late late rows pairs (set pairs w.clause pair') lists (put lists next w') w rest f h (λ l e. e) (listed_more lists next w')
    (λ k p e n. elim (at_set pairs w.clause pair' k p e) [ inl s ↦ s.0 | inr s ↦ absurd (n (sym s.0)) ])
    (λ p e aw. subst (λ (z : Pair). IsWatchListed (put lists next w') rest f w.clause z.first × IsWatchListed (put lists next w') rest f w.clause z.second) (is_new p e)
    (both_of pair' next other (IsWatchListed (put lists next w') rest f w.clause) is_next (inl (listed_new lists next w' w.clause lt same_clause)) (still (listed_other is_other))))
    (λ r p g e aw. subst (λ z. IsPending early late r z rest f w.clause) (is_new p e) (let both = both_of pair' next other (IsSettledOrWaiting early late r rest f w.clause) is_next
    (λ n. absurd (false≢true (sym free ∙ part (negated next) n))) (λ n. waits r (pending_other r g is_other n)) in record {
      first = both.0;
      second = both.1;
      single = λ s. absurd (never_single pair' next other is_next apart s);
    }))
  where
    is_new : (p : Pair) → slice_get (set pairs w.clause pair') w.clause ≡ Some p → pair' ≡ p
    is_new p e = elim (at_set pairs w.clause pair' w.clause p e) [ inl s ↦ absurd (s.1 refl) | inr s ↦ s.1 ]

    single : pair.first ≡ f → pair.second ≡ f → ⊥
    single a b = false≢true (sym lacks ∙ (ap late (sym a) ∙ (h.pending w.clause row pair is_row was awake).single (ap (λ z. same z pair.second) (a ∙ sym b) ∙ same_refl pair.second)))

    other_apart : IsOther pair f other → other ≡ f → ⊥
    other_apart (inl e) s = single (sym e.0) (sym e.1 ∙ s)
    other_apart (inr e) s = single (sym e.1 ∙ s) (sym e.0)

    listed_other : IsOther pair f other → IsWatchListed lists (w ∷ rest) f w.clause other
    listed_other (inl e) = subst (λ z. IsWatchListed lists (w ∷ rest) f w.clause z) (sym e.1) (h.listed.second w.clause pair was awake)
    listed_other (inr e) = subst (λ z. IsWatchListed lists (w ∷ rest) f w.clause z) (sym e.1) (h.listed.first w.clause pair was awake)

    still : IsWatchListed lists (w ∷ rest) f w.clause other → IsWatchListed (put lists next w') rest f w.clause other
    still (inl e) = inl (listed_more lists next w' other w.clause e)
    still (inr e) = absurd (other_apart is_other e.0)

    pending_other : (r : List Literal) → slice_get rows w.clause ≡ Some r → IsOther pair f other → IsSettledOrWaiting early late r (w ∷ rest) f w.clause other
    pending_other r g (inl e) = subst (λ z. IsSettledOrWaiting early late r (w ∷ rest) f w.clause z) (sym e.1) (h.pending w.clause r pair g was awake).second
    pending_other r g (inr e) = subst (λ z. IsSettledOrWaiting early late r (w ∷ rest) f w.clause z) (sym e.1) (h.pending w.clause r pair g was awake).first

    waits : (r : List Literal) → (is_met late r ≡ true) ⊎ ((other ≡ f) × (watches_clause (w ∷ rest) w.clause ≡ true))
        → (is_met late r ≡ true) ⊎ ((other ≡ f) × (watches_clause rest w.clause ≡ true))
    waits r (inl e) = inl e
    waits r (inr e) = absurd (other_apart is_other e.0)

-- sets within the trail stay quiet as a watch moves to a literal that is not false
pub AllAwake-move : (pairs : List Pair) (k : ℕ) (pair' : Pair) → pair'.awake ≡ true → AllAwake pairs → AllAwake (set pairs k pair')
AllAwake-move pairs k pair' awake all j p e = elim (at_set pairs k pair' j p e) [
  | inl s ↦ all j p s.0
  | inr s ↦ ap (λ (z : Pair). z.awake) (sym s.1) ∙ awake
]

pub Quiet-move : (rows : List (List Literal)) (pairs : List Pair) (k : ℕ) (trail set' : Literal → Bool) (pair pair' : Pair) (f other next : Literal)
    → slice_get pairs k ≡ Some pair → pair.awake ≡ true → IsOther pair f other → IsOther pair' next other → trail (negated next) ≡ false → same next other ≡ false
    → IsPart set' trail → Quiet rows pairs set' set' → Quiet rows (set pairs k pair') set' set'
Quiet-move rows pairs k trail set' pair pair' f other next was awake is_other is_next free apart part quiet j row p r e aw = elim (at_set pairs k pair' j p e) [
  | inl s ↦ quiet j row p r s.0 aw
  | inr s ↦ subst (λ z. IsQuiet set' set' row z) s.1 (let both = both_of pair' next other (λ l. set' (negated l) ≡ true → is_met set' row ≡ true) is_next
      (λ n. absurd (false≢true (sym free ∙ part (negated next) n))) (met (quiet j row pair r (ap (slice_get pairs) s.0 ∙ was) awake) is_other) in record {
        first = both.0;
        second = both.1;
        single = λ n. absurd (never_single pair' next other is_next apart n);
      })
]
  where
    met : IsQuiet set' set' row pair → IsOther pair f other → set' (negated other) ≡ true → is_met set' row ≡ true
    met q (inl o) n = q.second (ap (λ z. set' (negated z)) (sym o.1) ∙ n)
    met q (inr o) n = q.first (ap (λ z. set' (negated z)) (sym o.1) ∙ n)

-- the tables
pub IsWatching-put : (rows : List (List Literal)) (pairs : List Pair) (lists : List (List Watch)) (vars : ℕ) (l : Literal) (w : Watch) → IsWatching rows pairs lists vars
    → is_blocked rows w ≡ true → IsWatching rows pairs (put lists l w) vars
IsWatching-put rows pairs lists vars l w h e = record {
  count = h.count;
  places = length-set lists (place_of l) (at_literal lists l ++ w ∷ []) ∙ h.places;
  own = h.own;
  blocked = blocked_put rows lists l w h.blocked e;
  within = h.within;
}

pub IsWatching-move : (rows : List (List Literal)) (pairs : List Pair) (lists : List (List Watch)) (vars k : ℕ) (row : List Literal) (pair' : Pair) (a b : Literal)
    → IsWatching rows pairs lists vars → slice_get rows k ≡ Some row → IsOther pair' a b → has row a ≡ true → has row b ≡ true → IsWatching rows (set pairs k pair') lists vars
IsWatching-move rows pairs lists vars k row pair' a b h is o has_a has_b = record {
  count = length-set pairs k pair' ∙ h.count;
  places = h.places;
  own = λ j r p g e aw. elim (at_set pairs k pair' j p e) [
    | inl s ↦ h.own j r p g s.0 aw
    | inr s ↦ (let same_row : row ≡ r = at_same rows k row r is (ap (slice_get rows) (sym s.0) ∙ g) in
        subst (λ (z : Pair). (has r z.first ≡ true) × (has r z.second ≡ true)) s.1
        (both_of pair' a b (λ l. has r l ≡ true) o (ap (λ z. has z a) (sym same_row) ∙ has_a) (ap (λ z. has z b) (sym same_row) ∙ has_b)))
  ];
  blocked = h.blocked;
  within = h.within;
}

-- all watches are taken up, or put back
pub Walks-end : (early late : Literal → Bool) (rows : List (List Literal)) (pairs : List Pair) (lists : List (List Watch)) (f : Literal)
    → Walks early late rows pairs lists [] f → AllListed lists pairs × Quiet rows pairs early late
Walks-end early late rows pairs lists f h = (
  λ k pair e aw. (stands k pair.first (h.listed.first k pair e aw), stands k pair.second (h.listed.second k pair e aw)),
  λ k row pair r e aw. (let p = h.pending k row pair r e aw in record {
    first = λ g. met row pair.first k (p.first g);
    second = λ g. met row pair.second k (p.second g);
    single = p.single;
  }),
)
  where
    stands : (k : ℕ) (m : Literal) → IsWatchListed lists [] f k m → watches_clause (at_literal lists m) k ≡ true
    stands k m (inl e) = e
    stands k m (inr e) = absurd (false≢true e.1)

    met : (row : List Literal) (m : Literal) (k : ℕ) → (is_met late row ≡ true) ⊎ ((m ≡ f) × (watches_clause [] k ≡ true)) → is_met late row ≡ true
    met row m k (inl e) = e
    met row m k (inr e) = absurd (false≢true e.1)

pub other_own : (rows : List (List Literal)) (pairs : List Pair) (k : ℕ) (row : List Literal) (pair : Pair) (f other : Literal) → AreOwn rows pairs
    → slice_get rows k ≡ Some row → slice_get pairs k ≡ Some pair → pair.awake ≡ true → IsOther pair f other → has row other ≡ true
other_own rows pairs k row pair f other h r e aw (inl o) = ap (has row) o.1 ∙ (h k row pair r e aw).1
other_own rows pairs k row pair f other h r e aw (inr o) = ap (has row) o.1 ∙ (h k row pair r e aw).0

-- the list at a literal is taken out of its place, and what is kept of it and what is still to come are two parts of it

-- a watch that is kept stands behind the others
put_kept : (lists : List (List Watch)) (f : Literal) (kept : List Watch) (w : Watch) → place_of f < length lists
    → put (with_list lists f kept) f w ≡ with_list lists f (kept ++ w ∷ [])
put_kept lists f kept w lt =
    ap (λ z. set (set lists (place_of f) kept) (place_of f) (z ++ w ∷ [])) (get_or-set_same lists (place_of f) kept [] lt)
    ∙ set-set lists (place_of f) kept (kept ++ w ∷ [])

-- a watch at another literal goes to the table
put_beside : (lists : List (List Watch)) (f m : Literal) (kept : List Watch) (w : Watch) → (place_of m ≡ place_of f → ⊥)
    → put (with_list lists f kept) m w ≡ with_list (put lists m w) f kept
put_beside lists f m kept w apart =
    ap (λ z. set (set lists (place_of f) kept) (place_of m) (z ++ w ∷ [])) (get_or-set_other lists (place_of f) (place_of m) kept [] apart)
    ∙ set_comm lists (place_of f) (place_of m) kept (at_literal lists m ++ w ∷ []) (λ s. apart (sym s))

pub Walks-stay : (early late later : Literal → Bool) (rows : List (List Literal)) (pairs : List Pair) (lists : List (List Watch)) (kept : List Watch) (w w' : Watch) (rest : List Watch)
    (f : Literal)
    → Walks early late rows pairs (with_list lists f kept) (w ∷ rest) f → IsPart late later → place_of f < length lists → w'.clause ≡ w.clause
    → ((row : List Literal) (pair : Pair) → slice_get rows w.clause ≡ Some row → slice_get pairs w.clause ≡ Some pair → pair.awake ≡ true → is_met later row ≡ true)
    → Walks early later rows pairs (with_list lists f (kept ++ w' ∷ [])) rest f
Walks-stay early late later rows pairs lists kept w w' rest f h grown lt same_clause met =
    subst (λ z. Walks early later rows pairs z rest f) (put_kept lists f kept w' lt)
    (Walks-keep early late later rows pairs (with_list lists f kept) w w' rest f h grown (subst (λ n. place_of f < n) (sym (length-set lists (place_of f) kept)) lt) same_clause met)

pub Walks-away : (early late : Literal → Bool) (rows : List (List Literal)) (pairs : List Pair) (lists : List (List Watch)) (kept : List Watch) (w w' : Watch) (rest : List Watch) (f : Literal)
    (pair pair' : Pair) (other next : Literal)
    → Walks early late rows pairs (with_list lists f kept) (w ∷ rest) f → IsPart early late → place_of next < length lists → w'.clause ≡ w.clause
    → slice_get pairs w.clause ≡ Some pair → pair.awake ≡ true → IsOther pair f other → IsOther pair' next other → late f ≡ false → late (negated f) ≡ true → late (negated next) ≡ false
    → same next other ≡ false → (row : List Literal) → slice_get rows w.clause ≡ Some row
    → Walks early late rows (set pairs w.clause pair') (with_list (put lists next w') f kept) rest f
Walks-away early late rows pairs lists kept w w' rest f pair pair' other next h part lt same_clause was awake is_other is_next lacks falsified free apart row is_row =
    subst (λ z. Walks early late rows (set pairs w.clause pair') z rest f) (put_beside lists f next kept w' beside)
    (Walks-move early late rows pairs (with_list lists f kept) w w' rest f pair pair' other next h part (subst (λ n. place_of next < n) (sym (length-set lists (place_of f) kept)) lt) same_clause
    was awake is_other is_next lacks free apart row is_row)
  where
    beside : place_of next ≡ place_of f → ⊥
    beside s = false≢true (sym free ∙ (ap (λ z. late (negated z)) (place_of-injective next f s) ∙ falsified))

-- the list of watches, as the code walks through it
pub Walks-next : (early late : Literal → Bool) (rows : List (List Literal)) (pairs : List Pair) (lists : List (List Watch)) (list : List Watch) (next : ℕ) (w : Watch) (f : Literal)
    → slice_get list next ≡ Some w → Walks early late rows pairs lists (drop next list) f → Walks early late rows pairs lists (w ∷ drop (next + 1) list) f
Walks-next early late rows pairs lists list next w f e h =
    subst (λ z. Walks early late rows pairs lists z f)
    (drop_more list next w (at_inside list next w e) ∙ ap (λ z. z ∷ drop (next + 1) list) (at_get_or list next w w e)) h

pub Walks-written : (early late : Literal → Bool) (rows : List (List Literal)) (pairs : List Pair) (lists : List (List Watch)) (list : List Watch) (kept next : ℕ) (w : Watch) (f : Literal)
    → kept ≤ next → next < length list → Walks early late rows pairs (with_list lists f (take kept list ++ w ∷ [])) (drop (next + 1) list) f
    → Walks early late rows pairs (with_list lists f (take (kept + 1) (set list kept w))) (drop (next + 1) (set list kept w)) f
Walks-written early late rows pairs lists list kept next w f le lt h =
    let inside : kept < length list = omega (arith, le, lt) in
    let before : kept < next + 1 = omega (arith, le) in
    subst (λ z. Walks early late rows pairs (with_list lists f (take (kept + 1) (set list kept w))) z f) (sym (drop-set-lt (next + 1) list kept w before))
    (subst (λ z. Walks early late rows pairs (with_list lists f z) (drop (next + 1) list) f) (sym (take_more_set list kept w inside)) h)

listed_longer : (lists : List (List Watch)) (f : Literal) (kept rest : List Watch) (m : Literal) (k : ℕ) → place_of f < length lists
    → watches_clause (at_literal (with_list lists f kept) m) k ≡ true → watches_clause (at_literal (with_list lists f (kept ++ rest)) m) k ≡ true
listed_longer lists f kept rest m k lt e = elim (cases_eq (place_of m) (place_of f)) [
  | inl s ↦ ap (λ p. watches_clause (get_or (with_list lists f (kept ++ rest)) p []) k) s
      ∙ (ap (λ z. watches_clause z k) (get_or-set_same lists (place_of f) (kept ++ rest) [] lt)
      ∙ (list_any-append (λ (w : Watch). w.clause == k) kept rest
      ∙ or_left _ _ (sym (ap (λ z. watches_clause z k) (get_or-set_same lists (place_of f) kept [] lt))
      ∙ (sym (ap (λ p. watches_clause (get_or (with_list lists f kept) p []) k) s) ∙ e))))
  | inr n ↦ ap (λ z. watches_clause z k) (get_or-set_other lists (place_of f) (place_of m) (kept ++ rest) [] n)
      ∙ (sym (ap (λ z. watches_clause z k) (get_or-set_other lists (place_of f) (place_of m) kept [] n)) ∙ e)
]

listed_among : (lists : List (List Watch)) (f : Literal) (kept rest : List Watch) (k : ℕ) → place_of f < length lists → watches_clause rest k ≡ true
    → watches_clause (at_literal (with_list lists f (kept ++ rest)) f) k ≡ true
listed_among lists f kept rest k lt e =
    ap (λ z. watches_clause z k) (get_or-set_same lists (place_of f) (kept ++ rest) [] lt)
    ∙ (list_any-append (λ (w : Watch). w.clause == k) kept rest ∙ or_right _ _ e)

-- both parts make the list
pub AllListed-back : (early late : Literal → Bool) (rows : List (List Literal)) (pairs : List Pair) (lists : List (List Watch)) (kept rest : List Watch) (f : Literal)
    → Walks early late rows pairs (with_list lists f kept) rest f → place_of f < length lists → AllListed (with_list lists f (kept ++ rest)) pairs
AllListed-back early late rows pairs lists kept rest f h lt k pair e aw = (stands pair.first (h.listed.first k pair e aw), stands pair.second (h.listed.second k pair e aw))
  where
    stands : (m : Literal) → IsWatchListed (with_list lists f kept) rest f k m → watches_clause (at_literal (with_list lists f (kept ++ rest)) m) k ≡ true
    stands m (inl e) = listed_longer lists f kept rest m k lt e
    stands m (inr e) = subst (λ z. watches_clause (at_literal (with_list lists f (kept ++ rest)) z) k ≡ true) (sym e.0) (listed_among lists f kept rest k lt e.1)

pub IsWatching-list : (rows : List (List Literal)) (pairs : List Pair) (lists : List (List Watch)) (vars : ℕ) (l : Literal) (ws : List Watch) → IsWatching rows pairs lists vars
    → all_blocked rows ws ≡ true → IsWatching rows pairs (with_list lists l ws) vars
IsWatching-list rows pairs lists vars l ws h e = record {
  count = h.count;
  places = length-set lists (place_of l) ws ∙ h.places;
  own = h.own;
  blocked = all_set (all_blocked rows) lists (place_of l) ws h.blocked e;
  within = h.within;
}

all_taken : {X : Type 0} (p : X → Bool) (n : ℕ) (xs : List X) → list_all p xs ≡ true → list_all p (take n xs) ≡ true
all_taken p zero xs h = refl
all_taken p (suc n) [] h = refl
all_taken p (suc n) (x ∷ xs) h = let q = and_parts _ _ h in and_from _ _ q.0 (all_taken p n xs q.1)

all_dropped : {X : Type 0} (p : X → Bool) (n : ℕ) (xs : List X) → list_all p xs ≡ true → list_all p (drop n xs) ≡ true
all_dropped p zero xs h = h
all_dropped p (suc n) [] h = refl
all_dropped p (suc n) (x ∷ xs) h = all_dropped p n xs (and_parts _ _ h).1

all_at : {X : Type 0} (p : X → Bool) (xs : List X) (k : ℕ) (x : X) → list_all p xs ≡ true → slice_get xs k ≡ Some x → p x ≡ true
all_at p [] k x h e = cc
all_at p (y ∷ ys) zero x h e = let s : y ≡ x = cc in ap p (sym s) ∙ (and_parts _ _ h).0
all_at p (y ∷ ys) (suc k) x h e = all_at p ys k x (and_parts _ _ h).1 e

pub blocked_front : (rows : List (List Literal)) (list : List Watch) (kept : ℕ) → all_blocked rows list ≡ true → all_blocked rows (take kept list) ≡ true
blocked_front rows list kept h = all_taken (is_blocked rows) kept list h

pub blocked_cut : (rows : List (List Literal)) (list : List Watch) (kept next : ℕ) → all_blocked rows list ≡ true → all_blocked rows (take kept list ++ drop next list) ≡ true
blocked_cut rows list kept next h =
    list_all-append (is_blocked rows) (take kept list) (drop next list)
    ∙ and_from _ _ (all_taken (is_blocked rows) kept list h) (all_dropped (is_blocked rows) next list h)

pub blocked_at : (rows : List (List Literal)) (list : List Watch) (k : ℕ) (w : Watch) → all_blocked rows list ≡ true → slice_get list k ≡ Some w → is_blocked rows w ≡ true
blocked_at rows list k w h e = all_at (is_blocked rows) list k w h e

pub blocked_set : (rows : List (List Literal)) (list : List Watch) (k : ℕ) (w : Watch) → all_blocked rows list ≡ true → is_blocked rows w ≡ true → all_blocked rows (set list k w) ≡ true
blocked_set rows list k w h e = all_set (is_blocked rows) list k w h e

-- what is said of each outcome
pub kept_at : (o : Outcome) (w : Watch) (P : Watch → Type 0) → o ≡ Kept w → IfKept P o → P w
kept_at (Kept v) w P e h = let s : v ≡ w = cc in subst P s h
kept_at Removed w P e h = cc
kept_at Conflict w P e h = cc

pub at_conflict : (o : Outcome) (P : Type 0) → o ≡ Conflict → IfConflict P o → P
at_conflict (Kept v) P e h = cc
at_conflict Removed P e h = cc
at_conflict Conflict P e h = h

-- the watches at a literal are taken out of its list
pub Walks-start : (late : Literal → Bool) (before now : Literal → Bool) (rows : List (List Literal)) (pairs : List Pair) (lists : List (List Watch)) (f : Literal)
    → AllListed lists pairs → Quiet rows pairs before late → ((l : Literal) → now l ≡ true → (before l ≡ true) ⊎ (l ≡ negated f))
    → Walks now late rows pairs (set lists (place_of f) []) (at_literal lists f) f
Walks-start late before now rows pairs lists f listed quiet more = record {
  listed = record {
    first = λ k pair e aw. stands k pair.first (listed k pair e aw).0;
    second = λ k pair e aw. stands k pair.second (listed k pair e aw).1;
  };
  pending = λ k row pair r e aw. (let q = quiet k row pair r e aw in record {
    first = λ n. settled k row pair.first (listed k pair e aw).0 q.first (more (negated pair.first) n);
    second = λ n. settled k row pair.second (listed k pair e aw).1 q.second (more (negated pair.second) n);
    single = q.single;
  });
}
  where
    stands : (k : ℕ) (m : Literal) → watches_clause (at_literal lists m) k ≡ true → IsWatchListed (set lists (place_of f) []) (at_literal lists f) f k m
    stands k m e = elim (cases_eq (place_of m) (place_of f)) [
      | inl s ↦ inr (place_of-injective m f s, ap (λ p. watches_clause (get_or lists p []) k) (sym s) ∙ e)
      | inr n ↦ inl (ap (λ z. watches_clause z k) (get_or-set_other lists (place_of f) (place_of m) [] [] n) ∙ e)
    ]

    settled : (k : ℕ) (row : List Literal) (m : Literal) → watches_clause (at_literal lists m) k ≡ true → (before (negated m) ≡ true → is_met late row ≡ true)
        → (before (negated m) ≡ true) ⊎ (negated m ≡ negated f) → (is_met late row ≡ true) ⊎ ((m ≡ f) × (watches_clause (at_literal lists f) k ≡ true))
    settled k row m e q (inl n) = inl (q n)
    settled k row m e q (inr n) =
        let s : m ≡ f = sym (negated-negated m) ∙ (ap negated n ∙ negated-negated f) in
        inr (s, ap (λ z. watches_clause (at_literal lists z) k) (sym s) ∙ e)

pub IsWatching-out : (rows : List (List Literal)) (pairs : List Pair) (lists : List (List Watch)) (vars : ℕ) (f : Literal) → IsWatching rows pairs lists vars
    → IsWatching rows pairs (set lists (place_of f) []) vars × (all_blocked rows (at_literal lists f) ≡ true)
IsWatching-out rows pairs lists vars f h = (
  record {
    count = h.count;
    places = length-set lists (place_of f) [] ∙ h.places;
    own = h.own;
    blocked = all_set (all_blocked rows) lists (place_of f) [] h.blocked refl;
    within = h.within;
  },
  all_get_or (all_blocked rows) lists (place_of f) [] h.blocked refl,
)

pub StaysQuiet-trans : (a b c : List StoredClause) (early late : Literal → Bool) → IsPart early late → StaysQuiet a b early → StaysQuiet b c late → StaysQuiet a c early
StaysQuiet-trans a b c early late part f g = (
  λ all. g.0 (f.0 all),
  λ set' inside q. g.1 set' (λ l e. part l (inside l e)) (f.1 set' inside q),
)

-- the watches at the negation of the literal at a position are taken out
pub Walks-visit : (rows : List (List Literal)) (pairs : List Pair) (lists : List (List Watch)) (trail : List Literal) (position : ℕ) (x : Literal)
    → position < length trail → x ≡ get_or trail position x → AllListed lists pairs → Quiet rows pairs (has (take position trail)) (has trail)
    → Walks (has (take (position + 1) trail)) (has trail) rows pairs (set lists (place_of (negated x)) []) (at_literal lists (negated x)) (negated x)
Walks-visit rows pairs lists trail position x lt is listed quiet =
    Walks-start (has trail) (has (take position trail)) (has (take (position + 1) trail)) rows pairs lists (negated x) listed quiet
    (λ l e. elim (or_cases (has (take position trail) l) (same l (get_or trail position x)) (sym (has_take-suc trail position x l lt) ∙ e)) [
      | inl s ↦ inl s
      | inr s ↦ inr (same-true l (get_or trail position x) s ∙ (sym is ∙ sym (negated-negated x)))
    ])

-- the same, as the code takes them out
pub Walks-taken : (rows : List (List Literal)) (pairs : List Pair) (lists : List (List Watch)) (vars : ℕ) (trail : List Literal) (position : ℕ) (x f : Literal) (place : ℕ)
    (left waiting out : List Watch)
    → position < length trail → x ≡ get_or trail position x → IsWatching rows pairs lists vars → ((l : Literal) → has trail l ≡ true → place_of l < 2 * vars + 2)
    → AllListed lists pairs → Quiet rows pairs (has (take position trail)) (has trail)
    → f ≡ negated x → place ≡ place_of f → waiting ≡ out → out ≡ get_or lists place out
    → Walks (has (take (position + 1) trail)) (has trail) rows pairs (with_list (set lists place left) f []) waiting f
Walks-taken rows pairs lists vars trail position x f place left waiting out lt is h within listed quiet ef ep ew eo =
    let has_x : has trail x ≡ true = ap (has trail) is ∙ has_get_or trail position x lt in
    let low : place_of (negated x) < 2 * vars + 2 = place_of-negated x vars (within x has_x) in
    let at : place ≡ place_of (negated x) = ep ∙ ap place_of ef in
    let size : length lists ≡ 2 * vars + 2 = h.places in
    let inside : place < length lists = omega (arith, low, at, size) in
    let read : waiting ≡ at_literal lists (negated x) = ew ∙ (get_or_read lists place out inside eo [] ∙ ap (λ k. get_or lists k []) at) in
    let rest : with_list (set lists place left) f [] ≡ set lists (place_of (negated x)) [] =
    ap (λ k. set (set lists k left) (place_of f) []) ep ∙ (set-set lists (place_of f) left [] ∙ ap (λ z. set lists (place_of z) []) ef) in
    subst (λ z. Walks (has (take (position + 1) trail)) (has trail) rows pairs z waiting f) (sym rest)
    (subst (λ z. Walks (has (take (position + 1) trail)) (has trail) rows pairs (set lists (place_of (negated x)) []) z f) (sym read)
    (subst (λ z. Walks (has (take (position + 1) trail)) (has trail) rows pairs (set lists (place_of (negated x)) []) (at_literal lists (negated x)) z) (sym ef)
    (Walks-visit rows pairs lists trail position x lt is listed quiet)))

pub if_none : {X : Type 0} (o : Option X) (P Q : Type 0) → (P → Q) → IfNone o P → IfNone o Q
if_none None P Q f p = f p
if_none (Some x) P Q f p = tt

pub at_none : {X : Type 0} (o : Option X) (P : Type 0) → o ≡ None → IfNone o P → P
at_none None P e p = p
at_none (Some x) P e p = cc

-- one more clause, with two watched literals

blocked_kept : (rows : List (List Literal)) (row : List Literal) (w : Watch) → is_blocked rows w ≡ true → is_blocked (rows ++ row ∷ []) w ≡ true
blocked_kept rows row w e =
    let r = blocked_row rows w e in
    ap (λ z. blocks z w.blocker) (at_kept rows (row ∷ []) w.clause r.0 r.1) ∙ r.2

all_more : {X : Type 0} (p q : X → Bool) (xs : List X) → ((x : X) → p x ≡ true → q x ≡ true) → list_all p xs ≡ true → list_all q xs ≡ true
all_more p q [] f h = refl
all_more p q (x ∷ xs) f h = let e = and_parts _ _ h in and_from _ _ (f x e.0) (all_more p q xs f e.1)

pub IsWatching-push : (rows : List (List Literal)) (pairs : List Pair) (lists : List (List Watch)) (vars : ℕ) (row : List Literal) (a b : Literal) (n : ℕ)
    → IsWatching rows pairs lists vars → n ≡ length rows → has row a ≡ true → has row b ≡ true
    → ((l : Literal) → has row l ≡ true → place_of l < 2 * vars + 2)
    → IsWatching (rows ++ row ∷ []) (pairs ++ paired a b ∷ []) (put_pair lists a b n) vars
IsWatching-push rows pairs lists vars row a b n h e has_a has_b within =
    let here : slice_get (rows ++ row ∷ []) n ≡ Some row = ap (slice_get (rows ++ row ∷ [])) e ∙ at_last rows row in
    let old : list_all (all_blocked (rows ++ row ∷ [])) lists ≡ true =
    all_more (all_blocked rows) (all_blocked (rows ++ row ∷ [])) lists (λ ws i. all_more (is_blocked rows) (is_blocked (rows ++ row ∷ [])) ws (λ w j. blocked_kept rows row w j) i) h.blocked in
    let one = blocked_put (rows ++ row ∷ []) lists a (record { clause = n; blocker = b }) old (is_blocked-from (rows ++ row ∷ []) (record { clause = n; blocker = b }) row here has_b) in
    let two = blocked_put (rows ++ row ∷ []) (put lists a (record { clause = n; blocker = b })) b (record { clause = n; blocker = a }) one
    (is_blocked-from (rows ++ row ∷ []) (record { clause = n; blocker = a }) row here has_a) in
    let size_rows : length (rows ++ row ∷ []) ≡ length rows + 1 = length_push rows row in
    let size_pairs : length (pairs ++ paired a b ∷ []) ≡ length pairs + 1 = length_push pairs (paired a b) in
    let count : length pairs ≡ length rows = h.count in
    record {
      count = omega (arith, size_rows, size_pairs, count);
      places = length-set (put lists a (record { clause = n; blocker = b })) (place_of b) _ ∙ (length-set lists (place_of a) _ ∙ h.places);
      own = λ k r p f g aw. elim (at_pushed rows row k r f) [
        | inl i ↦ elim (at_pushed pairs (paired a b) k p g) [
          | inl j ↦ h.own k r p i j aw
          | inr j ↦ absurd (let lt : k < length rows = at_inside rows k r i in let at : k ≡ length pairs = j.0 in omega (arith, lt, at, count))
        ]
        | inr i ↦ elim (at_pushed pairs (paired a b) k p g) [
          | inl j ↦ absurd (let lt : k < length pairs = at_inside pairs k p j in let at : k ≡ length rows = i.0 in omega (arith, lt, at, count))
          | inr j ↦ subst (λ (z : Pair). (has r z.first ≡ true) × (has r z.second ≡ true)) j.1 (ap (λ z. has z a) (sym i.1) ∙ has_a, ap (λ z. has z b) (sym i.1) ∙ has_b)
        ]
      ];
      blocked = two;
      within = λ k r f l g. elim (at_pushed rows row k r f) [
        | inl i ↦ h.within k r i l g
        | inr i ↦ within l (ap (λ z. has z l) i.1 ∙ g)
      ];
    }

pub AllListed-push : (pairs : List Pair) (lists : List (List Watch)) (a b : Literal) (n : ℕ) → AllListed lists pairs → n ≡ length pairs
    → place_of a < length lists → place_of b < length lists → AllListed (put_pair lists a b n) (pairs ++ paired a b ∷ [])
AllListed-push pairs lists a b n h e lt_a lt_b k p f aw =
    elim (at_pushed pairs (paired a b) k p f) [
      | inl i ↦ (kept p.first k (h k p i aw).0, kept p.second k (h k p i aw).1)
      | inr i ↦ subst (λ (z : Pair). (watches_clause (at_literal (put_pair lists a b n) z.first) k ≡ true) × (watches_clause (at_literal (put_pair lists a b n) z.second) k ≡ true)) i.1 (
        listed_more (put lists a (record { clause = n; blocker = b })) b (record { clause = n; blocker = a }) a k
            (listed_new lists a (record { clause = n; blocker = b }) k lt_a (e ∙ sym i.0)),
        listed_new (put lists a (record { clause = n; blocker = b })) b (record { clause = n; blocker = a }) k
            (subst (λ m. place_of b < m) (sym (length-set lists (place_of a) (at_literal lists a ++ (record { clause = n; blocker = b }) ∷ []))) lt_b) (e ∙ sym i.0),
      )
    ]
  where
    kept : (m : Literal) (k : ℕ) → watches_clause (at_literal lists m) k ≡ true → watches_clause (at_literal (put_pair lists a b n) m) k ≡ true
    kept m k g = listed_more (put lists a (record { clause = n; blocker = b })) b (record { clause = n; blocker = a }) m k (listed_more lists a (record { clause = n; blocker = b }) m k g)

pub AllAwake-push : (pairs : List Pair) (a b : Literal) → AllAwake pairs → AllAwake (pairs ++ paired a b ∷ [])
AllAwake-push pairs a b h k p f = elim (at_pushed pairs (paired a b) k p f) [
  | inl i ↦ h k p i
  | inr i ↦ ap (λ z. z.awake) (sym i.1)
]

pub Quiet-push : (rows : List (List Literal)) (pairs : List Pair) (early late : Literal → Bool) (row : List Literal) (pair : Pair) → length pairs ≡ length rows
    → Quiet rows pairs early late → IsQuiet early late row pair → Quiet (rows ++ row ∷ []) (pairs ++ pair ∷ []) early late
Quiet-push rows pairs early late row pair count h new k r p f g aw =
    elim (at_pushed rows row k r f) [
      | inl i ↦ elim (at_pushed pairs pair k p g) [
        | inl j ↦ h k r p i j aw
        | inr j ↦ absurd (let lt : k < length rows = at_inside rows k r i in let at : k ≡ length pairs = j.0 in omega (arith, lt, at, count))
      ]
      | inr i ↦ elim (at_pushed pairs pair k p g) [
        | inl j ↦ absurd (let lt : k < length pairs = at_inside pairs k p j in let at : k ≡ length rows = i.0 in omega (arith, lt, at, count))
        | inr j ↦ subst (λ z. IsQuiet early late z p) i.1 (subst (λ z. IsQuiet early late row z) j.1 new)
      ]
    ]

pub Quiet_more : (rows : List (List Literal)) (pairs : List Pair) (early late later : Literal → Bool) → IsPart late later → Quiet rows pairs early late → Quiet rows pairs early later
Quiet_more rows pairs early late later f h k r p e g aw = let q = h k r p e g aw in record {
  first = λ n. is_met_more late later r f (q.first n);
  second = λ n. is_met_more late later r f (q.second n);
  single = λ n. f p.first (q.single n);
}

pub if_some : {X : Type 0} (o : Option X) (P Q : X → Type 0) → ((x : X) → P x → Q x) → IfSome o P → IfSome o Q
if_some None P Q f p = tt
if_some (Some x) P Q f p = f x p

pub at_some : {X : Type 0} (o : Option X) (x : X) (P : X → Type 0) → o ≡ Some x → IfSome o P → P x
at_some None x P e p = cc
at_some (Some y) x P e p = let s : y ≡ x = cc in subst P s p
