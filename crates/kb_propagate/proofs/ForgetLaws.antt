-- Clauses that are watched no longer, and lists without their watches.
use Rattle.std.proofs.Common.{◌≡◌, ℕ, ◌<◌, arith, List, [], ◌∷◌, Bool, true, false, refl, ap, sym, subst, ◌∙◌, inl, inr, length, map, filter, set, zero, suc, Option, Some, None, slice_get, length-set, ◌==◌}
use Rattle.std.specs.List.{list_all}
use Rattle.std.proofs.lemmas.Bool.{false≢true, and_parts, and_from, eqb-true, cases_eq}
use Rattle.std.proofs.lemmas.List.{length-map}
use Rattle.std.proofs.Math.ListN.{get_or-map}
use Rattle.std.proofs.lemmas.Map.Views.{any-filter_same}
use Rattle.kb_chain.specs.Literal.{Literal, has, place_of}
use Rattle.kb_chain.specs.Cnf.{Cnf}
use Rattle.kb_chain.specs.declared.log.Chain.{Chain}
use Rattle.kb_propagate.specs.declared.watch.Watch.{Watch}
use Rattle.kb_propagate.specs.Trail.{Assigned}
use Rattle.kb_propagate.specs.Rows.{StoredClause, rows_of}
use Rattle.kb_propagate.specs.Watches.{Pair, pair_of, pairs_of, Quiet, watches_clause, at_literal, blocks, is_blocked, all_blocked, IsWatching, AllListed}
use Rattle.kb_propagate.specs.Forgetting as forgetting
use Rattle.kb_propagate.specs.Forgetting.{is_awake, has_awake_clause, only_awake, AreLeftOrEmpty}
use Rattle.kb_propagate.specs.Store.{IsJustified, IsNoReason}
use Rattle.kb_propagate.specs.Base.{IsBase, Stands, IsReady, Forgets}
use Rattle.kb_propagate.specs.declared.base.Base.{Base}
use Rattle.kb_propagate.proofs.WatchLaws.{blocked_row}
use Rattle.kb_propagate.proofs.Places.{at_set, at_set_same, at_set_other, at_inside, at_mapped}
use Rattle.kb_propagate.proofs.PairLaws.{is_awake-at, rows_set, pairs_set}

-- the pairs when the clause of a number is let go

abbrev asleep_at : List Pair → ℕ → Option Pair → List Pair
asleep_at pairs k None = pairs
asleep_at pairs k (Some pair) = set pairs k (record pair { awake = false })

abbrev asleep : List Pair → ℕ → List Pair
asleep pairs k = asleep_at pairs k (slice_get pairs k)

pairs_asleep : (clauses : List StoredClause) (n : ℕ) → pairs_of (forgetting.asleep clauses n) ≡ asleep (pairs_of clauses) n
pairs_asleep [] zero = refl
pairs_asleep [] (suc n) = refl
pairs_asleep (c ∷ clauses) zero = refl
pairs_asleep (c ∷ clauses) (suc n) =
    later (slice_get clauses n) ∙ (ap (λ z. pair_of c ∷ z) (pairs_asleep clauses n) ∙ sym (behind (slice_get (pairs_of clauses) n)))
  where
    later : (found : Option StoredClause) → pairs_of (forgetting.asleep_at (c ∷ clauses) (suc n) found) ≡ pair_of c ∷ pairs_of (forgetting.asleep_at clauses n found)
    later None = refl
    later (Some d) = refl

    behind : (found : Option Pair) → asleep_at (pair_of c ∷ pairs_of clauses) (suc n) found ≡ pair_of c ∷ asleep_at (pairs_of clauses) n found
    behind None = refl
    behind (Some p) = refl

-- their literals stay
pub rows_asleep : (clauses : List StoredClause) (n : ℕ) → rows_of (forgetting.asleep clauses n) ≡ rows_of clauses
rows_asleep [] zero = refl
rows_asleep [] (suc n) = refl
rows_asleep (c ∷ clauses) zero = refl
rows_asleep (c ∷ clauses) (suc n) = later (slice_get clauses n) ∙ ap (λ z. c.literals ∷ z) (rows_asleep clauses n)
  where
    later : (found : Option StoredClause) → rows_of (forgetting.asleep_at (c ∷ clauses) (suc n) found) ≡ c.literals ∷ rows_of (forgetting.asleep_at clauses n found)
    later None = refl
    later (Some d) = refl

length-asleep : (pairs : List Pair) (n : ℕ) → length (asleep pairs n) ≡ length pairs
length-asleep pairs n = go (slice_get pairs n)
  where
    go : (found : Option Pair) → length (asleep_at pairs n found) ≡ length pairs
    go None = refl
    go (Some p) = length-set pairs n (record p { awake = false })

-- an awake clause was awake

awake_beside : (pairs : List Pair) (n k : ℕ) (later pair : Pair) → later.awake ≡ false → slice_get (set pairs n later) k ≡ Some pair → pair.awake ≡ true
    → (slice_get pairs k ≡ Some pair) × (k ≡ n → ⊥)
awake_beside pairs n k later pair off e h = elim (at_set pairs n later k pair e) [
  | inl s ↦ s
  | inr s ↦ absurd (false≢true (sym off ∙ (ap (λ (z : Pair). z.awake) s.1 ∙ h)))
]

awake_before : (pairs : List Pair) (n k : ℕ) (pair : Pair) → slice_get (asleep pairs n) k ≡ Some pair → pair.awake ≡ true → slice_get pairs k ≡ Some pair
awake_before pairs n k pair e h = go (slice_get pairs n) e
  where
    go : (found : Option Pair) → slice_get (asleep_at pairs n found) k ≡ Some pair → slice_get pairs k ≡ Some pair
    go None e = e
    go (Some p) e = (awake_beside pairs n k (record p { awake = false }) pair refl e h).0

asleep_quiet : (rows : List (List Literal)) (pairs : List Pair) (n : ℕ) (early late : Literal → Bool) → Quiet rows pairs early late
    → Quiet rows (asleep pairs n) early late
asleep_quiet rows pairs n early late q k row pair r e h = q k row pair r (awake_before pairs n k pair e h) h

pub Quiet-asleep : (clauses : List StoredClause) (n : ℕ) (early late : Literal → Bool) → Quiet (rows_of clauses) (pairs_of clauses) early late
    → Quiet (rows_of (forgetting.asleep clauses n)) (pairs_of (forgetting.asleep clauses n)) early late
Quiet-asleep clauses n early late q =
    subst (λ z. Quiet z (pairs_of (forgetting.asleep clauses n)) early late) (sym (rows_asleep clauses n))
    (subst (λ z. Quiet (rows_of clauses) z early late) (sym (pairs_asleep clauses n)) (asleep_quiet (rows_of clauses) (pairs_of clauses) n early late q))

IsWatching-asleep : (rows : List (List Literal)) (pairs : List Pair) (lists : List (List Watch)) (vars n : ℕ) → IsWatching rows pairs lists vars
    → IsWatching rows (asleep pairs n) lists vars
IsWatching-asleep rows pairs lists vars n w = record {
  count = length-asleep pairs n ∙ w.count;
  places = w.places;
  own = λ k row pair r e aw. w.own k row pair r (awake_before pairs n k pair e aw) aw;
  blocked = w.blocked;
  within = w.within;
}

asleep_base : (formula : Cnf) (entries : List Chain) (rows : List (List Literal)) (pairs : List Pair) (lists : List (List Watch)) (t : Assigned) (whole : Bool) (n : ℕ)
    → IsBase formula entries rows pairs lists t whole → IsBase formula entries rows (asleep pairs n) lists t false
asleep_base formula entries rows pairs lists t whole n s = record {
  clauses = s.clauses;
  derives = s.derives;
  vars = s.vars;
  justified = s.justified;
  watching = IsWatching-asleep rows pairs lists t.vars n s.watching;
  listed = λ k pair e h. s.listed k pair (awake_before pairs n k pair e h) h;
  fresh = λ e. absurd (false≢true e);
  cuts = λ j lt. asleep_quiet rows pairs n _ _ (s.cuts j lt);
}

-- a clause is let go
pub IsBase-asleep : (formula : Cnf) (entries : List Chain) (clauses : List StoredClause) (lists : List (List Watch)) (t : Assigned) (whole : Bool) (n : ℕ)
    → IsBase formula entries (rows_of clauses) (pairs_of clauses) lists t whole
    → IsBase formula entries (rows_of (forgetting.asleep clauses n)) (pairs_of (forgetting.asleep clauses n)) lists t false
IsBase-asleep formula entries clauses lists t whole n s =
    subst (λ z. IsBase formula entries z (pairs_of (forgetting.asleep clauses n)) lists t false) (sym (rows_asleep clauses n))
    (subst (λ z. IsBase formula entries (rows_of clauses) z lists t false) (sym (pairs_asleep clauses n))
    (asleep_base formula entries (rows_of clauses) (pairs_of clauses) lists t whole n s))

at_only_awake : (clauses : List StoredClause) (lists : List (List Watch)) (l : Literal) → at_literal (map (only_awake clauses) lists) l ≡ only_awake clauses (at_literal lists l)
at_only_awake clauses lists l = get_or-map (only_awake clauses) lists (place_of l) []

-- an awake clause's watch stays
watch_kept : (clauses : List StoredClause) (list : List Watch) (k : ℕ) → is_awake (slice_get clauses k) ≡ true → watches_clause list k ≡ true
    → watches_clause (only_awake clauses list) k ≡ true
watch_kept clauses list k h w =
    any-filter_same (λ (w : Watch). w.clause == k) (has_awake_clause clauses) true
    (λ x s. ap (λ n. is_awake (slice_get clauses n)) (eqb-true x.clause k s) ∙ h) list
    ∙ w

all_filtered : {X : Type 0} (p q : X → Bool) (xs : List X) → list_all p xs ≡ true → list_all p (filter q xs) ≡ true
all_filtered p q [] h = h
all_filtered p q (x ∷ xs) h = go (q x) refl (all_filtered p q xs (and_parts _ _ h).1)
  where
    go : (b : Bool) → q x ≡ b → list_all p (filter q xs) ≡ true → list_all p (filter q (x ∷ xs)) ≡ true
    go true e ih = rw e (and_from _ _ (and_parts _ _ h).0 ih)
    go false e ih = rw e ih

all_mapped : {X : Type 0} (p : X → Bool) (f : X → X) → ((x : X) → p x ≡ true → p (f x) ≡ true) → (xs : List X) → list_all p xs ≡ true → list_all p (map f xs) ≡ true
all_mapped p f keeps [] h = h
all_mapped p f keeps (x ∷ xs) h = let q = and_parts _ _ h in and_from _ _ (keeps x q.0) (all_mapped p f keeps xs q.1)

IsWatching-purged : (rows : List (List Literal)) (pairs : List Pair) (clauses : List StoredClause) (lists : List (List Watch)) (vars : ℕ) → IsWatching rows pairs lists vars
    → IsWatching rows pairs (map (only_awake clauses) lists) vars
IsWatching-purged rows pairs clauses lists vars w = record {
  count = w.count;
  places = length-map lists (only_awake clauses) ∙ w.places;
  own = w.own;
  blocked = all_mapped (all_blocked rows) (only_awake clauses) (λ list e. all_filtered (is_blocked rows) (has_awake_clause clauses) list e) lists w.blocked;
  within = w.within;
}

AllListed-purged : (lists : List (List Watch)) (clauses : List StoredClause) → AllListed lists (pairs_of clauses) → AllListed (map (only_awake clauses) lists) (pairs_of clauses)
AllListed-purged lists clauses a k pair e h = (here pair.first (a k pair e h).0, here pair.second (a k pair e h).1)
  where
    here : (l : Literal) → watches_clause (at_literal lists l) k ≡ true → watches_clause (at_literal (map (only_awake clauses) lists) l) k ≡ true
    here l w = ap (λ z. watches_clause z k) (at_only_awake clauses lists l) ∙ watch_kept clauses (at_literal lists l) k (is_awake-at clauses k pair e h) w

-- the lists lose the watches of clauses that were let go
pub IsBase-purged : (formula : Cnf) (entries : List Chain) (clauses : List StoredClause) (lists : List (List Watch)) (t : Assigned) (whole : Bool)
    → IsBase formula entries (rows_of clauses) (pairs_of clauses) lists t whole → IsBase formula entries (rows_of clauses) (pairs_of clauses) (map (only_awake clauses) lists) t whole
IsBase-purged formula entries clauses lists t whole s = record {
  clauses = s.clauses;
  derives = s.derives;
  vars = s.vars;
  justified = s.justified;
  watching = IsWatching-purged (rows_of clauses) (pairs_of clauses) clauses lists t.vars s.watching;
  listed = AllListed-purged lists clauses s.listed;
  fresh = s.fresh;
  cuts = s.cuts;
}

-- a clause is deleted

still : (rows : List (List Literal)) (pairs : List Pair) (n k : ℕ) (later pair : Pair) (row : List Literal) → later.awake ≡ false → slice_get (set rows n []) k ≡ Some row
    → slice_get (set pairs n later) k ≡ Some pair → pair.awake ≡ true → (slice_get rows k ≡ Some row) × (slice_get pairs k ≡ Some pair)
still rows pairs n k later pair row off r e h =
    let was = awake_beside pairs n k later pair off e h in
    elim (at_set rows n [] k row r) [ inl s ↦ (s.0, was.0) | inr s ↦ absurd (was.1 s.0) ]

deleted_quiet : (rows : List (List Literal)) (pairs : List Pair) (n : ℕ) (later : Pair) (early late : Literal → Bool) → later.awake ≡ false → Quiet rows pairs early late
    → Quiet (set rows n []) (set pairs n later) early late
deleted_quiet rows pairs n later early late off q k row pair r e h = let was = still rows pairs n k later pair row off r e h in q k row pair was.0 was.1 h

deleted_blocked : (rows : List (List Literal)) (n : ℕ) (w : Watch) → is_blocked rows w ≡ true → is_blocked (set rows n []) w ≡ true
deleted_blocked rows n w e = elim (cases_eq w.clause n) [
  | inl s ↦ (let row = blocked_row rows w e in
      ap (λ z. blocks z w.blocker) (ap (slice_get (set rows n [])) s ∙ at_set_same rows n [] (subst (λ k. k < length rows) s (at_inside rows w.clause row.0 row.1))))
  | inr d ↦ ap (λ z. blocks z w.blocker) (at_set_other rows n [] w.clause d) ∙ e
]

deleted_list : (rows : List (List Literal)) (n : ℕ) (list : List Watch) → all_blocked rows list ≡ true → all_blocked (set rows n []) list ≡ true
deleted_list rows n [] h = refl
deleted_list rows n (w ∷ list) h = let q = and_parts _ _ h in and_from _ _ (deleted_blocked rows n w q.0) (deleted_list rows n list q.1)

deleted_lists : (rows : List (List Literal)) (n : ℕ) (lists : List (List Watch)) → list_all (all_blocked rows) lists ≡ true → list_all (all_blocked (set rows n [])) lists ≡ true
deleted_lists rows n [] h = refl
deleted_lists rows n (list ∷ lists) h = let q = and_parts _ _ h in and_from _ _ (deleted_list rows n list q.0) (deleted_lists rows n lists q.1)

deleted_watching : (rows : List (List Literal)) (pairs : List Pair) (lists : List (List Watch)) (vars n : ℕ) (later : Pair) → later.awake ≡ false → IsWatching rows pairs lists vars
    → IsWatching (set rows n []) (set pairs n later) lists vars
deleted_watching rows pairs lists vars n later off w = record {
  count = length-set pairs n later ∙ (w.count ∙ sym (length-set rows n []));
  places = w.places;
  own = λ k row pair r e h. (let was = still rows pairs n k later pair row off r e h in w.own k row pair was.0 was.1 h);
  blocked = deleted_lists rows n lists w.blocked;
  within = λ k row r l i. elim (at_set rows n [] k row r) [
    | inl s ↦ w.within k row s.0 l i
    | inr s ↦ absurd (false≢true (ap (λ z. has z l) s.1 ∙ i))
  ];
}

deleted_justified : (clauses rows : List (List Literal)) (t : Assigned) (n : ℕ) → IsNoReason t n → IsJustified clauses rows t → IsJustified clauses (set rows n []) t
deleted_justified clauses rows t n none j = record {
  stored = record {
    count = length-set rows n [] ∙ j.stored.count;
    each = λ k clause row e r some. elim (at_set rows n [] k row r) [
      | inl s ↦ j.stored.each k clause row e s.0 some
      | inr s ↦ absurd (let size : 0 ≡ length row = ap length s.1 in omega (arith, size, some))
    ];
  };
  reasons = j.reasons;
  kept = λ i c row f r. elim (at_set rows n [] c row r) [
    | inl s ↦ j.kept i c row f s.0
    | inr s ↦ absurd (none i (f ∙ ap (λ z. Some (Some z)) s.0))
  ];
}

deleted_base : (formula : Cnf) (entries : List Chain) (rows : List (List Literal)) (pairs : List Pair) (lists : List (List Watch)) (t : Assigned) (whole : Bool) (n : ℕ) (later : Pair)
    → later.awake ≡ false → IsNoReason t n → IsBase formula entries rows pairs lists t whole → IsBase formula entries (set rows n []) (set pairs n later) lists t false
deleted_base formula entries rows pairs lists t whole n later off none s = record {
  clauses = s.clauses;
  derives = s.derives;
  vars = s.vars;
  justified = deleted_justified s.clauses rows t n none s.justified;
  watching = deleted_watching rows pairs lists t.vars n later off s.watching;
  listed = λ k pair e h. s.listed k pair (awake_beside pairs n k later pair off e h).0 h;
  fresh = λ e. absurd (false≢true e);
  cuts = λ j lt. deleted_quiet rows pairs n later _ _ off (s.cuts j lt);
}

pub IsBase-deleted : (formula : Cnf) (entries : List Chain) (clauses : List StoredClause) (lists : List (List Watch)) (t : Assigned) (whole : Bool) (n : ℕ) → IsNoReason t n
    → IsBase formula entries (rows_of clauses) (pairs_of clauses) lists t whole
    → IsBase formula entries (rows_of (forgetting.deleted clauses n)) (pairs_of (forgetting.deleted clauses n)) lists t false
IsBase-deleted formula entries clauses lists t whole n none s = go (slice_get clauses n)
  where
    go : (found : Option StoredClause)
        → IsBase formula entries (rows_of (forgetting.deleted_at clauses n found)) (pairs_of (forgetting.deleted_at clauses n found)) lists t false
    go None = record {
      clauses = s.clauses;
      derives = s.derives;
      vars = s.vars;
      justified = s.justified;
      watching = s.watching;
      listed = s.listed;
      fresh = λ e. absurd (false≢true e);
      cuts = s.cuts;
    }
    go (Some c) =
        subst (λ z. IsBase formula entries z (pairs_of (set clauses n (record { literals = []; awake = false }))) lists t false) (sym (rows_set clauses n (record { literals = []; awake = false })))
        (subst (λ z. IsBase formula entries (set (rows_of clauses) n []) z lists t false) (sym (pairs_set clauses n (record { literals = []; awake = false })))
        (deleted_base formula entries (rows_of clauses) (pairs_of clauses) lists t whole n (pair_of (record { literals = []; awake = false })) refl none s))

pub Quiet-deleted : (clauses : List StoredClause) (n : ℕ) (early late : Literal → Bool) → Quiet (rows_of clauses) (pairs_of clauses) early late
    → Quiet (rows_of (forgetting.deleted clauses n)) (pairs_of (forgetting.deleted clauses n)) early late
Quiet-deleted clauses n early late q = go (slice_get clauses n)
  where
    go : (found : Option StoredClause) → Quiet (rows_of (forgetting.deleted_at clauses n found)) (pairs_of (forgetting.deleted_at clauses n found)) early late
    go None = q
    go (Some c) =
        subst (λ z. Quiet z (pairs_of (set clauses n (record { literals = []; awake = false }))) early late) (sym (rows_set clauses n (record { literals = []; awake = false })))
        (subst (λ z. Quiet (set (rows_of clauses) n []) z early late) (sym (pairs_set clauses n (record { literals = []; awake = false })))
        (deleted_quiet (rows_of clauses) (pairs_of clauses) n (pair_of (record { literals = []; awake = false })) early late refl q))

-- which rows stay

pub AreLeftOrEmpty-refl : (rows : List (List Literal)) → AreLeftOrEmpty rows rows
AreLeftOrEmpty-refl rows = record { count = refl; each = λ k. inl refl }

pub AreLeftOrEmpty-trans : (a b c : List (List Literal)) → AreLeftOrEmpty a b → AreLeftOrEmpty b c → AreLeftOrEmpty a c
AreLeftOrEmpty-trans a b c g h = record {
  count = h.count ∙ g.count;
  each = λ k. elim (h.each k) [
    | inl s ↦ elim (g.each k) [ inl t ↦ inl (s ∙ t) | inr t ↦ inr (s ∙ t) ]
    | inr s ↦ inr s
  ];
}

pub AreLeftOrEmpty-same : (old new : List (List Literal)) → new ≡ old → AreLeftOrEmpty old new
AreLeftOrEmpty-same old new e = subst (λ z. AreLeftOrEmpty old z) (sym e) (AreLeftOrEmpty-refl old)

pub AreLeftOrEmpty-deleted : (clauses : List StoredClause) (n : ℕ) → AreLeftOrEmpty (rows_of clauses) (rows_of (forgetting.deleted clauses n))
AreLeftOrEmpty-deleted clauses n = go (slice_get clauses n) refl
  where
    go : (found : Option StoredClause) → slice_get clauses n ≡ found → AreLeftOrEmpty (rows_of clauses) (rows_of (forgetting.deleted_at clauses n found))
    go None e = AreLeftOrEmpty-refl (rows_of clauses)
    go (Some c) e =
        subst (λ z. AreLeftOrEmpty (rows_of clauses) z) (sym (rows_set clauses n (record { literals = []; awake = false }))) (record {
          count = length-set (rows_of clauses) n [];
          each = λ k. elim (cases_eq k n) [
            | inl s ↦ inr (ap (slice_get (set (rows_of clauses) n [])) s ∙ at_set_same (rows_of clauses) n [] (at_inside (rows_of clauses) n c.literals (at_mapped (λ (d : StoredClause). d.literals) clauses n c e)))
            | inr d ↦ inl (at_set_other (rows_of clauses) n [] k d)
          ];
        })

pub Forgets-refl : (b : Base) → Stands b → IsReady b → Forgets b b
Forgets-refl b stands ready = record {
  stands = stands;
  ready = ready;
  trail = refl;
  rows = AreLeftOrEmpty-refl (rows_of b.clauses);
  entries = refl;
  formula = refl;
}

pub Forgets-trans : (a b c : Base) → Forgets a b → Forgets b c → Forgets a c
Forgets-trans a b c g h = record {
  stands = h.stands;
  ready = h.ready;
  trail = h.trail ∙ g.trail;
  rows = AreLeftOrEmpty-trans (rows_of a.clauses) (rows_of b.clauses) (rows_of c.clauses) g.rows h.rows;
  entries = h.entries ∙ g.entries;
  formula = h.formula ∙ g.formula;
}
