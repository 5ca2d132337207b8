-- The state of a search as it goes on.
use Rattle.std.proofs.Common.{◌≡◌, ℕ, ◌+◌, ◌-◌, ◌*◌, ◌<◌, ◌≤◌, List, [], ◌∷◌, ◌++◌, Bool, true, false, not, cond, arith, refl, ap, sym, ◌∙◌, inl, inr, ◌⊎◌, subst, length, take, suc, Option, Some, None, slice_get, option_and_then, ◌^◌}
use Rattle.std.proofs.lemmas.Bool.{false≢true, or_cases, or_left, or_right, and_from, cases_Bool, cases_eq, false_from_ne_true}
use Rattle.std.proofs.lemmas.List.{take_all, take-append-le, take-take}
use Rattle.kb_chain.specs.Literal.{Literal, literal, has, same, negated, place_of, is_true}
use Rattle.kb_chain.specs.Clause.{clause_true, Satisfies, assignment_of}
use Rattle.kb_chain.specs.Cnf.{Cnf}
use Rattle.kb_chain.specs.Chains.{derived, entry_of}
use Rattle.kb_chain.specs.Propagation.{all_negated, others, IsClosed, NegatesSome, UnitRefutes}
use Rattle.kb_chain.specs.Index.{IsSettled}
use Rattle.kb_chain.specs.declared.log.Chain.{Chain}
use Rattle.kb_chain.proofs.LiteralLaws.{same-true, same_refl}
use Rattle.kb_chain.proofs.PropagationLaws.{IsPart, all_negated-from, all_negated-at, has-others, taken_part, IsFrontOf-take}
use Rattle.kb_chain.proofs.LeastSets.{not_unit_refuted}
use Rattle.kb_propagate.specs.Trail.{Assigned, IsTrail, HasReasons, level_zero, level_start, before_level, TrailGrows, cut_back}
use Rattle.kb_propagate.specs.Store.{IsRow, IsStored, IsJustified}
use Rattle.kb_propagate.specs.Rows.{StoredClause, AreNamed, rows_of}
use Rattle.kb_propagate.specs.Base.{IsConflict}
use Rattle.kb_propagate.specs.Watches.{Pair, pairs_of, is_met, IsQuiet, Quiet, IsAwake, AllAwake, IsWatching, AllListed, StaysQuiet}
use Rattle.kb_propagate.specs.Base.{IsBase, AllAssigned, IsModelOf}
use Rattle.kb_propagate.specs.declared.watch.Watch.{Watch}
use Rattle.kb_propagate.proofs.Places.{some_in, at_kept, at_inside, at_within}
use Rattle.kb_propagate.proofs.TrailLaws.{length_taken, start_pushed, start_taken}
use Rattle.kb_propagate.proofs.WatchLaws.{is_met-from, is_met-some, Quiet_more}
use Rattle.kb_propagate.proofs.JustifyLaws.{pushed, level_zero_part, IsJustified-decide, IsJustified-cut, push_part}

-- a set without both literals of a variable
abbrev pub IsConsistent : (Literal → Bool) → Type 0
IsConsistent set = (m : Literal) → set m ≡ true → set (negated m) ≡ false

pub taken_consistent : (t : Assigned) (n : ℕ) → IsTrail t → IsConsistent (has (take n t.literals))
taken_consistent t n h m e = false_from_ne_true _ (λ f. false≢true (sym (h.consistent m (taken_part t.literals n m e)) ∙ taken_part t.literals n (negated m) f))

take_part : (xs : List Literal) (i j : ℕ) → i ≤ j → IsPart (has (take i xs)) (has (take j xs))
take_part xs i j le m e = taken_part (take j xs) i m (ap (λ z. has z m) (take-take i j xs le) ∙ e)

-- the literals before a level are there before a later one
pub before_part : (t : Assigned) (i j : ℕ) → IsTrail t → i ≤ j → j < length t.starts → IsPart (has (before_level t i)) (has (before_level t j))
before_part t i j h le lt = elim (cases_eq i j) [
  | inl e ↦ (λ m k. ap (λ n. has (before_level t n) m) (sym e) ∙ k)
  | inr n ↦ (let l : i < j = omega (arith, le, n) in let s : level_start t.starts i < level_start t.starts j = h.rising i j l lt in
      take_part t.literals (level_start t.starts i) (level_start t.starts j) (omega (arith, s)))
]

-- a quiet set does not negate a whole row
pub quiet_row : (set : Literal → Bool) (row : List Literal) (pair : Pair) → IsConsistent set → IsQuiet set set row pair → has row pair.first ≡ true
    → all_negated set row ≡ true → ⊥
quiet_row set row pair h q own e =
    let m = is_met-some set row (q.first (all_negated-at set row e pair.first own)) in
    false≢true (sym (h m.0 m.2) ∙ all_negated-at set row e m.0 m.1)

row_negated : (set : Literal → Bool) (low : Literal → Bool) (row clause : List Literal) → IsRow low row clause → all_negated set clause ≡ true → all_negated set row ≡ true
row_negated set low row clause h e = all_negated-from set row (λ l i. all_negated-at set clause e l (h.part l i))

-- and holds the literal of a clause whose others it negates
pub quiet_settled : (set low : Literal → Bool) (row clause : List Literal) (pair : Pair) → IsConsistent set → IsQuiet set set row pair
    → (has row pair.first ≡ true) × (has row pair.second ≡ true) → IsRow low row clause → IsSettled set set clause
quiet_settled set low row clause pair h q own r = record {
  consistent = false_from_ne_true _ (λ e. quiet_row set row pair h q own.0 (row_negated set low row clause r e));
  reached = λ l i o. elim (cases_Bool (has row l)) [
    | inr n ↦ absurd (quiet_row set row pair h q own.0 (all_negated-from set row (λ m j.
        all_negated-at set (others l clause) o m (has-others l clause m ∙ and_from _ _ (r.part m j) (ap not (apart m l j n))))))
    | inl j ↦ elim (cases_Bool (same pair.first l)) [
      | inr n ↦ meets l o (q.first (all_negated-at set (others l clause) o pair.first (has-others l clause pair.first ∙ and_from _ _ (r.part pair.first own.0) (ap not n))))
      | inl s ↦ elim (cases_Bool (same pair.second l)) [
        | inr n ↦ meets l o (q.second (all_negated-at set (others l clause) o pair.second (has-others l clause pair.second ∙ and_from _ _ (r.part pair.second own.1) (ap not n))))
        | inl u ↦ ap set (sym (same-true pair.first l s))
            ∙ q.single (ap (λ z. same z pair.second) (same-true pair.first l s ∙ sym (same-true pair.second l u)) ∙ same_refl pair.second)
      ]
    ]
  ];
}
  where
    apart : (m l : Literal) → has row m ≡ true → has row l ≡ false → same m l ≡ false
    apart m l j n = false_from_ne_true _ (λ s. false≢true (sym n ∙ (ap (has row) (sym (same-true m l s)) ∙ j)))

    meets : (l : Literal) → all_negated set (others l clause) ≡ true → is_met set row ≡ true → set l ≡ true
    meets l o e =
        let m = is_met-some set row e in
        elim (cases_Bool (same m.0 l)) [
          | inl s ↦ ap set (sym (same-true m.0 l s)) ∙ m.2
          | inr n ↦ absurd (false≢true (sym (h m.0 m.2) ∙ all_negated-at set (others l clause) o m.0 (has-others l clause m.0 ∙ and_from _ _ (r.part m.0 m.1) (ap not n))))
        ]

-- a set that is quiet is closed, and negates no clause
pub quiet_all : (set low : Literal → Bool) (clauses rows : List (List Literal)) (pairs : List Pair) (lists : List (List Watch)) (vars : ℕ) → IsConsistent set → IsStored low clauses rows
    → IsWatching rows pairs lists vars → AllAwake pairs → Quiet rows pairs set set → (k : ℕ) (clause : List Literal) → slice_get clauses k ≡ Some clause → IsSettled set set clause
quiet_all set low clauses rows pairs lists vars h stored w awake q k clause e =
    let count : length rows ≡ length clauses = stored.count in
    let inside : k < length clauses = at_inside clauses k clause e in
    let row = at_within rows k (omega (arith, count, inside)) in
    let both : length pairs ≡ length rows = w.count in
    let pair = at_within pairs k (omega (arith, count, inside, both)) in
    let own = w.own k row.0 pair.0 row.1 pair.1 (awake k pair.0 pair.1) in
    quiet_settled set low row.0 clause pair.0 h (q k row.0 pair.0 row.1 pair.1 (awake k pair.0 pair.1)) own (stored.each k clause row.0 e row.1 (some_in row.0 pair.0.first own.0))

pub closed_from : (clauses : List (List Literal)) (set : Literal → Bool)
    → ((k : ℕ) (clause : List Literal) → slice_get clauses k ≡ Some clause → IsSettled set set clause) → IsClosed clauses set × (NegatesSome clauses set → ⊥)
closed_from clauses set f = (λ k clause e l i o. (f k clause e).reached l i o, λ n. false≢true (sym (f n.0 n.1 n.2).consistent ∙ n.3))

-- what was there when a level began
pub cut_settled : (formula : Cnf) (entries : List Chain) (rows : List (List Literal)) (pairs : List Pair) (lists : List (List Watch)) (t : Assigned) (whole : Bool)
    → (s : IsBase formula entries rows pairs lists t whole) → IsTrail t → AllAwake pairs → (j : ℕ) → j < length t.starts
    → (k : ℕ) (clause : List Literal) → slice_get s.clauses k ≡ Some clause → IsSettled (has (before_level t j)) (has (before_level t j)) clause
cut_settled formula entries rows pairs lists t whole s h awake j lt =
    quiet_all (has (before_level t j)) (has (level_zero t)) s.clauses rows pairs lists t.vars (taken_consistent t (level_start t.starts j) h) s.justified.stored s.watching awake (s.cuts j lt)

-- the clauses of the formula come first among those that a log derives
pub derived_kept : (clauses all : List (List Literal)) (entries : List Chain) (k : ℕ) (clause : List Literal) → derived clauses entries ≡ Some all
    → slice_get clauses k ≡ Some clause → slice_get all k ≡ Some clause
derived_kept clauses all [] k clause e f = let s : clauses ≡ all = cc in ap (λ z. slice_get z k) (sym s) ∙ f
derived_kept clauses all (x ∷ xs) k clause e f = go (entry_of clauses x) e (λ c. derived_kept (clauses ++ c ∷ []) all xs k clause)
  where
    go : (o : Option (List Literal)) → option_and_then (λ c. derived (clauses ++ c ∷ []) xs) o ≡ Some all
        → ((c : List Literal) → derived (clauses ++ c ∷ []) xs ≡ Some all → slice_get (clauses ++ c ∷ []) k ≡ Some clause → slice_get all k ≡ Some clause)
        → slice_get all k ≡ Some clause
    go None g rec = cc
    go (Some c) g rec = rec c g (at_kept clauses (c ∷ []) k clause f)

-- once a level began, unit propagation alone does not refute the formula
pub not_refuted : (formula : Cnf) (entries : List Chain) (rows : List (List Literal)) (pairs : List Pair) (lists : List (List Watch)) (t : Assigned) (whole : Bool)
    → IsBase formula entries rows pairs lists t whole → IsTrail t → AllAwake pairs → 0 < length t.starts → UnitRefutes formula.clauses → ⊥
not_refuted formula entries rows pairs lists t whole s h awake lt =
    let settled = cut_settled formula entries rows pairs lists t whole s h awake 0 lt in
    let both = closed_from formula.clauses (has (before_level t 0)) (λ k clause e. settled k clause (derived_kept formula.clauses s.clauses entries k clause s.derives e)) in
    not_unit_refuted formula.clauses (has (before_level t 0)) both.0 both.1

-- a false row was not false before the last level
pub not_false_before : (formula : Cnf) (entries : List Chain) (rows : List (List Literal)) (pairs : List Pair) (lists : List (List Watch)) (t : Assigned) (whole : Bool)
    → IsBase formula entries rows pairs lists t whole → IsTrail t → (j : ℕ) → j < length t.starts → (k : ℕ) (row : List Literal) → slice_get rows k ≡ Some row → IsAwake pairs k
    → all_negated (has (before_level t j)) row ≡ false
not_false_before formula entries rows pairs lists t whole s h j lt k row e awake =
    let both : length pairs ≡ length rows = s.watching.count in
    let inside : k < length rows = at_inside rows k row e in
    let pair = at_within pairs k (omega (arith, both, inside)) in
    false_from_ne_true _ (quiet_row (has (before_level t j)) row pair.0 (taken_consistent t (level_start t.starts j) h) (s.cuts j lt k row pair.0 e pair.1 (awake pair.0 pair.1)) (s.watching.own k row pair.0 e pair.1 (awake pair.0 pair.1)).0)

-- a conflict of a row is one of its clause
conflict_clause : (clauses rows : List (List Literal)) (t : Assigned) (k : ℕ) → IsJustified clauses rows t → (c : IsConflict rows t k) → 0 < length c.row → IsConflict clauses t k
conflict_clause clauses rows t k j c some =
    let count : length rows ≡ length clauses = j.stored.count in
    let inside : k < length rows = at_inside rows k c.row c.numbered in
    let clause = at_within clauses k (omega (arith, count, inside)) in
    let r = j.stored.each k clause.0 c.row clause.1 c.numbered some in record {
      row = clause.0;
      numbered = clause.1;
      false_all = all_negated-from (has t.literals) clause.0 (λ l i. elim (cases_Bool (has c.row l)) [
        | inl e ↦ all_negated-at (has t.literals) c.row c.false_all l e
        | inr n ↦ level_zero_part t (negated l) (r.rest l i n)
      ]);
    }

-- propagation
pub IsBase-propagated : (formula : Cnf) (entries : List Chain) (old new : List StoredClause) (lists lists' : List (List Watch)) (t t' : Assigned) (whole : Bool)
    → IsBase formula entries (rows_of old) (pairs_of old) lists t whole → IsTrail t → IsWatching (rows_of new) (pairs_of new) lists' t'.vars → AllListed lists' (pairs_of new)
    → StaysQuiet old new (has t.literals) → TrailGrows t t'
    → ((all : List (List Literal)) → IsJustified all (rows_of old) t → IsJustified all (rows_of new) t') → IsBase formula entries (rows_of new) (pairs_of new) lists' t' whole
IsBase-propagated formula entries old new lists lists' t t' whole s h watching listed stays grows justified = record {
  clauses = s.clauses;
  derives = s.derives;
  fresh = λ w. (stays.0 (s.fresh w).0, (s.fresh w).1);
  vars = grows.vars ∙ s.vars;
  justified = justified s.clauses s.justified;
  watching = watching;
  listed = listed;
  cuts = λ j lt. (let before : j < length t.starts = subst (λ (z : List ℕ). j < length z) grows.starts lt in
      let inside : level_start t.starts j < length t.literals = h.inside j before in
      let e : before_level t' j ≡ before_level t j =
      ap (λ (z : List ℕ). take (level_start z j) t'.literals) grows.starts ∙ IsFrontOf-take t.literals t'.literals (level_start t.starts j) grows.literals (omega (arith, inside)) in
      subst (λ z. Quiet (rows_of new) (pairs_of new) (has z) (has z)) (sym e) (stays.1 (has (before_level t j)) (taken_part t.literals (level_start t.starts j)) (s.cuts j before)));
}

-- a decision
pub IsBase-decided : (formula : Cnf) (entries : List Chain) (rows : List (List Literal)) (pairs : List Pair) (lists : List (List Watch)) (t : Assigned) (l : Literal) (whole : Bool)
    → IsBase formula entries rows pairs lists t whole → IsTrail t → Quiet rows pairs (has t.literals) (has t.literals)
    → IsBase formula entries rows pairs lists (pushed t l None (t.starts ++ length t.literals ∷ [])) whole
IsBase-decided formula entries rows pairs lists t l whole s h quiet = record {
  clauses = s.clauses;
  derives = s.derives;
  fresh = s.fresh;
  vars = s.vars;
  justified = IsJustified-decide s.clauses rows t l h s.justified;
  watching = s.watching;
  listed = s.listed;
  cuts = λ j lt. elim (start_pushed t.starts (length t.literals) j lt) [
    | inl e ↦ (let inside : level_start t.starts j < length t.literals = h.inside j e.0 in
        let same_cut : take (level_start (t.starts ++ length t.literals ∷ []) j) (t.literals ++ l ∷ []) ≡ before_level t j =
        ap (λ n. take n (t.literals ++ l ∷ [])) e.1 ∙ take-append-le (level_start t.starts j) t.literals (l ∷ []) (omega (arith, inside)) in
        subst (λ z. Quiet rows pairs (has z) (has z)) (sym same_cut) (s.cuts j e.0))
    | inr e ↦ (let same_cut : take (level_start (t.starts ++ length t.literals ∷ []) j) (t.literals ++ l ∷ []) ≡ t.literals =
        ap (λ n. take n (t.literals ++ l ∷ [])) e.1 ∙ (take-append-le (length t.literals) t.literals (l ∷ []) (omega arith) ∙ take_all (length t.literals) t.literals (omega arith)) in
        subst (λ z. Quiet rows pairs (has z) (has z)) (sym same_cut) quiet)
  ];
}

pub quiet-decided : (rows : List (List Literal)) (pairs : List Pair) (xs : List Literal) (l : Literal) → Quiet rows pairs (has xs) (has xs)
    → Quiet rows pairs (has (take (length xs) (xs ++ l ∷ []))) (has (xs ++ l ∷ []))
quiet-decided rows pairs xs l q =
    subst (λ z. Quiet rows pairs (has z) (has (xs ++ l ∷ []))) (sym (take-append-le (length xs) xs (l ∷ []) (omega arith) ∙ take_all (length xs) xs (omega arith)))
    (Quiet_more rows pairs (has xs) (has xs) (has (xs ++ l ∷ [])) (push_part xs l) q)

pub before_cut : (t : Assigned) (level j : ℕ) → IsTrail t → level < length t.starts → j < level → before_level (cut_back t level) j ≡ before_level t j
before_cut t level j h lt below =
    let s : level_start t.starts j < level_start t.starts level = h.rising j level below lt in
    ap (λ n. take n (before_level t level)) (start_taken level t.starts j below) ∙ take-take (level_start t.starts j) (level_start t.starts level) t.literals (omega (arith, s))

-- back to a level
pub IsBase-cut : (formula : Cnf) (entries : List Chain) (rows : List (List Literal)) (pairs : List Pair) (lists : List (List Watch)) (t : Assigned) (level : ℕ) (whole : Bool)
    → IsBase formula entries rows pairs lists t whole → IsTrail t → level < length t.starts → IsBase formula entries rows pairs lists (cut_back t level) whole
IsBase-cut formula entries rows pairs lists t level whole s h lt = record {
  clauses = s.clauses;
  derives = s.derives;
  fresh = s.fresh;
  vars = s.vars;
  justified = IsJustified-cut s.clauses rows t level h s.justified lt;
  watching = s.watching;
  listed = s.listed;
  cuts = λ j e. (let levels : length (take level t.starts) ≡ level = length_taken level t.starts (omega (arith, lt)) in
      let below : j < level = omega (arith, e, levels) in
      subst (λ z. Quiet rows pairs (has z) (has z)) (sym (before_cut t level j h lt below)) (s.cuts j (omega (arith, below, lt))));
}

pub quiet-cut : (formula : Cnf) (entries : List Chain) (rows : List (List Literal)) (pairs : List Pair) (lists : List (List Watch)) (t : Assigned) (whole : Bool) (level : ℕ)
    → IsBase formula entries rows pairs lists t whole → IsTrail t → level < length t.starts
    → (level_start t.starts level ≤ length (before_level t level)) × Quiet rows pairs (has (take (level_start t.starts level) (before_level t level))) (has (before_level t level))
quiet-cut formula entries rows pairs lists t whole level s h lt =
    let inside : level_start t.starts level < length t.literals = h.inside level lt in
    let size : length (before_level t level) ≡ level_start t.starts level = length_taken (level_start t.starts level) t.literals (omega (arith, inside)) in (
      (omega (arith, size)),
      subst (λ z. Quiet rows pairs (has z) (has (before_level t level))) (sym (take_all (level_start t.starts level) (before_level t level) (omega (arith, size)))) (s.cuts level lt),
    )

pub IsBase_same : (f f' : Cnf) (e e' : List Chain) (r r' : List (List Literal)) (p p' : List Pair) (l l' : List (List Watch)) (t t' : Assigned) (w w' : Bool)
    → f ≡ f' → e ≡ e' → r ≡ r' → p ≡ p' → l ≡ l' → t ≡ t' → w ≡ w' → IsBase f' e' r' p' l' t' w' → IsBase f e r p l t w
IsBase_same f f' e e' r r' p p' l l' t t' w w' ef ee er ep el et ew h =
    subst (λ z. IsBase z e r p l t w) (sym ef)
    (subst (λ z. IsBase f' z r p l t w) (sym ee)
    (subst (λ z. IsBase f' e' z p l t w) (sym er)
    (subst (λ z. IsBase f' e' r' z l t w) (sym ep)
    (subst (λ z. IsBase f' e' r' p' z t w) (sym el)
    (subst (λ z. IsBase f' e' r' p' l' z w) (sym et)
    (subst (λ z. IsBase f' e' r' p' l' t' z) (sym ew) h))))))

-- a model
formula_clause : (formula : Cnf) (entries : List Chain) (rows : List (List Literal)) (pairs : List Pair) (lists : List (List Watch)) (t : Assigned) (whole : Bool)
    → (s : IsBase formula entries rows pairs lists t whole) → IsTrail t → AllAwake pairs → AreNamed rows → AllAssigned t → Quiet rows pairs (has t.literals) (has t.literals)
    → (k : ℕ) (clause : List Literal) → slice_get formula.clauses k ≡ Some clause
    → (m : Literal) × (has clause m ≡ true) × (has t.literals m ≡ true) × (0 < m.variable) × (m.variable < 2 ^ 31) × (m.variable ≤ t.vars)
formula_clause formula entries rows pairs lists t whole s h awake named assigned quiet k clause e =
    let there = derived_kept formula.clauses s.clauses entries k clause s.derives e in
    let count : length rows ≡ length s.clauses = s.justified.stored.count in
    let both : length pairs ≡ length rows = s.watching.count in
    let inside : k < length s.clauses = at_inside s.clauses k clause there in
    let row = at_within rows k (omega (arith, count, inside)) in
    let pair = at_within pairs k (omega (arith, count, inside, both)) in
    let x = pair.0.first in
    let own = (s.watching.own k row.0 pair.0 row.1 pair.1 (awake k pair.0 pair.1)).0 in
    let r = s.justified.stored.each k clause row.0 there row.1 (some_in row.0 x own) in
    let found = is_met-some (has t.literals) row.0 (meets row.0 x (quiet k row.0 pair.0 row.1 pair.1 (awake k pair.0 pair.1)).first own (low x (s.watching.within k row.0 row.1 x own)) (named k row.0 row.1 x own)) in
    let bounds = named k row.0 row.1 found.0 found.1 in
    (found.0, r.part found.0 found.1, found.2, bounds.0, bounds.1, low found.0 (s.watching.within k row.0 row.1 found.0 found.1))
  where
    low : (m : Literal) → place_of m < 2 * t.vars + 2 → m.variable ≤ t.vars
    low m lt = go m.variable m.positive lt
      where
        go : (v : ℕ) (p : Bool) → place_of (literal v p) < 2 * t.vars + 2 → v ≤ t.vars
        go v true lt = omega arith
        go v false lt = omega arith

    meets : (row : List Literal) (x : Literal) → (has t.literals (negated x) ≡ true → is_met (has t.literals) row ≡ true) → has row x ≡ true → x.variable ≤ t.vars
        → (0 < x.variable) × (x.variable < 2 ^ 31) → is_met (has t.literals) row ≡ true
    meets row x f own le b = go x.positive refl (or_cases (has t.literals (literal x.variable true)) (has t.literals (literal x.variable false)) (assigned x.variable b.0 le b.1))
      where
        go : (p : Bool) → x.positive ≡ p → (has t.literals (literal x.variable true) ≡ true) ⊎ (has t.literals (literal x.variable false) ≡ true) → is_met (has t.literals) row ≡ true
        go true e (inl g) = is_met-from (has t.literals) row x own (ap (λ z. has t.literals (literal x.variable z)) e ∙ g)
        go true e (inr g) = f (ap (λ z. has t.literals (literal x.variable (not z))) e ∙ g)
        go false e (inl g) = f (ap (λ z. has t.literals (literal x.variable (not z))) e ∙ g)
        go false e (inr g) = is_met-from (has t.literals) row x own (ap (λ z. has t.literals (literal x.variable z)) e ∙ g)

Satisfies-from : (a : ℕ → Bool) (clauses : List (List Literal)) → ((k : ℕ) (c : List Literal) → slice_get clauses k ≡ Some c → clause_true a c ≡ true) → Satisfies a clauses
Satisfies-from a [] f = tt
Satisfies-from a (c ∷ cs) f = (f 0 c refl, Satisfies-from a cs (λ k d e. f (suc k) d e))

pub clause_true-from : (a : ℕ → Bool) (clause : List Literal) (m : Literal) → has clause m ≡ true → is_true a m ≡ true → clause_true a clause ≡ true
clause_true-from a [] m e h = absurd (false≢true e)
clause_true-from a (x ∷ xs) m e h = elim (or_cases (same m x) (has xs m) e) [
  | inl s ↦ or_left _ _ (ap (is_true a) (sym (same-true m x s)) ∙ h)
  | inr s ↦ or_right _ _ (clause_true-from a xs m s h)
]

pub model_satisfies : (formula : Cnf) (entries : List Chain) (rows : List (List Literal)) (pairs : List Pair) (lists : List (List Watch)) (t : Assigned) (bits : List Bool) (whole : Bool)
    → IsBase formula entries rows pairs lists t whole → IsTrail t → AllAwake pairs → AreNamed rows → AllAssigned t → Quiet rows pairs (has t.literals) (has t.literals)
    → length bits ≡ t.vars → IsModelOf bits t → Satisfies (assignment_of bits) formula.clauses
model_satisfies formula entries rows pairs lists t bits whole s h awake named assigned quiet size values =
    Satisfies-from (assignment_of bits) formula.clauses (λ k c e.
    (let m = formula_clause formula entries rows pairs lists t whole s h awake named assigned quiet k c e in
    clause_true-from (assignment_of bits) c m.0 m.1 (holds m.0 m.2 m.3 m.4 m.5)))
  where
    value : (v : ℕ) → 0 < v → v < 2 ^ 31 → v ≤ t.vars → assignment_of bits v ≡ has t.literals (literal v true)
    value v low high le =
        let at : v - 1 + 1 ≡ v = omega arith in
        values (v - 1) (omega (arith, size)) (omega (arith, at)) ∙ ap (λ n. has t.literals (literal n true)) at

    holds : (m : Literal) → has t.literals m ≡ true → 0 < m.variable → m.variable < 2 ^ 31 → m.variable ≤ t.vars → is_true (assignment_of bits) m ≡ true
    holds m e low high le = go m.positive refl
      where
        go : (p : Bool) → m.positive ≡ p → is_true (assignment_of bits) m ≡ true
        go true f = ap (λ z. cond z (assignment_of bits m.variable) (not (assignment_of bits m.variable))) f
            ∙ (value m.variable low high le ∙ (ap (λ z. has t.literals (literal m.variable z)) (sym f) ∙ e))
        go false f = ap (λ z. cond z (assignment_of bits m.variable) (not (assignment_of bits m.variable))) f
            ∙ ap not (value m.variable low high le ∙ (ap (λ z. has t.literals (literal m.variable (not z))) (sym f) ∙ h.consistent m e))

-- a row that is false at level 0 dooms the search
pub doomed_from : (formula : Cnf) (entries : List Chain) (rows : List (List Literal)) (pairs : List Pair) (lists : List (List Watch)) (t : Assigned) (whole : Bool) (number : ℕ)
    → (s : IsBase formula entries rows pairs lists t whole) → IsConflict rows t number → IsAwake pairs number
    → HasReasons s.clauses t × IsConflict s.clauses t number
doomed_from formula entries rows pairs lists t whole number s c awake =
    let count : length pairs ≡ length rows = s.watching.count in
    let inside : number < length rows = at_inside rows number c.row c.numbered in
    let pair = at_within pairs number (omega (arith, count, inside)) in
    let own = s.watching.own number c.row pair.0 c.numbered pair.1 (awake pair.0 pair.1) in
    (s.justified.reasons, conflict_clause s.clauses rows t number s.justified c (some_in c.row pair.0.first own.0))
