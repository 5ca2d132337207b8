-- Minimisation of a clause, from late to early.
use Rattle.std.proofs.Common.{◌≡◌, ℕ, ◌+◌, ◌<◌, ◌≤◌, ◌==◌, List, [], ◌∷◌, ◌++◌, Bool, true, false, ◌||◌, arith, refl, ap, sym, ◌∙◌, inl, inr, ◌⊎◌, subst, length, get_or, set, take, zero, suc, Option, None, Some, slice_get, append_assoc, length-append, length-set}
use Rattle.std.proofs.lemmas.Bool.{false≢true, cases_lt, or_cases, or_left, or_right, eqb-true, eq-eqb, ne_eqb, and_from, false_from_ne_true}
use Rattle.std.proofs.lemmas.List.Folds.{list_any-append, list_all-append}
use Rattle.std.specs.Option.{IfSome}
use Rattle.std.specs.List.Sorted.{IsNonDecreasingBy}
use Rattle.kb_chain.specs.Literal.{Literal, has, negated}
use Rattle.kb_chain.specs.Index.{has_number}
use Rattle.kb_chain.proofs.LiteralLaws.{negated-negated}
use Rattle.kb_propagate.specs.Trail.{Assigned, IsTrail}
use Rattle.kb_propagate.specs.Store.{IsJustified}
use Rattle.kb_sat.specs.Analysis.{is_seen, at_position, pending_below, IsLevels, AreMarked, AreCovered, IsReached, IsClean, ArePut}
use Rattle.kb_sat.specs.declared.analysis.Levels.{Levels}
use Rattle.kb_sat.specs.declared.analysis.Marks.{Marks}
use Rattle.kb_propagate.proofs.Places.{at_same, at_within}
use Rattle.kb_sat.proofs.MarkLaws.{IsOnce, at_has_taken, at_position-is, seen_set, seen_other, pending_none}
use Rattle.kb_sat.proofs.HeldLaws.{not_before, reached_skip, reached_keep, reached_resolve}
use Rattle.kb_sat.proofs.LevelLaws.{others_same}
use Rattle.kb_sat.proofs.ReasonLaws.{stored_of, reason_inside}

number_at : (xs : List ℕ) (q : ℕ) → has_number xs q ≡ true → (i : ℕ) × (i < length xs) × (get_or xs i 0 ≡ q)
number_at [] q e = absurd (false≢true e)
number_at (x ∷ xs) q e = elim (or_cases (x == q) (has_number xs q) e) [
  | inl s ↦ (0, (omega arith), eqb-true x q s)
  | inr s ↦ (let r = number_at xs q s in (suc r.0, (let lt : r.0 < length xs = r.1 in omega (arith, lt)), r.2))
]

got_front : (xs : List ℕ) (p i : ℕ) (d : ℕ) → i < length xs → get_or (xs ++ p ∷ []) i d ≡ get_or xs i d
got_front [] p i d lt = absurd (omega arith)
got_front (x ∷ xs) p zero d lt = refl
got_front (x ∷ xs) p (suc i) d lt = got_front xs p i d (omega arith)

got_last : (xs : List ℕ) (p d : ℕ) → get_or (xs ++ p ∷ []) (length xs) d ≡ p
got_last [] p d = refl
got_last (x ∷ xs) p d = got_last xs p d

-- the last of rising numbers
pub last_highest : (all xs : List ℕ) (p q : ℕ) → all ≡ xs ++ p ∷ [] → IsNonDecreasingBy (λ k. k) all → has_number xs q ≡ true → q ≤ p
last_highest all xs p q shape rising e =
    let r = number_at xs q e in
    let size : length all ≡ length xs + 1 = ap length shape ∙ length-append xs (p ∷ []) in
    let lt : r.0 < length xs = r.1 in
    let le : get_or all r.0 0 ≤ get_or all (length xs) 0 = rising r.0 (length xs) 0 (omega (arith, lt)) (omega (arith, size)) in
    let a : get_or all r.0 0 ≡ q = ap (λ z. get_or z r.0 0) shape ∙ (got_front xs p r.0 0 lt ∙ r.2) in
    let b : get_or all (length xs) 0 ≡ p = ap (λ z. get_or z (length xs) 0) shape ∙ got_last xs p 0 in
    omega (arith, le, a, b)

pub front_rising : (all xs : List ℕ) (p : ℕ) → all ≡ xs ++ p ∷ [] → IsNonDecreasingBy (λ k. k) all → IsNonDecreasingBy (λ k. k) xs
front_rising all xs p shape rising i j d le lt =
    let size : length all ≡ length xs + 1 = ap length shape ∙ length-append xs (p ∷ []) in
    let k : get_or all i d ≤ get_or all j d = rising i j d le (omega (arith, lt, size)) in
    let a : get_or all i d ≡ get_or xs i d = ap (λ z. get_or z i d) shape ∙ got_front xs p i d (omega (arith, le, lt)) in
    let b : get_or all j d ≡ get_or xs j d = ap (λ z. get_or z j d) shape ∙ got_front xs p j d lt in
    omega (arith, k, a, b)

pub number_more : (all xs : List ℕ) (p q : ℕ) → all ≡ xs ++ p ∷ [] → has_number xs q ≡ true → has_number all q ≡ true
number_more all xs p q shape e = ap (λ z. has_number z q) shape ∙ (list_any-append (λ n. n == q) xs (p ∷ []) ∙ or_left _ _ e)

pub number_last : (all xs : List ℕ) (p : ℕ) → all ≡ xs ++ p ∷ [] → has_number all p ≡ true
number_last all xs p shape = ap (λ z. has_number z p) shape ∙ (list_any-append (λ n. n == p) xs (p ∷ []) ∙ or_right _ _ (or_left _ _ (eq-eqb p p refl)))

pub number_cases : (all xs : List ℕ) (p q : ℕ) → all ≡ xs ++ p ∷ [] → has_number all q ≡ true → (has_number xs q ≡ true) ⊎ (p ≡ q)
number_cases all xs p q shape e =
    elim (or_cases (has_number xs q) (has_number (p ∷ []) q) (sym (ap (λ z. has_number z q) shape ∙ list_any-append (λ n. n == q) xs (p ∷ [])) ∙ e)) [
      | inl s ↦ inl s
      | inr s ↦ elim (or_cases (p == q) false s) [ inl t ↦ inr (eqb-true p q t) | inr t ↦ absurd (false≢true t) ]
    ]

-- the marks with their positions sorted
pub AreMarked-sorted : (vars : ℕ) (literals : List Literal) (levels : Levels) (end : ℕ) (old new : Marks) → new.seen.items ≡ old.seen.items → new.pending ≡ old.pending
    → ((p : ℕ) → has_number new.lower.items p ≡ has_number old.lower.items p) → AreMarked vars literals levels end old → AreMarked vars literals levels end new
AreMarked-sorted vars literals levels end old new seen pending lower h = record {
  table = ap length seen ∙ h.table;
  inside = h.inside;
  assigned = λ v e. h.assigned v (sym (ap (λ z. is_seen z v) seen) ∙ e);
  pending = pending ∙ (h.pending ∙ ap (λ z. pending_below z literals levels.start end) (sym seen));
  lower = λ p e. h.lower p (sym (lower p) ∙ e);
  each = λ p l e ge lt s. lower p ∙ h.each p l e ge lt (sym (ap (λ z. is_seen z l.variable) seen) ∙ s);
}

-- a position that is done with
pub AreMarked-done : (vars : ℕ) (literals : List Literal) (levels : Levels) (end : ℕ) (old new : Marks) (p : ℕ) (l : Literal) → slice_get literals p ≡ Some l
    → is_seen old.seen.items l.variable ≡ false → old.lower.items ≡ new.lower.items ++ p ∷ [] → new.seen.items ≡ old.seen.items → new.pending ≡ old.pending
    → AreMarked vars literals levels end old → AreMarked vars literals levels end new
AreMarked-done vars literals levels end old new p l at unseen shape seen pending h = record {
  table = ap length seen ∙ h.table;
  inside = h.inside;
  assigned = λ v e. h.assigned v (sym (ap (λ z. is_seen z v) seen) ∙ e);
  pending = pending ∙ (h.pending ∙ ap (λ z. pending_below z literals levels.start end) (sym seen));
  lower = λ q e. h.lower q (number_more old.lower.items new.lower.items p q shape e);
  each = λ q m e ge lt s. (let t = sym (ap (λ z. is_seen z m.variable) seen) ∙ s in
      elim (number_cases old.lower.items new.lower.items p q shape (h.each q m e ge lt t)) [
        | inl k ↦ k
        | inr k ↦ absurd (false≢true (sym unseen ∙ (ap (λ z. is_seen old.seen.items z.variable) (at_same literals p l m at (ap (slice_get literals) k ∙ e)) ∙ t)))
      ]);
}

-- the highest marked position of those below the last level
pub record IsPopped (literals : List Literal) (levels : Levels) (end p : ℕ) (seen : List Bool) : Type 0 where
  pub low : levels.zero ≤ p
  pub below : p < levels.start
  pub inside : p < end
  pub last : (q : ℕ) (m : Literal) → p < q → q < end → slice_get literals q ≡ Some m → is_seen seen m.variable ≡ false

pub popped : (vars : ℕ) (literals : List Literal) (levels : Levels) (end : ℕ) (old : Marks) (rest : List ℕ) (p : ℕ) (l : Literal) → IsOnce literals
    → slice_get literals p ≡ Some l → is_seen old.seen.items l.variable ≡ true → old.lower.items ≡ rest ++ p ∷ [] → IsNonDecreasingBy (λ k. k) old.lower.items
    → end ≤ levels.start → AreMarked vars literals levels end old → IsPopped literals levels end p old.seen.items
popped vars literals levels end old rest p l once at marked shape rising le h =
    let f = h.lower p (number_last old.lower.items rest p shape) in
    let r = h.assigned l.variable marked in
    let i : p ≡ r.0 = once p r.0 l r.1 at r.2 r.3 in
    let inside : r.0 < end = r.5 in
    record {
      low = f.0;
      below = f.1;
      inside = omega (arith, i, inside);
      last = λ q m gt lt e. false_from_ne_true _ (λ s.
          (let low : levels.zero ≤ p = f.0 in
          elim (number_cases old.lower.items rest p q shape (h.each q m e (omega (arith, low, gt)) (omega (arith, lt, le)) s)) [
            | inl k ↦ (let high : q ≤ p = last_highest old.lower.items rest p q shape rising k in omega (arith, high, gt))
            | inr k ↦ omega (arith, k, gt)
          ]));
    }

pub AreMarked-popped : (vars : ℕ) (literals : List Literal) (levels : Levels) (end : ℕ) (old new : Marks) (p : ℕ) (l : Literal) (v : ℕ) → IsOnce literals
    → slice_get literals p ≡ Some l → v ≡ l.variable → v < vars + 1 → IsPopped literals levels end p old.seen.items → old.lower.items ≡ new.lower.items ++ p ∷ []
    → new.seen.items ≡ set old.seen.items v false → new.pending ≡ old.pending → end ≤ levels.start
    → AreMarked vars literals levels end old → AreMarked vars literals levels p new
AreMarked-popped vars literals levels end old new p l v once at same size top shape seen pending le h =
    let whole : end ≤ length literals = h.inside in
    let inside : p < end = top.inside in
    let below : p < levels.start = top.below in
    record {
      table = ap length seen ∙ (length-set old.seen.items v false ∙ h.table);
      inside = omega (arith, whole, inside);
      assigned = λ w e. earlier w e (old_seen w e) (other w e);
      pending = pending ∙ (h.pending ∙ (pending_none old.seen.items literals levels.start end (λ q ge lt. absurd (omega (arith, ge, lt, le)))
          ∙ sym (pending_none new.seen.items literals levels.start p (λ q ge lt. absurd (omega (arith, ge, lt, below))))));
      lower = λ q e. h.lower q (number_more old.lower.items new.lower.items p q shape e);
      each = λ q m e ge lt s. elim (number_cases old.lower.items new.lower.items p q shape (h.each q m e ge lt (old_seen m.variable s))) [
        | inl k ↦ k
        | inr k ↦ absurd (other m.variable s (ap (λ z. z.variable) (at_same literals q m l e (ap (slice_get literals) (sym k) ∙ at)) ∙ sym same))
      ];
    }
  where
    other : (w : ℕ) → is_seen new.seen.items w ≡ true → w ≡ v → ⊥
    other w e s = false≢true (sym (ap (λ z. is_seen z w) seen ∙ (ap (is_seen (set old.seen.items v false)) s ∙ seen_set old.seen.items v false (subst (λ z. v < z) (sym h.table) size))) ∙ e)

    old_seen : (w : ℕ) → is_seen new.seen.items w ≡ true → is_seen old.seen.items w ≡ true
    old_seen w e = sym (ap (λ z. is_seen z w) seen ∙ seen_other old.seen.items v false w (other w e)) ∙ e

    earlier : (w : ℕ) → is_seen new.seen.items w ≡ true → is_seen old.seen.items w ≡ true → (w ≡ v → ⊥)
        → (q : ℕ) × (m : Literal) × (slice_get literals q ≡ Some m) × (m.variable ≡ w) × (levels.zero ≤ q) × (q < p)
    earlier w e s n =
        let r = h.assigned w s in
        let lt : r.0 < end = r.5 in
        let ne : r.0 ≡ p → ⊥ = λ i. n (sym r.3 ∙ (ap (λ z. z.variable) (at_same literals p r.1 l (ap (slice_get literals) (sym i) ∙ r.2) at) ∙ sym same)) in
        elim (cases_lt r.0 p) [
          | inl k ↦ (r.0, r.1, r.2, r.3, r.4, k)
          | inr k ↦ absurd (false≢true (sym (top.last r.0 r.1 (omega (arith, k, ne)) lt r.2) ∙ (ap (is_seen old.seen.items) r.3 ∙ s)))
        ]

-- the literal stays
pub reached_kept : (all : List (List Literal)) (number : ℕ) (steps : List (ℕ × ℕ)) (literals : List Literal) (levels : Levels) (end p : ℕ) (seen : List Bool) (row : List Literal)
    (l : Literal) (v : ℕ) → IsOnce literals → slice_get literals p ≡ Some l → v ≡ l.variable → is_seen seen l.variable ≡ true → IsPopped literals levels end p seen
    → IsReached all number steps literals levels.zero end seen row
    → IsReached all number steps literals levels.zero p (set seen v false) (row ++ negated l ∷ [])
reached_kept all number steps literals levels end p seen row l v once at same marked top r =
    let inside : p < end = top.inside in
    let low : levels.zero ≤ p = top.low in
    reached_keep all number steps literals levels.zero p seen (set seen v false) row l once at low marked
    (λ q m lt e. others_same literals seen p l v once at same q m lt e)
    (reached_skip all number steps literals levels.zero (p + 1) end seen row (omega (arith, low)) (omega (arith, inside))
    (λ q m le lt e. top.last q m (omega (arith, le)) lt e) r)

covered_same : (a b : Bool) → (b ≡ true → a ≡ true) → a ≡ (a || b)
covered_same true b f = refl
covered_same false true f = f refl
covered_same false false f = refl

-- the literal is resolved away
pub reached_away : (all rows : List (List Literal)) (t : Assigned) (number : ℕ) (steps : List (ℕ × ℕ)) (levels : Levels) (end p : ℕ) (seen : List Bool) (row : List Literal)
    (l : Literal) (c v : ℕ) → IsTrail t → IsOnce t.literals → IsLevels t levels → IsJustified all rows t
    → slice_get t.literals p ≡ Some l → slice_get t.reasons p ≡ Some (Some c) → v ≡ l.variable → is_seen seen l.variable ≡ true → IsPopped t.literals levels end p seen
    → ((stored : List Literal) → slice_get rows c ≡ Some stored → AreCovered t.literals levels.zero (set seen v false) (at_position t.literals p).variable stored)
    → IsReached all number steps t.literals levels.zero end seen row
    → IsReached all number (steps ++ (v, c) ∷ []) t.literals levels.zero p (set seen v false) row
reached_away all rows t number steps levels end p seen row l c v trail once is justified at reason same marked top covered r =
    let inside : p < end = top.inside in
    let low : levels.zero ≤ p = top.low in
    let stored = at_within rows c (reason_inside all rows t justified p c l at reason) in
    subst (λ z. IsReached all number (steps ++ (z, c) ∷ []) t.literals levels.zero p (set seen v false) row) (sym same)
    (reached_resolve all rows number steps t.literals levels.zero p seen (set seen v false) row stored.0 l c once trail.consistent at low marked
    (justified.reasons p c l at reason) (stored_of all rows t levels is justified) stored.1 (justified.kept p c stored.0 reason stored.1)
    (λ q m ge lt e. others_same t.literals seen p l v once at same q m lt e
    ∙ covered_same (is_seen seen m.variable) (has stored.0 (negated m)) (λ h. known stored.0 stored.1 q m ge lt e h))
    (reached_skip all number steps t.literals levels.zero (p + 1) end seen row (omega (arith, low)) (omega (arith, inside))
    (λ q m le lt e. top.last q m (omega (arith, le)) lt e) r))
  where
    known : (stored : List Literal) → slice_get rows c ≡ Some stored → (q : ℕ) (m : Literal) → levels.zero ≤ q → q < p → slice_get t.literals q ≡ Some m
        → has stored (negated m) ≡ true → is_seen seen m.variable ≡ true
    known stored s q m ge lt e h =
        let pivot : (at_position t.literals p).variable ≡ l.variable = ap (λ z. z.variable) (at_position-is t.literals p l at) in
        let apart : m.variable ≡ l.variable → ⊥ = λ w. (let i : p ≡ q = once p q l m at e w in omega (arith, i, lt)) in
        elim (covered stored s (negated m) h (ne_eqb m.variable (at_position t.literals p).variable (λ w. apart (w ∙ pivot)))) [
          | inl k ↦ sym (others_same t.literals seen p l v once at same q m lt e) ∙ k
          | inr k ↦ absurd (false≢true (sym (not_before t.literals once q levels.zero m e ge) ∙ (ap (has (take levels.zero t.literals)) (sym (negated-negated m)) ∙ k)))
        ]

-- the first position that was put, or this one
abbrev pub IsPlaced : Option ℕ → ℕ → Option ℕ → Type 0
IsPlaced None p later = later ≡ Some p
IsPlaced (Some q) p later = later ≡ Some q

-- the literal is put behind the others
pub put_more : (literals : List Literal) (levels : Levels) (old new : List Literal) (highest later : Option ℕ) (end p : ℕ) (l : Literal)
    → slice_get literals p ≡ Some l → levels.zero ≤ p → p < levels.start → p < end → IfSome highest (λ q. end ≤ q) → IsPlaced highest p later
    → ArePut literals levels old new highest → ArePut literals levels old (new ++ negated l ∷ []) later × IfSome later (λ q. p ≤ q)
put_more literals levels old new None later end p l at low below lt high is put =
    let same : later ≡ Some p = is in
    subst (λ z. ArePut literals levels old (new ++ negated l ∷ []) z × IfSome z (λ q. p ≤ q)) (sym same) (
      record {
        first = negated l;
        more = [];
        at = at ∙ ap Some (sym (negated-negated l));
        above = low;
        below = below;
        shape = ap (λ z. z ++ negated l ∷ []) put;
        earlier = and_from _ _ (ap (has (take (p + 1) literals)) (negated-negated l) ∙ at_has_taken (p + 1) literals p l at (omega arith)) refl;
      },
      omega arith,
    )
put_more literals levels old new (Some q) later end p l at low below lt high is put =
    let same : later ≡ Some q = is in
    let le : end ≤ q = high in
    subst (λ z. ArePut literals levels old (new ++ negated l ∷ []) z × IfSome z (λ q. p ≤ q)) (sym same) (
      record {
        first = put.first;
        more = put.more ++ negated l ∷ [];
        at = put.at;
        above = put.above;
        below = put.below;
        shape = ap (λ z. z ++ negated l ∷ []) put.shape ∙ append_assoc old (put.first ∷ put.more) (negated l ∷ []);
        earlier = list_all-append (λ m. has (take (q + 1) literals) (negated m)) (put.first ∷ put.more) (negated l ∷ [])
            ∙ and_from _ _ put.earlier
            (and_from _ _ (ap (has (take (q + 1) literals)) (negated-negated l) ∙ at_has_taken (q + 1) literals p l at (omega (arith, lt, le))) refl);
      },
      omega (arith, lt, le),
    )

-- nothing is left
pub reached_end : (all : List (List Literal)) (number : ℕ) (steps : List (ℕ × ℕ)) (vars : ℕ) (literals : List Literal) (levels : Levels) (end : ℕ) (marks : Marks) (row : List Literal)
    → levels.zero ≤ end → end ≤ levels.start → marks.lower.items ≡ [] → AreMarked vars literals levels end marks
    → IsReached all number steps literals levels.zero end marks.seen.items row → IsReached all number steps literals levels.zero levels.zero marks.seen.items row
reached_end all number steps vars literals levels end marks row low below empty h r =
    reached_skip all number steps literals levels.zero levels.zero end marks.seen.items row (omega arith) low
    (λ q m ge lt e. false_from_ne_true _ (λ s. false≢true (sym (ap (λ z. has_number z q) empty) ∙ h.each q m e ge (omega (arith, lt, below)) s))) r

pub clean_end : (vars : ℕ) (literals : List Literal) (levels : Levels) (end : ℕ) (marks : Marks) → end ≤ levels.start → marks.lower.items ≡ []
    → AreMarked vars literals levels end marks → IsClean vars marks
clean_end vars literals levels end marks below empty h = record {
  table = h.table;
  unseen = λ v. false_from_ne_true _ (λ s. (let r = h.assigned v s in
      let lt : r.0 < end = r.5 in
      false≢true (sym (ap (λ z. has_number z r.0) empty) ∙ h.each r.0 r.1 r.2 r.4 (omega (arith, lt, below)) (ap (is_seen marks.seen.items) r.3 ∙ s))));
  lower = empty;
  pending = h.pending ∙ pending_none marks.seen.items literals levels.start end (λ q ge lt. absurd (omega (arith, ge, lt, below)));
}
