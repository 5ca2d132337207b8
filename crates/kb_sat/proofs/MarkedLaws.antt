-- Marks of the variables of false literals.
use Rattle.std.proofs.Common.{◌≡◌, ℕ, ◌+◌, ◌*◌, ◌<◌, ◌≤◌, ◌==◌, List, [], ◌∷◌, ◌++◌, Bool, true, false, not, ◌&&◌, ◌||◌, cond, nat_le, arith, refl, ap, sym, ◌∙◌, inl, inr, ◌⊎◌, subst, length, length-set, get_or, set, take, suc, Option, None, Some, slice_get}
use Rattle.std.proofs.lemmas.Bool.{false≢true, cases_eq, cases_lt, le-leb, leb-true, or_cases, or_left, or_right, eqb-true, eq-eqb, false_from_ne_true}
use Rattle.std.proofs.lemmas.List.Folds.{list_any-append}
use Rattle.kb_chain.specs.Literal.{Literal, literal, has, same, negated, place_of}
use Rattle.std.specs.Bool.{OnTrue}
use Rattle.kb_chain.specs.Index.{has_number}
use Rattle.kb_chain.proofs.LiteralLaws.{same-true, same_refl, negated-negated, has_head}
use Rattle.kb_chain.proofs.PropagationLaws.{taken_part}
use Rattle.kb_chain.proofs.OrderLaws.{has_take-suc}
use Rattle.kb_sat.specs.Analysis.{is_seen, is_pivot, at_position, pending_below, AreFalseBefore, AreMarked, MarksOthers, IsLastSeen, AreCovered}
use Rattle.kb_propagate.specs.Trail.{Assigned, IsTrail}
use Rattle.kb_propagate.specs.Tables.{IsDistinct}
use Rattle.kb_sat.specs.declared.analysis.Levels.{Levels}
use Rattle.kb_sat.specs.declared.analysis.Marks.{Marks}
use Rattle.kb_propagate.proofs.Places.{at_same, at_inside, at_has, at_within, get_or_at_place, at_get_or}
use Rattle.kb_sat.proofs.MarkLaws.{IsOnce, IsOnce-from, has_taken_at, at_position-is, seen_set, seen_other, pending_same, pending_skip, pending_one, pending_marked}

pub once_of : (t : Assigned) → IsTrail t → IsDistinct t.literals → IsOnce t.literals
once_of t trail distinct = IsOnce-from t.literals trail.consistent distinct

-- a variable of the trail has a place in the tables by variable
pub variable_inside : (t : Assigned) (l : Literal) → IsTrail t → has t.literals l ≡ true → l.variable < t.vars + 1
variable_inside t l trail e = go l.variable l.positive (trail.within l e)
  where
    go : (v : ℕ) (p : Bool) → place_of (literal v p) < 2 * t.vars + 2 → v < t.vars + 1
    go v true lt = omega arith
    go v false lt = omega arith

marks_unless : (a b c : Bool) → (b ≡ true → c ≡ true → a ≡ true) → a ≡ (a || ((b || false) && c))
marks_unless true b c f = refl
marks_unless false true true f = f refl refl
marks_unless false true false f = refl
marks_unless false false c f = refl

-- a literal of level 0
pub marks_low : (literals : List Literal) (levels : Levels) (seen : List Bool) (m : Literal) (p : ℕ) → IsOnce literals → slice_get literals p ≡ Some (negated m) → p < levels.zero
    → MarksOthers literals levels None (m ∷ []) seen seen
marks_low literals levels seen m p once at low q k e =
    marks_unless (is_seen seen k.variable) (same (negated k) m) (nat_le levels.zero q) (λ s t.
    (let n : negated k ≡ m = same-true (negated k) m s in
    let v : k.variable ≡ m.variable = ap (λ z. z.variable) n in
    let i : p ≡ q = once p q (negated m) k at e v in
    let le : levels.zero ≤ q = leb-true levels.zero q t in absurd (omega (arith, i, le, low))))

-- one that is marked
pub marks_known : (literals : List Literal) (levels : Levels) (seen : List Bool) (m : Literal) → is_seen seen m.variable ≡ true
    → MarksOthers literals levels None (m ∷ []) seen seen
marks_known literals levels seen m known q k e =
    marks_unless (is_seen seen k.variable) (same (negated k) m) (nat_le levels.zero q) (λ s t.
    (let n : negated k ≡ m = same-true (negated k) m s in
    let v : k.variable ≡ m.variable = ap (λ z. z.variable) n in ap (is_seen seen) v ∙ known))

-- one that is not
pub marks_new : (literals : List Literal) (levels : Levels) (seen : List Bool) (m : Literal) (p : ℕ) → IsOnce literals → slice_get literals p ≡ Some (negated m) → levels.zero ≤ p
    → m.variable < length seen → MarksOthers literals levels None (m ∷ []) seen (set seen m.variable true)
marks_new literals levels seen m p once at above inside q k e = elim (cases_eq k.variable m.variable) [
  | inr n ↦ seen_other seen m.variable true k.variable n ∙ marks_unless (is_seen seen k.variable) (same (negated k) m) (nat_le levels.zero q)
      (λ s t. absurd (n (let w : negated k ≡ m = same-true (negated k) m s in ap (λ z. z.variable) w)))
  | inl v ↦
      (let i : p ≡ q = once p q (negated m) k at e v in
      let w : k ≡ negated m = at_same literals q k (negated m) e (ap (slice_get literals) (sym i) ∙ at) in
      let s : same (negated k) m ≡ true = ap (λ z. same (negated z) m) w ∙ (ap (λ z. same z m) (negated-negated m) ∙ same_refl m) in
      let t : nat_le levels.zero q ≡ true = le-leb levels.zero q (omega (arith, i, above)) in
      ap (is_seen (set seen m.variable true)) v ∙ (seen_set seen m.variable true inside
      ∙ sym (both (is_seen seen k.variable) (same (negated k) m) (nat_le levels.zero q) s t)))
]
  where
    both : (a b c : Bool) → b ≡ true → c ≡ true → (a || ((b || false) && c)) ≡ true
    both true b c e f = refl
    both false true c e f = f
    both false false c e f = e

-- one more marked variable: how the lists change
pub record IsMarkedMore (levels : Levels) (old new : Marks) (p v : ℕ) : Type 0 where
  pub seen : new.seen.items ≡ set old.seen.items v true
  pub lower : (q : ℕ) → has_number new.lower.items q ≡ true → (has_number old.lower.items q ≡ true) ⊎ ((q ≡ p) × (p < levels.start))
  pub kept : (q : ℕ) → has_number old.lower.items q ≡ true → has_number new.lower.items q ≡ true
  pub put : p < levels.start → has_number new.lower.items p ≡ true
  pub pending : new.pending ≡ cond (nat_le levels.start p) 1 0 + old.pending

pub AreMarked-more : (vars : ℕ) (literals : List Literal) (levels : Levels) (end : ℕ) (old new : Marks) (l : Literal) (p : ℕ) → IsOnce literals
    → slice_get literals p ≡ Some l → levels.zero ≤ p → p < end → l.variable < vars + 1 → is_seen old.seen.items l.variable ≡ false
    → IsMarkedMore levels old new p l.variable → AreMarked vars literals levels end old → AreMarked vars literals levels end new
AreMarked-more vars literals levels end old new l p once at above below inside unseen more h =
    let size : l.variable < length old.seen.items = subst (λ z. l.variable < z) (sym h.table) inside in
    record {
      table = ap length more.seen ∙ (length-set old.seen.items l.variable true ∙ h.table);
      inside = h.inside;
      assigned = λ v e. elim (cases_eq v l.variable) [
        | inl s ↦ (p, l, at, sym s, above, below)
        | inr n ↦ h.assigned v (sym (ap (λ z. is_seen z v) more.seen ∙ seen_other old.seen.items l.variable true v n) ∙ e)
      ];
      pending = more.pending
          ∙ (ap (λ n. cond (nat_le levels.start p) 1 0 + n) h.pending
          ∙ (sym (pending_marked old.seen.items literals levels.start p end l.variable below
          (ap (λ z. z.variable) (at_position-is literals p l at)) size unseen (λ q lt v. same_place q lt v))
          ∙ ap (λ z. pending_below z literals levels.start end) (sym more.seen)));
      lower = λ q e. elim (more.lower q e) [
        | inl k ↦ h.lower q k
        | inr k ↦ (let s : q ≡ p = k.0 in let t : p < levels.start = k.1 in let u : p < length literals = at_inside literals p l at in
            (omega (arith, s, above), omega (arith, s, t), omega (arith, s, u)))
      ];
      each = λ q m e ge lt s. elim (cases_eq m.variable l.variable) [
        | inl v ↦ (let i : p ≡ q = once p q l m at e v in
            ap (has_number new.lower.items) (sym i) ∙ more.put (omega (arith, i, lt)))
        | inr n ↦ more.kept q (h.each q m e ge lt (sym (ap (λ z. is_seen z m.variable) more.seen ∙ seen_other old.seen.items l.variable true m.variable n) ∙ s))
      ];
    }
  where
    same_place : (q : ℕ) → q < end → (at_position literals q).variable ≡ l.variable → q ≡ p
    same_place q lt v =
        let inside : end ≤ length literals = h.inside in
        let r = at_within literals q (omega (arith, lt, inside)) in
        sym (once p q l r.0 at r.1 (sym (ap (λ z. z.variable) (at_position-is literals q r.0 r.1)) ∙ v))

pub more_lower : (levels : Levels) (old new : Marks) (p v : ℕ) → new.seen.items ≡ set old.seen.items v true → p < levels.start
    → new.lower.items ≡ old.lower.items ++ p ∷ [] → new.pending ≡ old.pending → IsMarkedMore levels old new p v
more_lower levels old new p v seen below lower pending = record {
  seen = seen;
  lower = λ q e. elim (or_cases (has_number old.lower.items q) (has_number (p ∷ []) q) (sym (ap (λ z. has_number z q) lower ∙ list_any-append (λ n. n == q) old.lower.items (p ∷ [])) ∙ e)) [
    | inl s ↦ inl s
    | inr s ↦ elim (or_cases (p == q) false s) [ inl t ↦ inr (sym (eqb-true p q t), below) | inr t ↦ absurd (false≢true t) ]
  ];
  kept = λ q e. ap (λ z. has_number z q) lower ∙ (list_any-append (λ n. n == q) old.lower.items (p ∷ []) ∙ or_left _ _ e);
  put = λ lt. ap (λ z. has_number z p) lower ∙ (list_any-append (λ n. n == p) old.lower.items (p ∷ []) ∙ or_right _ _ (or_left _ _ (eq-eqb p p refl)));
  pending = pending ∙ sym (ap (λ b. cond b 1 0 + old.pending) (false_from_ne_true (nat_le levels.start p) (λ e.
      (let le : levels.start ≤ p = leb-true levels.start p e in absurd (omega (arith, le, below))))) ∙ plus old.pending);
}
  where
    plus : (n : ℕ) → 0 + n ≡ n
    plus n = omega arith

pub more_pending : (levels : Levels) (old new : Marks) (p v : ℕ) → new.seen.items ≡ set old.seen.items v true → levels.start ≤ p
    → new.lower.items ≡ old.lower.items → new.pending ≡ old.pending + 1 → IsMarkedMore levels old new p v
more_pending levels old new p v seen above lower pending = record {
  seen = seen;
  lower = λ q e. inl (sym (ap (λ z. has_number z q) lower) ∙ e);
  kept = λ q e. ap (λ z. has_number z q) lower ∙ e;
  put = λ lt. absurd (omega (arith, lt, above));
  pending = pending ∙ (swap old.pending ∙ ap (λ b. cond b 1 0 + old.pending) (sym (le-leb levels.start p above)));
}
  where
    swap : (n : ℕ) → n + 1 ≡ 1 + n
    swap n = omega arith

-- the last marked variable, of the last level, is marked no longer
pub AreMarked-last : (vars : ℕ) (literals : List Literal) (levels : Levels) (end : ℕ) (old new : Marks) (l : Literal) (p : ℕ) → IsOnce literals
    → slice_get literals p ≡ Some l → levels.start ≤ p → IsLastSeen literals old.seen.items end p → l.variable < vars + 1
    → new.seen.items ≡ set old.seen.items l.variable false → new.lower.items ≡ old.lower.items → new.pending + 1 ≡ old.pending
    → AreMarked vars literals levels end old → AreMarked vars literals levels p new
AreMarked-last vars literals levels end old new l p once at above last inside seen lower pending h =
    let size : l.variable < length old.seen.items = subst (λ z. l.variable < z) (sym h.table) inside in
    let below : p < end = last.below in
    let whole : end ≤ length literals = h.inside in
    record {
      table = ap length seen ∙ (length-set old.seen.items l.variable false ∙ h.table);
      inside = omega (arith, below, whole);
      assigned = λ v e. elim (cases_eq v l.variable) [
        | inl s ↦ absurd (false≢true (sym (ap (λ z. is_seen z v) seen ∙ (ap (is_seen (set old.seen.items l.variable false)) s ∙ seen_set old.seen.items l.variable false size)) ∙ e))
        | inr n ↦ earlier v n (sym (ap (λ z. is_seen z v) seen ∙ seen_other old.seen.items l.variable false v n) ∙ e)
      ];
      pending =
          (let a : old.pending ≡ pending_below old.seen.items literals levels.start end = h.pending in
          let b : pending_below old.seen.items literals levels.start end ≡ pending_below old.seen.items literals levels.start (suc p) =
          pending_skip old.seen.items literals levels.start (suc p) end (omega (arith, below))
          (λ q le lt. (let r = at_within literals q (omega (arith, lt, whole)) in
          ap (λ z. is_seen old.seen.items z.variable) (at_position-is literals q r.0 r.1) ∙ last.last q r.0 (omega (arith, le)) lt r.1)) in
          let d : pending_below old.seen.items literals levels.start (suc p) ≡ 1 + pending_below old.seen.items literals levels.start p =
          pending_one old.seen.items literals levels.start p above (ap (λ z. is_seen old.seen.items z.variable) (at_position-is literals p l at) ∙ last.marked l at) in
          let e : pending_below new.seen.items literals levels.start p ≡ pending_below old.seen.items literals levels.start p =
          pending_same new.seen.items old.seen.items literals levels.start p (λ q lt. (let r = at_within literals q (omega (arith, lt, below, whole)) in
          ap (λ z. is_seen z (at_position literals q).variable) seen ∙ seen_other old.seen.items l.variable false (at_position literals q).variable
          (λ v. (let i : p ≡ q = once p q l r.0 at r.1 (sym (ap (λ z. z.variable) (at_position-is literals q r.0 r.1)) ∙ v) in absurd (omega (arith, i, lt)))))) in
          omega (arith, a, b, d, e, pending));
      lower = λ q e. h.lower q (sym (ap (λ z. has_number z q) lower) ∙ e);
      each = λ q m e ge lt s. ap (λ z. has_number z q) lower ∙ h.each q m e ge lt (still m.variable s);
    }
  where
    earlier : (v : ℕ) → (v ≡ l.variable → ⊥) → is_seen old.seen.items v ≡ true
        → (q : ℕ) × (m : Literal) × (slice_get literals q ≡ Some m) × (m.variable ≡ v) × (levels.zero ≤ q) × (q < p)
    earlier v n e =
        let r = h.assigned v e in
        let below : r.0 < end = r.5 in
        let ne : r.0 ≡ p → ⊥ = λ i. n (sym r.3 ∙ ap (λ z. z.variable) (at_same literals p r.1 l (ap (slice_get literals) (sym i) ∙ r.2) at)) in
        elim (cases_lt r.0 p) [
          | inl lt ↦ (r.0, r.1, r.2, r.3, r.4, lt)
          | inr ge ↦ absurd (false≢true (sym (last.last r.0 r.1 (omega (arith, ge, ne)) below r.2) ∙ (ap (is_seen old.seen.items) r.3 ∙ e)))
        ]

    still : (v : ℕ) → is_seen new.seen.items v ≡ true → is_seen old.seen.items v ≡ true
    still v e = elim (cases_eq v l.variable) [
      | inl s ↦ ap (is_seen old.seen.items) s ∙ last.marked l at
      | inr n ↦ sym (ap (λ z. is_seen z v) seen ∙ seen_other old.seen.items l.variable false v n) ∙ e
    ]

-- a literal that was read
pub read_at : (shown literals : List Literal) (i : ℕ) (x : Literal) → shown ≡ literals → i < length literals → x ≡ get_or shown i x → slice_get literals i ≡ Some x
read_at shown literals i x same lt read =
    get_or_at_place literals i x lt ∙ ap Some (sym (read ∙ ap (λ z. get_or z i x) same))

pub seen_read : (seen : List Bool) (v w : ℕ) (b : Bool) → v ≡ w → v < length seen → b ≡ get_or seen v b → is_seen seen w ≡ b
seen_read seen v w b same lt read =
    ap (is_seen seen) (sym same) ∙ (at_get_or seen v (get_or seen v b) false (get_or_at_place seen v b lt) ∙ sym read)

-- the literal of a conflict or a reason is negated on the trail
pub negation_on_trail : (literals : List Literal) (end : ℕ) (m : Literal) → AreFalseBefore literals end None (m ∷ []) → has literals (negated m) ≡ true
negation_on_trail literals end m h = taken_part literals end (negated m) (h m (has_head m []) refl)

pub negation_before : (literals : List Literal) (end p : ℕ) (m : Literal) → IsOnce literals → slice_get literals p ≡ Some (negated m)
    → AreFalseBefore literals end None (m ∷ []) → p < end
negation_before literals end p m once at h =
    let r = has_taken_at end literals (negated m) (h m (has_head m []) refl) in
    let i : r.0 ≡ p = once r.0 p (negated m) (negated m) r.1 at refl in
    let lt : r.0 < end = r.2 in omega (arith, i, lt)

marks_two : (o h s v z : Bool) → (s ≡ true → v ≡ true) → ((o || (h && (v && z))) || ((s || false) && z)) ≡ (o || ((h || s) && (v && z)))
marks_two true h s v z f = refl
marks_two false true s true true f = refl
marks_two false true true true false f = refl
marks_two false true false true false f = refl
marks_two false true true false z f = absurd (false≢true (f refl))
marks_two false true false false z f = refl
marks_two false false true true z f = refl
marks_two false false true false z f = absurd (false≢true (f refl))
marks_two false false false v z f = refl

marks_one : (o h s v z : Bool) → (s ≡ true → v ≡ false) → (o || (h && (v && z))) ≡ (o || ((h || s) && (v && z)))
marks_one true h s v z f = refl
marks_one false true s v z f = refl
marks_one false false true true z f = absurd (false≢true (sym (f refl)))
marks_one false false true false z f = refl
marks_one false false false v z f = refl

-- one more literal of a row, which is marked, or is the pivot's
pub MarksOthers-more : (literals : List Literal) (levels : Levels) (pivot : Option ℕ) (row : List Literal) (i : ℕ) (m : Literal) (old middle new : List Bool)
    → i < length row → m ≡ get_or row i m → is_pivot pivot m.variable ≡ false → MarksOthers literals levels pivot (take i row) old middle
    → MarksOthers literals levels None (m ∷ []) middle new → MarksOthers literals levels pivot (take (i + 1) row) old new
MarksOthers-more literals levels pivot row i m old middle new lt read other h k p l e =
    k p l e
    ∙ (ap (λ b. b || ((same (negated l) m || false) && nat_le levels.zero p)) (h p l e)
    ∙ (marks_two (is_seen old l.variable) (has (take i row) (negated l)) (same (negated l) m) (not (is_pivot pivot l.variable)) (nat_le levels.zero p)
    (λ s. ap not (ap (is_pivot pivot) (ap (λ z. z.variable) (same-true (negated l) m s)) ∙ other))
    ∙ ap (λ b. is_seen old l.variable || (b && (not (is_pivot pivot l.variable) && nat_le levels.zero p)))
    (ap (λ z. has (take i row) (negated l) || same (negated l) z) read ∙ sym (has_take-suc row i m (negated l) lt))))

pub MarksOthers-skip : (literals : List Literal) (levels : Levels) (pivot : Option ℕ) (row : List Literal) (i : ℕ) (m : Literal) (old new : List Bool)
    → i < length row → m ≡ get_or row i m → is_pivot pivot m.variable ≡ true → MarksOthers literals levels pivot (take i row) old new
    → MarksOthers literals levels pivot (take (i + 1) row) old new
MarksOthers-skip literals levels pivot row i m old new lt read one h p l e =
    h p l e
    ∙ (marks_one (is_seen old l.variable) (has (take i row) (negated l)) (same (negated l) m) (not (is_pivot pivot l.variable)) (nat_le levels.zero p)
    (λ s. ap not (ap (is_pivot pivot) (ap (λ z. z.variable) (same-true (negated l) m s)) ∙ one))
    ∙ ap (λ b. is_seen old l.variable || (b && (not (is_pivot pivot l.variable) && nat_le levels.zero p)))
    (ap (λ z. has (take i row) (negated l) || same (negated l) z) read ∙ sym (has_take-suc row i m (negated l) lt)))

pub MarksOthers-none : (literals : List Literal) (levels : Levels) (pivot : Option ℕ) (seen : List Bool) → MarksOthers literals levels pivot [] seen seen
MarksOthers-none literals levels pivot seen p l e = plain (is_seen seen l.variable)
  where
    plain : (b : Bool) → b ≡ (b || false)
    plain true = refl
    plain false = refl

-- the next literal of a row is negated before the same position
pub next_false : (literals : List Literal) (end : ℕ) (pivot : Option ℕ) (row : List Literal) (i : ℕ) (m : Literal) → i < length row → m ≡ get_or row i m
    → is_pivot pivot m.variable ≡ false → AreFalseBefore literals end pivot row → AreFalseBefore literals end None (m ∷ [])
next_false literals end pivot row i m lt read other h l e n =
    let s : l ≡ m = elim (or_cases (same l m) false e) [ inl s ↦ same-true l m s | inr s ↦ absurd (false≢true s) ] in
    ap (λ z. has (take end literals) (negated z)) s ∙ h m (at_has row i m (get_or_at_place row i m lt ∙ ap Some (sym read))) other

-- one more literal of a row is covered, or is the pivot's
pub covered_more : (literals : List Literal) (low : ℕ) (seen : List Bool) (pivot : ℕ) (row : List Literal) (i : ℕ) (m : Literal) → i < length row → m ≡ get_or row i m
    → {b : Bool} → OnTrue b ((is_seen seen m.variable ≡ true) ⊎ (has (take low literals) (negated m) ≡ true)) → b ≡ true
    → AreCovered literals low seen pivot (take i row) → AreCovered literals low seen pivot (take (i + 1) row)
covered_more literals low seen pivot row i m lt read {b} on yes_b h l e n =
    elim (or_cases (has (take i row) l) (same l (get_or row i m)) (sym (has_take-suc row i m l lt) ∙ e)) [
      | inl s ↦ h l s n
      | inr s ↦
          (let k : l ≡ m = same-true l (get_or row i m) s ∙ sym read in
          subst (λ z. (is_seen seen z.variable ≡ true) ⊎ (has (take low literals) (negated z) ≡ true)) (sym k) (on_true b yes_b on))
    ]
  where
    on_true : {P : Type 0} (b : Bool) → b ≡ true → OnTrue b P → P
    on_true true e p = p
    on_true false e p = absurd (false≢true e)

pub covered_skip : (literals : List Literal) (low : ℕ) (seen : List Bool) (pivot : ℕ) (row : List Literal) (i : ℕ) (m : Literal) → i < length row → m ≡ get_or row i m
    → (m.variable == pivot) ≡ true → AreCovered literals low seen pivot (take i row) → AreCovered literals low seen pivot (take (i + 1) row)
covered_skip literals low seen pivot row i m lt read one h l e n =
    elim (or_cases (has (take i row) l) (same l (get_or row i m)) (sym (has_take-suc row i m l lt) ∙ e)) [
      | inl s ↦ h l s n
      | inr s ↦
          (let k : l ≡ m = same-true l (get_or row i m) s ∙ sym read in
          absurd (false≢true (sym n ∙ (ap (λ z. z.variable == pivot) k ∙ one))))
    ]
