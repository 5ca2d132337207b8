-- Reasons and stored clauses as the trail changes.
use Rattle.std.proofs.Common.{◌≡◌, ℕ, ◌+◌, ◌<◌, List, [], ◌∷◌, ◌++◌, Bool, true, false, arith, refl, ap, sym, ◌∙◌, inl, inr, subst, length, get_or, take, zero, suc, Option, Some, None, slice_get}
use Rattle.std.proofs.lemmas.Bool.{false≢true, or_left, and_parts, not-true, cases_Bool}
use Rattle.std.proofs.lemmas.List.{take_all, take-append-le, take-take, length_push}
use Rattle.kb_chain.specs.Literal.{Literal, has, same, negated}
use Rattle.kb_chain.specs.Propagation.{all_negated, others}
use Rattle.kb_chain.proofs.LiteralLaws.{has-append}
use Rattle.kb_chain.proofs.PropagationLaws.{IsPart, all_negated-from, has-others, taken_part, IsFrontOf-part, IsFrontOf-trans}
use Rattle.kb_propagate.specs.Trail.{Assigned, IsTrail, IsReason, HasReasons, level_zero, level_start, TrailGrows, cut_back}
use Rattle.kb_propagate.specs.Store.{IsRow, IsStored, IsJustified}
use Rattle.kb_propagate.proofs.Places.{some_in, at_has, at_pushed, at_kept, at_inside, at_within, at_taken, at_same}
use Rattle.kb_propagate.proofs.TrailLaws.{length_taken}

abbrev pub pushed : Assigned → Literal → Option ℕ → List ℕ → Assigned
pushed t l reason starts = record { vars = t.vars; literals = t.literals ++ l ∷ []; reasons = t.reasons ++ reason ∷ []; starts = starts }

pub level_zero_part : (t : Assigned) → IsPart (has (level_zero t)) (has t.literals)
level_zero_part t l e = taken_part t.literals (get_or t.starts 0 (length t.literals)) l e

append_part : (xs ys : List Literal) → IsPart (has xs) (has (xs ++ ys))
append_part xs ys l e = has-append xs ys l ∙ or_left _ _ e

level_zero_pushed : (t : Assigned) (l : Literal) (reason : Option ℕ) → IsTrail t → IsPart (has (level_zero t)) (has (level_zero (pushed t l reason t.starts)))
level_zero_pushed t l reason h m e = go t.starts refl e
  where
    go : (starts : List ℕ) → t.starts ≡ starts → has (take (get_or starts 0 (length t.literals)) t.literals) m ≡ true
        → has (take (get_or t.starts 0 (length (t.literals ++ l ∷ []))) (t.literals ++ l ∷ [])) m ≡ true
    go [] s e =
        ap (λ z. has (take (get_or z 0 (length (t.literals ++ l ∷ []))) (t.literals ++ l ∷ [])) m) s
        ∙ (ap (λ z. has z m) (take_all (length (t.literals ++ l ∷ [])) (t.literals ++ l ∷ []) (omega arith))
        ∙ append_part t.literals (l ∷ []) m (ap (λ z. has z m) (sym (take_all (length t.literals) t.literals (omega arith))) ∙ e))
    go (n ∷ ns) s e =
        (let below : level_start t.starts 0 < length t.literals = h.inside 0 (subst (λ (z : List ℕ). 0 < length z) (sym s) (omega arith)) in
        let first : level_start t.starts 0 ≡ n = ap (λ z. level_start z 0) s in
        ap (λ z. has (take (get_or z 0 (length (t.literals ++ l ∷ []))) (t.literals ++ l ∷ [])) m) s
        ∙ (ap (λ z. has z m) (take-append-le n t.literals (l ∷ []) (omega (arith, below, first))) ∙ e))

IsRow_more : (zero more : Literal → Bool) (row clause : List Literal) → IsPart zero more → IsRow zero row clause → IsRow more row clause
IsRow_more low more row clause f h = record { part = h.part; rest = λ l e n. f (negated l) (h.rest l e n) }

pub IsStored_more : (zero more : Literal → Bool) (clauses rows : List (List Literal)) → IsPart zero more → IsStored zero clauses rows → IsStored more clauses rows
IsStored_more low more clauses rows f h = record {
  count = h.count;
  each = λ k clause row e g some. IsRow_more low more row clause f (h.each k clause row e g some);
}

-- all literals of the clause beside one are false, since those of the row are
pub forced_clause : (t : Assigned) (row clause : List Literal) (l : Literal) → IsRow (has (level_zero t)) row clause
    → ((m : Literal) → has row m ≡ true → same m l ≡ false → has t.literals (negated m) ≡ true)
    → all_negated (has t.literals) (others l clause) ≡ true
forced_clause t row clause l h f = all_negated-from (has t.literals) (others l clause) (λ m e.
    (let p = and_parts _ _ (sym (has-others l clause m) ∙ e) in
    elim (cases_Bool (has row m)) [
      | inl i ↦ f m i (not-true _ p.1)
      | inr n ↦ level_zero_part t (negated m) (h.rest m p.0 n)
    ]))

-- what forced the earlier literals, with one more behind them
reasons_kept : (clauses : List (List Literal)) (t : Assigned) (l : Literal) (reason : Option ℕ) (starts : List ℕ) → IsTrail t → HasReasons clauses t
    → (i c : ℕ) (m : Literal) → slice_get t.literals i ≡ Some m → slice_get t.reasons i ≡ Some (Some c) → IsReason clauses (has (take i (t.literals ++ l ∷ []))) m c
reasons_kept clauses t l reason starts h reasons i c m e f =
    let inside : i < length t.literals = at_inside t.literals i m e in
    subst (λ z. IsReason clauses (has z) m c) (sym (take-append-le i t.literals (l ∷ []) (omega (arith, inside)))) (reasons i c m e f)

pub IsJustified-push : (clauses rows : List (List Literal)) (t : Assigned) (l : Literal) (c : ℕ) (row : List Literal) → IsTrail t → IsJustified clauses rows t
    → slice_get rows c ≡ Some row → has row l ≡ true → ((m : Literal) → has row m ≡ true → same m l ≡ false → has t.literals (negated m) ≡ true)
    → IsJustified clauses rows (pushed t l (Some c) t.starts)
IsJustified-push clauses rows t l c row h j is inside forced = record {
  stored = IsStored_more (has (level_zero t)) (has (level_zero (pushed t l (Some c) t.starts))) clauses rows (level_zero_pushed t l (Some c) h) j.stored;
  reasons = λ i k m e f.
      elim (at_pushed t.literals l i m e) [
        | inl g ↦ elim (at_pushed t.reasons (Some c) i (Some k) f) [
          | inl q ↦ reasons_kept clauses t l (Some c) t.starts h j.reasons i k m g q
          | inr q ↦ absurd (let lt : i < length t.literals = at_inside t.literals i m g in let n : i ≡ length t.reasons = q.0 in let s : length t.reasons ≡ length t.literals = h.reasons in omega (arith, lt, n, s))
        ]
        | inr g ↦ elim (at_pushed t.reasons (Some c) i (Some k) f) [
          | inl q ↦ absurd (let lt : i < length t.reasons = at_inside t.reasons i (Some k) q in let n : i ≡ length t.literals = g.0 in let s : length t.reasons ≡ length t.literals = h.reasons in omega (arith, lt, n, s))
          | inr q ↦ (let n : c ≡ k = cc (q.1) in
              subst (λ z. IsReason clauses (has (take i (t.literals ++ l ∷ []))) z k) g.1
              (subst (λ z. IsReason clauses (has (take i (t.literals ++ l ∷ []))) l z) n
              (subst (λ z. IsReason clauses (has z) l c) (sym (front i g.0)) now)))
        ]
      ];
  kept = λ i k r f g. elim (at_pushed t.reasons (Some c) i (Some k) f) [
    | inl q ↦ j.kept i k r q g
    | inr q ↦ (let n : c ≡ k = cc (q.1) in some_in r l (ap (λ z. has z l) (at_same rows k r row g (ap (slice_get rows) (sym n) ∙ is)) ∙ inside))
  ];
}
  where
    front : (i : ℕ) → i ≡ length t.literals → take i (t.literals ++ l ∷ []) ≡ t.literals
    front i e = take-append-le i t.literals (l ∷ []) (omega (arith, e)) ∙ take_all i t.literals (omega (arith, e))

    now : IsReason clauses (has t.literals) l c
    now =
        let lt : c < length rows = at_inside rows c row is in
        let count : length rows ≡ length clauses = j.stored.count in
        let at = at_within clauses c (omega (arith, lt, count)) in
        let stored = j.stored.each c at.0 row at.1 is (some_in row l inside) in record {
          clause = at.0;
          numbered = at.1;
          member = stored.part l inside;
          forced = forced_clause t row at.0 l stored forced;
        }

pub level_zero-decided : (t : Assigned) (l : Literal) → IsTrail t → level_zero (pushed t l None (t.starts ++ length t.literals ∷ [])) ≡ level_zero t
level_zero-decided t l h = go t.starts refl
  where
    go : (starts : List ℕ) → t.starts ≡ starts
        → take (get_or (t.starts ++ length t.literals ∷ []) 0 (length (t.literals ++ l ∷ []))) (t.literals ++ l ∷ []) ≡ take (get_or t.starts 0 (length t.literals)) t.literals
    go [] s =
        ap (λ (z : List ℕ). take (get_or (z ++ length t.literals ∷ []) 0 (length (t.literals ++ l ∷ []))) (t.literals ++ l ∷ [])) s
        ∙ (take-append-le (length t.literals) t.literals (l ∷ []) (omega arith)
        ∙ sym (ap (λ (z : List ℕ). take (get_or z 0 (length t.literals)) t.literals) s))
    go (n ∷ ns) s =
        (let below : level_start t.starts 0 < length t.literals = h.inside 0 (subst (λ (z : List ℕ). 0 < length z) (sym s) (omega arith)) in
        let first : level_start t.starts 0 ≡ n = ap (λ z. level_start z 0) s in
        ap (λ (z : List ℕ). take (get_or (z ++ length t.literals ∷ []) 0 (length (t.literals ++ l ∷ []))) (t.literals ++ l ∷ [])) s
        ∙ (take-append-le n t.literals (l ∷ []) (omega (arith, below, first))
        ∙ sym (ap (λ (z : List ℕ). take (get_or z 0 (length t.literals)) t.literals) s)))

pub IsJustified-decide : (clauses rows : List (List Literal)) (t : Assigned) (l : Literal) → IsTrail t → IsJustified clauses rows t
    → IsJustified clauses rows (pushed t l None (t.starts ++ length t.literals ∷ []))
IsJustified-decide clauses rows t l h j = record {
  stored = subst (λ z. IsStored (has z) clauses rows) (sym (level_zero-decided t l h)) j.stored;
  reasons = λ i k m e f.
      elim (at_pushed t.reasons None i (Some k) f) [
        | inl q ↦ elim (at_pushed t.literals l i m e) [
          | inl g ↦ reasons_kept clauses t l None t.starts h j.reasons i k m g q
          | inr g ↦ absurd (let lt : i < length t.reasons = at_inside t.reasons i (Some k) q in let n : i ≡ length t.literals = g.0 in let s : length t.reasons ≡ length t.literals = h.reasons in omega (arith, lt, n, s))
        ]
        | inr q ↦ (let n : None ≡ Some k = q.1 in cc)
      ];
  kept = λ i k r f g. elim (at_pushed t.reasons None i (Some k) f) [
    | inl q ↦ j.kept i k r q g
    | inr q ↦ (let n : None ≡ Some k = q.1 in cc)
  ];
}

first_kept : (starts : List ℕ) (d e : ℕ) (n : ℕ) → get_or (take (suc n) starts) 0 d ≡ get_or starts 0 d
first_kept [] d e n = refl
first_kept (s ∷ ss) d e n = refl

same_start : (starts : List ℕ) (d e : ℕ) → 0 < length starts → get_or starts 0 d ≡ get_or starts 0 e
same_start [] d e lt = absurd (omega arith)
same_start (s ∷ ss) d e lt = refl

pub level_zero-cut : (t : Assigned) (level : ℕ) → IsTrail t → level < length t.starts → level_zero (cut_back t level) ≡ level_zero t
level_zero-cut t zero h lt =
    let cut : level_start t.starts 0 < length t.literals = h.inside 0 lt in
    let size : length (take (level_start t.starts 0) t.literals) ≡ level_start t.starts 0 = length_taken (level_start t.starts 0) t.literals (omega (arith, cut)) in
    ap (λ n. take n (take (level_start t.starts 0) t.literals)) size
    ∙ (take-take (level_start t.starts 0) (level_start t.starts 0) t.literals (omega arith)
    ∙ ap (λ n. take n t.literals) (same_start t.starts 0 (length t.literals) lt))
level_zero-cut t (suc n) h lt =
    let some : 0 < length t.starts = omega (arith, lt) in
    let below : level_start t.starts 0 < level_start t.starts (suc n) = h.rising 0 (suc n) (omega arith) lt in
    let at : get_or (take (suc n) t.starts) 0 (length (take (level_start t.starts (suc n)) t.literals)) ≡ level_start t.starts 0 =
    first_kept t.starts (length (take (level_start t.starts (suc n)) t.literals)) 0 n ∙ same_start t.starts (length (take (level_start t.starts (suc n)) t.literals)) 0 some in
    ap (λ k. take k (take (level_start t.starts (suc n)) t.literals)) at
    ∙ (take-take (level_start t.starts 0) (level_start t.starts (suc n)) t.literals (omega (arith, below))
    ∙ ap (λ k. take k t.literals) (same_start t.starts 0 (length t.literals) some))

pub IsJustified-cut : (clauses rows : List (List Literal)) (t : Assigned) (level : ℕ) → IsTrail t → IsJustified clauses rows t → level < length t.starts
    → IsJustified clauses rows (cut_back t level)
IsJustified-cut clauses rows t level h j lt = record {
  stored = subst (λ z. IsStored (has z) clauses rows) (sym (level_zero-cut t level h lt)) j.stored;
  reasons = λ i k m e f.
      (let p = at_taken (level_start t.starts level) t.literals i m e in
      let q = at_taken (level_start t.starts level) t.reasons i (Some k) f in
      let inside : i < level_start t.starts level = p.1 in
      subst (λ z. IsReason clauses (has z) m k) (sym (take-take i (level_start t.starts level) t.literals (omega (arith, inside)))) (j.reasons i k m p.0 q.0));
  kept = λ i k r f g. j.kept i k r (at_taken (level_start t.starts level) t.reasons i (Some k) f).0 g;
}

-- a reason is the number of a row
pub reason_inside : (clauses rows : List (List Literal)) (t : Assigned) → IsJustified clauses rows t → IsTrail t → (i c : ℕ) → slice_get t.reasons i ≡ Some (Some c) → c < length rows
reason_inside clauses rows t j h i c e =
    let in_reasons : i < length t.reasons = at_inside t.reasons i (Some c) e in
    let size : length t.reasons ≡ length t.literals = h.reasons in
    let l = at_within t.literals i (omega (arith, in_reasons, size)) in
    let r = j.reasons i c l.0 l.1 e in
    let inside : c < length clauses = at_inside clauses c r.clause r.numbered in
    omega (arith, inside, j.stored.count)

-- the literal that it forced is one of the row's
pub reason_in_row : (clauses rows : List (List Literal)) (t : Assigned) → IsJustified clauses rows t → IsTrail t → (i c : ℕ) (row : List Literal) → slice_get t.reasons i ≡ Some (Some c)
    → slice_get rows c ≡ Some row → (l : Literal) × (slice_get t.literals i ≡ Some l) × (has row l ≡ true)
reason_in_row clauses rows t j h i c row e at =
    let in_reasons : i < length t.reasons = at_inside t.reasons i (Some c) e in
    let size : length t.reasons ≡ length t.literals = h.reasons in
    let l = at_within t.literals i (omega (arith, in_reasons, size)) in
    let r = j.reasons i c l.0 l.1 e in
    let stored = j.stored.each c r.clause row r.numbered at (j.kept i c row e at) in (
      l.0,
      l.1,
      elim (cases_Bool (has row l.0)) [
        | inl q ↦ q
        | inr n ↦ absurd (false≢true (sym (h.consistent l.0 (at_has t.literals i l.0 l.1)) ∙ level_zero_part t (negated l.0) (stored.rest l.0 r.member n)))
      ],
    )

-- a trail with one more literal goes on
pub TrailGrows-push : (t : Assigned) (l : Literal) (reason : Option ℕ) → TrailGrows t (pushed t l reason t.starts)
TrailGrows-push t l reason = record {
  vars = refl;
  literals = take-append-le (length t.literals) t.literals (l ∷ []) (omega arith) ∙ take_all (length t.literals) t.literals (omega arith);
  starts = refl;
}

pub push_part : (xs : List Literal) (l : Literal) → IsPart (has xs) (has (xs ++ l ∷ []))
push_part xs l m e = append_part xs (l ∷ []) m e

pub TrailGrows-refl : (t : Assigned) → TrailGrows t t
TrailGrows-refl t = record { vars = refl; literals = take_all (length t.literals) t.literals (omega arith); starts = refl }

pub TrailGrows-part : (old new : Assigned) → TrailGrows old new → IsPart (has old.literals) (has new.literals)
TrailGrows-part old new h l e = IsFrontOf-part old.literals new.literals h.literals l e

pub TrailGrows-trans : (a b c : Assigned) → TrailGrows a b → TrailGrows b c → TrailGrows a c
TrailGrows-trans a b c g h = record {
  vars = h.vars ∙ g.vars;
  literals = IsFrontOf-trans a.literals b.literals c.literals g.literals h.literals;
  starts = h.starts ∙ g.starts;
}

-- the clauses with one more, and its row
pub IsJustified-grow : (clauses rows : List (List Literal)) (t : Assigned) (clause row : List Literal) → IsJustified clauses rows t → IsRow (has (level_zero t)) row clause → 0 < length row
    → IsJustified (clauses ++ clause ∷ []) (rows ++ row ∷ []) t
IsJustified-grow clauses rows t clause row j r some_row =
    let more_clauses : length (clauses ++ clause ∷ []) ≡ length clauses + 1 = length_push clauses clause in
    let more_rows : length (rows ++ row ∷ []) ≡ length rows + 1 = length_push rows row in
    let count : length rows ≡ length clauses = j.stored.count in record {
      stored = record {
        count = omega (arith, more_clauses, more_rows, count);
        each = λ k c w e f some. elim (at_pushed clauses clause k c e) [
          | inl a ↦ elim (at_pushed rows row k w f) [
            | inl b ↦ j.stored.each k c w a b some
            | inr b ↦ absurd (let lt : k < length clauses = at_inside clauses k c a in let at : k ≡ length rows = b.0 in omega (arith, lt, at, count))
          ]
          | inr a ↦ elim (at_pushed rows row k w f) [
            | inl b ↦ absurd (let lt : k < length rows = at_inside rows k w b in let at : k ≡ length clauses = a.0 in omega (arith, lt, at, count))
            | inr b ↦ subst (λ z. IsRow (has (level_zero t)) z c) b.1 (subst (λ z. IsRow (has (level_zero t)) row z) a.1 r)
          ]
        ];
      };
      reasons = λ i n l e f. (let q = j.reasons i n l e f in record {
        clause = q.clause;
        numbered = at_kept clauses (clause ∷ []) n q.clause q.numbered;
        member = q.member;
        forced = q.forced;
      });
      kept = λ i n w f g. elim (at_pushed rows row n w g) [
        | inl b ↦ j.kept i n w f b
        | inr b ↦ subst (λ (z : List Literal). 0 < length z) b.1 some_row
      ];
    }
