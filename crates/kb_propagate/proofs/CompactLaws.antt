-- Clauses of a flat table that move together.
use Rattle.std.proofs.Common.{◌≡◌, ℕ, ◌+◌, ◌-◌, ◌<◌, ◌≤◌, List, [], ◌∷◌, arith, refl, ap, sym, subst, ◌∙◌, inl, inr, length, length-set, map, take, drop, set, suc, Some, slice_get}
use Rattle.std.specs.List.{copy_within}
use Rattle.std.proofs.lemmas.Bool.{cases_lt}
use Rattle.std.proofs.lemmas.List.{take-take, take-append-le, length-take-le, length-drop, drop-drop, drop-take, drop_at}
use Rattle.std.proofs.lemmas.List.Edits.{length-paste, take-paste, drop-paste}
use Rattle.kb_chain.specs.Literal.{Literal}
use Rattle.kb_propagate.specs.Rows.{StoredClause, stored_at, stored_of, row_of, EndWithin, AreApart}
use Rattle.kb_propagate.specs.declared.span.Span.{Span}
use Rattle.kb_propagate.specs.declared.clauses.Slot.{Slot}
use Rattle.kb_propagate.proofs.Places.{at_set, at_inside, at_same}

-- the clauses before a number stand together, up to an end; those from it on stand where they stood, behind that end
pub record IsMoving (flat : List Literal) (slots : List Slot) (number end : ℕ) (clauses : List StoredClause) : Type 0 where
  pub inside : end ≤ length flat
  pub within : EndWithin flat slots
  pub apart : AreApart slots
  pub moved : (k : ℕ) (slot : Slot) → slice_get slots k ≡ Some slot → k < number → slot.span.end ≤ end
  pub ahead : (k : ℕ) (slot : Slot) → slice_get slots k ≡ Some slot → number ≤ k → end ≤ slot.span.start
  pub stored : stored_of flat slots ≡ clauses

-- a row is one of each front that it stands in
row_front : (flat : List Literal) (span : Span) (n : ℕ) → span.start ≤ span.end → span.end ≤ n → row_of (take n flat) span ≡ row_of flat span
row_front flat span n a b =
    let rest = n - span.start in
    let whole : n ≡ span.start + rest = omega (arith, a, b) in
    ap (λ k. row_of (take k flat) span) whole
    ∙ (ap (take (span.end - span.start)) (drop-take span.start rest flat)
    ∙ take-take (span.end - span.start) rest (drop span.start flat) (omega (arith, a, b)))

-- a part of the table is copied to an earlier place
record Copies (flat : List Literal) (span : Span) (at : ℕ) : Type 0 where
  order : span.start ≤ span.end
  inside : span.end ≤ length flat
  earlier : at ≤ span.start

room : (flat : List Literal) (span : Span) (at : ℕ) → Copies flat span at → span.end - span.start ≤ length (drop span.start flat)
room flat span at c =
    let a : span.start ≤ span.end = c.order in
    let b : span.end ≤ length flat = c.inside in
    omega (arith, a, b, length-drop span.start flat)

length-copied : (flat : List Literal) (span : Span) (at : ℕ) → Copies flat span at → length (copy_within flat span.start span.end at) ≡ length flat
length-copied flat span at c =
    let a : span.start ≤ span.end = c.order in
    let b : span.end ≤ length flat = c.inside in
    let d : at ≤ span.start = c.earlier in
    length-paste flat at (drop span.start flat) (span.end - span.start) (omega (arith, a, b, d)) (room flat span at c)

-- what stands before that place stays
before_copied : (flat : List Literal) (span : Span) (at : ℕ) (other : Span) → Copies flat span at → other.start ≤ other.end → other.end ≤ at
    → row_of (copy_within flat span.start span.end at) other ≡ row_of flat other
before_copied flat span at other c order end =
    let n = span.end - span.start in
    let new = copy_within flat span.start span.end at in
    let a : span.start ≤ span.end = c.order in
    let b : span.end ≤ length flat = c.inside in
    let d : at ≤ span.start = c.earlier in
    let low : at ≤ length flat = omega (arith, a, b, d) in
    let size : length (take at flat) ≡ at = length-take-le at flat low in
    let front : take at new ≡ take at flat =
    sym (take-take at (at + n) new (omega arith))
    ∙ (ap (take at) (take-paste flat at (drop span.start flat) n low (room flat span at c))
    ∙ (take-append-le at (take at flat) (take n (drop span.start flat)) (omega (arith, size)) ∙ take-take at at flat (omega arith))) in
    sym (row_front new other at order end) ∙ (ap (λ z. row_of z other) front ∙ row_front flat other at order end)

-- the part stands at that place
at_copied : (flat : List Literal) (span : Span) (at : ℕ) (later : Span) → Copies flat span at → later.start ≡ at → later.end ≡ at + (span.end - span.start)
    → row_of (copy_within flat span.start span.end at) later ≡ row_of flat span
at_copied flat span at later c starts ends =
    let n = span.end - span.start in
    let new = copy_within flat span.start span.end at in
    let a : span.start ≤ span.end = c.order in
    let b : span.end ≤ length flat = c.inside in
    let d : at ≤ span.start = c.earlier in
    let low : at ≤ length flat = omega (arith, a, b, d) in
    let long : later.end - later.start ≡ n = omega (arith, starts, ends) in
    ap (λ m. take m (drop later.start new)) long
    ∙ (ap (λ m. take n (drop m new)) starts
    ∙ (sym (drop-take at n new)
    ∙ (ap (drop at) (take-paste flat at (drop span.start flat) n low (room flat span at c))
    ∙ drop_at (take at flat) (take n (drop span.start flat)) at (length-take-le at flat low))))

-- and what stands behind it in the table stays
behind_copied : (flat : List Literal) (span : Span) (at : ℕ) (other : Span) → Copies flat span at → at + (span.end - span.start) ≤ other.start
    → row_of (copy_within flat span.start span.end at) other ≡ row_of flat other
behind_copied flat span at other c le =
    let n = span.end - span.start in
    let new = copy_within flat span.start span.end at in
    let a : span.start ≤ span.end = c.order in
    let b : span.end ≤ length flat = c.inside in
    let d : at ≤ span.start = c.earlier in
    let low : at ≤ length flat = omega (arith, a, b, d) in
    let rest = other.start - (at + n) in
    let whole : at + n + rest ≡ other.start = omega (arith, le) in
    ap (take (other.end - other.start))
    (ap (λ k. drop k new) (sym whole)
    ∙ (sym (drop-drop rest (at + n) new)
    ∙ (ap (drop rest) (drop-paste flat at (drop span.start flat) n low (room flat span at c))
    ∙ (drop-drop rest (at + n) flat ∙ ap (λ k. drop k flat) whole))))

maps_same : {X Y : Type 0} (f g : X → Y) (xs ys : List X) → length xs ≡ length ys → ((k : ℕ) (x y : X) → slice_get xs k ≡ Some x → slice_get ys k ≡ Some y → f x ≡ g y)
    → map f xs ≡ map g ys
maps_same f g [] [] n h = refl
maps_same f g [] (y ∷ ys) n h = absurd (omega (arith, n))
maps_same f g (x ∷ xs) [] n h = absurd (omega (arith, n))
maps_same f g (x ∷ xs) (y ∷ ys) n h = ap (λ z. z ∷ map f xs) (h 0 x y refl refl) ∙ ap (λ z. g y ∷ z) (maps_same f g xs ys (omega (arith, n)) (λ k. h (suc k)))

-- nothing has moved yet
pub IsMoving-start : (flat : List Literal) (slots : List Slot) → EndWithin flat slots → AreApart slots → IsMoving flat slots 0 0 (stored_of flat slots)
IsMoving-start flat slots w apart = record {
  inside = omega arith;
  within = w;
  apart = apart;
  moved = λ k slot e lt. absurd (omega (arith, lt));
  ahead = λ k slot e le. omega arith;
  stored = refl;
}

pub moving_copies : (flat : List Literal) (slots : List Slot) (number end : ℕ) (clauses : List StoredClause) (slot : Slot) → IsMoving flat slots number end clauses
    → slice_get slots number ≡ Some slot → (slot.span.start ≤ slot.span.end) × (slot.span.end ≤ length flat) × (end ≤ slot.span.start)
moving_copies flat slots number end clauses slot h e = ((h.within number slot e).0, (h.within number slot e).1, h.ahead number slot e (omega arith))

-- one more clause moves
pub IsMoving-next : (flat : List Literal) (slots : List Slot) (number end : ℕ) (clauses : List StoredClause) (slot later : Slot) → IsMoving flat slots number end clauses
    → slice_get slots number ≡ Some slot → later.span.start ≡ end → later.span.end ≡ end + (slot.span.end - slot.span.start) → later.awake ≡ slot.awake
    → IsMoving (copy_within flat slot.span.start slot.span.end end) (set slots number later) (number + 1) (end + (slot.span.end - slot.span.start)) clauses
IsMoving-next flat slots number end clauses slot later h e starts ends awake =
    let a : slot.span.start ≤ slot.span.end = (h.within number slot e).0 in
    let b : slot.span.end ≤ length flat = (h.within number slot e).1 in
    let d : end ≤ slot.span.start = h.ahead number slot e (omega arith) in
    let n = slot.span.end - slot.span.start in
    let c : Copies flat slot.span end = record { order = a; inside = b; earlier = d } in
    let new = copy_within flat slot.span.start slot.span.end end in
    let size : length new ≡ length flat = length-copied flat slot.span end c in
    let before : end + n ≤ slot.span.end = omega (arith, a, d) in
    record {
      inside = omega (arith, size, before, b);
      within = λ k x f. elim (at_set slots number later k x f) [
        | inl s ↦ (let w = h.within k x s.0 in (w.0, (let far : x.span.end ≤ length flat = w.1 in omega (arith, far, size))))
        | inr s ↦ subst (λ (z : Slot). (z.span.start ≤ z.span.end) × (z.span.end ≤ length new)) s.1 ((omega (arith, starts, ends)), (omega (arith, ends, before, b, size)))
      ];
      apart = λ i j x y lt f g. elim (at_set slots number later i x f) [
        | inl s ↦ elim (at_set slots number later j y g) [
          | inl t ↦ h.apart i j x y lt s.0 t.0
          | inr t ↦ (let below : i < number = (let at : j ≡ number = t.0 in omega (arith, lt, at)) in
              let near : x.span.end ≤ end = h.moved i x s.0 below in
              subst (λ (z : Slot). x.span.end ≤ z.span.start) t.1 (omega (arith, near, starts)))
        ]
        | inr s ↦ elim (at_set slots number later j y g) [
          | inl t ↦ (let above : number < j = (let at : i ≡ number = s.0 in omega (arith, lt, at)) in
              let far : slot.span.end ≤ y.span.start = h.apart number j slot y above e t.0 in
              subst (λ (z : Slot). z.span.end ≤ y.span.start) s.1 (omega (arith, far, ends, before)))
          | inr t ↦ absurd (let i_at : i ≡ number = s.0 in let j_at : j ≡ number = t.0 in omega (arith, lt, i_at, j_at))
        ]
      ];
      moved = λ k x f lt. elim (at_set slots number later k x f) [
        | inl s ↦ (let below : k < number = (let apart : k ≡ number → ⊥ = s.1 in omega (arith, lt, apart)) in
            let near : x.span.end ≤ end = h.moved k x s.0 below in omega (arith, near))
        | inr s ↦ subst (λ (z : Slot). z.span.end ≤ end + n) s.1 (omega (arith, ends))
      ];
      ahead = λ k x f le. elim (at_set slots number later k x f) [
        | inl s ↦ (let far : slot.span.end ≤ x.span.start = h.apart number k slot x (omega (arith, le)) e s.0 in omega (arith, far, before))
        | inr s ↦ absurd (let at : k ≡ number = s.0 in omega (arith, le, at))
      ];
      stored = maps_same (stored_at new) (stored_at flat) (set slots number later) slots (length-set slots number later) (λ k x y f g. elim (at_set slots number later k x f) [
        | inl s ↦ subst (λ (z : Slot). stored_at new x ≡ stored_at flat z) (at_same slots k x y s.0 g)
            (ap (λ z. record { literals = z; awake = x.awake }) (stays k x s.0 s.1))
        | inr s ↦ (let is : slot ≡ y = at_same slots number slot y e (ap (slice_get slots) (sym s.0) ∙ g) in
            subst (λ (z : Slot). stored_at new z ≡ stored_at flat y) s.1
            (subst (λ (z : Slot). stored_at new later ≡ stored_at flat z) is
            (ap (λ z. record { literals = z; awake = later.awake }) (at_copied flat slot.span end later.span c starts ends)
            ∙ ap (λ z. record { literals = row_of flat slot.span; awake = z }) awake)))
      ]) ∙ h.stored;
    }
  where
    stays : (k : ℕ) (x : Slot) → slice_get slots k ≡ Some x → (k ≡ number → ⊥) → row_of (copy_within flat slot.span.start slot.span.end end) x.span ≡ row_of flat x.span
    stays k x f apart =
        let c : Copies flat slot.span end = record { order = (h.within number slot e).0; inside = (h.within number slot e).1; earlier = h.ahead number slot e (omega arith) } in
        elim (cases_lt k number) [
          | inl lt ↦ before_copied flat slot.span end x.span c (h.within k x f).0 (h.moved k x f lt)
          | inr le ↦ (let above : number < k = omega (arith, le, apart) in
              let far : slot.span.end ≤ x.span.start = h.apart number k slot x above e f in
              let a : slot.span.start ≤ slot.span.end = c.order in
              let d : end ≤ slot.span.start = c.earlier in
              behind_copied flat slot.span end x.span c (omega (arith, a, d, far)))
        ]

-- all have moved
pub IsMoving-end : (flat : List Literal) (slots : List Slot) (number end : ℕ) (clauses : List StoredClause) → IsMoving flat slots number end clauses → length slots ≤ number
    → EndWithin (take end flat) slots × (stored_of (take end flat) slots ≡ clauses)
IsMoving-end flat slots number end clauses h le =
    let size : length (take end flat) ≡ end = length-take-le end flat h.inside in
    let ended : (k : ℕ) (slot : Slot) → slice_get slots k ≡ Some slot → slot.span.end ≤ end = λ k slot e. h.moved k slot e (let lt : k < length slots = at_inside slots k slot e in omega (arith, lt, le)) in (
      λ k slot e. ((h.within k slot e).0, (let far : slot.span.end ≤ end = ended k slot e in omega (arith, far, size))),
      maps_same (stored_at (take end flat)) (stored_at flat) slots slots refl (λ k x y f g.
          subst (λ (z : Slot). stored_at (take end flat) x ≡ stored_at flat z) (at_same slots k x y f g)
          (ap (λ z. record { literals = z; awake = x.awake }) (row_front flat x.span end (h.within k x f).0 (ended k x f)))) ∙ h.stored,
    )
