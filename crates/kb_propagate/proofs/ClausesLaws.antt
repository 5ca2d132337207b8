-- Clauses that stand one after the other in a flat table.
use Rattle.std.proofs.lemmas.List.{take-append-le, drop-append-le, length-drop, length-take-le, map-append, map-set, set-set, length-append, length-map, take_all, take-set-le, drop-set-lt, drop-set-add, get_or-take, get_or-drop}
use Rattle.std.proofs.lemmas.List.Edits.{swap_is, length-swap}
use Rattle.std.proofs.lemmas.List.Sorted.{IsPermutation-swap, list_any-IsPermutation}
use Rattle.std.proofs.lemmas.Bool.{cases_lt, false≢true}
use Rattle.std.proofs.lemmas.Option.{slice_get_read}
use Rattle.std.proofs.Math.Seq.{drop-append_seam}
use Rattle.std.proofs.Common.{◌≡◌, ℕ, ◌+◌, ◌-◌, ◌<◌, ◌⊎◌, drop, ◌≤◌, true, false, List, [], ◌∷◌, ◌++◌, arith, refl, ap, sym, subst, ◌∙◌, inl, inr, length, length-set, take, set, get_or, zero, suc, Option, Some, None, slice_get}
use Rattle.std.specs.List.{swap}
use Rattle.kb_chain.specs.Literal.{Literal, has, same}
use Rattle.kb_propagate.specs.Rows.{StoredClause, stored_at, stored_of, rows_of, IsNamed, AreNamed, AreApart, EndWithin, row_of}
use Rattle.kb_propagate.specs.Forgetting.{asleep_at, asleep, deleted_at, deleted}
use Rattle.kb_propagate.specs.declared.span.Span.{Span}
use Rattle.kb_propagate.specs.declared.clauses.Slot.{Slot}
use Rattle.kb_propagate.proofs.Places.{at_pushed, at_inside, at_set, at_mapped, mapped_at}

pub row_longer : {X : Type 0} (flat more : List X) (span : Span) → span.start ≤ span.end → span.end ≤ length flat → row_of (flat ++ more) span ≡ row_of flat span
row_longer flat more span s e =
    let room : span.end - span.start ≤ length (drop span.start flat) = rw (length-drop span.start flat) omega (arith, s, e) in
    ap (take (span.end - span.start)) (drop-append-le span.start flat more (omega (arith, s, e)))
    ∙ take-append-le (span.end - span.start) (drop span.start flat) more room

-- a longer table has the same clauses
stored_longer : (flat more : List Literal) (slots : List Slot) → EndWithin flat slots → stored_of (flat ++ more) slots ≡ stored_of flat slots
stored_longer flat more [] w = refl
stored_longer flat more (slot ∷ slots) w =
    let here = w zero slot refl in
    ap (λ row. (record { literals = row; awake = slot.awake }) ∷ stored_of (flat ++ more) slots) (row_longer flat more slot.span here.0 here.1)
    ∙ ap (λ z. stored_at flat slot ∷ z) (stored_longer flat more slots (λ k. w (suc k)))

pub within_longer : (flat more : List Literal) (slots : List Slot) → EndWithin flat slots → EndWithin (flat ++ more) slots
within_longer flat more slots w k slot e =
    let here = w k slot e in
    (here.0, (let far : slot.span.end ≤ length (flat ++ more) = rw (length-append flat more) omega (arith, here.1) in far))

within_pushed : (flat : List Literal) (slots : List Slot) (slot : Slot) → EndWithin flat slots → slot.span.start ≤ slot.span.end → slot.span.end ≤ length flat
    → EndWithin flat (slots ++ slot ∷ [])
within_pushed flat slots slot w s e k other h =
    elim (at_pushed slots slot k other h) [ inl old ↦ w k other old | inr last ↦ rw (← last.1) (s, e) ]

pub row_last : {X : Type 0} (flat literals : List X) (span : Span) → span.start ≡ length flat → span.end ≡ length flat + length literals
    → row_of (flat ++ literals) span ≡ literals
row_last flat literals span s e =
    let count : span.end - span.start ≡ length literals = omega (arith, s, e) in
    ap (λ n. take (span.end - span.start) (drop n (flat ++ literals))) s
    ∙ ap (take (span.end - span.start)) (drop-append_seam flat literals)
    ∙ ap (λ n. take n literals) count
    ∙ take_all (length literals) literals (omega arith)

-- the clauses of a table with one more
pub stored_pushed : (flat literals : List Literal) (slots : List Slot) (slot : Slot) → EndWithin flat slots
    → slot.span.start ≡ length flat → slot.span.end ≡ length flat + length literals
    → stored_of (flat ++ literals) (slots ++ slot ∷ []) ≡ stored_of flat slots ++ (record { literals = literals; awake = slot.awake }) ∷ []
stored_pushed flat literals slots slot w s e =
    map-append (stored_at (flat ++ literals)) slots (slot ∷ [])
    ∙ ap (λ z. z ++ stored_at (flat ++ literals) slot ∷ []) (stored_longer flat literals slots w)
    ∙ ap (λ row. stored_of flat slots ++ (record { literals = row; awake = slot.awake }) ∷ []) (row_last flat literals slot.span s e)

pub within_next : (flat literals : List Literal) (slots : List Slot) (slot : Slot) → EndWithin flat slots
    → slot.span.start ≡ length flat → slot.span.end ≡ length flat + length literals
    → EndWithin (flat ++ literals) (slots ++ slot ∷ [])
within_next flat literals slots slot w s e =
    within_pushed (flat ++ literals) slots slot (within_longer flat literals slots w) (omega (arith, s, e))
    (let far : slot.span.end ≤ length (flat ++ literals) = rw (length-append flat literals) omega (arith, e) in far)

pub apart_next : (flat : List Literal) (slots : List Slot) (slot : Slot) → EndWithin flat slots → AreApart slots → slot.span.start ≡ length flat → AreApart (slots ++ slot ∷ [])
apart_next flat slots slot w apart s j k a b lt f g = elim (at_pushed slots slot j a f) [
  | inl i ↦ elim (at_pushed slots slot k b g) [
    | inl h ↦ apart j k a b lt i h
    | inr h ↦ (let ends : a.span.end ≤ length flat = (w j a i).1 in let same_start : b.span.start ≡ length flat = ap (λ (z : Slot). z.span.start) (sym h.1) ∙ s in omega (arith, ends, same_start))
  ]
  | inr i ↦ elim (at_pushed slots slot k b g) [
    | inl h ↦ absurd (let inside : k < length slots = at_inside slots k b h in let at : j ≡ length slots = i.0 in omega (arith, lt, inside, at))
    | inr h ↦ absurd (let at : j ≡ length slots = i.0 in let end : k ≡ length slots = h.0 in omega (arith, lt, at, end))
  ]
]

named_next : (rows : List (List Literal)) (row : List Literal) → AreNamed rows → IsNamed row → AreNamed (rows ++ row ∷ [])
named_next rows row n r k other h =
    elim (at_pushed rows row k other h) [ inl old ↦ n k other old | inr last ↦ rw (← last.1) r ]

pub named_longer : (flat more : List Literal) (slots : List Slot) → EndWithin flat slots → AreNamed (rows_of (stored_of flat slots)) → AreNamed (rows_of (stored_of (flat ++ more) slots))
named_longer flat more slots w n = rw (stored_longer flat more slots w) n

pub rows_pushed : (clauses : List StoredClause) (clause : StoredClause) → rows_of (clauses ++ clause ∷ []) ≡ rows_of clauses ++ clause.literals ∷ []
rows_pushed clauses clause = map-append (λ (c : StoredClause). c.literals) clauses (clause ∷ [])

pub named_pushed : (flat literals : List Literal) (slots : List Slot) (slot : Slot) → EndWithin flat slots
    → slot.span.start ≡ length flat → slot.span.end ≡ length flat + length literals
    → AreNamed (rows_of (stored_of flat slots)) → IsNamed literals → AreNamed (rows_of (stored_of (flat ++ literals) (slots ++ slot ∷ [])))
named_pushed flat literals slots slot w s e n named =
    rw (stored_pushed flat literals slots slot w s e, rows_pushed (stored_of flat slots) (record { literals = literals; awake = slot.awake }))
    (named_next (rows_of (stored_of flat slots)) literals n named)

pub length-rows : (clauses : List StoredClause) → length (rows_of clauses) ≡ length clauses
length-rows clauses = length-map clauses (λ (c : StoredClause). c.literals)

pub length-stored : (flat : List Literal) (slots : List Slot) → length (stored_of flat slots) ≡ length slots
length-stored flat slots = length-map slots (stored_at flat)

-- the clause of a row
pub clause_at : (clauses : List StoredClause) (k : ℕ) (row : List Literal) → slice_get (rows_of clauses) k ≡ Some row
    → (clause : StoredClause) × (slice_get clauses k ≡ Some clause) × (clause.literals ≡ row)
clause_at clauses k row e = mapped_at (λ (c : StoredClause). c.literals) clauses k row e

pub row_at : (clauses : List StoredClause) (k : ℕ) (clause : StoredClause) → slice_get clauses k ≡ Some clause → slice_get (rows_of clauses) k ≡ Some clause.literals
row_at clauses k clause e = at_mapped (λ (c : StoredClause). c.literals) clauses k clause e

-- writing into the table

take_set : {X : Type 0} (n i : ℕ) (xs : List X) (v : X) → take n (set xs i v) ≡ set (take n xs) i v
take_set zero i xs v = refl
take_set (suc n) i [] v = refl
take_set (suc n) zero (x ∷ xs) v = refl
take_set (suc n) (suc i) (x ∷ xs) v = ap (λ z. x ∷ z) (take_set n i xs v)

-- a row in which a literal is written
row_written : (flat : List Literal) (span : Span) (i : ℕ) (v : Literal) → row_of (set flat (span.start + i) v) span ≡ set (row_of flat span) i v
row_written flat span i v =
    ap (take (span.end - span.start)) (drop-set-add span.start flat i v)
    ∙ take_set (span.end - span.start) i (drop span.start flat) v

-- a place is not of a span
abbrev IsBeside : ℕ → Span → Type 0
IsBeside p span = (p < span.start) ⊎ (span.end ≤ p)

row_beside : (flat : List Literal) (span : Span) (p : ℕ) (v : Literal) → span.start ≤ span.end → IsBeside p span → row_of (set flat p v) span ≡ row_of flat span
row_beside flat span p v order (inl lt) = ap (take (span.end - span.start)) (drop-set-lt span.start flat p v lt)
row_beside flat span p v order (inr le) =
    let i = p - span.start in
    let at : p ≡ span.start + i = omega (arith, order, le) in
    let past : span.end - span.start ≤ i = omega (arith, order, le) in
    ap (λ n. row_of (set flat n v) span) at
    ∙ (ap (take (span.end - span.start)) (drop-set-add span.start flat i v)
    ∙ take-set-le (span.end - span.start) (drop span.start flat) i v past)

stored_beside : (flat : List Literal) (slots : List Slot) (p : ℕ) (v : Literal) → EndWithin flat slots
    → ((j : ℕ) (slot : Slot) → slice_get slots j ≡ Some slot → IsBeside p slot.span) → stored_of (set flat p v) slots ≡ stored_of flat slots
stored_beside flat [] p v w beside = refl
stored_beside flat (slot ∷ slots) p v w beside =
    ap (λ row. (record { literals = row; awake = slot.awake }) ∷ stored_of (set flat p v) slots) (row_beside flat slot.span p v (w zero slot refl).0 (beside zero slot refl))
    ∙ ap (λ z. stored_at flat slot ∷ z) (stored_beside flat slots p v (λ j. w (suc j)) (λ j. beside (suc j)))

-- the clauses of a table in which a literal of one row is written
stored_written : (flat : List Literal) (slots : List Slot) (k : ℕ) (slot : Slot) (i : ℕ) (v : Literal) → EndWithin flat slots → slice_get slots k ≡ Some slot
    → ((j : ℕ) (other : Slot) → slice_get slots j ≡ Some other → (j ≡ k → ⊥) → IsBeside (slot.span.start + i) other.span)
    → stored_of (set flat (slot.span.start + i) v) slots ≡ set (stored_of flat slots) k (record { literals = set (row_of flat slot.span) i v; awake = slot.awake })
stored_written flat [] k slot i v w e beside = cc
stored_written flat (s ∷ slots) zero slot i v w e beside =
    let is : s ≡ slot = cc in
    ap (λ (z : Slot). stored_at (set flat (slot.span.start + i) v) z ∷ stored_of (set flat (slot.span.start + i) v) slots) is
    ∙ (ap (λ row. (record { literals = row; awake = slot.awake }) ∷ stored_of (set flat (slot.span.start + i) v) slots) (row_written flat slot.span i v)
    ∙ ap (λ z. (record { literals = set (row_of flat slot.span) i v; awake = slot.awake }) ∷ z)
    (stored_beside flat slots (slot.span.start + i) v (λ j. w (suc j)) (λ j other f. beside (suc j) other f (λ n. absurd (omega (arith, n))))))
stored_written flat (s ∷ slots) (suc k) slot i v w e beside =
    ap (λ row. (record { literals = row; awake = s.awake }) ∷ stored_of (set flat (slot.span.start + i) v) slots)
    (row_beside flat s.span (slot.span.start + i) v (w zero s refl).0 (beside zero s refl (λ n. absurd (omega (arith, n)))))
    ∙ ap (λ z. stored_at flat s ∷ z) (stored_written flat slots k slot i v (λ j. w (suc j)) e (λ j other f n. beside (suc j) other f (λ m. n (omega (arith, m)))))

-- no place of a row is of another
apart_beside : (flat : List Literal) (slots : List Slot) (k : ℕ) (slot : Slot) (i : ℕ) → EndWithin flat slots → AreApart slots → slice_get slots k ≡ Some slot
    → i < slot.span.end - slot.span.start → (j : ℕ) (other : Slot) → slice_get slots j ≡ Some other → (j ≡ k → ⊥) → IsBeside (slot.span.start + i) other.span
apart_beside flat slots k slot i w apart e lt j other f n = elim (cases_lt j k) [
  | inl before ↦ inr (let h : other.span.end ≤ slot.span.start = apart j k other slot before f e in omega (arith, h))
  | inr behind ↦ inl (let later : k < j = omega (arith, behind, n) in let h : slot.span.end ≤ other.span.start = apart k j slot other later e f in omega (arith, h, lt))
]

within_set : (flat : List Literal) (slots : List Slot) (p : ℕ) (v : Literal) → EndWithin flat slots → EndWithin (set flat p v) slots
within_set flat slots p v w k slot e =
    let here = w k slot e in
    let size : length (set flat p v) ≡ length flat = length-set flat p v in
    (here.0, (let far : slot.span.end ≤ length (set flat p v) = (let near : slot.span.end ≤ length flat = here.1 in omega (arith, near, size)) in far))

length_row : (flat : List Literal) (span : Span) → span.start ≤ span.end → span.end ≤ length flat → length (row_of flat span) ≡ span.end - span.start
length_row flat span s e =
    let room : length (drop span.start flat) ≡ length flat - span.start = length-drop span.start flat in
    length-take-le (span.end - span.start) (drop span.start flat) (omega (arith, s, e, room))

read_row : (flat : List Literal) (span : Span) (i : ℕ) (d : Literal) → i < span.end - span.start → get_or (row_of flat span) i d ≡ get_or flat (span.start + i) d
read_row flat span i d lt = get_or-take (span.end - span.start) (drop span.start flat) i d lt ∙ get_or-drop span.start flat i d

-- the clauses of a table in which two literals of a row have changed places
pub stored_swapped : (flat : List Literal) (slots : List Slot) (k : ℕ) (slot : Slot) (i j : ℕ) → EndWithin flat slots → AreApart slots → slice_get slots k ≡ Some slot
    → i < length (row_of flat slot.span) → j < length (row_of flat slot.span)
    → stored_of (swap flat (slot.span.start + i) (slot.span.start + j)) slots
    ≡ set (stored_of flat slots) k (record { literals = swap (row_of flat slot.span) i j; awake = slot.awake })
stored_swapped flat slots k slot i j w apart e lt_i lt_j =
    let a = slot.span.start + i in
    let b = slot.span.start + j in
    let here = w k slot e in
    let size : length (row_of flat slot.span) ≡ slot.span.end - slot.span.start = length_row flat slot.span here.0 here.1 in
    let in_i : i < slot.span.end - slot.span.start = omega (arith, lt_i, size) in
    let in_j : j < slot.span.end - slot.span.start = omega (arith, lt_j, size) in
    let ends : slot.span.end ≤ length flat = here.1 in
    let low_a : a < length flat = omega (arith, in_i, ends) in
    let low_b : b < length flat = omega (arith, in_j, ends) in
    let d : Literal = record { variable = 0; positive = true } in
    let x = get_or flat b d in
    let y = get_or flat a d in
    let row = row_of flat slot.span in
    let once = stored_written flat slots k slot i x w e (apart_beside flat slots k slot i w apart e in_i) in
    let twice = stored_written (set flat a x) slots k slot j y (within_set flat slots a x w) e (apart_beside flat slots k slot j w apart e in_j) in
    let rows : set (row_of (set flat a x) slot.span) j y ≡ swap row i j =
    ap (λ z. set z j y) (row_written flat slot.span i x)
    ∙ (ap (λ z. set (set row i z) j y) (sym (read_row flat slot.span j d in_j))
    ∙ (ap (λ z. set (set row i (get_or row j d)) j z) (sym (read_row flat slot.span i d in_i))
    ∙ swap_is row i j d lt_i lt_j)) in
    ap (λ z. stored_of z slots) (sym (swap_is flat a b d low_a low_b))
    ∙ (twice
    ∙ (ap (λ z. set z k (record { literals = set (row_of (set flat a x) slot.span) j y; awake = slot.awake })) once
    ∙ (set-set (stored_of flat slots) k (record { literals = set row i x; awake = slot.awake }) (record { literals = set (row_of (set flat a x) slot.span) j y; awake = slot.awake })
    ∙ ap (λ z. set (stored_of flat slots) k (record { literals = z; awake = slot.awake })) rows)))

pub has-swap : (row : List Literal) (i j : ℕ) (l : Literal) → i < length row → j < length row → has (swap row i j) l ≡ has row l
has-swap row i j l lt_i lt_j = sym (list_any-IsPermutation (same l) row (swap row i j) (IsPermutation-swap row (swap row i j) i j lt_i lt_j refl))

-- what the code knows of a clause's place

pub slot_at : (flat : List Literal) (slots : List Slot) (k : ℕ) (slot : Slot) → k < length (rows_of (stored_of flat slots)) → slot ≡ get_or slots k slot → slice_get slots k ≡ Some slot
slot_at flat slots k slot lt is =
    slice_get_read slots (length slots) k slot refl (subst (λ n. k < n) (length-rows (stored_of flat slots) ∙ length-stored flat slots) lt) is

pub stored_there : (flat : List Literal) (slots : List Slot) (k : ℕ) (slot : Slot) → slice_get slots k ≡ Some slot → slice_get (stored_of flat slots) k ≡ Some (stored_at flat slot)
stored_there flat slots k slot e = at_mapped (stored_at flat) slots k slot e

pub row_there : (flat : List Literal) (slots : List Slot) (k : ℕ) (slot : Slot) → slice_get slots k ≡ Some slot → slice_get (rows_of (stored_of flat slots)) k ≡ Some (row_of flat slot.span)
row_there flat slots k slot e = row_at (stored_of flat slots) k (stored_at flat slot) (stored_there flat slots k slot e)

pub inside_flat : (flat : List Literal) (slots : List Slot) (k : ℕ) (slot : Slot) (i : ℕ) → EndWithin flat slots → slice_get slots k ≡ Some slot → i < length (row_of flat slot.span)
    → slot.span.start + i < length flat
inside_flat flat slots k slot i w e lt =
    let here = w k slot e in
    let size : length (row_of flat slot.span) ≡ slot.span.end - slot.span.start = length_row flat slot.span here.0 here.1 in
    let ends : slot.span.end ≤ length flat = here.1 in
    omega (arith, lt, size, ends)

pub place_inside : (flat : List Literal) (slots : List Slot) (k : ℕ) (slot : Slot) (i : ℕ) → EndWithin flat slots → slice_get slots k ≡ Some slot → i < length (row_of flat slot.span)
    → slot.span.start + i < slot.span.end
place_inside flat slots k slot i w e lt =
    let here = w k slot e in
    let size : length (row_of flat slot.span) ≡ slot.span.end - slot.span.start = length_row flat slot.span here.0 here.1 in
    omega (arith, lt, size)

pub within_swapped : (flat : List Literal) (slots : List Slot) (a b : ℕ) → EndWithin flat slots → EndWithin (swap flat a b) slots
within_swapped flat slots a b w k slot e =
    let here = w k slot e in
    let size : length (swap flat a b) ≡ length flat = length-swap flat a b in
    let near : slot.span.end ≤ length flat = here.1 in
    (here.0, (let far : slot.span.end ≤ length (swap flat a b) = omega (arith, near, size) in far))

pub named_swapped : (flat : List Literal) (slots : List Slot) (k : ℕ) (slot : Slot) (i j : ℕ) → EndWithin flat slots → AreApart slots → slice_get slots k ≡ Some slot
    → i < length (row_of flat slot.span) → j < length (row_of flat slot.span) → AreNamed (rows_of (stored_of flat slots))
    → AreNamed (rows_of (stored_of (swap flat (slot.span.start + i) (slot.span.start + j)) slots))
named_swapped flat slots k slot i j w apart e lt_i lt_j named =
    let clauses = stored_of flat slots in
    let row = row_of flat slot.span in
    let later = swap row i j in
    subst (λ z. AreNamed (rows_of z)) (sym (stored_swapped flat slots k slot i j w apart e lt_i lt_j))
    (subst (λ z. AreNamed z) (sym (map-set (λ (c : StoredClause). c.literals) clauses k (record { literals = later; awake = slot.awake })))
    (λ n r f. elim (at_set (rows_of clauses) k later n r f) [
      | inl s ↦ named n r s.0
      | inr s ↦ subst (λ z. IsNamed z) s.1 (λ l h. named k row (row_there flat slots k slot e) l (sym (has-swap row i j l lt_i lt_j) ∙ h))
    ]))

-- a clause that is let go or deleted in the table

pub stored_asleep : (flat : List Literal) (slots : List Slot) (k : ℕ) (slot later : Slot) → slice_get slots k ≡ Some slot → later.span ≡ slot.span → later.awake ≡ false
    → stored_of flat (set slots k later) ≡ asleep (stored_of flat slots) k
stored_asleep flat slots k slot later e span awake =
    map-set (stored_at flat) slots k later
    ∙ (ap (λ z. set (stored_of flat slots) k (record { literals = row_of flat z; awake = later.awake })) span
    ∙ (ap (λ z. set (stored_of flat slots) k (record { literals = row_of flat slot.span; awake = z })) awake
    ∙ ap (λ z. asleep_at (stored_of flat slots) k z) (sym (stored_there flat slots k slot e))))

pub stored_deleted : (flat : List Literal) (slots : List Slot) (k : ℕ) (slot later : Slot) → slice_get slots k ≡ Some slot → later.span.end ≡ later.span.start → later.awake ≡ false
    → stored_of flat (set slots k later) ≡ deleted (stored_of flat slots) k
stored_deleted flat slots k slot later e empty awake =
    let none : later.span.end - later.span.start ≡ 0 = omega (arith, empty) in
    map-set (stored_at flat) slots k later
    ∙ (ap (λ n. set (stored_of flat slots) k (record { literals = take n (drop later.span.start flat); awake = later.awake })) none
    ∙ (ap (λ z. set (stored_of flat slots) k (record { literals = []; awake = z })) awake
    ∙ ap (λ z. deleted_at (stored_of flat slots) k z) (sym (stored_there flat slots k slot e))))

-- its span does not grow
pub record IsWithin (later slot : Span) : Type 0 where
  pub start : later.start ≡ slot.start
  pub order : later.start ≤ later.end
  pub end : later.end ≤ slot.end

shrunk_from : (slots : List Slot) (k : ℕ) (slot later : Slot) → slice_get slots k ≡ Some slot → IsWithin later.span slot.span → (j : ℕ) (other : Slot) → slice_get (set slots k later) j ≡ Some other
    → (was : Slot) × (slice_get slots j ≡ Some was) × (other.span.start ≡ was.span.start) × (other.span.end ≤ was.span.end)
shrunk_from slots k slot later e h j other f = elim (at_set slots k later j other f) [
  | inl s ↦ (other, s.0, refl, (omega arith))
  | inr s ↦ subst (λ (z : Slot). (was : Slot) × (slice_get slots j ≡ Some was) × (z.span.start ≡ was.span.start) × (z.span.end ≤ was.span.end)) s.1
      (slot, ap (slice_get slots) s.0 ∙ e, h.start, h.end)
]

pub AreApart-shrunk : (slots : List Slot) (k : ℕ) (slot later : Slot) → slice_get slots k ≡ Some slot → IsWithin later.span slot.span → AreApart slots → AreApart (set slots k later)
AreApart-shrunk slots k slot later e h apart i j a b lt f g =
    let x = shrunk_from slots k slot later e h i a f in
    let y = shrunk_from slots k slot later e h j b g in
    let between : x.0.span.end ≤ y.0.span.start = apart i j x.0 y.0 lt x.1 y.1 in
    let before : a.span.end ≤ x.0.span.end = x.3 in
    let behind : b.span.start ≡ y.0.span.start = y.2 in
    omega (arith, between, before, behind)

pub EndWithin-shrunk : (flat : List Literal) (slots : List Slot) (k : ℕ) (slot later : Slot) → slice_get slots k ≡ Some slot → IsWithin later.span slot.span → EndWithin flat slots
    → EndWithin flat (set slots k later)
EndWithin-shrunk flat slots k slot later e h w j other f = elim (at_set slots k later j other f) [
  | inl s ↦ w j other s.0
  | inr s ↦ (let far : slot.span.end ≤ length flat = (w k slot e).1 in let near : later.span.end ≤ slot.span.end = h.end in
      subst (λ (z : Slot). (z.span.start ≤ z.span.end) × (z.span.end ≤ length flat)) s.1 (h.order, (omega (arith, far, near))))
]

-- the rows of such clauses are named
pub named_asleep : (clauses : List StoredClause) (k : ℕ) → AreNamed (rows_of clauses) → AreNamed (rows_of (asleep clauses k))
named_asleep clauses k h = go (slice_get clauses k) refl
  where
    go : (found : Option StoredClause) → slice_get clauses k ≡ found → AreNamed (rows_of (asleep_at clauses k found))
    go None e = h
    go (Some c) e = subst (λ z. AreNamed z) (sym (map-set (λ (c : StoredClause). c.literals) clauses k (record c { awake = false }))) (λ n r f. elim (at_set (rows_of clauses) k c.literals n r f) [
      | inl s ↦ h n r s.0
      | inr s ↦ subst (λ z. IsNamed z) s.1 (h k c.literals (row_at clauses k c e))
    ])

pub named_deleted : (clauses : List StoredClause) (k : ℕ) → AreNamed (rows_of clauses) → AreNamed (rows_of (deleted clauses k))
named_deleted clauses k h = go (slice_get clauses k)
  where
    go : (found : Option StoredClause) → AreNamed (rows_of (deleted_at clauses k found))
    go None = h
    go (Some c) = subst (λ z. AreNamed z) (sym (map-set (λ (c : StoredClause). c.literals) clauses k (record { literals = []; awake = false }))) (λ n r f. elim (at_set (rows_of clauses) k [] n r f) [
      | inl s ↦ h n r s.0
      | inr s ↦ subst (λ z. IsNamed z) s.1 (λ l i. absurd (false≢true i))
    ])
