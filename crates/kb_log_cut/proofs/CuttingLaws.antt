-- What the entries that stay derive, by their new numbers.
use Rattle.std.proofs.Common.{◌≡◌, ℕ, ◌+◌, ◌-◌, ◌<◌, ◌≤◌, ◌==◌, nat_lt, List, [], ◌∷◌, ◌++◌, Bool, true, false, cond, arith, refl, ap, sym, ◌∙◌, inl, inr, subst, Option, Some, option_and_then, slice_get, fold, map, zero, suc, length, get_or, drop, add-one, drop-cons}
use Rattle.std.proofs.lemmas.Bool.{or_left, or_right, or_cases, false≢true, eq-eqb, eqb-true, cases_eq, cases_lt, cases_Bool, lt-ltb, le-ltb, ltb-true, cond-true, cond-false}
use Rattle.std.proofs.lemmas.Option.{option_and_then_some}
use Rattle.std.proofs.lemmas.List.{length_push, get_or_past}
use Rattle.std.specs.List.{list_any}
use Rattle.kb_chain.specs.Literal.{Literal}
use Rattle.kb_chain.specs.Clause.{resolvent_of}
use Rattle.kb_chain.specs.Chains.{resolved, entry_of, derived, IsRefutation}
use Rattle.kb_chain.specs.Index.{has_number}
use Rattle.kb_chain.specs.Needed.{cites, is_kept, AreClosed, IsNeeded}
use Rattle.kb_log_cut.specs.Cutting.{Marking, marked_before, number_among, step_with, renumbered, marked_entries, numbers_before, IsCut}
use Rattle.kb_chain.specs.declared.log.Chain.{Chain}
use Rattle.kb_chain.proofs.IndexLaws.{slice_get-kept, slice_get-last}
use Rattle.kb_chain.proofs.NeededLaws.{get_past, derived_length, needed_given}

-- lists and their numbers

get_behind : (xs : List (List Literal)) (y : List Literal) (k : ℕ) → k ≡ length xs → slice_get (xs ++ y ∷ []) k ≡ Some y
get_behind xs y k e = ap (slice_get (xs ++ y ∷ [])) e ∙ slice_get-last xs y

get_inside : (entries : List Chain) (k : ℕ) (entry : Chain) → slice_get entries k ≡ Some entry → k < length entries
get_inside [] k entry e = cc
get_inside (x ∷ xs) zero entry e = omega arith
get_inside (x ∷ xs) (suc k) entry e = let r = get_inside xs k entry e in omega (arith, r)

some_at : (xs : List (List Literal)) (k : ℕ) → k < length xs → (x : List Literal) × (slice_get xs k ≡ Some x)
some_at [] k lt = absurd (omega (arith, lt))
some_at (x ∷ xs) zero lt = (x, refl)
some_at (x ∷ xs) (suc k) lt = some_at xs k (omega (arith, lt))

get_front : (xs : List (List Literal)) (y : List Literal) (k : ℕ) → k < length xs → slice_get (xs ++ y ∷ []) k ≡ slice_get xs k
get_front xs y k lt = let at = some_at xs k lt in slice_get-kept xs y k at.0 at.1 ∙ sym at.1

kept_entry : (first i : ℕ) (marks : List Bool) → is_kept first marks (first + i) ≡ true → get_or marks i false ≡ true
kept_entry first i marks e = elim (or_cases (nat_lt (first + i) first) (get_or marks (first + i - first) false) e) [
  | inl s ↦ (let lt = ltb-true (first + i) first s in absurd (omega arith))
  | inr s ↦ (let k : first + i - first ≡ i = omega arith in ap (λ z. get_or marks z false) (sym k) ∙ s)
]

-- marks that come later count no less
marked_rises : (marks : List Bool) (i j : ℕ) → i ≤ j → marked_before marks i ≤ marked_before marks j
marked_rises marks i zero le = let e : i ≡ 0 = omega (arith, le) in subst (λ z. marked_before marks z ≤ 0) (sym e) (omega arith)
marked_rises marks i (suc j) le = elim (cases_eq i (suc j)) [
  | inl s ↦ subst (λ z. marked_before marks z ≤ marked_before marks (suc j)) (sym s) (omega arith)
  | inr n ↦ (let r : marked_before marks i ≤ marked_before marks j = marked_rises marks i j (omega (arith, le, n)) in omega (arith, r))
]

number_below : (m : Marking) (k : ℕ) → k < m.first → number_among m k ≡ k
number_below m k lt = cond-true (nat_lt k m.first) k (m.first + marked_before m.marks (k - m.first)) (lt-ltb k m.first lt)

number_behind : (m : Marking) (i : ℕ) → number_among m (m.first + i) ≡ m.first + marked_before m.marks i
number_behind m i =
    cond-false (nat_lt (m.first + i) m.first) (m.first + i) (m.first + marked_before m.marks (m.first + i - m.first)) (le-ltb (m.first + i) m.first (omega arith))
    ∙ ap (λ z. m.first + marked_before m.marks z) (let e : m.first + i - m.first ≡ i = omega arith in e)

-- a number that comes later is no less
number_past : (m : Marking) (i k : ℕ) → m.first + i ≤ k → m.first + marked_before m.marks i ≤ number_among m k
number_past m i k le =
    let e : m.first + (k - m.first) ≡ k = omega (arith, le) in
    let r : marked_before m.marks i ≤ marked_before m.marks (k - m.first) = marked_rises m.marks i (k - m.first) (omega (arith, le)) in
    let n : number_among m k ≡ m.first + marked_before m.marks (k - m.first) = ap (number_among m) (sym e) ∙ number_behind m (k - m.first) in
    omega (arith, r, n)

step_same : (xs ys : List (List Literal)) (number : ℕ → ℕ) (o : Option (List Literal)) (s : ℕ × ℕ) → slice_get ys (number s.1) ≡ slice_get xs s.1
    → resolved ys o (step_with number s) ≡ resolved xs o s
unfolding resolved
step_same xs ys number o s e = ap (λ (z : Option (List Literal)). option_and_then (λ clause. option_and_then (λ side. resolvent_of clause side s.0) z) o) e

steps_same : (xs ys : List (List Literal)) (number : ℕ → ℕ) (steps : List (ℕ × ℕ)) (o : Option (List Literal))
    → ((k : ℕ) → list_any (λ (s : ℕ × ℕ). s.1 == k) steps ≡ true → slice_get ys (number k) ≡ slice_get xs k)
    → fold (resolved ys) o (map (step_with number) steps) ≡ fold (resolved xs) o steps
steps_same xs ys number [] o h = refl
steps_same xs ys number (s ∷ ss) o h =
    ap (λ (z : Option (List Literal)). fold (resolved ys) z (map (step_with number) ss)) (step_same xs ys number o s (h s.1 (or_left _ _ (eq-eqb s.1 s.1 refl))))
    ∙ steps_same xs ys number ss (resolved xs o s) (λ k e. h k (or_right _ _ e))

-- a chain with other numbers gives what it gave, where the clauses that it cites have these numbers
pub renumbered_same : (xs ys : List (List Literal)) (number : ℕ → ℕ) (chain : Chain)
    → ((k : ℕ) → cites chain k ≡ true → slice_get ys (number k) ≡ slice_get xs k) → entry_of ys (renumbered number chain) ≡ entry_of xs chain
renumbered_same xs ys number chain h =
    ap (λ (z : Option (List Literal)). fold (resolved ys) z (map (step_with number) chain.steps)) (h chain.start (or_left _ _ (eq-eqb chain.start chain.start refl)))
    ∙ steps_same xs ys number chain.steps (slice_get xs chain.start) (λ k e. h k (or_right _ _ e))

-- the clauses that stay have their new numbers
abbrev pub HasMoved : Marking → List (List Literal) → List (List Literal) → Type 0
HasMoved m done kept = (k : ℕ) → k < length done → is_kept m.first m.marks k ≡ true → slice_get kept (number_among m k) ≡ slice_get done k

-- the marked ones of the entries from entry i on cite clauses that stay, as far as they stand before them
abbrev pub StaysClosed : Marking → ℕ → List Chain → Type 0
StaysClosed m i entries =
    (j : ℕ) (entry : Chain) → slice_get entries j ≡ Some entry → get_or m.marks (i + j) false ≡ true
    → (k : ℕ) → cites entry k ≡ true → k < m.first + (i + j) → is_kept m.first m.marks k ≡ true

-- what the marked entries from entry i on derive
pub record CutDerives (m : Marking) (i : ℕ) (entries : List Chain) (all kept : List (List Literal)) : Type 0 where
  pub clauses : List (List Literal)
  pub derives : derived kept (marked_entries m i entries) ≡ Some clauses
  pub moved : HasMoved m all clauses
  pub count : length clauses ≡ m.first + marked_before m.marks (i + length entries)

-- one more clause that stays
moved_more : (m : Marking) (i : ℕ) (done kept : List (List Literal)) (clause : List Literal) → length done ≡ m.first + i → length kept ≡ m.first + marked_before m.marks i
    → HasMoved m done kept → HasMoved m (done ++ clause ∷ []) (kept ++ clause ∷ [])
moved_more m i done kept clause size few moved k lt stays = elim (cases_eq k (m.first + i)) [
  | inl s ↦ get_behind kept clause (number_among m k) (ap (number_among m) s ∙ (number_behind m i ∙ sym few)) ∙ sym (get_behind done clause k (s ∙ sym size))
  | inr n ↦
      (let more = length_push done clause in
      let below : k < length done = omega (arith, n, lt, more, size) in
      let at = some_at done k below in
      slice_get-kept kept clause (number_among m k) at.0 (moved k below stays ∙ at.1) ∙ sym (get_front done clause k below ∙ at.1))
]

-- one more clause that goes
moved_skip : (m : Marking) (i : ℕ) (done kept : List (List Literal)) (clause : List Literal) → length done ≡ m.first + i → get_or m.marks i false ≡ false
    → HasMoved m done kept → HasMoved m (done ++ clause ∷ []) kept
moved_skip m i done kept clause size unmarked moved k lt stays = elim (cases_eq k (m.first + i)) [
  | inl s ↦ absurd (false≢true (sym unmarked ∙ kept_entry m.first i m.marks (ap (is_kept m.first m.marks) (sym s) ∙ stays)))
  | inr n ↦
      (let more = length_push done clause in
      let below : k < length done = omega (arith, n, lt, more, size) in
      moved k below stays ∙ sym (get_front done clause k below))
]

-- what a marked entry cites has its new number, or is nowhere
cited_moved : (m : Marking) (i : ℕ) (done kept : List (List Literal)) (entry : Chain) → length done ≡ m.first + i → length kept ≡ m.first + marked_before m.marks i
    → HasMoved m done kept → ((k : ℕ) → cites entry k ≡ true → k < m.first + i → is_kept m.first m.marks k ≡ true)
    → (k : ℕ) → cites entry k ≡ true → slice_get kept (number_among m k) ≡ slice_get done k
cited_moved m i done kept entry size few moved closed k c = elim (cases_lt k (m.first + i)) [
  | inl lt ↦ moved k (omega (arith, size, lt)) (closed k c lt)
  | inr ge ↦
      (let past : m.first + marked_before m.marks i ≤ number_among m k = number_past m i k ge in
      get_past kept (number_among m k) (omega (arith, few, past)) ∙ sym (get_past done k (omega (arith, size, ge))))
]

closed_later : (m : Marking) (i : ℕ) (entry : Chain) (entries : List Chain) → StaysClosed m i (entry ∷ entries) → StaysClosed m (suc i) entries
closed_later m i entry entries closed j later at marked k c lt =
    let e : suc i + j ≡ i + suc j = omega arith in
    closed (suc j) later at (ap (λ z. get_or m.marks z false) (sym e) ∙ marked) k c (omega (arith, lt))

closed_now : (m : Marking) (i : ℕ) (entry : Chain) (entries : List Chain) → StaysClosed m i (entry ∷ entries) → get_or m.marks i false ≡ true
    → (k : ℕ) → cites entry k ≡ true → k < m.first + i → is_kept m.first m.marks k ≡ true
closed_now m i entry entries closed marked k c lt =
    let e : i + 0 ≡ i = omega arith in
    closed 0 entry refl (ap (λ z. get_or m.marks z false) e ∙ marked) k c (omega (arith, lt))

cut_marked : (m : Marking) (i : ℕ) (entry : Chain) (entries : List Chain) (all kept : List (List Literal)) (clause : List Literal) → get_or m.marks i false ≡ true
    → entry_of kept (renumbered (number_among m) entry) ≡ Some clause → CutDerives m (suc i) entries all (kept ++ clause ∷ []) → CutDerives m i (entry ∷ entries) all kept
cut_marked m i entry entries all kept clause marked new r = record {
  clauses = r.clauses;
  derives = ap (λ b. derived kept (cond b (renumbered (number_among m) entry ∷ marked_entries m (suc i) entries) (marked_entries m (suc i) entries))) marked
      ∙ (ap (λ (o : Option (List Literal)). option_and_then (λ c. derived (kept ++ c ∷ []) (marked_entries m (suc i) entries)) o) new ∙ r.derives);
  moved = r.moved;
  count = r.count ∙ ap (λ z. m.first + marked_before m.marks z) (let e : suc i + length entries ≡ i + suc (length entries) = omega arith in e);
}

cut_skipped : (m : Marking) (i : ℕ) (entry : Chain) (entries : List Chain) (all kept : List (List Literal)) → get_or m.marks i false ≡ false
    → CutDerives m (suc i) entries all kept → CutDerives m i (entry ∷ entries) all kept
cut_skipped m i entry entries all kept unmarked r = record {
  clauses = r.clauses;
  derives = ap (λ b. derived kept (cond b (renumbered (number_among m) entry ∷ marked_entries m (suc i) entries) (marked_entries m (suc i) entries))) unmarked ∙ r.derives;
  moved = r.moved;
  count = r.count ∙ ap (λ z. m.first + marked_before m.marks z) (let e : suc i + length entries ≡ i + suc (length entries) = omega arith in e);
}

pub cut_derives : (entries : List Chain) (m : Marking) (i : ℕ) (done all kept : List (List Literal)) → derived done entries ≡ Some all → length done ≡ m.first + i
    → length kept ≡ m.first + marked_before m.marks i → HasMoved m done kept → StaysClosed m i entries → CutDerives m i entries all kept
cut_derives [] m i done all kept h size few moved closed =
    let s : done ≡ all = cc in record {
      clauses = kept;
      derives = refl;
      moved = subst (λ z. HasMoved m z kept) s moved;
      count = few ∙ ap (λ z. m.first + marked_before m.marks z) (let e : i ≡ i + 0 = omega arith in e);
    }
cut_derives (entry ∷ entries) m i done all kept h size few moved closed =
    option_and_then_some (λ clause. derived (done ++ clause ∷ []) entries) (entry_of done entry) all h
    (λ clause f g. (let more = length_push done clause in
    let size_more : length (done ++ clause ∷ []) ≡ m.first + suc i = omega (arith, more, size) in
    elim (cases_Bool (get_or m.marks i false)) [
      | inl t ↦ cut_marked m i entry entries all kept clause t
          (renumbered_same done kept (number_among m) entry (cited_moved m i done kept entry size few moved (closed_now m i entry entries closed t)) ∙ f)
          (cut_derives entries m (suc i) (done ++ clause ∷ []) all (kept ++ clause ∷ []) g size_more
          (length_push kept clause ∙ counted_more m i (length kept) few t)
          (moved_more m i done kept clause size few moved) (closed_later m i entry entries closed))
      | inr n ↦ cut_skipped m i entry entries all kept n
          (cut_derives entries m (suc i) (done ++ clause ∷ []) all kept g size_more (counted_same m i (length kept) few n)
          (moved_skip m i done kept clause size n moved) (closed_later m i entry entries closed))
    ]))
  where
    counted_more : (m : Marking) (i size : ℕ) → size ≡ m.first + marked_before m.marks i → get_or m.marks i false ≡ true → size + 1 ≡ m.first + marked_before m.marks (suc i)
    counted_more m i size e t =
        let more : marked_before m.marks (suc i) ≡ marked_before m.marks i + 1 = ap (λ b. marked_before m.marks i + cond b 1 0) t in
        omega (arith, e, more)

    counted_same : (m : Marking) (i size : ℕ) → size ≡ m.first + marked_before m.marks i → get_or m.marks i false ≡ false → size ≡ m.first + marked_before m.marks (suc i)
    counted_same m i size e n =
        let more : marked_before m.marks (suc i) ≡ marked_before m.marks i + 0 = ap (λ b. marked_before m.marks i + cond b 1 0) n in
        omega (arith, e, more)

-- the last clause of a list
ends_in : (xs : List (List Literal)) (y : List Literal) (k : ℕ) → slice_get xs k ≡ Some y → length xs ≡ suc k → (front : List (List Literal)) × (xs ≡ front ++ y ∷ [])
ends_in [] y k e n = absurd (omega (arith, n))
ends_in (x ∷ []) y zero e n = let s : x ≡ y = cc in ([], ap (λ z. z ∷ []) s)
ends_in (x ∷ z ∷ zs) y zero e n = absurd (omega (arith, n))
ends_in (x ∷ xs) y (suc k) e n = let r = ends_in xs y k e (omega (arith, n)) in (x ∷ r.0, ap (λ z. x ∷ z) r.1)

-- the marks of what is needed are closed
needed_closed : (first : ℕ) (entries cut : List Chain) (h : IsCut first entries cut) → StaysClosed (record { first = first; marks = h.marks }) 0 entries
needed_closed first entries cut h j entry at marked k c lt = elim (cases_lt k first) [
  | inl below ↦ or_left _ _ (lt-ltb k first below)
  | inr ge ↦
      (let inside : j < length entries = get_inside entries j entry at in
      let e : first + (k - first) ≡ k = omega (arith, ge) in
      or_right (nat_lt k first) _ (h.needed (k - first) (omega (arith, lt, ge, inside)) (λ set given closed.
      closed j entry at (h.only j (ap (λ z. get_or h.marks z false) (let z : j ≡ 0 + j = omega arith in z) ∙ marked) set given closed) (first + (k - first)) (ap (cites entry) e ∙ c) (omega (arith, e, lt)))))
]

-- what is left of a refutation is one
pub refutation_cut : (clauses : List (List Literal)) (entries cut : List Chain) → IsCut (length clauses) entries cut → IsRefutation clauses entries → IsRefutation clauses cut
refutation_cut clauses entries cut h r =
    let m : Marking = record { first = length clauses; marks = h.marks } in
    let last = length entries - 1 in
    let some : suc last ≡ length entries = omega (arith, r.entry) in
    let marked : get_or h.marks last false ≡ true =
    h.needed last (omega (arith, some)) (needed_given (length clauses) entries ((length clauses + last) ∷ []) (length clauses + last)
    (or_left _ _ (eq-eqb (length clauses + last) (length clauses + last) refl))) in
    let e = cut_derives entries m 0 clauses (r.last.0 ++ [] ∷ []) clauses r.last.1 (omega arith) (omega arith)
    (λ k lt stays. ap (slice_get clauses) (number_below m k lt)) (needed_closed (length clauses) entries cut h) in
    let size = derived_length entries clauses (r.last.0 ++ [] ∷ []) r.last.1 in
    let more = length_push r.last.0 [] in
    let ends : slice_get (r.last.0 ++ [] ∷ []) (length clauses + last) ≡ Some [] = get_behind r.last.0 [] (length clauses + last) (omega (arith, size, more, some)) in
    let counted : marked_before h.marks (suc last) ≡ marked_before h.marks last + 1 = ap (λ b. marked_before h.marks last + cond b 1 0) marked in
    let whole : marked_before h.marks (0 + length entries) ≡ marked_before h.marks (suc last) = ap (marked_before h.marks) (let s : 0 + length entries ≡ suc last = omega (arith, some) in s) in
    let count : length e.clauses ≡ suc (length clauses + marked_before h.marks last) = (let s = e.count in omega (arith, s, whole, counted)) in
    let at : slice_get e.clauses (length clauses + marked_before h.marks last) ≡ Some [] =
    ap (slice_get e.clauses) (sym (number_behind m last))
    ∙ (e.moved (length clauses + last) (omega (arith, size, some)) (or_right (nat_lt (length clauses + last) (length clauses)) _
    (ap (λ z. get_or h.marks z false) (let s : length clauses + last - length clauses ≡ last = omega arith in s) ∙ marked)) ∙ ends) in
    let front = ends_in e.clauses [] (length clauses + marked_before h.marks last) at count in
    let long = derived_length (marked_entries m 0 entries) clauses e.clauses e.derives in
    subst (λ z. IsRefutation clauses z) (sym h.shape) (record {
      entry = omega (arith, long, count);
      last = (front.0, e.derives ∙ ap Some front.1);
    })

marked_shorter : (m : Marking) (i : ℕ) (entries : List Chain) → length (marked_entries m i entries) ≤ length entries
marked_shorter m i [] = omega arith
marked_shorter m i (entry ∷ entries) =
    let r : length (marked_entries m (suc i) entries) ≤ length entries = marked_shorter m (suc i) entries in
    elim (cases_Bool (get_or m.marks i false)) [
      | inl t ↦ (let e = ap (λ b. length (cond b (renumbered (number_among m) entry ∷ marked_entries m (suc i) entries) (marked_entries m (suc i) entries))) t in omega (arith, e, r))
      | inr n ↦ (let e = ap (λ b. length (cond b (renumbered (number_among m) entry ∷ marked_entries m (suc i) entries) (marked_entries m (suc i) entries))) n in omega (arith, e, r))
    ]

pub cut_shorter : (first : ℕ) (entries cut : List Chain) → IsCut first entries cut → length cut ≤ length entries
cut_shorter first entries cut h =
    let e = ap length h.shape in
    let r = marked_shorter (record { first = first; marks = h.marks }) 0 entries in
    omega (arith, e, r)

-- how the numbers are read from their table

marked_past : (marks : List Bool) (i : ℕ) → length marks ≤ i → marked_before marks i ≡ marked_before marks (length marks)
marked_past marks zero le = ap (marked_before marks) (let e : 0 ≡ length marks = omega (arith, le) in e)
marked_past marks (suc i) le = elim (cases_eq (length marks) (suc i)) [
  | inl s ↦ ap (marked_before marks) (sym s)
  | inr n ↦
      (let below : length marks ≤ i = omega (arith, le, n) in
      let none : get_or marks i false ≡ false = get_or_past marks i false below in
      let more : marked_before marks (suc i) ≡ marked_before marks i + 0 = ap (λ b. marked_before marks i + cond b 1 0) none in
      let same = marked_past marks i below in
      omega (arith, more, same))
]

pub numbers_length : (m : Marking) (n : ℕ) → length (numbers_before m n) ≡ n
numbers_length m zero = refl
numbers_length m (suc n) =
    let more = length_push (numbers_before m n) (m.first + marked_before m.marks n) in
    let r = numbers_length m n in omega (arith, more, r)

numbers_at : (m : Marking) (n i d : ℕ) → i < n → get_or (numbers_before m n) i d ≡ m.first + marked_before m.marks i
numbers_at m zero i d lt = absurd (omega (arith, lt))
numbers_at m (suc n) i d lt = elim (cases_eq i n) [
  | inl s ↦ ap (λ z. get_or (numbers_before m n ++ (m.first + marked_before m.marks n) ∷ []) z d) s
      ∙ (at_end (numbers_before m n) n (m.first + marked_before m.marks n) (numbers_length m n) ∙ ap (λ z. m.first + marked_before m.marks z) (sym s))
  | inr o ↦ front (numbers_before m n) ((m.first + marked_before m.marks n) ∷ []) i (let size = numbers_length m n in omega (arith, lt, o, size))
      ∙ numbers_at m n i d (omega (arith, lt, o))
]
  where
    at_end : (xs : List ℕ) (k x : ℕ) → length xs ≡ k → get_or (xs ++ x ∷ []) k d ≡ x
    at_end [] zero x e = refl
    at_end [] (suc k) x e = absurd (omega (arith, e))
    at_end (y ∷ ys) zero x e = absurd (omega (arith, e))
    at_end (y ∷ ys) (suc k) x e = at_end ys k x (omega (arith, e))

    front : (xs ys : List ℕ) (k : ℕ) → k < length xs → get_or (xs ++ ys) k d ≡ get_or xs k d
    front [] ys k lt = absurd (omega (arith, lt))
    front (x ∷ xs) ys zero lt = refl
    front (x ∷ xs) ys (suc k) lt = front xs ys k (omega (arith, lt))

number_from : (m : Marking) (number : ℕ) → m.first ≤ number → number_among m number ≡ m.first + marked_before m.marks (number - m.first)
number_from m number le =
    let e : m.first + (number - m.first) ≡ number = omega (arith, le) in
    ap (number_among m) (sym e) ∙ number_behind m (number - m.first)

pub number_read : (m : Marking) (items : List ℕ) (number x : ℕ) → items ≡ numbers_before m (length m.marks + 1) → m.first ≤ number → number - m.first < length m.marks
    → x ≡ get_or items (number - m.first) x → x ≡ number_among m number
number_read m items number x same le lt read =
    read ∙ (ap (λ z. get_or z (number - m.first) x) same
    ∙ (numbers_at m (length m.marks + 1) (number - m.first) x (omega (arith, lt)) ∙ sym (number_from m number le)))

pub number_read_past : (m : Marking) (items : List ℕ) (number x : ℕ) → items ≡ numbers_before m (length m.marks + 1) → m.first ≤ number → length m.marks ≤ number - m.first
    → x ≡ get_or items (length m.marks) x → x ≡ number_among m number
number_read_past m items number x same le ge read =
    read ∙ (ap (λ z. get_or z (length m.marks) x) same
    ∙ (numbers_at m (length m.marks + 1) (length m.marks) x (omega arith)
    ∙ (ap (λ z. m.first + z) (sym (marked_past m.marks (number - m.first) ge)) ∙ sym (number_from m number le))))

-- how the marked entries are put together

push_front : (xs : List Chain) (y : Chain) (ys : List Chain) → (xs ++ y ∷ []) ++ ys ≡ xs ++ (y ∷ ys)
push_front [] y ys = refl
push_front (x ∷ xs) y ys = ap (λ z. x ∷ z) (push_front xs y ys)

rest_of : (m : Marking) (i : ℕ) (entries : List Chain) (d : Chain) → i < length entries
    → marked_entries m i (drop i entries)
    ≡ cond (get_or m.marks i false) (renumbered (number_among m) (get_or entries i d) ∷ marked_entries m (suc i) (drop (suc i) entries)) (marked_entries m (suc i) (drop (suc i) entries))
rest_of m i entries d lt = ap (marked_entries m i) (drop-cons entries i d lt)

pub marked_more : (m : Marking) (i : ℕ) (entries kept : List Chain) (d : Chain) → i < length entries → get_or m.marks i false ≡ true
    → (kept ++ renumbered (number_among m) (get_or entries i d) ∷ []) ++ marked_entries m (i + 1) (drop (i + 1) entries) ≡ kept ++ marked_entries m i (drop i entries)
marked_more m i entries kept d lt marked =
    ap (λ k. (kept ++ renumbered (number_among m) (get_or entries i d) ∷ []) ++ marked_entries m k (drop k entries)) (add-one i)
    ∙ (push_front kept (renumbered (number_among m) (get_or entries i d)) (marked_entries m (suc i) (drop (suc i) entries))
    ∙ ap (λ z. kept ++ z) (sym (rest_of m i entries d lt ∙ cond-true (get_or m.marks i false) _ _ marked)))

pub marked_less : (m : Marking) (i : ℕ) (entries kept : List Chain) (d : Chain) → i < length entries → get_or m.marks i false ≡ false
    → kept ++ marked_entries m (i + 1) (drop (i + 1) entries) ≡ kept ++ marked_entries m i (drop i entries)
marked_less m i entries kept d lt unmarked =
    ap (λ k. kept ++ marked_entries m k (drop k entries)) (add-one i)
    ∙ ap (λ z. kept ++ z) (sym (rest_of m i entries d lt ∙ cond-false (get_or m.marks i false) _ _ unmarked))

-- the marks of what the last entry needs
pub cut_is : (first : ℕ) (entries cut : List Chain) (marks : List Bool) (last : ℕ) → last ≡ first + (length entries - 1) → length marks ≡ length entries
    → (last < first + length entries → is_kept first marks last ≡ true)
    → AreClosed first entries marks 0
    → ((i : ℕ) → get_or marks i false ≡ true → IsNeeded first entries (last ∷ []) (first + i))
    → cut ≡ marked_entries (record { first = first; marks = marks }) 0 entries → IsCut first entries cut
cut_is first entries cut marks last is table marked closed only shape = record {
  marks = marks;
  table = table;
  needed = λ i lt n. kept_entry first i marks (n (is_kept first marks)
      (λ k e. (let s : last ≡ k = is ∙ asked k e in ap (is_kept first marks) (sym s) ∙ marked (omega (arith, is, lt))))
      (λ j entry at kept k c below. closed j entry (omega arith) at (kept_entry first j marks kept) k c below));
  only = λ i m. subst (λ z. IsNeeded first entries (z ∷ []) (first + i)) is (only i m);
  shape = shape;
}
  where
    asked : (k : ℕ) → has_number ((first + (length entries - 1)) ∷ []) k ≡ true → first + (length entries - 1) ≡ k
    asked k e = elim (or_cases (first + (length entries - 1) == k) false e) [ inl t ↦ eqb-true (first + (length entries - 1)) k t | inr t ↦ absurd (false≢true t) ]
