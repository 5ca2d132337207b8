-- A clause kept by marks in a table.
use Rattle.std.proofs.Common.{◌≡◌, ℕ, ◌+◌, ◌<◌, List, [], ◌∷◌, ◌++◌, Bool, true, false, not, ◌&&◌, ◌||◌, arith, refl, ap, sym, ◌∙◌, inl, inr, length, get_or, set, get_or-set_same, get_or-set_other, ◌≢◌, take, ◌==◌, Some, None}
use Rattle.std.proofs.Math.Seq.{take-append_seam}
use Rattle.std.proofs.lemmas.Bool.{and_from, or_left, or_right, cases_Bool, eqb-false, eq-eqb, false≢true, cases_eq, ne_eqb, cond-true}
use Rattle.std.specs.List.{filter}
use Rattle.kb_chain.specs.Literal.{Literal, literal, place_of, same, has}
use Rattle.kb_chain.specs.Clause.{IsOrdered, with_literal, clause_of, without, are_opposite, resolvent_of}
use Rattle.kb_chain.specs.Working.{marked, AreTouched}
use Rattle.kb_chain.proofs.LiteralLaws.{same-true, has-filter, has-append}
use Rattle.kb_chain.proofs.OrderLaws.{same_members, has-clause_of, IsOrdered-clause_of, has-with_literal, IsOrdered-with_literal, IsOrdered-filter, has_take-suc, clause_of_is}

and_absorbed : (a b : Bool) → (b ≡ true → a ≡ true) → (a && b) ≡ b
and_absorbed true b f = refl
and_absorbed false true f = f refl
and_absorbed false false f = refl

-- the clause that marks and touched literals stand for
abbrev pub shown : List Bool → List Literal → List Literal
shown marks touched = clause_of (filter (marked marks) touched)

pub has-shown : (marks : List Bool) (touched : List Literal) → AreTouched marks touched → (l : Literal) → has (shown marks touched) l ≡ marked marks l
has-shown marks touched h l =
    has-clause_of (filter (marked marks) touched) l
    ∙ (has-filter (marked marks) touched l ∙ and_absorbed (has touched l) (marked marks l) (h l))

pub marked-set_same : (marks : List Bool) (l : Literal) (b : Bool) → place_of l < length marks → marked (set marks (place_of l) b) l ≡ b
marked-set_same marks l b h = get_or-set_same marks (place_of l) b false h

pub marked-set_other : (marks : List Bool) (l m : Literal) (b : Bool) → same m l ≡ false → marked (set marks (place_of l) b) m ≡ marked marks m
marked-set_other marks l m b e =
    let ne : place_of m ≢ place_of l = eqb-false (place_of m) (place_of l) e in get_or-set_other marks (place_of l) (place_of m) b false ne

touched-insert : (marks : List Bool) (touched : List Literal) (l : Literal) → AreTouched marks touched
    → AreTouched (set marks (place_of l) true) (touched ++ l ∷ [])
touched-insert marks touched l h m e =
    has-append touched (l ∷ []) m ∙ elim (cases_Bool (same m l)) [
      | inl s ↦ or_right _ _ (or_left _ _ s)
      | inr s ↦ or_left _ _ (h m (sym (marked-set_other marks l m true s) ∙ e))
    ]

-- the mark of m, where l is marked
marked-insert : (marks : List Bool) (l m : Literal) → place_of l < length marks → marked (set marks (place_of l) true) m ≡ (same m l || marked marks m)
marked-insert marks l m lt = elim (cases_Bool (same m l)) [
  | inl s ↦ ap (λ z. marked (set marks (place_of l) true) z) (same-true m l s) ∙ (marked-set_same marks l true lt ∙ sym (or_left _ _ s))
  | inr s ↦ marked-set_other marks l m true s ∙ sym (ap (λ b. b || marked marks m) s)
]

pub shown-insert : (marks : List Bool) (touched : List Literal) (l : Literal) → AreTouched marks touched → place_of l < length marks
    → shown (set marks (place_of l) true) (touched ++ l ∷ []) ≡ with_literal l (shown marks touched)
shown-insert marks touched l h lt =
    same_members (shown (set marks (place_of l) true) (touched ++ l ∷ [])) (with_literal l (shown marks touched))
    (IsOrdered-clause_of (filter (marked (set marks (place_of l) true)) (touched ++ l ∷ [])))
    (IsOrdered-with_literal l (shown marks touched) (IsOrdered-clause_of (filter (marked marks) touched)))
    (λ m. has-shown (set marks (place_of l) true) (touched ++ l ∷ []) (touched-insert marks touched l h) m
    ∙ (marked-insert marks l m lt
    ∙ sym (has-with_literal l (shown marks touched) m ∙ ap (λ b. same m l || b) (has-shown marks touched h m))))

or_idle : (a b : Bool) → (a ≡ true → b ≡ true) → (a || b) ≡ b
or_idle true b f = sym (f refl)
or_idle false b f = refl

-- a literal that is there already changes nothing
pub shown-known : (marks : List Bool) (touched : List Literal) (l : Literal) → AreTouched marks touched → marked marks l ≡ true
    → shown marks touched ≡ with_literal l (shown marks touched)
shown-known marks touched l h e =
    same_members (shown marks touched) (with_literal l (shown marks touched)) (IsOrdered-clause_of (filter (marked marks) touched))
    (IsOrdered-with_literal l (shown marks touched) (IsOrdered-clause_of (filter (marked marks) touched)))
    (λ m. sym (has-with_literal l (shown marks touched) m
    ∙ or_idle (same m l) (has (shown marks touched) m)
    (λ s. ap (λ z. has (shown marks touched) z) (same-true m l s) ∙ (has-shown marks touched h l ∙ e))))

touched-remove : (marks : List Bool) (touched : List Literal) (l : Literal) → place_of l < length marks → AreTouched marks touched
    → AreTouched (set marks (place_of l) false) touched
touched-remove marks touched l lt h m e = elim (cases_Bool (same m l)) [
  | inl s ↦ absurd (false≢true (sym (ap (λ z. marked (set marks (place_of l) false) z) (same-true m l s) ∙ marked-set_same marks l false lt) ∙ e))
  | inr s ↦ h m (sym (marked-set_other marks l m false s) ∙ e)
]

marked-remove : (marks : List Bool) (l m : Literal) → place_of l < length marks → marked (set marks (place_of l) false) m ≡ (marked marks m && not (same m l))
marked-remove marks l m lt = elim (cases_Bool (same m l)) [
  | inl s ↦ ap (λ z. marked (set marks (place_of l) false) z) (same-true m l s) ∙ (marked-set_same marks l false lt ∙ sym (and_false (marked marks m) (same m l) s))
  | inr s ↦ marked-set_other marks l m false s ∙ sym (and_kept (marked marks m) (same m l) s)
]
  where
    and_false : (a b : Bool) → b ≡ true → (a && not b) ≡ false
    and_false true b e = ap not e
    and_false false b e = refl

    and_kept : (a b : Bool) → b ≡ false → (a && not b) ≡ a
    and_kept true b e = ap not e
    and_kept false b e = refl

pub shown-remove : (marks : List Bool) (touched : List Literal) (l : Literal) → AreTouched marks touched → place_of l < length marks
    → shown (set marks (place_of l) false) touched ≡ filter (λ m. not (same m l)) (shown marks touched)
shown-remove marks touched l h lt =
    same_members (shown (set marks (place_of l) false) touched) (filter (λ m. not (same m l)) (shown marks touched))
    (IsOrdered-clause_of (filter (marked (set marks (place_of l) false)) touched))
    (IsOrdered-filter (λ m. not (same m l)) (shown marks touched) (IsOrdered-clause_of (filter (marked marks) touched)))
    (λ m. has-shown (set marks (place_of l) false) touched (touched-remove marks touched l lt h) m
    ∙ (marked-remove marks l m lt
    ∙ sym (has-filter (λ m. not (same m l)) (shown marks touched) m ∙ ap (λ b. b && not (same m l)) (has-shown marks touched h m))))

-- a literal that is not there has nothing to be taken out
pub shown-absent : (marks : List Bool) (touched : List Literal) (l : Literal) → AreTouched marks touched → marked marks l ≡ false
    → shown marks touched ≡ filter (λ m. not (same m l)) (shown marks touched)
shown-absent marks touched l h e =
    same_members (shown marks touched) (filter (λ m. not (same m l)) (shown marks touched)) (IsOrdered-clause_of (filter (marked marks) touched))
    (IsOrdered-filter (λ m. not (same m l)) (shown marks touched) (IsOrdered-clause_of (filter (marked marks) touched)))
    (λ m. sym (has-filter (λ m. not (same m l)) (shown marks touched) m
    ∙ kept (has (shown marks touched) m) (same m l)
    (λ s. ap (λ z. has (shown marks touched) z) (same-true m l s) ∙ (has-shown marks touched h l ∙ e))))
  where
    kept : (a b : Bool) → (b ≡ true → a ≡ false) → (a && not b) ≡ a
    kept true true f = sym (f refl)
    kept true false f = refl
    kept false b f = refl

-- once more literals have lost their marks
pub unmarked_more : (a old known : Bool) (s : Bool) (new : Bool) → a ≡ (old && not known) → (s ≡ true → new ≡ false) → (s ≡ false → new ≡ a)
    → new ≡ (old && not (known || s))
unmarked_more a old true true new e f g = f refl ∙ sym (none old)
  where
    none : (b : Bool) → (b && false) ≡ false
    none true = refl
    none false = refl
unmarked_more a old true false new e f g = g refl ∙ e
unmarked_more a old false true new e f g = f refl ∙ sym (none old)
  where
    none : (b : Bool) → (b && false) ≡ false
    none true = refl
    none false = refl
unmarked_more a old false false new e f g = g refl ∙ e

pub take_marks : (n : ℕ) (xs ys : List Bool) → n ≡ length xs → take n (xs ++ ys) ≡ xs
take_marks n xs ys e = ap (λ k. take k (xs ++ ys)) e ∙ take-append_seam xs ys

more_kept : (h t n s c : Bool) → c ≡ (h || (t && n)) → (s ≡ true → n ≡ true) → (s || c) ≡ (h || ((t || s) && n))
more_kept h t n true c e f = sym (ap (λ z. h || ((t || true) && z)) (f refl) ∙ all h t)
  where
    all : (h t : Bool) → (h || ((t || true) && true)) ≡ true
    all true t = refl
    all false true = refl
    all false false = refl
more_kept h true n false c e f = e
more_kept h false n false c e f = e

more_skipped : (h t n s c : Bool) → c ≡ (h || (t && n)) → (s ≡ true → n ≡ false) → c ≡ (h || ((t || s) && n))
more_skipped h true n s c e f = e
more_skipped h false n true c e f = e ∙ ap (λ z. h || z) (sym (f refl))
more_skipped h false n false c e f = e

-- one more literal of a list is put into a clause, or left out since it is the pivot's
module _ (start clause xs : List Literal) (pivot i : ℕ) (d : Literal) (lt : i < length xs)
    (members : (m : Literal) → has clause m ≡ (has start m || (has (take i xs) m && not (m.variable == pivot)))) where
  pub members_kept : ((get_or xs i d).variable == pivot) ≡ false → (m : Literal)
      → has (with_literal (get_or xs i d) clause) m ≡ (has start m || (has (take (i + 1) xs) m && not (m.variable == pivot)))
  members_kept e m =
      has-with_literal (get_or xs i d) clause m
      ∙ (more_kept (has start m) (has (take i xs) m) (not (m.variable == pivot)) (same m (get_or xs i d)) (has clause m) (members m)
      (λ s. ap (λ z. not (z.variable == pivot)) (same-true m (get_or xs i d) s) ∙ ap not e)
      ∙ ap (λ b. has start m || (b && not (m.variable == pivot))) (sym (has_take-suc xs i d m lt)))

  pub members_skipped : ((get_or xs i d).variable == pivot) ≡ true → (m : Literal)
      → has clause m ≡ (has start m || (has (take (i + 1) xs) m && not (m.variable == pivot)))
  members_skipped e m =
      more_skipped (has start m) (has (take i xs) m) (not (m.variable == pivot)) (same m (get_or xs i d)) (has clause m) (members m)
      (λ s. ap (λ z. not (z.variable == pivot)) (same-true m (get_or xs i d) s) ∙ ap not e)
      ∙ ap (λ b. has start m || (b && not (m.variable == pivot))) (sym (has_take-suc xs i d m lt))

-- a literal of another variable is neither of the pivot's
variable_signs : (l : Literal) (pivot : ℕ) → (not (same l (literal pivot true)) && not (same l (literal pivot false))) ≡ not (l.variable == pivot)
variable_signs l pivot = go l.variable l.positive
  where
    not_both : (a b : Bool) → a ≡ false → b ≡ false → (not a && not b) ≡ true
    not_both a b e f = and_from _ _ (ap not e) (ap not f)

    go : (v : ℕ) (p : Bool) → (not (same (literal v p) (literal pivot true)) && not (same (literal v p) (literal pivot false))) ≡ not (v == pivot)
    go v true = elim (cases_eq v pivot) [
      | inl e ↦ ap (λ b. not b && not (same (literal v true) (literal pivot false))) (eq-eqb (place_of (literal v true)) (place_of (literal pivot true)) (omega arith)) ∙ sym (ap not (eq-eqb v pivot e))
      | inr n ↦ not_both _ _ (ne_eqb (place_of (literal v true)) (place_of (literal pivot true)) (λ k. n (omega arith)))
          (ne_eqb (place_of (literal v true)) (place_of (literal pivot false)) (λ k. absurd (omega arith))) ∙ sym (ap not (ne_eqb v pivot n))
    ]
    go v false = elim (cases_eq v pivot) [
      | inl e ↦ ap (λ b. not (same (literal v false) (literal pivot true)) && not b) (eq-eqb (place_of (literal v false)) (place_of (literal pivot false)) (omega arith))
          ∙ (and_no (not (same (literal v false) (literal pivot true))) ∙ sym (ap not (eq-eqb v pivot e)))
      | inr n ↦ not_both _ _ (ne_eqb (place_of (literal v false)) (place_of (literal pivot true)) (λ k. absurd (omega arith)))
          (ne_eqb (place_of (literal v false)) (place_of (literal pivot false)) (λ k. n (omega arith))) ∙ sym (ap not (ne_eqb v pivot n))
    ]
      where
        and_no : (b : Bool) → (b && false) ≡ false
        and_no true = refl
        and_no false = refl

and_or : (a b n : Bool) → ((a && n) || (b && n)) ≡ ((a || b) && n)
and_or true b true = refl
and_or false b true = refl
and_or true true false = refl
and_or true false false = refl
and_or false true false = refl
and_or false false false = refl

-- without the pivot's literals, and then with the other clause's
pub resolved_is : (left side new : List Literal) (pivot : ℕ) → are_opposite left side pivot ≡ true → IsOrdered new
    → ((l : Literal) → has new l ≡ (has (filter (λ m. not (same m (literal pivot false))) (filter (λ m. not (same m (literal pivot true))) left)) l
    || (has side l && not (l.variable == pivot))))
    → resolvent_of left side pivot ≡ Some new
resolved_is left side new pivot opposite ordered members =
    cond-true (are_opposite left side pivot) (Some (clause_of (without pivot (left ++ side)))) None opposite
    ∙ ap Some (sym (clause_of_is new (without pivot (left ++ side)) ordered (λ l. members l ∙ (same_literals l ∙ sym (has-filter (λ m. not (m.variable == pivot)) (left ++ side) l)))))
  where
    and_assoc : (a b n : Bool) → ((a && b) && n) ≡ (a && (b && n))
    and_assoc true b n = refl
    and_assoc false b n = refl

    removed : (l : Literal) → has (filter (λ m. not (same m (literal pivot false))) (filter (λ m. not (same m (literal pivot true))) left)) l ≡ (has left l && not (l.variable == pivot))
    removed l =
        has-filter (λ m. not (same m (literal pivot false))) (filter (λ m. not (same m (literal pivot true))) left) l
        ∙ (ap (λ b. b && not (same l (literal pivot false))) (has-filter (λ m. not (same m (literal pivot true))) left l)
        ∙ (and_assoc (has left l) (not (same l (literal pivot true))) (not (same l (literal pivot false)))
        ∙ ap (λ b. has left l && b) (variable_signs l pivot)))

    same_literals : (l : Literal) → (has (filter (λ m. not (same m (literal pivot false))) (filter (λ m. not (same m (literal pivot true))) left)) l
        || (has side l && not (l.variable == pivot))) ≡ (has (left ++ side) l && not (l.variable == pivot))
    same_literals l =
        ap (λ b. b || (has side l && not (l.variable == pivot))) (removed l)
        ∙ (and_or (has left l) (has side l) (not (l.variable == pivot)) ∙ ap (λ b. b && not (l.variable == pivot)) (sym (has-append left side l)))

or_comm : (a b : Bool) → (a || b) ≡ (b || a)
or_comm true true = refl
or_comm true false = refl
or_comm false true = refl
or_comm false false = refl

-- one more literal of a list is put into a clause of those before it
pub members_loaded : (clause xs : List Literal) (i : ℕ) (d : Literal) → i < length xs → ((m : Literal) → has clause m ≡ has (take i xs) m)
    → (m : Literal) → has (with_literal (get_or xs i d) clause) m ≡ has (take (i + 1) xs) m
members_loaded clause xs i d lt f m =
    has-with_literal (get_or xs i d) clause m
    ∙ (ap (λ b. same m (get_or xs i d) || b) (f m) ∙ (or_comm (same m (get_or xs i d)) (has (take i xs) m) ∙ sym (has_take-suc xs i d m lt)))
