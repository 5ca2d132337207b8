-- The clauses of a formula as they are watched one by one.
use Rattle.std.proofs.Common.{◌≡◌, ℕ, ◌+◌, ◌*◌, ◌<◌, ◌≤◌, List, [], ◌∷◌, ◌++◌, true, false, arith, refl, ap, sym, ◌∙◌, inl, inr, subst, length, map, get_or, take, zero, suc, Some, slice_get}
use Rattle.std.proofs.lemmas.Bool.{false≢true, and_from, or_cases, false_from_ne_true}
use Rattle.std.specs.List.{list_all}
use Rattle.kb_chain.proofs.OrderLaws.{has_get_or}
use Rattle.std.proofs.lemmas.List.{take_more}
use Rattle.kb_chain.specs.Literal.{Literal, has, same, place_of}
use Rattle.kb_chain.proofs.PropagationLaws.{IsPart}
use Rattle.kb_chain.specs.Cnf.{Cnf, AllWithin}
use Rattle.kb_chain.specs.Chains.{derived}
use Rattle.kb_chain.specs.Propagation.{IsFresh}
use Rattle.kb_chain.specs.declared.log.Chain.{Chain}
use Rattle.kb_chain.proofs.ChainLaws.{AllWithin-get, AreWithin-from}
use Rattle.kb_propagate.specs.Store.{IsJustified}
use Rattle.kb_propagate.specs.Base.{IsConflict}
use Rattle.kb_propagate.specs.Base.{IsBase}
use Rattle.kb_propagate.specs.Trail.{Assigned, TrailGrows, HasReasons}
use Rattle.kb_chain.specs.Clause.{IsOrdered}
use Rattle.kb_chain.proofs.LiteralLaws.{same-true}
use Rattle.kb_propagate.specs.Rows.{rows_of, awake_clause}
use Rattle.kb_propagate.specs.Watches.{Pair, pair_of, pairs_of, AllAwake, IsWatching, IsBegun, AreEmpty, all_blocked, paired, put_pair}
use Rattle.kb_propagate.specs.declared.watch.Watch.{Watch}
use Rattle.kb_propagate.proofs.Places.{at_get_or, at_inside, at_same}
use Rattle.kb_propagate.proofs.TrailLaws.{length_taken}
use Rattle.kb_propagate.proofs.WatchLaws.{IsWatching-push, AllListed-push, AllAwake-push, Quiet-push, Quiet_more}

-- one more clause
pub IsBegun-push : (rows : List (List Literal)) (n : ℕ) (row : List Literal) (pairs : List Pair) (lists : List (List Watch)) (t later : Assigned) (a b : Literal)
    → slice_get rows n ≡ Some row → IsBegun (take n rows) pairs lists t → has row a ≡ true → has row b ≡ true
    → ((l : Literal) → has row l ≡ true → place_of l < 2 * t.vars + 2) → (same a b ≡ true → has later.literals a ≡ true)
    → IsPart (has t.literals) (has later.literals) → later.vars ≡ t.vars
    → IsBegun (take (n + 1) rows) (pairs ++ paired a b ∷ []) (put_pair lists a b n) later
IsBegun-push rows n row pairs lists t later a b is h has_a has_b within single part vars =
    let lt : n < length rows = at_inside rows n row is in
    let size : length (take n rows) ≡ n = length_taken n rows (omega (arith, lt)) in
    let count : length pairs ≡ length (take n rows) = h.watching.count in
    let more : take (n + 1) rows ≡ take n rows ++ row ∷ [] = take_more rows n row lt ∙ ap (λ z. take n rows ++ z ∷ []) (at_get_or rows n row row is) in
    let places : length lists ≡ 2 * t.vars + 2 = h.watching.places in
    subst (λ z. IsBegun z (pairs ++ paired a b ∷ []) (put_pair lists a b n) later) (sym more) (record {
      watching = subst (λ v. IsWatching (take n rows ++ row ∷ []) (pairs ++ paired a b ∷ []) (put_pair lists a b n) v) (sym vars)
          (IsWatching-push (take n rows) pairs lists t.vars row a b n h.watching (sym size) has_a has_b within);
      awake = AllAwake-push pairs a b h.awake;
      listed = AllListed-push pairs lists a b n h.listed (sym (count ∙ size))
          (let low : place_of a < 2 * t.vars + 2 = within a has_a in omega (arith, low, places))
          (let low : place_of b < 2 * t.vars + 2 = within b has_b in omega (arith, low, places));
      quiet = Quiet-push (take n rows) pairs (has []) (has later.literals) row (paired a b) count
          (Quiet_more (take n rows) pairs (has []) (has t.literals) (has later.literals) part h.quiet)
          (record { first = λ e. absurd (false≢true e); second = λ e. absurd (false≢true e); single = single });
    })

-- the same, where all clauses are there from the start
pub IsBegun-next : (rows : List (List Literal)) (n : ℕ) (row : List Literal) (pairs : List Pair) (lists : List (List Watch)) (t later : Assigned) (a b : Literal)
    → slice_get rows n ≡ Some row → slice_get pairs n ≡ Some (paired a b) → IsBegun (take n rows) (take n pairs) lists t → has row a ≡ true → has row b ≡ true
    → ((l : Literal) → has row l ≡ true → place_of l < 2 * t.vars + 2) → (same a b ≡ true → has later.literals a ≡ true)
    → IsPart (has t.literals) (has later.literals) → later.vars ≡ t.vars
    → IsBegun (take (n + 1) rows) (take (n + 1) pairs) (put_pair lists a b n) later
IsBegun-next rows n row pairs lists t later a b is paired_is h has_a has_b within single part vars =
    let more : take (n + 1) pairs ≡ take n pairs ++ paired a b ∷ [] =
    take_more pairs n (paired a b) (at_inside pairs n (paired a b) paired_is) ∙ ap (λ z. take n pairs ++ z ∷ []) (at_get_or pairs n (paired a b) (paired a b) paired_is) in
    subst (λ z. IsBegun (take (n + 1) rows) z (put_pair lists a b n) later) (sym more)
    (IsBegun-push rows n row (take n pairs) lists t later a b is h has_a has_b within single part vars)

-- the first two literals of an ordered row differ
pub ordered_apart : (row : List Literal) (a b : Literal) → IsOrdered row → a ≡ get_or row 0 a → slice_get row 1 ≡ Some b → same a b ≡ false
ordered_apart [] a b h is e = cc
ordered_apart (x ∷ []) a b h is e = cc
ordered_apart (x ∷ y ∷ row) a b h is e = false_from_ne_true _ (λ s. (let second : y ≡ b = cc in
    let lt : place_of x < place_of y = h.0.0 in
    let at : place_of x ≡ place_of y = ap place_of (sym is ∙ (same-true a b s ∙ sym second)) in
    omega (arith, lt, at)))

-- a row of one literal
pub only_one : (row : List Literal) (a l : Literal) → length row ≡ 1 → a ≡ get_or row 0 a → has row l ≡ true → l ≡ a
only_one [] a l one is e = absurd (false≢true e)
only_one (x ∷ []) a l one is e = elim (or_cases (same l x) false e) [ inl s ↦ same-true l x s ∙ sym is | inr s ↦ absurd (false≢true s) ]
only_one (x ∷ y ∷ row) a l one is e = absurd (omega (arith, one))

-- the clauses of a formula, all awake

pub rows_awake : (rows : List (List Literal)) → rows_of (map awake_clause rows) ≡ rows
rows_awake [] = refl
rows_awake (row ∷ rows) = ap (λ z. row ∷ z) (rows_awake rows)

pub all_awake : (rows : List (List Literal)) → AllAwake (pairs_of (map awake_clause rows))
all_awake [] k pair e = cc
all_awake (row ∷ rows) zero pair e = let s : pair_of (awake_clause row) ≡ pair = cc in ap (λ (z : Pair). z.awake) (sym s)
all_awake (row ∷ rows) (suc k) pair e = all_awake rows k pair e

-- nothing is watched yet
pub IsBegun-none : (lists : List (List Watch)) (t : Assigned) → AreEmpty lists → length lists ≡ 2 * t.vars + 2 → IsBegun [] [] lists t
IsBegun-none lists t empty places = record {
  watching = record {
    count = refl;
    places = places;
    own = λ k row pair e f aw. cc;
    blocked = none_blocked lists empty;
    within = λ k row e l i. cc;
  };
  awake = λ k pair e. cc;
  listed = λ k pair e aw. cc;
  quiet = λ k row pair e f aw. cc;
}
  where
    none_blocked : (lists : List (List Watch)) → AreEmpty lists → list_all (all_blocked []) lists ≡ true
    none_blocked [] e = refl
    none_blocked (x ∷ xs) e = and_from _ _ (ap (all_blocked []) (e 0)) (none_blocked xs (λ k. e (suc k)))

pub first_of : (row : List Literal) (x : Literal) → 1 ≤ length row → x ≡ get_or row 0 x → has row x ≡ true
first_of row x lt e = ap (has row) e ∙ has_get_or row 0 x (omega (arith, lt))

pub AreEmpty-push : (lists : List (List Watch)) (list : List Watch) → AreEmpty lists → list ≡ [] → AreEmpty (lists ++ list ∷ [])
AreEmpty-push [] list h e zero = e
AreEmpty-push [] list h e (suc k) = refl
AreEmpty-push (x ∷ xs) list h e zero = h 0
AreEmpty-push (x ∷ xs) list h e (suc k) = AreEmpty-push xs list (λ j. h (suc j)) e k

-- the formula's own clauses, before anything is true
IsJustified-start : (clauses rows : List (List Literal)) (vars : ℕ) → rows ≡ clauses
    → IsJustified clauses rows (record { vars = vars; literals = []; reasons = []; starts = [] })
IsJustified-start clauses rows vars e = record {
  stored = record {
    count = ap length e;
    each = λ k clause row f g some. (let s : row ≡ clause = at_same clauses k row clause (ap (λ z. slice_get z k) (sym e) ∙ g) f in record {
      part = λ l i. ap (λ z. has z l) (sym s) ∙ i;
      rest = λ l i n. absurd (false≢true (sym n ∙ (ap (λ z. has z l) s ∙ i)));
    });
  };
  reasons = λ i c l f g. cc;
  kept = λ i c row f g. cc;
}

pub clause_places : (formula : Cnf) (rows : List (List Literal)) → rows ≡ formula.clauses → AllWithin formula.vars formula.clauses → (k : ℕ) (row : List Literal) → slice_get rows k ≡ Some row
    → (l : Literal) → has row l ≡ true → place_of l < 2 * formula.vars + 2
clause_places formula rows e h k row f =
    AreWithin-from formula.vars (2 * formula.vars + 2) row refl (AllWithin-get formula.vars formula.clauses k row (ap (λ z. slice_get z k) (sym e) ∙ f) h)

pub IsBase-begin : (formula : Cnf) (entries : List Chain) (rows : List (List Literal)) (pairs : List Pair) (lists : List (List Watch)) (first t : Assigned)
    → entries ≡ [] → rows ≡ formula.clauses → first ≡ record { vars = formula.vars; literals = []; reasons = []; starts = [] }
    → IsBegun rows pairs lists t → TrailGrows first t → ((all : List (List Literal)) → IsJustified all rows first → IsJustified all rows t)
    → IsBase formula entries rows pairs lists t true
IsBase-begin formula entries rows pairs lists first t none e start h grows justified = record {
  clauses = formula.clauses;
  derives = ap (λ z. derived formula.clauses z) none;
  fresh = λ w. (h.awake, subst (λ z. IsFresh formula.clauses z) (sym none) tt);
  vars = grows.vars ∙ ap (λ (z : Assigned). z.vars) start;
  justified = justified formula.clauses (subst (λ z. IsJustified formula.clauses rows z) (sym start) (IsJustified-start formula.clauses rows formula.vars e));
  watching = h.watching;
  listed = h.listed;
  cuts = λ j lt. absurd (let n : length t.starts ≡ 0 = ap length (grows.starts ∙ ap (λ (z : Assigned). z.starts) start) in omega (arith, lt, n));
}

-- a clause of the formula that is false at the start
pub doomed : (formula : Cnf) (entries : List Chain) (rows : List (List Literal)) (first t : Assigned) (number : ℕ)
    → entries ≡ [] → rows ≡ formula.clauses → first ≡ record { vars = formula.vars; literals = []; reasons = []; starts = [] }
    → TrailGrows first t → ((all : List (List Literal)) → IsJustified all rows first → IsJustified all rows t) → IsConflict rows t number
    → (t.starts ≡ []) × (derived formula.clauses entries ≡ Some formula.clauses) × HasReasons formula.clauses t × IsConflict formula.clauses t number
doomed formula entries rows first t number none e start grows justified conflict =
    let j = justified formula.clauses (subst (λ z. IsJustified formula.clauses rows z) (sym start) (IsJustified-start formula.clauses rows formula.vars e)) in
    (grows.starts ∙ ap (λ (z : Assigned). z.starts) start, ap (λ z. derived formula.clauses z) none, j.reasons, subst (λ z. IsConflict z t number) e conflict)
