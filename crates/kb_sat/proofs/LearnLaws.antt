-- What a search holds once it learned a clause.
use Rattle.std.proofs.Common.{◌≡◌, ℕ, ◌+◌, ◌-◌, ◌*◌, ◌<◌, ◌≤◌, List, [], ◌∷◌, ◌++◌, Bool, true, false, not, arith, ap, sym, ◌∙◌, inl, inr, subst, length, get_or, take, Some, slice_get}
use Rattle.std.proofs.lemmas.Bool.{false≢true, or_cases, or_right, and_from, cases_Bool, false_from_ne_true}
use Rattle.std.proofs.lemmas.List.{take_all, take-append-le, length_push}
use Rattle.kb_chain.specs.Literal.{Literal, has, same, negated, place_of}
use Rattle.kb_chain.specs.Cnf.{Cnf}
use Rattle.kb_chain.specs.Propagation.{all_negated, others, IsNew}
use Rattle.kb_chain.specs.Index.{IsSettled}
use Rattle.kb_chain.specs.declared.log.Chain.{Chain}
use Rattle.kb_chain.proofs.LiteralLaws.{same-true, same_refl, has_head, negated-negated}
use Rattle.kb_chain.proofs.PropagationLaws.{IsPart, all_negated-at, has-others, taken_part, place_of-negated}
use Rattle.kb_chain.proofs.LogLaws.{derived-push, EachEntry-push}
use Rattle.kb_chain.proofs.LeastSets.{Misses-by}
use Rattle.kb_propagate.specs.Trail.{Assigned, IsTrail, level_zero, level_start, before_level, cut_back}
use Rattle.kb_propagate.specs.Store.{IsRow}
use Rattle.kb_sat.specs.Search.{IsLearned}
use Rattle.kb_propagate.specs.Watches.{Pair, Quiet, paired, put_pair}
use Rattle.kb_propagate.specs.Base.{IsBase, IsSecondLiteral}
use Rattle.kb_propagate.specs.declared.watch.Watch.{Watch}
use Rattle.kb_propagate.proofs.Places.{some_in, at_last, at_inside, at_has}
use Rattle.kb_propagate.proofs.TrailLaws.{length_taken, has_pushed, IsTrail-cut, start_taken}
use Rattle.kb_propagate.proofs.WatchLaws.{is_met-from, IsWatching-push, AllListed-push, AllAwake-push, Quiet-push, Quiet_more}
use Rattle.kb_propagate.proofs.JustifyLaws.{IsJustified-grow, pushed, IsJustified-push, IsJustified-cut, level_zero-cut, push_part}
use Rattle.kb_propagate.proofs.BaseLaws.{before_part, before_cut, cut_settled, closed_from, IsBase-cut}

-- a clause that is false, but for one literal before a level whose set is closed, is new
pub IsNew-from : (clauses : List (List Literal)) (clause : List Literal) (x : Literal) (all set : Literal → Bool)
    → ((m : Literal) → all m ≡ true → all (negated m) ≡ false) → IsPart set all → has clause x ≡ true → all (negated x) ≡ true
    → all_negated set (others x clause) ≡ true
    → ((k : ℕ) (c : List Literal) → slice_get clauses k ≡ Some c → IsSettled set set c) → IsNew clauses clause
IsNew-from clauses clause x all set consistent part member false_x earlier settled =
    let both = closed_from clauses set settled in record {
      one_sign = λ b. false≢true (sym (consistent (negated b.0) (false_in b.0 b.1)) ∙ false_in (negated b.0) b.2);
      missed = (
        x,
        member,
        Misses-by clauses clause x set both.0 both.1 earlier
            (false_from_ne_true _ (λ e. false≢true (sym (consistent x (part x e)) ∙ false_x))),
      );
    }
  where
    false_in : (m : Literal) → has clause m ≡ true → all (negated m) ≡ true
    false_in m e = elim (cases_Bool (same m x)) [
      | inl s ↦ ap (λ z. all (negated z)) (same-true m x s) ∙ false_x
      | inr n ↦ part (negated m) (all_negated-at set (others x clause) earlier m (has-others x clause m ∙ and_from _ _ e (ap not n)))
    ]

-- where the two watched literals of a learned clause stand
pub record IsAsserting (t : Assigned) (row : List Literal) (level : ℕ) (a b : Literal) : Type 0 where
  pub first : has row a ≡ true
  pub second : has row b ≡ true
  pub free : (j : ℕ) → j ≤ level → has (before_level t j) (negated a) ≡ false
  pub open_second : (j : ℕ) → j < level → has (before_level t j) (negated b) ≡ false
  pub apart : 0 < level → same a b ≡ false
  pub forced : (m : Literal) → has row m ≡ true → same m a ≡ false → has (before_level t level) (negated m) ≡ true
  pub false_row : (m : Literal) → has row m ≡ true → has t.literals (negated m) ≡ true

-- all literals of a learned clause are false
pub learned_false : (clauses : List (List Literal)) (t : Assigned) (chain : Chain) (row : List Literal) (level : ℕ) → IsLearned clauses t chain row level
    → (m : Literal) → has row m ≡ true → has t.literals (negated m) ≡ true
learned_false clauses t chain row level k m e = elim (or_cases (same m k.asserting) (has k.rest m) (ap (λ z. has z m) (sym k.shape) ∙ e)) [
  | inl q ↦ ap (λ z. has t.literals (negated z)) (same-true m k.asserting q) ∙ k.false_now
  | inr q ↦ taken_part t.literals (level_start t.starts level) (negated m) (all_negated-at (has (before_level t level)) k.rest k.returns m q)
]

row_second : (x : Literal) (rest : List Literal) (y : Literal) → slice_get (x ∷ rest) 1 ≡ Some y → has rest y ≡ true
row_second x [] y e = cc
row_second x (z ∷ zs) y e = at_has (z ∷ zs) 0 y e

pub IsAsserting-from : (clauses : List (List Literal)) (t : Assigned) (chain : Chain) (row : List Literal) (level : ℕ) (a b : Literal) → IsTrail t → IsLearned clauses t chain row level
    → a ≡ get_or row 0 a → IsSecondLiteral row b → IsAsserting t row level a b
IsAsserting-from clauses t chain row level a b h k at_a at_b =
    let some : level < length t.starts = k.below in
    let below : level ≤ length t.starts - 1 = omega (arith, some) in
    let inside : length t.starts - 1 < length t.starts = omega (arith, some) in
    let is_a : a ≡ k.asserting = at_a ∙ ap (λ z. get_or z 0 a) k.shape in
    let free : (j : ℕ) → j ≤ level → has (before_level t j) (negated a) ≡ false =
    λ j le. false_from_ne_true _ (λ e. false≢true (sym (ap (λ z. has (before_level t (length t.starts - 1)) (negated z)) is_a ∙ k.free_before)
    ∙ before_part t j (length t.starts - 1) h (omega (arith, le, below)) inside (negated a) e)) in
    let rest_false : (m : Literal) → has k.rest m ≡ true → has (before_level t level) (negated m) ≡ true = λ m e. all_negated-at (has (before_level t level)) k.rest k.returns m e in
    let is_second : (y : Literal) → slice_get row 1 ≡ Some y → b ≡ y = λ y e. second_is row y e at_b in
    record {
      first = ap (has row) is_a ∙ (ap (λ z. has z k.asserting) k.shape ∙ has_head k.asserting k.rest);
      second = second_in row at_b;
      free = free;
      open_second = λ j lt. (let q = k.second (omega (arith, lt)) in
          false_from_ne_true _ (λ e. false≢true (sym (ap (λ z. has (before_level t (level - 1)) (negated z)) (is_second q.0 q.1) ∙ q.2)
          ∙ before_part t j (level - 1) h (omega (arith, lt)) (omega (arith, some)) (negated b) e)));
      apart = λ lt. false_from_ne_true _ (λ e. (let q = k.second lt in
          let in_rest : has k.rest q.0 ≡ true = row_second k.asserting k.rest q.0 (ap (λ z. slice_get z 1) (sym k.shape) ∙ q.1) in
          false≢true (sym (free level (omega arith)) ∙ (ap (λ z. has (before_level t level) (negated z)) (same-true a b e ∙ is_second q.0 q.1) ∙ rest_false q.0 in_rest))));
      forced = λ m e n. elim (or_cases (same m k.asserting) (has k.rest m) (ap (λ z. has z m) (sym k.shape) ∙ e)) [
        | inl q ↦ absurd (false≢true (sym n ∙ (ap (same m) is_a ∙ q)))
        | inr q ↦ rest_false m q
      ];
      false_row = learned_false clauses t chain row level k;
    }
  where
    second_is : (row : List Literal) (y : Literal) → slice_get row 1 ≡ Some y → IsSecondLiteral row b → b ≡ y
    second_is row y e (inl g) = let q : Some b ≡ Some y = sym g ∙ e in cc
    second_is row y e (inr g) = absurd (let n : 1 < length row = at_inside row 1 y e in let m : length row ≡ 1 = g.0 in omega (arith, n, m))

    second_in : (row : List Literal) → IsSecondLiteral row b → has row b ≡ true
    second_in row (inl g) = at_has row 1 b g
    second_in row (inr g) = at_has row 0 b g.1

-- the trail once the learned clause forced its first literal
abbrev pub learned_trail : Assigned → ℕ → Literal → ℕ → Assigned
learned_trail t level a n = pushed (cut_back t level) a (Some n) (take level t.starts)

pub IsBase-learn : (formula : Cnf) (entries : List Chain) (rows : List (List Literal)) (pairs : List Pair) (lists : List (List Watch)) (t : Assigned)
    (whole : Bool) (s : IsBase formula entries rows pairs lists t whole) (chain : Chain) (row : List Literal) (level : ℕ) (a b : Literal) (n : ℕ)
    → IsTrail t → IsLearned s.clauses t chain row level → IsAsserting t row level a b → n ≡ length rows
    → IsBase formula (entries ++ chain ∷ []) (rows ++ row ∷ []) (pairs ++ paired a b ∷ []) (put_pair lists a b n) (learned_trail t level a n) whole
IsBase-learn formula entries rows pairs lists t whole s chain row level a b n h k p at =
    let lt : level < length t.starts = k.below in
    let inside : length t.starts - 1 < length t.starts = omega (arith, lt) in
    let cut = IsBase-cut formula entries rows pairs lists t level whole s h lt in
    let zero_same = level_zero-cut t level h lt in
    let row_cut : IsRow (has (level_zero (cut_back t level))) row k.clause = subst (λ z. IsRow (has z) row k.clause) (sym zero_same) k.stored in
    let justified = IsJustified-grow s.clauses rows (cut_back t level) k.clause row (IsJustified-cut s.clauses rows t level h s.justified lt) row_cut (some_in row a p.first) in
    let count : length pairs ≡ length rows = s.watching.count in
    let within : (l : Literal) → has row l ≡ true → place_of l < 2 * t.vars + 2 =
    λ l e. subst (λ z. place_of z < 2 * t.vars + 2) (negated-negated l) (place_of-negated (negated l) t.vars (h.within (negated l) (p.false_row l e))) in
    let places : length lists ≡ 2 * t.vars + 2 = s.watching.places in
    let low_a : place_of a < 2 * t.vars + 2 = within a p.first in
    let low_b : place_of b < 2 * t.vars + 2 = within b p.second in
    record {
      clauses = s.clauses ++ k.clause ∷ [];
      derives = derived-push entries formula.clauses s.clauses chain k.clause s.derives k.derives;
      fresh = λ w. (
        AllAwake-push pairs a b (s.fresh w).0,
        EachEntry-push IsNew entries formula.clauses s.clauses chain k.clause s.derives (s.fresh w).1 k.derives
            (IsNew-from s.clauses k.clause k.asserting (has t.literals) (has (before_level t (length t.starts - 1))) h.consistent
            (taken_part t.literals (level_start t.starts (length t.starts - 1)))
            (k.stored.part k.asserting (ap (λ z. has z k.asserting) k.shape ∙ has_head k.asserting k.rest)) k.false_now k.earlier
            (cut_settled formula entries rows pairs lists t whole s h (s.fresh w).0 (length t.starts - 1) inside)),
      );
      vars = s.vars;
      justified = IsJustified-push (s.clauses ++ k.clause ∷ []) (rows ++ row ∷ []) (cut_back t level) a n row (IsTrail-cut t level h lt) justified
          (ap (slice_get (rows ++ row ∷ [])) at ∙ at_last rows row) p.first p.forced;
      watching = IsWatching-push rows pairs lists t.vars row a b n s.watching at p.first p.second within;
      listed = AllListed-push pairs lists a b n s.listed (at ∙ sym count) (omega (arith, low_a, places)) (omega (arith, low_b, places));
      cuts = λ j e. (let levels : length (take level t.starts) ≡ level = length_taken level t.starts (omega (arith, lt)) in
          let below : j < level = omega (arith, e, levels) in
          let early : level_start t.starts j < level_start t.starts level = h.rising j level below lt in
          let in_cut : level_start t.starts level < length t.literals = h.inside level lt in
          let size : length (before_level t level) ≡ level_start t.starts level = length_taken (level_start t.starts level) t.literals (omega (arith, in_cut)) in
          let first_cut : before_level (cut_back t level) j ≡ before_level t j = before_cut t level j h lt below in
          let starts_at : level_start (take level t.starts) j ≡ level_start t.starts j = start_taken level t.starts j below in
          let same_cut : take (level_start (take level t.starts) j) (before_level t level ++ a ∷ []) ≡ before_level t j =
          take-append-le (level_start (take level t.starts) j) (before_level t level) (a ∷ []) (omega (arith, starts_at, early, size)) ∙ first_cut in
          subst (λ z. Quiet (rows ++ row ∷ []) (pairs ++ paired a b ∷ []) (has z) (has z)) (sym same_cut)
          (Quiet-push rows pairs (has (before_level t j)) (has (before_level t j)) row (paired a b) count (s.cuts j (omega (arith, below, lt))) (record {
            first = λ g. absurd (false≢true (sym (p.free j (omega (arith, below))) ∙ g));
            second = λ g. absurd (false≢true (sym (p.open_second j below) ∙ g));
            single = λ g. absurd (false≢true (sym (p.apart (omega (arith, below))) ∙ g));
          })));
    }

pub ready-learn : (formula : Cnf) (entries : List Chain) (rows : List (List Literal)) (pairs : List Pair) (lists : List (List Watch)) (t : Assigned) (whole : Bool)
    → IsBase formula entries rows pairs lists t whole → (row : List Literal) (level : ℕ) (a b : Literal) → IsTrail t → level < length t.starts → IsAsserting t row level a b
    → (level_start t.starts level ≤ length (before_level t level ++ a ∷ []))
    × Quiet (rows ++ row ∷ []) (pairs ++ paired a b ∷ []) (has (take (level_start t.starts level) (before_level t level ++ a ∷ []))) (has (before_level t level ++ a ∷ []))
ready-learn formula entries rows pairs lists t whole s row level a b h lt p =
    let in_cut : level_start t.starts level < length t.literals = h.inside level lt in
    let size : length (before_level t level) ≡ level_start t.starts level = length_taken (level_start t.starts level) t.literals (omega (arith, in_cut)) in
    let more : length (before_level t level ++ a ∷ []) ≡ length (before_level t level) + 1 = length_push (before_level t level) a in
    let front : take (level_start t.starts level) (before_level t level ++ a ∷ []) ≡ before_level t level =
    take-append-le (level_start t.starts level) (before_level t level) (a ∷ []) (omega (arith, size)) ∙ take_all (level_start t.starts level) (before_level t level) (omega (arith, size)) in
    let has_a : has (before_level t level ++ a ∷ []) a ≡ true = has_pushed (before_level t level) a a ∙ or_right _ _ (same_refl a) in (
      (omega (arith, size, more)),
      subst (λ z. Quiet (rows ++ row ∷ []) (pairs ++ paired a b ∷ []) (has z) (has (before_level t level ++ a ∷ []))) (sym front)
          (Quiet-push rows pairs (has (before_level t level)) (has (before_level t level ++ a ∷ [])) row (paired a b) s.watching.count
          (Quiet_more rows pairs (has (before_level t level)) (has (before_level t level)) (has (before_level t level ++ a ∷ [])) (push_part (before_level t level) a) (s.cuts level lt))
          (record {
            first = λ g. absurd (false≢true (sym (p.free level (omega arith)) ∙ g));
            second = λ g. is_met-from (has (before_level t level ++ a ∷ [])) row a p.first has_a;
            single = λ g. has_a;
          })),
    )

pub asserting_place : (t : Assigned) (row : List Literal) (level : ℕ) (a b : Literal) → IsTrail t → IsAsserting t row level a b → (l : Literal) → has row l ≡ true → place_of l < 2 * t.vars + 2
asserting_place t row level a b h p l e =
    subst (λ z. place_of z < 2 * t.vars + 2) (negated-negated l) (place_of-negated (negated l) t.vars (h.within (negated l) (p.false_row l e)))

pub asserting_absent : (t : Assigned) (row : List Literal) (level : ℕ) (a b : Literal) → IsTrail t → IsAsserting t row level a b → has (before_level t level) a ≡ false
asserting_absent t row level a b h p =
    false_from_ne_true _ (λ e. false≢true (sym (h.consistent a (taken_part t.literals (level_start t.starts level) a e)) ∙ p.false_row a p.first))
