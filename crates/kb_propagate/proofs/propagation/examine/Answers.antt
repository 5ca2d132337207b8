use Rattle.std.proofs.Common.{◌≡◌, ℕ, ◌+◌, ◌*◌, ◌<◌, ◌≤◌, ◌∙◌, ap, sym, subst, refl, inl, inr, true, false, length, get_or, set, slice_get, Some, List, Bool, [], ◌∷◌, ◌++◌}
use Rattle.std.proofs.lemmas.Bool.{cases_Bool, false≢true, or_right}
use Rattle.std.specs.List.{swap}
use Rattle.kb_chain.specs.Literal.{Literal, has, same, negated, place_of}
use Rattle.kb_chain.proofs.LiteralLaws.{same-true, same_refl, negated-negated}
use Rattle.kb_chain.proofs.PropagationLaws.{all_negated-from}
use Rattle.kb_propagate.specs.Trail.{Assigned}
use Rattle.kb_propagate.specs.Rows.{StoredClause, rows_of, awake_clause, AreReordered}
use Rattle.kb_propagate.specs.Watches.{Pair, pair_of, pairs_of, other_watched, IsWatchedAt, Quiet, AllAwake, IsWatching, IsOther, Walks, is_met, is_blocker, is_blocked, put, with_list}
use Rattle.kb_propagate.specs.Store.{IsJustified}
use Rattle.kb_propagate.specs.Base.{IsConflict}
use Rattle.kb_propagate.specs.Forgetting.{is_awake}
use Rattle.kb_propagate.specs.declared.watch.Watch.{Watch}
use Rattle.kb_propagate.proofs.Places.{some_in, at_has, at_inside, at_same, at_get_or}
use Rattle.kb_propagate.proofs.ClausesLaws.{has-swap}
use Rattle.kb_propagate.proofs.TrailLaws.{has_pushed}
use Rattle.kb_propagate.proofs.JustifyLaws.{IsJustified-push, push_part}
use Rattle.kb_propagate.proofs.WatchLaws.{Walks-stay, Walks-drop, Walks-away, AllAwake-move, Quiet-move, IsWatching-put, IsWatching-move, blocked_row, blocker_has, is_blocked-from, is_met-from, other_own}
use Rattle.kb_propagate.proofs.PairLaws.{awake_there, pair_at, is_awake-at, other_of, other_moved, watched_inside, false_but_one, rows_set, pairs_set}
use Rattle.kb_propagate.proofs.ReorderLaws.{AreReordered-refl, AreReordered-set, Quiet-reordered, Walks-reordered, IsWatching-reordered, IsJustified-reordered}
use Rattle.kb_propagate.proofs.propagation.examine.Goals as goal

-- the places of the table
inside_table : (rows : List (List Literal)) (pairs : List Pair) (lists : List (List Watch)) (vars : ℕ) (l : Literal) → IsWatching rows pairs lists vars
    → place_of l < 2 * vars + 2 → place_of l < length lists
inside_table rows pairs lists vars l h lt = subst (λ n. place_of l < n) (sym h.places) lt

met : (rows : List (List Literal)) (pairs : List Pair) (w : Watch) (set : Literal → Bool) (l : Literal) (row : List Literal) → slice_get rows w.clause ≡ Some row → has row l ≡ true → set l ≡ true
    → (r : List Literal) (pair : Pair) → slice_get rows w.clause ≡ Some r → slice_get pairs w.clause ≡ Some pair → pair.awake ≡ true → is_met set r ≡ true
met rows pairs w set l row e i t r pair g f aw = is_met-from set r l (ap (λ z. has z l) (at_same rows w.clause r row g e) ∙ i) t

-- an awake clause has the literal that blocks its watch
met_blocked : (rows : List (List Literal)) (pairs : List Pair) (lists : List (List Watch)) (vars : ℕ) (w : Watch) (set : Literal → Bool) → IsWatching rows pairs lists vars
    → is_blocked rows w ≡ true → set w.blocker ≡ true
    → (r : List Literal) (pair : Pair) → slice_get rows w.clause ≡ Some r → slice_get pairs w.clause ≡ Some pair → pair.awake ≡ true → is_met set r ≡ true
met_blocked rows pairs lists vars w set h b t r pair g f aw =
    let row = blocked_row rows w b in
    let same_row : row.0 ≡ r = at_same rows w.clause row.0 r row.1 g in
    let own = h.own w.clause r pair g f aw in
    is_met-from set r w.blocker (blocker_has r w.blocker (ap (λ z. is_blocker z w.blocker) (sym same_row) ∙ row.2) (some_in r pair.first own.0)) t

pub returns-then-is_true-clause-walked : goal.returns-then-is_true-clause-walked
returns-then-is_true-clause-walked c early kept others part h =
    let rows = rows_of c.args.clauses.now in
    let pairs = pairs_of c.args.clauses.now in
    let lists = c.args.lists.now.items in
    let t = has c.args.trail.now.literals in
    Walks-stay early t t rows pairs lists kept c.args.watch c.args.watch others c.args.falsified h (λ l e. e)
    (inside_table rows pairs lists c.args.trail.now.vars c.args.falsified c.requires.watching c.requires.place) refl
    (met_blocked rows pairs lists c.args.trail.now.vars c.args.watch t c.requires.watching c.requires.watch (sym c.is_true.ensures ∙ c.if-is_true.true))

pub returns-then-is_true-clause-reordered : goal.returns-then-is_true-clause-reordered
returns-then-is_true-clause-reordered c = AreReordered-refl (rows_of c.args.clauses.now)

-- a clause that was let go is watched no longer
pub returns-then-not-is_awake-clause-walked : goal.returns-then-not-is_awake-clause-walked
returns-then-not-is_awake-clause-walked c early kept others part h =
    Walks-drop early (has c.args.trail.now.literals) (rows_of c.args.clauses.now) (pairs_of c.args.clauses.now) (with_list c.args.lists.now.items c.args.falsified kept) c.args.watch others
    c.args.falsified h
    (λ pair e aw. absurd (false≢true (sym (sym c.is_awake.ensures ∙ c.if-not-is_awake.true) ∙ is_awake-at c.args.clauses.now c.args.watch.clause pair e aw)))

pub returns-then-not-is_awake-clause-reordered : goal.returns-then-not-is_awake-clause-reordered
returns-then-not-is_awake-clause-reordered c = AreReordered-refl (rows_of c.args.clauses.now)

-- the number is one of a clause
pub literals-row-requires : goal.literals-row-requires
literals-row-requires c =
    let row = blocked_row (rows_of c.args.clauses.now) c.args.watch c.requires.watch in
    at_inside (rows_of c.args.clauses.now) c.args.watch.clause row.0 row.1

-- what is known of an awake clause
record Looked (clauses : List StoredClause) (lists : List (List Watch)) (vars : ℕ) (w : Watch) (row : List Literal) : Type 0 where
  there : slice_get clauses w.clause ≡ Some (awake_clause row)
  paired : slice_get (pairs_of clauses) w.clause ≡ Some (pair_of (awake_clause row))
  own : (has row (pair_of (awake_clause row)).first ≡ true) × (has row (pair_of (awake_clause row)).second ≡ true)
  some : 0 < length row

looked : (clauses : List StoredClause) (lists : List (List Watch)) (vars : ℕ) (w : Watch) (row : List Literal) (awake : Bool) → IsWatching (rows_of clauses) (pairs_of clauses) lists vars
    → slice_get (rows_of clauses) w.clause ≡ Some row → awake ≡ is_awake (slice_get clauses w.clause) → awake ≡ true → Looked clauses lists vars w row
looked clauses lists vars w row awake h e is aw =
    let there = awake_there clauses w.clause row e (sym is ∙ aw) in
    let paired = pair_at clauses w.clause (awake_clause row) there in
    let own = h.own w.clause row (pair_of (awake_clause row)) e paired refl in
    record {
      there = there;
      paired = paired;
      own = own;
      some = some_in row (pair_of (awake_clause row)).first own.0;
    }

pub watched_place-requires : goal.watched_place-requires
watched_place-requires c =
    (looked c.args.clauses.now c.args.lists.now.items c.args.trail.now.vars c.args.watch c.literals-row.result.now c.is_awake.result c.requires.watching c.literals-row.ensures c.is_awake.ensures
    c.if-not-is_awake.false).some

pub returns-in_default-clause-walked : goal.returns-in_default-clause-walked
returns-in_default-clause-walked c early kept others part h =
    let row = c.literals-row.result.now in
    let k = looked c.args.clauses.now c.args.lists.now.items c.args.trail.now.vars c.args.watch row c.is_awake.result c.requires.watching c.literals-row.ensures c.is_awake.ensures
    c.if-not-is_awake.false in
    Walks-drop early (has c.args.trail.now.literals) (rows_of c.args.clauses.now) (pairs_of c.args.clauses.now) (with_list c.args.lists.now.items c.args.falsified kept) c.args.watch others
    c.args.falsified h
    (λ pair e aw. (let s : pair ≡ pair_of (awake_clause row) = at_same (pairs_of c.args.clauses.now) c.args.watch.clause pair (pair_of (awake_clause row)) e k.paired in
    (ap (λ (z : Pair). same z.first c.args.falsified) s ∙ c.in_default.ensures.none.0, ap (λ (z : Pair). same z.second c.args.falsified) s ∙ c.in_default.ensures.none.1)))

pub returns-in_default-clause-reordered : goal.returns-in_default-clause-reordered
returns-in_default-clause-reordered c = AreReordered-refl (rows_of c.args.clauses.now)

pub other_watched-other-requires : goal.other_watched-other-requires
other_watched-other-requires c =
    (looked c.args.clauses.now c.args.lists.now.items c.args.trail.now.vars c.args.watch c.literals-row.result.now c.is_awake.result c.requires.watching c.literals-row.ensures c.is_awake.ensures
    c.if-not-is_awake.false).some

-- the other watched literal, as the blocker of a watch
record Other (clauses : List StoredClause) (w : Watch) (row : List Literal) (f other : Literal) (place : ℕ) : Type 0 where
  there : slice_get clauses w.clause ≡ Some (awake_clause row)
  paired : slice_get (pairs_of clauses) w.clause ≡ Some (pair_of (awake_clause row))
  is_other : IsOther (pair_of (awake_clause row)) f other
  own : has row other ≡ true
  blocks : is_blocked (rows_of clauses) (record { clause = w.clause; blocker = other }) ≡ true
  inside : place < length row

other_at : (clauses : List StoredClause) (lists : List (List Watch)) (vars : ℕ) (w : Watch) (row : List Literal) (awake : Bool) (f other : Literal) (place : ℕ)
    → IsWatching (rows_of clauses) (pairs_of clauses) lists vars → slice_get (rows_of clauses) w.clause ≡ Some row → awake ≡ is_awake (slice_get clauses w.clause) → awake ≡ true
    → IsWatchedAt row f place → other ≡ other_watched row place → Other clauses w row f other place
other_at clauses lists vars w row awake f other place h e is aw at o =
    let k = looked clauses lists vars w row awake h e is aw in
    let is_other : IsOther (pair_of (awake_clause row)) f other = subst (λ z. IsOther (pair_of (awake_clause row)) f z) (sym o) (other_of (awake_clause row) f place at) in
    let own = other_own (rows_of clauses) (pairs_of clauses) w.clause row (pair_of (awake_clause row)) f other h.own e k.paired refl is_other in
    record {
      there = k.there;
      paired = k.paired;
      is_other = is_other;
      own = own;
      blocks = is_blocked-from (rows_of clauses) (record { clause = w.clause; blocker = other }) row e own;
      inside = watched_inside row f place k.some at;
    }

pub returns-then-is_true-2-clause-blocked : goal.returns-then-is_true-2-clause-blocked
returns-then-is_true-2-clause-blocked c =
    (other_at c.args.clauses.now c.args.lists.now.items c.args.trail.now.vars c.args.watch c.literals-row.result.now c.is_awake.result c.args.falsified c.other_watched-other.result
    c.in-Some.place c.requires.watching c.literals-row.ensures c.is_awake.ensures c.if-not-is_awake.false c.in-Some.ensures.some c.other_watched-other.ensures).blocks

pub returns-then-is_true-2-clause-walked : goal.returns-then-is_true-2-clause-walked
returns-then-is_true-2-clause-walked c early kept others part h =
    let rows = rows_of c.args.clauses.now in
    let o = other_at c.args.clauses.now c.args.lists.now.items c.args.trail.now.vars c.args.watch c.literals-row.result.now c.is_awake.result c.args.falsified c.other_watched-other.result
    c.in-Some.place c.requires.watching c.literals-row.ensures c.is_awake.ensures c.if-not-is_awake.false c.in-Some.ensures.some c.other_watched-other.ensures in
    Walks-stay early (has c.args.trail.now.literals) (has c.args.trail.now.literals) rows (pairs_of c.args.clauses.now) c.args.lists.now.items kept c.args.watch
    (record { clause = c.args.watch.clause; blocker = c.other_watched-other.result }) others c.args.falsified h (λ l e. e)
    (inside_table rows (pairs_of c.args.clauses.now) c.args.lists.now.items c.args.trail.now.vars c.args.falsified c.requires.watching c.requires.place) refl
    (met rows (pairs_of c.args.clauses.now) c.args.watch (has c.args.trail.now.literals) c.other_watched-other.result c.literals-row.result.now c.literals-row.ensures o.own (sym c.is_true-2.ensures ∙ c.if-is_true-2.true))

pub returns-then-is_true-2-clause-reordered : goal.returns-then-is_true-2-clause-reordered
returns-then-is_true-2-clause-reordered c = AreReordered-refl (rows_of c.args.clauses.now)

-- a watch moves: the literal at a place behind the first two and the false one change their places

pub bounds-row-next : goal.bounds-row-next
bounds-row-next c = at_inside c.literals-row.result.now c.in-Some-open_place.next c.in-Some-open_place.ensures.some.1 c.in-Some-open_place.ensures.some.2

-- the literal that was found, as the code reads it
record Found (row : List Literal) (true_now : Literal → Bool) (other next : Literal) (from : ℕ) : Type 0 where
  next_is : slice_get row from ≡ Some next
  free : true_now (negated next) ≡ false
  apart : same next other ≡ false
  own : has row next ≡ true

found_at : (row : List Literal) (true_now : Literal → Bool) (other next l : Literal) (from : ℕ) → next ≡ get_or row from next → slice_get row from ≡ Some l → true_now (negated l) ≡ false
    → same l other ≡ false → Found row true_now other next from
found_at row true_now other next l from read e free apart =
    let s : next ≡ l = read ∙ at_get_or row from l next e in
    let next_is : slice_get row from ≡ Some next = e ∙ ap Some (sym s) in
    record {
      next_is = next_is;
      free = ap (λ z. true_now (negated z)) s ∙ free;
      apart = ap (λ z. same z other) s ∙ apart;
      own = at_has row from next next_is;
    }

-- the clauses once they have changed their places
record Moved (clauses new : List StoredClause) (w : Watch) (other next : Literal) : Type 0 where
  later : List Literal
  rows : rows_of new ≡ set (rows_of clauses) w.clause later
  pairs : pairs_of new ≡ set (pairs_of clauses) w.clause (pair_of (awake_clause later))
  is_next : IsOther (pair_of (awake_clause later)) next other
  reordered : AreReordered (rows_of clauses) (set (rows_of clauses) w.clause later)

moved_at : (clauses new : List StoredClause) (w : Watch) (row : List Literal) (f other next : Literal) (place from : ℕ) → Other clauses w row f other place
    → slice_get (rows_of clauses) w.clause ≡ Some row → IsWatchedAt row f place → other ≡ other_watched row place → 2 ≤ from → slice_get row from ≡ Some next
    → ((clause : StoredClause) → slice_get clauses w.clause ≡ Some clause → new ≡ set clauses w.clause (record clause { literals = swap clause.literals place from }))
    → Moved clauses new w other next
moved_at clauses new w row f other next place from o e at is le next_is written =
    let later = swap row place from in
    let inside : from < length row = at_inside row from next next_is in
    let new_is : new ≡ set clauses w.clause (awake_clause later) = written (awake_clause row) o.there in
    record {
      later = later;
      rows = ap rows_of new_is ∙ rows_set clauses w.clause (awake_clause later);
      pairs = ap pairs_of new_is ∙ pairs_set clauses w.clause (awake_clause later);
      is_next = subst (λ z. IsOther (pair_of (awake_clause later)) next z) (sym is) (other_moved row true f place from next at le next_is);
      reordered = AreReordered-set (rows_of clauses) w.clause row later e (λ l. has-swap row place from l o.inside inside);
    }

pub put_watch-requires : goal.put_watch-requires
put_watch-requires c =
    let rows = rows_of c.args.clauses.now in
    let row = c.literals-row.result.now in
    let x = c.index-row-next.result in
    let at = c.in-Some-open_place.ensures.some in
    let n = found_at row (has c.args.trail.now.literals) c.other_watched-other.result x at.1 c.in-Some-open_place.next c.index-row-next.is at.2 at.3 at.4 in
    inside_table rows (pairs_of c.args.clauses.now) c.args.lists.now.items c.args.trail.now.vars x c.requires.watching
    (c.requires.watching.within c.args.watch.clause row c.literals-row.ensures x n.own)

pub swap-requires-clause-number : goal.swap-requires-clause-number
swap-requires-clause-number c = at_inside (rows_of c.args.clauses.now) c.args.watch.clause c.literals-row.result.now c.literals-row.ensures

pub swap-requires-clause-inside : goal.swap-requires-clause-inside
swap-requires-clause-inside c row e =
    let s : c.literals-row.result.now ≡ row = at_same (rows_of c.args.clauses.now) c.args.watch.clause c.literals-row.result.now row c.literals-row.ensures e in
    let at = c.in-Some-open_place.ensures.some in
    let o = other_at c.args.clauses.now c.args.lists.now.items c.args.trail.now.vars c.args.watch c.literals-row.result.now c.is_awake.result c.args.falsified c.other_watched-other.result
    c.in-Some.place c.requires.watching c.literals-row.ensures c.is_awake.ensures c.if-not-is_awake.false c.in-Some.ensures.some c.other_watched-other.ensures in
    subst (λ (z : List Literal). (c.in-Some.place < length z) × (c.in-Some-open_place.next < length z)) s
    (o.inside, at_inside c.literals-row.result.now c.in-Some-open_place.next at.1 at.2)

pub returns-in-Some-open_place-clause-watching : goal.returns-in-Some-open_place-clause-watching
returns-in-Some-open_place-clause-watching c =
    let rows = rows_of c.args.clauses.now in
    let pairs = pairs_of c.args.clauses.now in
    let lists = c.args.lists.now.items in
    let k = c.args.watch.clause in
    let row = c.literals-row.result.now in
    let other = c.other_watched-other.result in
    let x = c.index-row-next.result in
    let at = c.in-Some-open_place.ensures.some in
    let o = other_at c.args.clauses.now c.args.lists.now.items c.args.trail.now.vars c.args.watch c.literals-row.result.now c.is_awake.result c.args.falsified c.other_watched-other.result
    c.in-Some.place c.requires.watching c.literals-row.ensures c.is_awake.ensures c.if-not-is_awake.false c.in-Some.ensures.some c.other_watched-other.ensures in
    let n = found_at row (has c.args.trail.now.literals) other x at.1 c.in-Some-open_place.next c.index-row-next.is at.2 at.3 at.4 in
    let m = moved_at c.args.clauses.now c.swap.new.self c.args.watch row c.args.falsified other x c.in-Some.place c.in-Some-open_place.next o c.literals-row.ensures c.in-Some.ensures.some
    c.other_watched-other.ensures at.0 n.next_is c.swap.ensures in
    let w' : Watch = record { clause = c.args.watch.clause; blocker = other } in
    let lists' = put lists x w' in
    let pair' = pair_of (awake_clause m.later) in
    subst (λ z. IsWatching (rows_of c.swap.new.self) (pairs_of c.swap.new.self) z c.args.trail.now.vars) (sym c.in_ok-put_watch.ensures.ok)
    (subst (λ z. IsWatching z (pairs_of c.swap.new.self) lists' c.args.trail.now.vars) (sym m.rows)
    (subst (λ z. IsWatching (set rows k m.later) z lists' c.args.trail.now.vars) (sym m.pairs)
    (IsWatching-reordered rows (set rows k m.later) (set pairs k pair') lists' c.args.trail.now.vars m.reordered
    (IsWatching-move rows pairs lists' c.args.trail.now.vars k row pair' x other
    (IsWatching-put rows pairs lists c.args.trail.now.vars x w' c.requires.watching o.blocks) c.literals-row.ensures m.is_next n.own o.own))))

pub returns-in-Some-open_place-clause-walked : goal.returns-in-Some-open_place-clause-walked
returns-in-Some-open_place-clause-walked c early kept others part h =
    let rows = rows_of c.args.clauses.now in
    let pairs = pairs_of c.args.clauses.now in
    let lists = c.args.lists.now.items in
    let k = c.args.watch.clause in
    let row = c.literals-row.result.now in
    let other = c.other_watched-other.result in
    let x = c.index-row-next.result in
    let at = c.in-Some-open_place.ensures.some in
    let o = other_at c.args.clauses.now c.args.lists.now.items c.args.trail.now.vars c.args.watch c.literals-row.result.now c.is_awake.result c.args.falsified c.other_watched-other.result
    c.in-Some.place c.requires.watching c.literals-row.ensures c.is_awake.ensures c.if-not-is_awake.false c.in-Some.ensures.some c.other_watched-other.ensures in
    let n = found_at row (has c.args.trail.now.literals) other x at.1 c.in-Some-open_place.next c.index-row-next.is at.2 at.3 at.4 in
    let m = moved_at c.args.clauses.now c.swap.new.self c.args.watch row c.args.falsified other x c.in-Some.place c.in-Some-open_place.next o c.literals-row.ensures c.in-Some.ensures.some
    c.other_watched-other.ensures at.0 n.next_is c.swap.ensures in
    let f = c.args.falsified in
    let T = has c.args.trail.now.literals in
    let w' : Watch = record { clause = c.args.watch.clause; blocker = other } in
    let pair' = pair_of (awake_clause m.later) in
    let inside : place_of x < length lists =
    inside_table rows pairs lists c.args.trail.now.vars x c.requires.watching (c.requires.watching.within k row c.literals-row.ensures x n.own) in
    let lacks : T f ≡ false = sym (ap T (negated-negated f)) ∙ c.tell_trail.ensures.consistent (negated f) c.requires.falsified in
    subst (λ z. Walks early T (rows_of c.swap.new.self) (pairs_of c.swap.new.self) (with_list z f kept) others f) (sym c.in_ok-put_watch.ensures.ok)
    (subst (λ z. Walks early T z (pairs_of c.swap.new.self) (with_list (put lists x w') f kept) others f) (sym m.rows)
    (subst (λ z. Walks early T (set rows k m.later) z (with_list (put lists x w') f kept) others f) (sym m.pairs)
    (Walks-reordered early T rows (set rows k m.later) (set pairs k pair') (with_list (put lists x w') f kept) others f m.reordered
    (Walks-away early T rows pairs lists kept c.args.watch w' others f (pair_of (awake_clause row)) pair' other x h part inside refl o.paired refl o.is_other m.is_next lacks
    c.requires.falsified n.free n.apart row c.literals-row.ensures))))

pub returns-in-Some-open_place-clause-reordered : goal.returns-in-Some-open_place-clause-reordered
returns-in-Some-open_place-clause-reordered c =
    let rows = rows_of c.args.clauses.now in
    let pairs = pairs_of c.args.clauses.now in
    let lists = c.args.lists.now.items in
    let k = c.args.watch.clause in
    let row = c.literals-row.result.now in
    let other = c.other_watched-other.result in
    let x = c.index-row-next.result in
    let at = c.in-Some-open_place.ensures.some in
    let o = other_at c.args.clauses.now c.args.lists.now.items c.args.trail.now.vars c.args.watch c.literals-row.result.now c.is_awake.result c.args.falsified c.other_watched-other.result
    c.in-Some.place c.requires.watching c.literals-row.ensures c.is_awake.ensures c.if-not-is_awake.false c.in-Some.ensures.some c.other_watched-other.ensures in
    let n = found_at row (has c.args.trail.now.literals) other x at.1 c.in-Some-open_place.next c.index-row-next.is at.2 at.3 at.4 in
    let m = moved_at c.args.clauses.now c.swap.new.self c.args.watch row c.args.falsified other x c.in-Some.place c.in-Some-open_place.next o c.literals-row.ensures c.in-Some.ensures.some
    c.other_watched-other.ensures at.0 n.next_is c.swap.ensures in
    subst (λ z. AreReordered rows z) (sym m.rows) m.reordered

pub returns-in-Some-open_place-clause-stays : goal.returns-in-Some-open_place-clause-stays
returns-in-Some-open_place-clause-stays c =
    let rows = rows_of c.args.clauses.now in
    let pairs = pairs_of c.args.clauses.now in
    let lists = c.args.lists.now.items in
    let k = c.args.watch.clause in
    let row = c.literals-row.result.now in
    let other = c.other_watched-other.result in
    let x = c.index-row-next.result in
    let at = c.in-Some-open_place.ensures.some in
    let o = other_at c.args.clauses.now c.args.lists.now.items c.args.trail.now.vars c.args.watch c.literals-row.result.now c.is_awake.result c.args.falsified c.other_watched-other.result
    c.in-Some.place c.requires.watching c.literals-row.ensures c.is_awake.ensures c.if-not-is_awake.false c.in-Some.ensures.some c.other_watched-other.ensures in
    let n = found_at row (has c.args.trail.now.literals) other x at.1 c.in-Some-open_place.next c.index-row-next.is at.2 at.3 at.4 in
    let m = moved_at c.args.clauses.now c.swap.new.self c.args.watch row c.args.falsified other x c.in-Some.place c.in-Some-open_place.next o c.literals-row.ensures c.in-Some.ensures.some
    c.other_watched-other.ensures at.0 n.next_is c.swap.ensures in
    let pair' = pair_of (awake_clause m.later) in (
      λ all. subst (λ z. AllAwake z) (sym m.pairs) (AllAwake-move pairs k pair' refl all),
      λ set' part q. subst (λ z. Quiet z (pairs_of c.swap.new.self) set' set') (sym m.rows)
          (subst (λ z. Quiet (set rows k m.later) z set' set') (sym m.pairs)
          (Quiet-reordered rows (set rows k m.later) (set pairs k pair') set' set' m.reordered
          (Quiet-move rows pairs k (has c.args.trail.now.literals) set' (pair_of (awake_clause row)) pair' c.args.falsified other x o.paired refl o.is_other m.is_next n.free n.apart part q))),
    )

pub returns-in-Some-open_place-clause-justified : goal.returns-in-Some-open_place-clause-justified
returns-in-Some-open_place-clause-justified c all j =
    let rows = rows_of c.args.clauses.now in
    let pairs = pairs_of c.args.clauses.now in
    let lists = c.args.lists.now.items in
    let k = c.args.watch.clause in
    let row = c.literals-row.result.now in
    let other = c.other_watched-other.result in
    let x = c.index-row-next.result in
    let at = c.in-Some-open_place.ensures.some in
    let o = other_at c.args.clauses.now c.args.lists.now.items c.args.trail.now.vars c.args.watch c.literals-row.result.now c.is_awake.result c.args.falsified c.other_watched-other.result
    c.in-Some.place c.requires.watching c.literals-row.ensures c.is_awake.ensures c.if-not-is_awake.false c.in-Some.ensures.some c.other_watched-other.ensures in
    let n = found_at row (has c.args.trail.now.literals) other x at.1 c.in-Some-open_place.next c.index-row-next.is at.2 at.3 at.4 in
    let m = moved_at c.args.clauses.now c.swap.new.self c.args.watch row c.args.falsified other x c.in-Some.place c.in-Some-open_place.next o c.literals-row.ensures c.in-Some.ensures.some
    c.other_watched-other.ensures at.0 n.next_is c.swap.ensures in
    subst (λ z. IsJustified all z c.args.trail.now) (sym m.rows) (IsJustified-reordered all rows (set rows k m.later) c.args.trail.now m.reordered j)

-- no literal that is not watched is open

-- a row all of whose literals but one are false, and that one too
conflict : (rows : List (List Literal)) (t : Assigned) (k : ℕ) (row : List Literal) (other : Literal) → slice_get rows k ≡ Some row
    → ((l : Literal) → has row l ≡ true → same l other ≡ false → has t.literals (negated l) ≡ true) → has t.literals (negated other) ≡ true → IsConflict rows t k
conflict rows t k row other is f e = record {
  row = row;
  numbered = is;
  false_all = all_negated-from (has t.literals) row (λ l i. elim (cases_Bool (same l other)) [
    | inl s ↦ ap (λ z. has t.literals (negated z)) (same-true l other s) ∙ e
    | inr n ↦ f l i n
  ]);
}

-- the other literals of a row are false
others_false : (row : List Literal) (true_now : Literal → Bool) (f other : Literal) (place : ℕ) → IsWatchedAt row f place → other ≡ other_watched row place → true_now (negated f) ≡ true
    → ((k : ℕ) (l : Literal) → 2 ≤ k → slice_get row k ≡ Some l → same l other ≡ false → true_now (negated l) ≡ true)
    → (l : Literal) → has row l ≡ true → same l other ≡ false → true_now (negated l) ≡ true
others_false row true_now f other place at is falsified closed l i n =
    false_but_one row true_now f place at falsified (λ k m le e d. closed k m le e (ap (same m) is ∙ d)) l i (ap (same l) (sym is) ∙ n)

pub returns-then-is_false-clause-conflict : goal.returns-then-is_false-clause-conflict
returns-then-is_false-clause-conflict c =
    let row = c.literals-row.result.now in
    let other = c.other_watched-other.result in
    let o = other_at c.args.clauses.now c.args.lists.now.items c.args.trail.now.vars c.args.watch c.literals-row.result.now c.is_awake.result c.args.falsified c.other_watched-other.result
    c.in-Some.place c.requires.watching c.literals-row.ensures c.is_awake.ensures c.if-not-is_awake.false c.in-Some.ensures.some c.other_watched-other.ensures in (
      conflict (rows_of c.args.clauses.now) c.args.trail.now c.args.watch.clause row other c.literals-row.ensures
          (others_false row (has c.args.trail.now.literals) c.args.falsified other c.in-Some.place c.in-Some.ensures.some c.other_watched-other.ensures c.requires.falsified
          c.in_default-open_place.ensures.none)
          (sym c.is_false.ensures ∙ c.if-is_false.true),
      λ pair e. ap (λ (z : Pair). z.awake) (at_same (pairs_of c.args.clauses.now) c.args.watch.clause pair (pair_of (awake_clause row)) e o.paired),
    )

pub returns-then-is_false-clause-reordered : goal.returns-then-is_false-clause-reordered
returns-then-is_false-clause-reordered c = AreReordered-refl (rows_of c.args.clauses.now)

pub assign-requires-clause-place : goal.assign-requires-clause-place
assign-requires-clause-place c =
    let o = other_at c.args.clauses.now c.args.lists.now.items c.args.trail.now.vars c.args.watch c.literals-row.result.now c.is_awake.result c.args.falsified c.other_watched-other.result
    c.in-Some.place c.requires.watching c.literals-row.ensures c.is_awake.ensures c.if-not-is_awake.false c.in-Some.ensures.some c.other_watched-other.ensures in
    c.requires.watching.within c.args.watch.clause c.literals-row.result.now c.literals-row.ensures c.other_watched-other.result o.own

pub returns-clause-watching : goal.returns-clause-watching
returns-clause-watching c = rw (ap (λ (z : Assigned). z.vars) c.assign.ensures) c.requires.watching

pub returns-clause-blocked : goal.returns-clause-blocked
returns-clause-blocked c =
    (other_at c.args.clauses.now c.args.lists.now.items c.args.trail.now.vars c.args.watch c.literals-row.result.now c.is_awake.result c.args.falsified c.other_watched-other.result
    c.in-Some.place c.requires.watching c.literals-row.ensures c.is_awake.ensures c.if-not-is_awake.false c.in-Some.ensures.some c.other_watched-other.ensures).blocks

pub returns-clause-reordered : goal.returns-clause-reordered
returns-clause-reordered c = AreReordered-refl (rows_of c.args.clauses.now)

pub returns-clause-walked : goal.returns-clause-walked
returns-clause-walked c early kept others part h =
    let rows = rows_of c.args.clauses.now in
    let row = c.literals-row.result.now in
    let o = other_at c.args.clauses.now c.args.lists.now.items c.args.trail.now.vars c.args.watch c.literals-row.result.now c.is_awake.result c.args.falsified c.other_watched-other.result
    c.in-Some.place c.requires.watching c.literals-row.ensures c.is_awake.ensures c.if-not-is_awake.false c.in-Some.ensures.some c.other_watched-other.ensures in
    let xs = c.args.trail.now.literals in
    let l = c.other_watched-other.result in
    rw (ap (λ (z : Assigned). z.literals) c.assign.ensures)
    (Walks-stay early (has xs) (has (xs ++ l ∷ [])) rows (pairs_of c.args.clauses.now) c.args.lists.now.items kept c.args.watch
    (record { clause = c.args.watch.clause; blocker = l }) others c.args.falsified h (push_part xs l)
    (inside_table rows (pairs_of c.args.clauses.now) c.args.lists.now.items c.args.trail.now.vars c.args.falsified c.requires.watching c.requires.place) refl
    (met rows (pairs_of c.args.clauses.now) c.args.watch (has (xs ++ l ∷ [])) l row c.literals-row.ensures o.own (has_pushed xs l l ∙ or_right _ _ (same_refl l))))

pub returns-clause-justified : goal.returns-clause-justified
returns-clause-justified c all j =
    let row = c.literals-row.result.now in
    let other = c.other_watched-other.result in
    let o = other_at c.args.clauses.now c.args.lists.now.items c.args.trail.now.vars c.args.watch c.literals-row.result.now c.is_awake.result c.args.falsified c.other_watched-other.result
    c.in-Some.place c.requires.watching c.literals-row.ensures c.is_awake.ensures c.if-not-is_awake.false c.in-Some.ensures.some c.other_watched-other.ensures in
    rw c.assign.ensures
    (IsJustified-push all (rows_of c.args.clauses.now) c.args.trail.now other c.args.watch.clause row c.tell_trail.ensures j c.literals-row.ensures o.own
    (others_false row (has c.args.trail.now.literals) c.args.falsified other c.in-Some.place c.in-Some.ensures.some c.other_watched-other.ensures c.requires.falsified
    c.in_default-open_place.ensures.none))
