use Rattle.std.proofs.Common.{◌≡◌, ℕ, ◌+◌, ◌*◌, ◌<◌, ◌≤◌, ◌∙◌, ap, sym, subst, refl, length, length-set, set, take, drop, List, [], ◌∷◌, ◌++◌, Bool, true, arith}
use Rattle.std.proofs.lemmas.List.{drop_all}
use Rattle.std.proofs.lemmas.Option.{slice_get_read}
use Rattle.kb_chain.specs.Literal.{Literal, has, negated, place_of}
use Rattle.kb_propagate.specs.Rows.{rows_of}
use Rattle.kb_propagate.specs.Watches.{Pair, pairs_of, IsAwake, Walks, AllListed, Quiet, all_blocked, is_blocked, with_list}
use Rattle.kb_propagate.specs.Walking.{IfGoesOn, kept_with}
use Rattle.kb_propagate.specs.Base.{IsConflict}
use Rattle.kb_propagate.specs.declared.propagation.Outcome.{Outcome}
use Rattle.kb_propagate.specs.declared.watch.Watch.{Watch}
use Rattle.kb_propagate.proofs.JustifyLaws.{TrailGrows-part, TrailGrows-trans}
use Rattle.kb_propagate.proofs.WatchLaws.{AllListed-back, StaysQuiet-trans, Walks-end, Walks-next, Walks-written, blocked_front, blocked_cut, blocked_at, blocked_set, kept_at, at_conflict}
use Rattle.kb_propagate.proofs.ReorderLaws.{AreReordered-trans, blocked_reordered}
use Rattle.kb_propagate.proofs.propagation.take_up.Goals as goal
use Rattle.kb_propagate.proofs.propagation.take_up.Goals.{in-Kept, in-Removed}

-- where the walk goes on behind a watch, unless its clause is false
abbrev Follows : (Literal → Bool) → (Literal → Bool) → List (List Literal) → List (List Literal) → List Pair → List Pair → List (List Watch) → List (List Watch) → Watch → Literal → Outcome
    → Type 0
Follows old new rows rows' pairs pairs' lists lists' w f outcome = IfGoesOn ((early : Literal → Bool) (kept others : List Watch) → ((l : Literal) → early l ≡ true → old l ≡ true)
    → Walks early old rows pairs (with_list lists f kept) (w ∷ others) f → Walks early new rows' pairs' (with_list lists' f (kept_with kept outcome)) others f) outcome

pub examine-requires-clause-watch : goal.examine-requires-clause-watch
examine-requires-clause-watch c =
    blocked_at (rows_of c.loop-next.clauses) c.loop-next.watches c.loop-next.next c.index-watches-next.result c.loop-next.invariant.blocked
    (slice_get_read c.loop-next.watches (length c.loop-next.watches) c.loop-next.next c.index-watches-next.result refl (omega (arith, c.loop-next-test.true, c.loop-next.invariant.size)) c.index-watches-next.is)

pub loop-next-preserved : goal.loop-next-preserved
loop-next-preserved c =
    let xs = c.loop-next.watches in
    let next = c.loop-next.next in
    let kept = c.loop-next.kept in
    let w = c.index-watches-next.result in
    let grows = c.in_ok-outcome.ensures.grows in
    let part = TrailGrows-part c.loop-next.trail c.examine.new.trail grows in
    let behind : kept ≤ next = c.loop-next.invariant.behind in
    let bound : next < length c.args.watches.now = c.loop-next-test.true in
    let size : length xs ≡ length c.args.watches.now = c.loop-next.invariant.size in
    let inside : next < length xs = omega (arith, bound, size) in
    let read = slice_get_read xs (length xs) next w refl inside c.index-watches-next.is in
    elim c.match-outcome.branch [
      | in-Kept v ↦
          (let later = v.in-Kept.later in
          let written : c.match-outcome.watches ≡ set xs kept later = v.watches-is in
          let count : c.match-outcome.kept ≡ kept + 1 = v.kept-is in
          record {
            watching = c.in_ok-outcome.ensures.watching;
            size = ap length written ∙ (length-set xs kept later ∙ c.loop-next.invariant.size);
            behind = omega (arith, behind, count);
            blocked = ap (all_blocked (rows_of c.examine.new.clauses)) written
                ∙ blocked_set (rows_of c.examine.new.clauses) xs kept later
                (blocked_reordered (rows_of c.loop-next.clauses) (rows_of c.examine.new.clauses) xs c.in_ok-outcome.ensures.reordered c.loop-next.invariant.blocked)
                (kept_at c.in_ok-outcome.outcome later (λ v. is_blocked (rows_of c.examine.new.clauses) v ≡ true) v.in-Kept.is c.in_ok-outcome.ensures.blocked);
            place = subst (λ n. place_of c.args.falsified < 2 * n + 2) (sym grows.vars) c.loop-next.invariant.place;
            falsified = part (negated c.args.falsified) c.loop-next.invariant.falsified;
            part = λ m e. part m (c.loop-next.invariant.part m e);
            walks = λ early earlier h.
                subst (λ n. Walks early (has c.examine.new.trail.literals) (rows_of c.examine.new.clauses) (pairs_of c.examine.new.clauses) (with_list c.examine.new.lists.items c.args.falsified (take n c.match-outcome.watches)) (drop (next + 1) c.match-outcome.watches) c.args.falsified) (sym count)
                (subst (λ z. Walks early (has c.examine.new.trail.literals) (rows_of c.examine.new.clauses) (pairs_of c.examine.new.clauses) (with_list c.examine.new.lists.items c.args.falsified (take (kept + 1) z)) (drop (next + 1) z) c.args.falsified)
                (sym written)
                (Walks-written early (has c.examine.new.trail.literals) (rows_of c.examine.new.clauses) (pairs_of c.examine.new.clauses) c.examine.new.lists.items xs kept next later c.args.falsified behind inside
                ((subst (λ z. Follows (has c.loop-next.trail.literals) (has c.examine.new.trail.literals) (rows_of c.loop-next.clauses) (rows_of c.examine.new.clauses) (pairs_of c.loop-next.clauses) (pairs_of c.examine.new.clauses) c.loop-next.lists.items c.examine.new.lists.items w c.args.falsified z) v.in-Kept.is c.in_ok-outcome.ensures.walked) early (take kept xs) (drop (next + 1) xs) (λ l e. c.loop-next.invariant.part l (earlier l e))
                (Walks-next early (has c.loop-next.trail.literals) (rows_of c.loop-next.clauses) (pairs_of c.loop-next.clauses) (with_list c.loop-next.lists.items c.args.falsified (take kept xs)) xs next w c.args.falsified
                read (c.loop-next.invariant.walks early earlier h)))));
            reordered = AreReordered-trans (rows_of c.args.clauses.now) (rows_of c.loop-next.clauses) (rows_of c.examine.new.clauses) c.loop-next.invariant.reordered c.in_ok-outcome.ensures.reordered;
            stays = StaysQuiet-trans c.args.clauses.now c.loop-next.clauses c.examine.new.clauses (has c.args.trail.now.literals) (has c.loop-next.trail.literals)
                c.loop-next.invariant.part c.loop-next.invariant.stays c.in_ok-outcome.ensures.stays;
            grows = TrailGrows-trans c.args.trail.now c.loop-next.trail c.examine.new.trail c.loop-next.invariant.grows grows;
            justified = λ all j. c.in_ok-outcome.ensures.justified all (c.loop-next.invariant.justified all j);
          })
      | in-Removed v ↦
          (let written : c.match-outcome.watches ≡ xs = v.watches-is in
          let count : c.match-outcome.kept ≡ kept = v.kept-is in
          record {
            watching = c.in_ok-outcome.ensures.watching;
            size = ap length written ∙ c.loop-next.invariant.size;
            behind = omega (arith, behind, count);
            blocked = ap (all_blocked (rows_of c.examine.new.clauses)) written ∙ blocked_reordered (rows_of c.loop-next.clauses) (rows_of c.examine.new.clauses) xs c.in_ok-outcome.ensures.reordered c.loop-next.invariant.blocked;
            place = subst (λ n. place_of c.args.falsified < 2 * n + 2) (sym grows.vars) c.loop-next.invariant.place;
            falsified = part (negated c.args.falsified) c.loop-next.invariant.falsified;
            part = λ m e. part m (c.loop-next.invariant.part m e);
            walks = λ early earlier h.
                subst (λ n. Walks early (has c.examine.new.trail.literals) (rows_of c.examine.new.clauses) (pairs_of c.examine.new.clauses) (with_list c.examine.new.lists.items c.args.falsified (take n c.match-outcome.watches)) (drop (next + 1) c.match-outcome.watches) c.args.falsified) (sym count)
                (subst (λ z. Walks early (has c.examine.new.trail.literals) (rows_of c.examine.new.clauses) (pairs_of c.examine.new.clauses) (with_list c.examine.new.lists.items c.args.falsified (take kept z)) (drop (next + 1) z) c.args.falsified) (sym written)
                ((subst (λ z. Follows (has c.loop-next.trail.literals) (has c.examine.new.trail.literals) (rows_of c.loop-next.clauses) (rows_of c.examine.new.clauses) (pairs_of c.loop-next.clauses) (pairs_of c.examine.new.clauses) c.loop-next.lists.items c.examine.new.lists.items w c.args.falsified z) v.in-Removed.is c.in_ok-outcome.ensures.walked) early (take kept xs) (drop (next + 1) xs) (λ l e. c.loop-next.invariant.part l (earlier l e))
                (Walks-next early (has c.loop-next.trail.literals) (rows_of c.loop-next.clauses) (pairs_of c.loop-next.clauses) (with_list c.loop-next.lists.items c.args.falsified (take kept xs)) xs next w c.args.falsified
                read (c.loop-next.invariant.walks early earlier h))));
            reordered = AreReordered-trans (rows_of c.args.clauses.now) (rows_of c.loop-next.clauses) (rows_of c.examine.new.clauses) c.loop-next.invariant.reordered c.in_ok-outcome.ensures.reordered;
            stays = StaysQuiet-trans c.args.clauses.now c.loop-next.clauses c.examine.new.clauses (has c.args.trail.now.literals) (has c.loop-next.trail.literals)
                c.loop-next.invariant.part c.loop-next.invariant.stays c.in_ok-outcome.ensures.stays;
            grows = TrailGrows-trans c.args.trail.now c.loop-next.trail c.examine.new.trail c.loop-next.invariant.grows grows;
            justified = λ all j. c.in_ok-outcome.ensures.justified all (c.loop-next.invariant.justified all j);
          })
    ]

pub returns-in-Conflict-clause-blocked : goal.returns-in-Conflict-clause-blocked
returns-in-Conflict-clause-blocked c =
    ap (all_blocked (rows_of c.examine.new.clauses)) c.close_gap.ensures
    ∙ blocked_cut (rows_of c.examine.new.clauses) c.loop-next.watches c.loop-next.kept c.loop-next.next
    (blocked_reordered (rows_of c.loop-next.clauses) (rows_of c.examine.new.clauses) c.loop-next.watches c.in_ok-outcome.ensures.reordered c.loop-next.invariant.blocked)

-- the table and the list as a conflict leaves them
pub returns-in-Conflict-clause-walked : goal.returns-in-Conflict-clause-walked
returns-in-Conflict-clause-walked c early part h =
    let same = at_conflict c.in_ok-outcome.outcome ((c.examine.new.clauses ≡ c.loop-next.clauses) × (c.examine.new.lists.items ≡ c.loop-next.lists.items) × (c.examine.new.trail ≡ c.loop-next.trail)) c.in-Conflict.is
    c.in_ok-outcome.ensures.unchanged in
    let xs = c.loop-next.watches in
    let f = c.args.falsified in
    let place : place_of f < length c.loop-next.lists.items = subst (λ n. place_of f < n) (sym c.loop-next.invariant.watching.places) c.loop-next.invariant.place in
    subst (λ z. AllListed (with_list c.examine.new.lists.items f z) (pairs_of c.examine.new.clauses)) (sym c.close_gap.ensures)
    (subst (λ z. AllListed (with_list z f (take c.loop-next.kept xs ++ drop c.loop-next.next xs)) (pairs_of c.examine.new.clauses)) (sym same.1)
    (subst (λ z. AllListed (with_list c.loop-next.lists.items f (take c.loop-next.kept xs ++ drop c.loop-next.next xs)) (pairs_of z)) (sym same.0)
    (AllListed-back early (has c.loop-next.trail.literals) (rows_of c.loop-next.clauses) (pairs_of c.loop-next.clauses) c.loop-next.lists.items (take c.loop-next.kept xs) (drop c.loop-next.next xs) f
    (c.loop-next.invariant.walks early part h) place)))

pub returns-in-Conflict-clause-conflict : goal.returns-in-Conflict-clause-conflict
returns-in-Conflict-clause-conflict c =
    at_conflict c.in_ok-outcome.outcome (IsConflict (rows_of c.examine.new.clauses) c.examine.new.trail c.index-watches-next.result.clause × IsAwake (pairs_of c.examine.new.clauses) c.index-watches-next.result.clause) c.in-Conflict.is c.in_ok-outcome.ensures.conflict

pub returns-in-Conflict-clause-reordered : goal.returns-in-Conflict-clause-reordered
returns-in-Conflict-clause-reordered c =
    AreReordered-trans (rows_of c.args.clauses.now) (rows_of c.loop-next.clauses) (rows_of c.examine.new.clauses) c.loop-next.invariant.reordered c.in_ok-outcome.ensures.reordered

pub returns-in-Conflict-clause-stays : goal.returns-in-Conflict-clause-stays
returns-in-Conflict-clause-stays c =
    StaysQuiet-trans c.args.clauses.now c.loop-next.clauses c.examine.new.clauses (has c.args.trail.now.literals) (has c.loop-next.trail.literals)
    c.loop-next.invariant.part c.loop-next.invariant.stays c.in_ok-outcome.ensures.stays

pub returns-clause-blocked : goal.returns-clause-blocked
returns-clause-blocked c =
    blocked_front (rows_of c.loop-next.clauses) c.loop-next.watches c.loop-next.kept c.loop-next.invariant.blocked

-- nothing is left to be taken up
finished : (early late : Literal → Bool) (rows : List (List Literal)) (pairs : List Pair) (lists : List (List Watch)) (list : List Watch) (kept next : ℕ) (f : Literal) → length list ≤ next
    → Walks early late rows pairs (with_list lists f (take kept list)) (drop next list) f → AllListed (with_list lists f (take kept list)) pairs × Quiet rows pairs early late
finished early late rows pairs lists list kept next f le h =
    Walks-end early late rows pairs (with_list lists f (take kept list)) f
    (subst (λ z. Walks early late rows pairs (with_list lists f (take kept list)) z f) (drop_all next list le) h)

pub returns-clause-walked : goal.returns-clause-walked
returns-clause-walked c early part h =
    (finished early (has c.loop-next.trail.literals) (rows_of c.loop-next.clauses) (pairs_of c.loop-next.clauses) c.loop-next.lists.items c.loop-next.watches c.loop-next.kept c.loop-next.next c.args.falsified
    (omega (arith, c.loop-next-test.false, c.loop-next.invariant.size)) (c.loop-next.invariant.walks early part h)).0

pub returns-clause-quiet : goal.returns-clause-quiet
returns-clause-quiet c early part h =
    (finished early (has c.loop-next.trail.literals) (rows_of c.loop-next.clauses) (pairs_of c.loop-next.clauses) c.loop-next.lists.items c.loop-next.watches c.loop-next.kept c.loop-next.next c.args.falsified
    (omega (arith, c.loop-next-test.false, c.loop-next.invariant.size)) (c.loop-next.invariant.walks early part h)).1
