use Rattle.std.proofs.Common.{◌≡◌, ◌+◌, ◌*◌, ◌<◌, ◌∙◌, ap, sym, subst, true, length, get_or, set, take, List, [], arith, Bool}
use Rattle.std.proofs.lemmas.List.{get_or_read}
use Rattle.kb_chain.specs.Literal.{Literal, has, negated, place_of}
use Rattle.kb_chain.proofs.OrderLaws.{has_get_or}
use Rattle.kb_chain.proofs.PropagationLaws.{taken_part, IsFrontOf-take, place_of-negated}
use Rattle.kb_propagate.specs.Rows.{rows_of}
use Rattle.kb_propagate.specs.Watches.{pairs_of, IsWatching, Walks, AllListed, Quiet, all_blocked, at_literal, with_list}
use Rattle.kb_propagate.proofs.WatchLaws.{IsWatching-out, IsWatching-list, Walks-taken, if_none}
use Rattle.kb_propagate.proofs.propagation.visit.Goals as goal
use Rattle.kb_propagate.proofs.propagation.visit.Goals.{After-swap, After-swap-2}

-- the list that was taken out, and what is left of the table
emptied : (c : After-swap) → set c.args.watches.now.lists.items c.place-place.result c.swap.new.x ≡ set c.args.watches.now.lists.items (place_of (negated c.index-literals-position.result)) []
emptied c =
    ap (λ k. set c.args.watches.now.lists.items k c.swap.new.x) (c.place-place.ensures.value ∙ ap place_of c.negated-falsified.ensures)
    ∙ ap (λ z. set c.args.watches.now.lists.items (place_of (negated c.index-literals-position.result)) z) (c.swap.ensures.x_after ∙ c.clear.ensures)

read : (c : After-swap) → c.index-literals-position.result ≡ get_or c.args.trail.now.literals c.args.position c.index-literals-position.result
read c = c.index-literals-position.is ∙ ap (λ (z : List Literal). get_or z c.args.position c.index-literals-position.result) c.literals.ensures.value

inside : (c : After-swap) → c.place-place.result < length c.args.watches.now.lists.items
inside c =
    let x = c.index-literals-position.result in
    let has_x : has c.args.trail.now.literals x ≡ true = ap (has c.args.trail.now.literals) (read c) ∙ has_get_or c.args.trail.now.literals c.args.position x c.requires.inside in
    let low : place_of (negated x) < 2 * c.args.trail.now.vars + 2 = place_of-negated x c.args.trail.now.vars (c.literals.ensures.trail.within x has_x) in
    let at : c.place-place.result ≡ place_of (negated x) = c.place-place.ensures.value ∙ ap place_of c.negated-falsified.ensures in
    let size : length c.args.watches.now.lists.items ≡ 2 * c.args.trail.now.vars + 2 = c.requires.watching.places in
    omega (arith, low, at, size)

taken : (c : After-swap) → c.swap.new.y ≡ at_literal c.args.watches.now.lists.items (negated c.index-literals-position.result)
taken c =
    c.swap.ensures.y_after
    ∙ (get_or_read c.args.watches.now.lists.items c.place-place.result c.index_mut.result.now (inside c) c.index_mut.ensures.value []
    ∙ ap (λ k. get_or c.args.watches.now.lists.items k []) (c.place-place.ensures.value ∙ ap place_of c.negated-falsified.ensures))

pub walk-requires-clause-watching : goal.walk-requires-clause-watching
walk-requires-clause-watching c =
    subst (λ z. IsWatching (rows_of c.args.clauses.now) (pairs_of c.args.clauses.now) z c.args.trail.now.vars) (sym (emptied (goal.at.walk-requires-clause-watching c).After-swap))
    (IsWatching-out (rows_of c.args.clauses.now) (pairs_of c.args.clauses.now) c.args.watches.now.lists.items c.args.trail.now.vars (negated c.index-literals-position.result) c.requires.watching).0

pub walk-requires-clause-blocked : goal.walk-requires-clause-blocked
walk-requires-clause-blocked c =
    ap (all_blocked (rows_of c.args.clauses.now)) (taken (goal.at.walk-requires-clause-blocked c).After-swap)
    ∙ (IsWatching-out (rows_of c.args.clauses.now) (pairs_of c.args.clauses.now) c.args.watches.now.lists.items c.args.trail.now.vars (negated c.index-literals-position.result) c.requires.watching).1

-- the list goes back into its place
returned : (c : After-swap-2) → set c.walk.new.lists.items c.place-place.result c.swap-2.new.x ≡ with_list c.walk.new.lists.items c.negated-falsified.result c.walk.new.list
returned c =
    ap (λ k. set c.walk.new.lists.items k c.swap-2.new.x) c.place-place.ensures.value
    ∙ ap (λ z. set c.walk.new.lists.items (place_of c.negated-falsified.result) z) c.swap-2.ensures.x_after

walks : (c : After-swap) → Walks (has (take (c.args.position + 1) c.args.trail.now.literals)) (has c.args.trail.now.literals) (rows_of c.args.clauses.now) (pairs_of c.args.clauses.now)
    (with_list (set c.args.watches.now.lists.items c.place-place.result c.swap.new.x) c.negated-falsified.result []) c.swap.new.y c.negated-falsified.result
walks c =
    let xs = c.args.trail.now.literals in
    let x = c.index-literals-position.result in
    Walks-taken (rows_of c.args.clauses.now) (pairs_of c.args.clauses.now) c.args.watches.now.lists.items c.args.trail.now.vars xs c.args.position x c.negated-falsified.result c.place-place.result
    c.swap.new.x c.swap.new.y c.index_mut.result.now c.requires.inside (read c) c.requires.watching c.literals.ensures.trail.within c.requires.listed c.requires.quiet
    c.negated-falsified.ensures c.place-place.ensures.value c.swap.ensures.y_after c.index_mut.ensures.value

pub returns-clause-watching : goal.returns-clause-watching
returns-clause-watching c =
    subst (λ z. IsWatching (rows_of c.walk.new.clauses) (pairs_of c.walk.new.clauses) z c.walk.new.trail.vars) (sym (returned (goal.at.returns-clause-watching c).After-swap-2))
    (IsWatching-list (rows_of c.walk.new.clauses) (pairs_of c.walk.new.clauses) c.walk.new.lists.items c.walk.new.trail.vars c.negated-falsified.result c.walk.new.list c.in_ok-conflict.ensures.watching
    c.in_ok-conflict.ensures.blocked)

pub returns-clause-listed : goal.returns-clause-listed
returns-clause-listed c =
    subst (λ z. AllListed z (pairs_of c.walk.new.clauses)) (sym (returned (goal.at.returns-clause-listed c).After-swap-2))
    (c.in_ok-conflict.ensures.walked (has (take (c.args.position + 1) c.args.trail.now.literals)) (λ l e. taken_part c.args.trail.now.literals (c.args.position + 1) l e) (walks (goal.at.returns-clause-listed c).After-swap))

pub returns-clause-quiet : goal.returns-clause-quiet
returns-clause-quiet c =
    let xs = c.args.trail.now.literals in
    let front : take (c.args.position + 1) c.walk.new.trail.literals ≡ take (c.args.position + 1) xs =
    IsFrontOf-take xs c.walk.new.trail.literals (c.args.position + 1) c.in_ok-conflict.ensures.grows.literals (let lt : c.args.position < length xs = c.requires.inside in omega (arith, lt)) in
    if_none c.in_ok-conflict.conflict
    ((early : Literal → Bool) → ((l : Literal) → early l ≡ true → has xs l ≡ true)
    → Walks early (has xs) (rows_of c.args.clauses.now) (pairs_of c.args.clauses.now)
    (with_list (set c.args.watches.now.lists.items c.place-place.result c.swap.new.x) c.negated-falsified.result []) c.swap.new.y c.negated-falsified.result
    → Quiet (rows_of c.walk.new.clauses) (pairs_of c.walk.new.clauses) early (has c.walk.new.trail.literals))
    (Quiet (rows_of c.walk.new.clauses) (pairs_of c.walk.new.clauses) (has (take (c.args.position + 1) c.walk.new.trail.literals)) (has c.walk.new.trail.literals))
    (λ f. subst (λ z. Quiet (rows_of c.walk.new.clauses) (pairs_of c.walk.new.clauses) (has z) (has c.walk.new.trail.literals)) (sym front)
    (f (has (take (c.args.position + 1) xs)) (λ l e. taken_part xs (c.args.position + 1) l e) (walks (goal.at.returns-clause-quiet c).After-swap)))
    c.in_ok-conflict.ensures.quiet
