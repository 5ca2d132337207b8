-- A step: nothing waits, or an alternative was taken.
use Rattle.std.proofs.Common.{rules, ◌≡◌, Some, None, sym, subst}
use Rattle.kb_drive.specs.declared.waiting.Taken.{Taken}
use Rattle.kb_drive.specs.Following.{CanFollow, IsReachedBehind, IsTakenFrom, follows, walk_with}
use Rattle.kb_drive.specs.Walks.{IsWalk, KeepsCount, KeepsSources}
use Rattle.kb_drive.specs.declared.walk.Walk.{Walk}
use Rattle.kb_ways.specs.Reached.{IsReached}
use Rattle.kb_frames.proofs.FormedPaths.{roots_are_terms}
use Rattle.kb_picture.specs.declared.path.Leaf.TheVariants.{Open as OpenLeaf}
use Rattle.kb_drive.proofs.CountLaws.{keeps_count}
use Rattle.kb_drive.proofs.StepLaws.{can_be_taken}
use Rattle.kb_drive.proofs.TakenLaws.{can_follow, none_waits, oracle_unserved, refined_same, same_walk, step_holds, step_sources, stood_met, walk_behind, was_taken}
use Rattle.kb_drive.proofs.walk.step.Goals as goal

pub take_next-requires : goal.take_next-requires
take_next-requires g c = can_be_taken c.args.world.now c.args.walk.now.target c.args.bounds.now c.args.walk.now.waiting c.requires.explorable c.requires.waits

-- ---- nothing waits

pub returns-in_default-clause-walk : goal.returns-in_default-clause-walk
returns-in_default-clause-walk g c =
    let from : IsTakenFrom c.args.world.now c.args.bounds.now c.args.walk.now.waiting c.take_next.new.self None = search rules in
    subst (IsWalk c.args.world.now c.args.bounds.now (g.O.Oracle.budget c.args.oracle.now)) (sym (same_walk c.args.world.now c.args.bounds.now c.args.walk.now c.take_next.new.self from)) c.requires

pub returns-in_default-clause-refined : goal.returns-in_default-clause-refined
returns-in_default-clause-refined g c =
    let from : IsTakenFrom c.args.world.now c.args.bounds.now c.args.walk.now.waiting c.take_next.new.self None = search rules in
    refined_same c.args.world.now c.args.bounds.now c.args.walk.now _ (same_walk c.args.world.now c.args.bounds.now c.args.walk.now c.take_next.new.self from)

pub returns-in_default-clause-further : goal.returns-in_default-clause-further
returns-in_default-clause-further g c =
    let from : IsTakenFrom c.args.world.now c.args.bounds.now c.args.walk.now.waiting c.take_next.new.self None = search rules in
    ((none_waits c.args.world.now c.args.bounds.now c.args.walk.now.waiting c.take_next.new.self from).0, same_walk c.args.world.now c.args.bounds.now c.args.walk.now c.take_next.new.self from)

-- ---- an alternative was taken

pub ask_within-requires-clause-terms : goal.ask_within-requires-clause-terms
ask_within-requires-clause-terms g c =
    let reached : IsReached c.args.world.now c.in-Some.taken.piece.state = search rules in
    roots_are_terms c.args.world.now c.in-Some.taken.piece.state OpenLeaf reached.sound tt

pub ask_within-requires-clause-conditions : goal.ask_within-requires-clause-conditions
ask_within-requires-clause-conditions g c =
    let reached : IsReached c.args.world.now c.in-Some.taken.piece.state = search rules in
    reached.sound.conditions

pub ask_within-requires-clause-met : goal.ask_within-requires-clause-met
ask_within-requires-clause-met g c =
    let from : IsTakenFrom c.args.world.now c.args.bounds.now c.args.walk.now.waiting c.take_next.new.self (Some c.in-Some.taken) = search rules in
    let reached : IsReached c.args.world.now c.in-Some.taken.piece.state = search rules in
    stood_met c.args.world.now c.args.walk.now.target c.args.bounds.now c.args.walk.now.waiting c.take_next.new.self c.in-Some.taken (was_taken c.args.world.now c.args.walk.now.target c.args.bounds.now c.args.walk.now.waiting c.take_next.new.self c.in-Some.taken c.requires.waits from)
    c.requires.explorable reached

pub returns-in-Err-clause-unserved : goal.returns-in-Err-clause-unserved
returns-in-Err-clause-unserved g c =
    let from : IsTakenFrom c.args.world.now c.args.bounds.now c.args.walk.now.waiting c.take_next.new.self (Some c.in-Some.taken) = search rules in
    let reached : IsReached c.args.world.now c.in-Some.taken.piece.state = search rules in
    oracle_unserved c.args.world.now c.args.walk.now.target c.args.bounds.now c.args.walk.now.waiting c.take_next.new.self c.in-Some.taken (was_taken c.args.world.now c.args.walk.now.target c.args.bounds.now c.args.walk.now.waiting c.take_next.new.self c.in-Some.taken c.requires.waits from)
    c.requires.explorable reached (g.O.Oracle.unfit c.args.oracle.now) c.in-Err.stop c.in-Err.ensures.unserved

pub follow-requires-clause-range : goal.follow-requires-clause-range
follow-requires-clause-range g c = c.requires.explorable.range

pub follow-requires-clause-taken : goal.follow-requires-clause-taken
follow-requires-clause-taken g c =
    let from : IsTakenFrom c.args.world.now c.args.bounds.now c.args.walk.now.waiting c.take_next.new.self (Some c.in-Some.taken) = search rules in
    let reached : IsReached c.args.world.now c.in-Some.taken.piece.state = search rules in
    subst (CanFollow c.args.world.now) (sym c.ask_within.ensures.same)
    (can_follow c.args.world.now c.args.walk.now.target c.args.bounds.now c.args.walk.now.waiting c.take_next.new.self c.in-Some.taken (was_taken c.args.world.now c.args.walk.now.target c.args.bounds.now c.args.walk.now.waiting c.take_next.new.self c.in-Some.taken c.requires.waits from)
    c.requires.explorable reached)

pub returns-clause-walk : goal.returns-clause-walk
returns-clause-walk g c =
    let from : IsTakenFrom c.args.world.now c.args.bounds.now c.args.walk.now.waiting c.take_next.new.self (Some c.in-Some.taken) = search rules in
    let reached : IsReached c.args.world.now c.in-Some.taken.piece.state = search rules in
    let same : c.add.new.self ≡ walk_with (record c.args.walk.now { waiting = c.take_next.new.self }) (follows c.args.world.now c.args.bounds.now c.in-Some.taken c.in-Ok.known) =
    walk_behind c.args.world.now c.args.bounds.now (record c.args.walk.now { waiting = c.take_next.new.self }) c.in-Some.taken c.ask_within.new.taken c.in-Ok.known c.in_ok-next.next c.add.new.self
    c.in_ok-add.ensures c.in_ok-next.ensures.follows c.ask_within.ensures.same in
    (step_holds c.args.world.now c.args.bounds.now (g.O.Oracle.budget c.args.oracle.now) c.args.walk.now c.take_next.new.self c.in-Some.taken c.in-Ok.known c.add.new.self c.requires from
    c.in-Ok.ensures.known c.in-Ok.ensures.within reached (subst (λ (t : Taken). IsReachedBehind c.args.world.now c.args.bounds.now t c.in-Ok.known) c.ask_within.ensures.same c.in_ok-next.ensures.way) same).walk

pub returns-clause-refined : goal.returns-clause-refined
returns-clause-refined g c =
    let from : IsTakenFrom c.args.world.now c.args.bounds.now c.args.walk.now.waiting c.take_next.new.self (Some c.in-Some.taken) = search rules in
    let reached : IsReached c.args.world.now c.in-Some.taken.piece.state = search rules in
    let same : c.add.new.self ≡ walk_with (record c.args.walk.now { waiting = c.take_next.new.self }) (follows c.args.world.now c.args.bounds.now c.in-Some.taken c.in-Ok.known) =
    walk_behind c.args.world.now c.args.bounds.now (record c.args.walk.now { waiting = c.take_next.new.self }) c.in-Some.taken c.ask_within.new.taken c.in-Ok.known c.in_ok-next.next c.add.new.self
    c.in_ok-add.ensures c.in_ok-next.ensures.follows c.ask_within.ensures.same in
    (step_holds c.args.world.now c.args.bounds.now (g.O.Oracle.budget c.args.oracle.now) c.args.walk.now c.take_next.new.self c.in-Some.taken c.in-Ok.known c.add.new.self c.requires from
    c.in-Ok.ensures.known c.in-Ok.ensures.within reached (subst (λ (t : Taken). IsReachedBehind c.args.world.now c.args.bounds.now t c.in-Ok.known) c.ask_within.ensures.same c.in_ok-next.ensures.way) same).refined

pub returns-clause-further : goal.returns-clause-further
returns-clause-further g c =
    let from : IsTakenFrom c.args.world.now c.args.bounds.now c.args.walk.now.waiting c.take_next.new.self (Some c.in-Some.taken) = search rules in
    let reached : IsReached c.args.world.now c.in-Some.taken.piece.state = search rules in
    let same : c.add.new.self ≡ walk_with (record c.args.walk.now { waiting = c.take_next.new.self }) (follows c.args.world.now c.args.bounds.now c.in-Some.taken c.in-Ok.known) =
    walk_behind c.args.world.now c.args.bounds.now (record c.args.walk.now { waiting = c.take_next.new.self }) c.in-Some.taken c.ask_within.new.taken c.in-Ok.known c.in_ok-next.next c.add.new.self
    c.in_ok-add.ensures c.in_ok-next.ensures.follows c.ask_within.ensures.same in
    (step_holds c.args.world.now c.args.bounds.now (g.O.Oracle.budget c.args.oracle.now) c.args.walk.now c.take_next.new.self c.in-Some.taken c.in-Ok.known c.add.new.self c.requires from
    c.in-Ok.ensures.known c.in-Ok.ensures.within reached (subst (λ (t : Taken). IsReachedBehind c.args.world.now c.args.bounds.now t c.in-Ok.known) c.ask_within.ensures.same c.in_ok-next.ensures.way) same).further

pub returns-clause-given : goal.returns-clause-given
returns-clause-given g c =
    let from : IsTakenFrom c.args.world.now c.args.bounds.now c.args.walk.now.waiting c.take_next.new.self (Some c.in-Some.taken) = search rules in
    let reached : IsReached c.args.world.now c.in-Some.taken.piece.state = search rules in
    let same : c.add.new.self ≡ walk_with (record c.args.walk.now { waiting = c.take_next.new.self }) (follows c.args.world.now c.args.bounds.now c.in-Some.taken c.in-Ok.known) =
    walk_behind c.args.world.now c.args.bounds.now (record c.args.walk.now { waiting = c.take_next.new.self }) c.in-Some.taken c.ask_within.new.taken c.in-Ok.known c.in_ok-next.next c.add.new.self
    c.in_ok-add.ensures c.in_ok-next.ensures.follows c.ask_within.ensures.same in
    subst (λ (new : Walk). KeepsSources c.args.world.now c.args.walk.now new (g.O.Oracle.given c.args.oracle.now) (g.O.Oracle.given c.ask_within.new.oracle)) (sym same)
    (step_sources c.args.world.now c.args.bounds.now c.args.walk.now c.take_next.new.self c.in-Some.taken c.in-Ok.known (was_taken c.args.world.now c.args.walk.now.target c.args.bounds.now c.args.walk.now.waiting c.take_next.new.self c.in-Some.taken c.requires.waits from) c.requires.explorable reached (subst (λ (t : Taken). IsReachedBehind c.args.world.now c.args.bounds.now t c.in-Ok.known) c.ask_within.ensures.same c.in_ok-next.ensures.way)
    (g.O.Oracle.given c.args.oracle.now) (g.O.Oracle.given c.ask_within.new.oracle) c.in-Ok.ensures.given)

pub returns-clause-unsure : goal.returns-clause-unsure
returns-clause-unsure g c =
    let from : IsTakenFrom c.args.world.now c.args.bounds.now c.args.walk.now.waiting c.take_next.new.self (Some c.in-Some.taken) = search rules in
    let reached : IsReached c.args.world.now c.in-Some.taken.piece.state = search rules in
    let same : c.add.new.self ≡ walk_with (record c.args.walk.now { waiting = c.take_next.new.self }) (follows c.args.world.now c.args.bounds.now c.in-Some.taken c.in-Ok.known) =
    walk_behind c.args.world.now c.args.bounds.now (record c.args.walk.now { waiting = c.take_next.new.self }) c.in-Some.taken c.ask_within.new.taken c.in-Ok.known c.in_ok-next.next c.add.new.self
    c.in_ok-add.ensures c.in_ok-next.ensures.follows c.ask_within.ensures.same in
    subst (λ (new : Walk). KeepsCount c.args.walk.now new (g.O.Oracle.unsure c.args.oracle.now) (g.O.Oracle.unsure c.ask_within.new.oracle)) (sym same)
    (keeps_count c.args.world.now c.args.bounds.now c.args.walk.now c.take_next.new.self c.in-Some.taken c.in-Ok.known (g.O.Oracle.unsure c.args.oracle.now) (g.O.Oracle.unsure c.ask_within.new.oracle)
    c.in-Ok.ensures.undecided c.ask_within.ensures.later_unsure)
