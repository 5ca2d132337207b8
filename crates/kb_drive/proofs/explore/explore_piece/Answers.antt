-- The exploration of a piece: its loop begins, goes on and ends as ExploreLaws says.
use Rattle.std.proofs.Common.{◌≡◌, refl, sym, ap, ◌∙◌, subst, arith}
use Rattle.kb_drive.specs.declared.walk.Walk.{Walk}
use Rattle.kb_drive.specs.Counts.{RoseBy, undecided_count}
use Rattle.kb_drive.specs.Following.{walk_with}
use Rattle.kb_drive.specs.Values.{OfGiven}
use Rattle.kb_drive.specs.Walks.{IsFrom, IsFurther, IsWalk}
use Rattle.kb_drive.proofs.BeginLaws.{no_walk}
use Rattle.kb_drive.proofs.ExploreLaws.{Explores, begins, begun, begun_given, begun_unsure, ends, goes_on}
use Rattle.kb_drive.proofs.explore.explore_piece.Goals as goal

pub loop-walk-init : goal.loop-walk-init
loop-walk-init g c =
    let none : c.new-walk.result ≡ no_walk c.args.piece.state.method c.args.paths = c.new-walk.ensures ∙ ap (λ m. no_walk m c.args.paths) c.method.ensures in
    let same : c.add.new.self ≡ begun c.args.world.now c.args.bounds.now c.args.paths (g.O.Oracle.budget c.args.oracle.now) c.args.piece =
    c.in_ok-add.ensures ∙ ap (λ (walk : Walk). walk_with walk c.in_ok-begin.field-0) none
    ∙ ap (walk_with (no_walk c.args.piece.state.method c.args.paths)) c.in_ok-begin.ensures in
    let first : Explores c.args.world.now c.args.bounds.now c.args.paths (g.O.Oracle.budget c.args.oracle.now) c.args.piece c.add.new.self =
    subst (Explores c.args.world.now c.args.bounds.now c.args.paths (g.O.Oracle.budget c.args.oracle.now) c.args.piece) (sym same) (begins c.args.world.now c.args.bounds.now c.args.paths (g.O.Oracle.budget c.args.oracle.now) c.args.piece c.requires.piece c.requires.explorable) in
    record {
      walk = first.walk_is;
      target = first.target;
      paths = first.paths_are;
      inputs = first.inputs;
      others = first.others;
      fronts = first.fronts;
      unsure = subst (λ (walk : Walk). RoseBy (undecided_count walk.listed) (g.O.Oracle.unsure c.args.oracle.now) (g.O.Oracle.unsure c.args.oracle.now)) (sym same)
          (begun_unsure c.args.world.now c.args.bounds.now c.args.paths (g.O.Oracle.budget c.args.oracle.now) c.args.piece (g.O.Oracle.unsure c.args.oracle.now));
      given = λ none. subst (λ (walk : Walk). OfGiven (IsFrom c.args.world.now walk) (g.O.Oracle.given c.args.oracle.now) (g.O.Oracle.given c.args.oracle.now)) (sym same)
          (begun_given c.args.world.now c.args.bounds.now c.args.paths (g.O.Oracle.budget c.args.oracle.now) c.args.piece none (g.O.Oracle.given c.args.oracle.now));
      same_budget = refl;
      same_unfit = λ i q. (λ unfit. unfit, λ unfit. unfit);
      later_bad = omega arith;
      later_unsure = omega arith;
    }

pub loop-walk-preserved : goal.loop-walk-preserved
loop-walk-preserved g c =
    let old : Explores c.args.world.now c.args.bounds.now c.args.paths (g.O.Oracle.budget c.args.oracle.now) c.args.piece c.loop-walk.walk = record {
      walk_is = c.loop-walk.invariant.walk;
      target = c.loop-walk.invariant.target;
      paths_are = c.loop-walk.invariant.paths;
      inputs = c.loop-walk.invariant.inputs;
      others = c.loop-walk.invariant.others;
      fronts = c.loop-walk.invariant.fronts;
    } in
    let is : IsWalk c.args.world.now c.args.bounds.now (g.O.Oracle.budget c.args.oracle.now) c.step.new.walk =
    subst (λ budget. IsWalk c.args.world.now c.args.bounds.now budget c.step.new.walk) c.loop-walk.invariant.same_budget c.in_ok-step.ensures.walk in
    let next : Explores c.args.world.now c.args.bounds.now c.args.paths (g.O.Oracle.budget c.args.oracle.now) c.args.piece c.step.new.walk = goes_on c.args.world.now c.args.bounds.now c.args.paths (g.O.Oracle.budget c.args.oracle.now) c.args.piece c.loop-walk.walk c.step.new.walk old is c.in_ok-step.ensures.refined in
    record {
      walk = next.walk_is;
      target = next.target;
      paths = next.paths_are;
      inputs = next.inputs;
      others = next.others;
      fronts = next.fronts;
      unsure = c.in_ok-step.ensures.unsure (g.O.Oracle.unsure c.args.oracle.now) c.loop-walk.invariant.unsure;
      given = λ none. c.in_ok-step.ensures.given (g.O.Oracle.given c.args.oracle.now) (c.loop-walk.invariant.given none);
      same_budget = c.step.ensures.same_budget ∙ c.loop-walk.invariant.same_budget;
      same_unfit = λ i q. (
        λ unfit. (c.loop-walk.invariant.same_unfit i q).0 ((c.step.ensures.same_unfit i q).0 unfit),
        λ unfit. (c.step.ensures.same_unfit i q).1 ((c.loop-walk.invariant.same_unfit i q).1 unfit),
      );
      later_bad = omega (arith, c.step.ensures.later_bad, c.loop-walk.invariant.later_bad);
      later_unsure = omega (arith, c.step.ensures.later_unsure, c.loop-walk.invariant.later_unsure);
    }

pub returns-clause-covers : goal.returns-clause-covers
returns-clause-covers g c =
    let old : Explores c.args.world.now c.args.bounds.now c.args.paths (g.O.Oracle.budget c.args.oracle.now) c.args.piece c.loop-walk.walk = record {
      walk_is = c.loop-walk.invariant.walk;
      target = c.loop-walk.invariant.target;
      paths_are = c.loop-walk.invariant.paths;
      inputs = c.loop-walk.invariant.inputs;
      others = c.loop-walk.invariant.others;
      fronts = c.loop-walk.invariant.fronts;
    } in
    ends c.args.world.now c.args.bounds.now c.args.paths (g.O.Oracle.budget c.args.oracle.now) c.args.piece c.loop-walk.walk c.step.new.walk old
    (subst (IsFurther c.args.world.now c.args.bounds.now c.loop-walk.walk c.step.new.walk) c.if-branch.false c.in_ok-step.ensures.further)
