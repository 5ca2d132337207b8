use Rattle.std.proofs.Common.{◌+◌, ◌<◌, ◌≤◌, subst, length, take, List, arith}
use Rattle.std.proofs.lemmas.List.{take_all}
use Rattle.kb_chain.specs.Literal.{Literal, has}
use Rattle.kb_chain.proofs.PropagationLaws.{IsFrontOf-length}
use Rattle.kb_propagate.specs.Rows.{rows_of}
use Rattle.kb_propagate.specs.Watches.{pairs_of, Quiet}
use Rattle.kb_propagate.proofs.JustifyLaws.{TrailGrows-part, TrailGrows-trans}
use Rattle.kb_propagate.proofs.WatchLaws.{StaysQuiet-trans, at_none}
use Rattle.kb_propagate.proofs.ReorderLaws.{AreReordered-trans}
use Rattle.kb_propagate.proofs.propagation.propagate.Goals as goal

pub returns-in-Some-clause-reordered : goal.returns-in-Some-clause-reordered
returns-in-Some-clause-reordered c =
    AreReordered-trans (rows_of c.args.clauses.now) (rows_of c.loop-next.clauses) (rows_of c.visit.new.clauses) c.loop-next.invariant.reordered c.in_ok-number.ensures.reordered

pub returns-in-Some-clause-stays : goal.returns-in-Some-clause-stays
returns-in-Some-clause-stays c =
    StaysQuiet-trans c.args.clauses.now c.loop-next.clauses c.visit.new.clauses (has c.args.trail.now.literals)
    (has c.loop-next.trail.literals) (TrailGrows-part c.args.trail.now c.loop-next.trail c.loop-next.invariant.grows) c.loop-next.invariant.stays c.in_ok-number.ensures.stays

pub loop-next-preserved : goal.loop-next-preserved
loop-next-preserved c =
    let lt : c.loop-next.next < length c.loop-next.trail.literals = subst (λ (z : List Literal). c.loop-next.next < length z) c.literals.ensures.value c.loop-next-test.true in
    let grown : length c.loop-next.trail.literals ≤ length c.visit.new.trail.literals =
    IsFrontOf-length c.loop-next.trail.literals c.visit.new.trail.literals c.in_ok-number.ensures.grows.literals in
    record {
      watching = c.in_ok-number.ensures.watching;
      listed = c.in_ok-number.ensures.listed;
      inside = omega (arith, lt, grown);
      quiet = at_none c.in_ok-number.field-0
          (Quiet (rows_of c.visit.new.clauses) (pairs_of c.visit.new.clauses) (has (take (c.loop-next.next + 1) c.visit.new.trail.literals)) (has c.visit.new.trail.literals))
          c.in-None.is c.in_ok-number.ensures.quiet;
      reordered = AreReordered-trans (rows_of c.args.clauses.now) (rows_of c.loop-next.clauses) (rows_of c.visit.new.clauses) c.loop-next.invariant.reordered c.in_ok-number.ensures.reordered;
      stays = StaysQuiet-trans c.args.clauses.now c.loop-next.clauses c.visit.new.clauses (has c.args.trail.now.literals)
          (has c.loop-next.trail.literals) (TrailGrows-part c.args.trail.now c.loop-next.trail c.loop-next.invariant.grows) c.loop-next.invariant.stays c.in_ok-number.ensures.stays;
      grows = TrailGrows-trans c.args.trail.now c.loop-next.trail c.visit.new.trail c.loop-next.invariant.grows c.in_ok-number.ensures.grows;
      justified = λ all j. c.in_ok-number.ensures.justified all (c.loop-next.invariant.justified all j);
    }

pub returns-clause-quiet : goal.returns-clause-quiet
returns-clause-quiet c =
    let done : length c.loop-next.trail.literals ≤ c.loop-next.next = subst (λ (z : List Literal). length z ≤ c.loop-next.next) c.literals.ensures.value c.loop-next-test.false in
    subst (λ z. Quiet (rows_of c.loop-next.clauses) (pairs_of c.loop-next.clauses) (has z) (has c.loop-next.trail.literals)) (take_all c.loop-next.next c.loop-next.trail.literals done)
    c.loop-next.invariant.quiet
