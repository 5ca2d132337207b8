use Rattle.std.proofs.Common.{◌≡◌, ◌+◌, ◌-◌, ◌<◌, ap, sym, ◌∙◌, subst, get_or, set, take, false, length, arith}
use Rattle.kb_chain.specs.Literal.{place_of}
use Rattle.kb_chain.specs.Trail.{IsMarked}
use Rattle.kb_propagate.proofs.TrailLaws.{IsMarked-back}
use Rattle.kb_propagate.proofs.trail.unmark.Goals as goal

pub loop-count-preserved-then-place-marks : goal.loop-count-preserved-then-place-marks
loop-count-preserved-then-place-marks c =
    let xs = c.args.literals.now in
    let n = c.loop-count.count - 1 in
    let x = c.index-literals-count.result in
    let read : get_or xs n x ≡ x = sym c.index-literals-count.is in
    let lt : n < length xs = omega arith in
    let whole : n + 1 ≡ c.loop-count.count = omega arith in
    let place : c.place-place.result ≡ place_of (get_or xs n x) = c.place-place.ensures.value ∙ ap place_of (sym read) in
    record {
      above = omega arith;
      below = omega arith;
      marked = subst (λ k. IsMarked (set c.loop-count.marks k false) (take n xs)) (sym place)
          (IsMarked-back c.loop-count.marks xs n x (subst (λ k. IsMarked c.loop-count.marks (take k xs)) (sym whole) c.loop-count.invariant.marked)
          c.requires.distinct lt (subst (λ k. k < length c.loop-count.marks) place c.if-place-marks.true));
    }
