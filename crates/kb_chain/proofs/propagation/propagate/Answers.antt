use Rattle.std.proofs.Common.{◌≡◌, ◌∙◌, ap, sym, refl, subst, true, List, get_or, arith, length, ◌<◌, ◌≤◌, ◌*◌, ◌+◌}
use Rattle.std.proofs.lemmas.Bool.{OnTrue_at}
use Rattle.kb_chain.specs.Literal.{Literal, has, place_of, negated}
use Rattle.kb_chain.proofs.OrderLaws.{has_get_or}
use Rattle.kb_chain.proofs.PropagationLaws.{IsFrontOf-trans, IsFrontOf-length, IsSettled_taken, AreSettled_end, place_of-negated, IsFrontOf-refl}
use Rattle.kb_chain.proofs.propagation.propagate.Goals as goal

pub loop-next-init : goal.loop-next-init
loop-next-init c = record {
  places = refl;
  inside = c.requires.inside;
  extended = IsFrontOf-refl c.args.trail.now.literals;
  settled = c.requires.settled;
  least = λ set closed includes. includes;
}

pub visit-requires-clause-row : goal.visit-requires-clause-row
visit-requires-clause-row c =
    let inside : has c.loop-next.trail.literals c.index-literals-next.result ≡ true =
    ap (λ z. has z c.index-literals-next.result) (sym c.literals-in-loop-next.ensures.value)
    ∙ (ap (λ z. has c.literals-in-loop-next.result.now z) c.index-literals-next.is
    ∙ has_get_or c.literals-in-loop-next.result.now c.loop-next.next c.index-literals-next.result (next_inside c)) in
    let size : c.loop-next.trail.places ≡ 2 * c.args.store.now.vars + 2 = c.loop-next.invariant.places ∙ c.requires.places in
    let low : place_of c.index-literals-next.result < 2 * c.args.store.now.vars + 2 =
    subst (λ z. place_of c.index-literals-next.result < z) size (c.literals.ensures.within c.index-literals-next.result inside) in
    rw (c.negated-negation.ensures, c.requires.rows) (place_of-negated c.index-literals-next.result c.args.store.now.vars low)
  where
    next_inside : (c : goal.After-visit-arg-1) → c.loop-next.next < length c.literals-in-loop-next.result.now
    next_inside c =
        subst (λ z. c.loop-next.next < length z) (c.literals.ensures.value ∙ sym c.literals-in-loop-next.ensures.value) c.loop-next-test.true

pub returns-then-not-branch-clause-least : goal.returns-then-not-branch-clause-least
returns-then-not-branch-clause-least c set closed includes = c.in_ok-visit.ensures.least set closed (c.loop-next.invariant.least set closed includes)

pub loop-next-preserved : goal.loop-next-preserved
loop-next-preserved c =
    let lt : c.loop-next.next < length c.loop-next.trail.literals = subst (λ (z : List Literal). c.loop-next.next < length z) c.literals.ensures.value c.loop-next-test.true in
    let grown = c.in_ok-visit.ensures.extended in
    let longer : length c.loop-next.trail.literals ≤ length c.visit.new.trail.literals = IsFrontOf-length c.loop-next.trail.literals c.visit.new.trail.literals grown in
    let p : negated (get_or c.loop-next.trail.literals c.loop-next.next c.index-literals-next.result) ≡ c.negated-negation.result =
    sym (c.negated-negation.ensures ∙ ap negated (c.index-literals-next.is
    ∙ ap (λ (z : List Literal). get_or z c.loop-next.next c.index-literals-next.result) c.literals-in-loop-next.ensures.value)) in
    record {
      places = c.in_ok-visit.ensures.places ∙ c.loop-next.invariant.places;
      inside = omega (arith, lt, longer);
      extended = IsFrontOf-trans c.args.trail.now.literals c.loop-next.trail.literals c.visit.new.trail.literals c.loop-next.invariant.extended grown;
      settled = λ k clause e. IsSettled_taken c.loop-next.trail.literals c.visit.new.trail.literals c.loop-next.next c.index-literals-next.result clause lt grown
          (c.loop-next.invariant.settled k clause e)
          (λ i. OnTrue_at c.if-not-branch.false c.in_ok-visit.ensures.settled k clause e (ap (λ z. has clause z) (sym p) ∙ i));
      least = λ set closed includes. c.in_ok-visit.ensures.least set closed (c.loop-next.invariant.least set closed includes);
    }

pub returns-clause-settled : goal.returns-clause-settled
returns-clause-settled c =
    let done : length c.loop-next.trail.literals ≤ c.loop-next.next = subst (λ (z : List Literal). length z ≤ c.loop-next.next) c.literals.ensures.value c.loop-next-test.false in
    AreSettled_end c.args.store.now.clauses c.loop-next.trail.literals c.loop-next.next done c.loop-next.invariant.settled
