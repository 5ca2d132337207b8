use Rattle.std.proofs.Common.{◌+◌, ◌-◌, ◌<◌, ap, sym, ◌∙◌, inl, inr, slice_get, length, arith}
use Rattle.std.proofs.lemmas.Bool.{cases_eq}
use Rattle.kb_sat.specs.Analysis.{is_seen}
use Rattle.kb_propagate.proofs.Places.{at_same, at_has}
use Rattle.kb_sat.proofs.MarkedLaws.{variable_inside, read_at}
use Rattle.kb_sat.proofs.analysis.last_seen.Goals as goal

pub bounds-seen-variable : goal.bounds-seen-variable
bounds-seen-variable c =
    let lt : c.loop-position.position - 1 < length c.args.trail.now.literals = omega arith in
    let at = read_at c.literals-literals.result.now c.args.trail.now.literals (c.loop-position.position - 1) c.index-literals-position.result
    c.literals-literals.ensures.value lt c.index-literals-position.is in
    let inside : c.index-literals-position.result.variable < c.args.trail.now.vars + 1 =
    variable_inside c.args.trail.now c.index-literals-position.result c.literals-literals.ensures.trail
    (at_has c.args.trail.now.literals (c.loop-position.position - 1) c.index-literals-position.result at) in
    omega arith

pub returns-then-seen-variable : goal.returns-then-seen-variable
returns-then-seen-variable c =
    let lt : c.loop-position.position - 1 < length c.args.trail.now.literals = omega arith in
    let at = read_at c.literals-literals.result.now c.args.trail.now.literals (c.loop-position.position - 1) c.index-literals-position.result
    c.literals-literals.ensures.value lt c.index-literals-position.is in
    record {
      below = omega arith;
      marked = λ l e.
          ap (λ z. is_seen c.args.seen.now z.variable) (at_same c.args.trail.now.literals (c.loop-position.position - 1) l c.index-literals-position.result e at)
          ∙ (ap (is_seen c.args.seen.now) (sym c.variable.ensures.value) ∙ c.if-seen-variable.true);
      last = λ q l gt lt e. c.loop-position.invariant.unseen q l (omega arith) lt (ap (λ z. slice_get z q) c.literals-literals.ensures.value ∙ e);
    }

pub loop-position-preserved : goal.loop-position-preserved
loop-position-preserved c =
    let lt : c.loop-position.position - 1 < length c.args.trail.now.literals = omega arith in
    let at = read_at c.literals-literals.result.now c.args.trail.now.literals (c.loop-position.position - 1) c.index-literals-position.result
    c.literals-literals.ensures.value lt c.index-literals-position.is in
    record {
      below = omega arith;
      unseen = λ q m ge lt e. elim (cases_eq q (c.loop-position.position - 1)) [
        | inl s ↦
            ap (λ z. is_seen c.args.seen.now z.variable) (at_same c.args.trail.now.literals (c.loop-position.position - 1) m c.index-literals-position.result
            (ap (slice_get c.args.trail.now.literals) (sym s) ∙ (ap (λ z. slice_get z q) (sym c.literals-literals.ensures.value) ∙ e)) at)
            ∙ (ap (is_seen c.args.seen.now) (sym c.variable.ensures.value) ∙ c.if-seen-variable.false)
        | inr n ↦ c.loop-position.invariant.unseen q m (omega arith) lt e
      ];
    }
