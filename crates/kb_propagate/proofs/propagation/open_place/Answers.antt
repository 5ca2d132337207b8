use Rattle.std.proofs.Common.{◌≡◌, ◌<◌, ◌∙◌, ap, sym, refl, inl, inr, arith, length, slice_get}
use Rattle.std.proofs.lemmas.Bool.{cases_eq, OnTrue_at, OnFalse_at}
use Rattle.std.proofs.lemmas.Option.{slice_get_read}
use Rattle.kb_chain.specs.Literal.{has, negated, same}
use Rattle.kb_propagate.proofs.Places.{at_get_or, at_inside}
use Rattle.kb_propagate.proofs.propagation.open_place.Goals as goal

pub loop-place-init : goal.loop-place-init
loop-place-init c k m le lt e s = absurd (omega (arith, le, lt))

pub returns-then-is_open-clause-some : goal.returns-then-is_open-clause-some
returns-then-is_open-clause-some c =
    let row = c.args.row.now in
    let x = c.index-row-place.result in
    let facts = OnTrue_at c.if-is_open.true c.is_open.ensures.open in
    (c.loop-place.auto.place, x, slice_get_read row (length row) c.loop-place.place x refl c.loop-place-test.true c.index-row-place.is, facts.0, facts.1)

pub loop-place-preserved : goal.loop-place-preserved
loop-place-preserved c k m le lt e s = elim (cases_eq k c.loop-place.place) [
  | inl h ↦ (let row = c.args.row.now in
      let x = c.index-row-place.result in
      let is : x ≡ m = c.index-row-place.is ∙ at_get_or row c.loop-place.place m x (ap (slice_get row) (sym h) ∙ e) in
      ap (λ z. has c.args.trail.now.literals (negated z)) (sym is)
      ∙ OnFalse_at c.if-is_open.false c.is_open.ensures.closed (ap (λ z. same z c.args.other) is ∙ s))
  | inr n ↦ c.loop-place.invariant k m le (omega (arith, lt, n)) e s
]

pub returns-clause-none : goal.returns-clause-none
returns-clause-none c k m le e s =
    let inside : k < length c.args.row.now = at_inside c.args.row.now k m e in
    c.loop-place.invariant k m le (omega (arith, inside, c.loop-place-test.false)) e s
