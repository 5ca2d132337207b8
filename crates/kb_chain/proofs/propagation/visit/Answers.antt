use Rattle.std.proofs.Common.{◌≡◌, ◌∙◌, ap, sym, subst, slice_get, get_or, inl, inr, [], length, ◌<◌}
use Rattle.std.proofs.lemmas.Bool.{OnTrue_at}
use Rattle.std.proofs.lemmas.Option.{same_Some, none-some}
use Rattle.std.proofs.lemmas.List.{take_all, get_or_read}
use Rattle.kb_chain.specs.Literal.{has, place_of}
use Rattle.kb_chain.specs.Index.{IsSettled, has_number}
use Rattle.kb_chain.proofs.ChainLaws.{AreWithin-from}
use Rattle.kb_chain.proofs.PropagationLaws.{IsFrontOf-trans, IsFrontOf-part, IsSettled_more, has_number_more}
use Rattle.kb_chain.proofs.propagation.visit.Goals as goal
use Rattle.kb_chain.proofs.propagation.visit.Goals.{in-Some+in_ok-examine+else-not-branch, in_default}

pub examine-requires : goal.examine-requires
examine-requires c =
    AreWithin-from c.args.store.now.vars c.loop-number.trail.places c.in-Some.clause.now (c.loop-number.invariant.places ∙ c.requires.places) c.in-Some.ensures.within

pub returns-then-not-branch-clause-least : goal.returns-then-not-branch-clause-least
returns-then-not-branch-clause-least c set closed includes =
    c.in_ok-examine.ensures.least set (λ l i o. closed _ c.in-Some.clause.now (sym c.in-Some.ensures.value) l i o)
    (c.loop-number.invariant.least set closed includes)

pub loop-number-preserved : goal.loop-number-preserved
loop-number-preserved c =
    elim c.match-get.branch [
      | in-Some+in_ok-examine+else-not-branch w ↦
          (let e : c.match-get.trail ≡ w.examine.new.trail = w.trail-is in
          let now : IsSettled (has c.loop-number.trail.literals) (has w.examine.new.trail.literals) w.in-Some.clause.now =
          OnTrue_at w.if-not-branch.false w.in_ok-examine.ensures.settled in
          let grown = IsFrontOf-part c.loop-number.trail.literals w.examine.new.trail.literals w.in_ok-examine.ensures.extended in
          let front = IsFrontOf-part c.args.trail.now.literals c.loop-number.trail.literals c.loop-number.invariant.extended in
          record {
            places = ap (λ z. z.places) e ∙ (w.in_ok-examine.ensures.places ∙ c.loop-number.invariant.places);
            extended = rw e (IsFrontOf-trans c.args.trail.now.literals c.loop-number.trail.literals w.examine.new.trail.literals c.loop-number.invariant.extended w.in_ok-examine.ensures.extended);
            settled = λ k clause h g. rw e (elim (has_number_more c.as_slice-number-items.result.now c.loop-number.number-index 0 k c.loop-number-test.true h) [
              | inl s ↦ IsSettled_more (has c.args.trail.now.literals) (has c.args.trail.now.literals) (has c.loop-number.trail.literals) (has w.examine.new.trail.literals) clause
                  (λ l j. j) grown (c.loop-number.invariant.settled k clause s g)
              | inr s ↦ subst (λ z. IsSettled (has c.args.trail.now.literals) (has w.examine.new.trail.literals) z)
                  (same_Some w.in-Some.clause.now clause (w.in-Some.ensures.value ∙ (ap (slice_get c.args.store.now.clauses) s ∙ g)))
                  (IsSettled_more (has c.loop-number.trail.literals) (has c.args.trail.now.literals) (has w.examine.new.trail.literals) (has w.examine.new.trail.literals)
                  w.in-Some.clause.now front (λ l j. j) now)
            ]);
            least = λ set closed includes l j.
                w.in_ok-examine.ensures.least set (λ m i o. closed (get_or c.as_slice-number-items.result.now c.loop-number.number-index 0) w.in-Some.clause.now (sym w.in-Some.ensures.value) m i o)
                (c.loop-number.invariant.least set closed includes) l (ap (λ z. has z.literals l) (sym e) ∙ j);
          })
      | in_default w ↦
          (let e : c.match-get.trail ≡ c.loop-number.trail = w.trail-is in
          record {
            places = ap (λ z. z.places) e ∙ c.loop-number.invariant.places;
            extended = rw e c.loop-number.invariant.extended;
            settled = λ k clause h g. rw e (elim (has_number_more c.as_slice-number-items.result.now c.loop-number.number-index 0 k c.loop-number-test.true h) [
              | inl s ↦ c.loop-number.invariant.settled k clause s g
              | inr s ↦ absurd (none-some clause (w.in_default.ensures.value ∙ (ap (slice_get c.args.store.now.clauses) s ∙ g)))
            ]);
            least = λ set closed includes l j. c.loop-number.invariant.least set closed includes l (ap (λ z. has z.literals l) (sym e) ∙ j);
          })
    ]

pub returns-clause-settled : goal.returns-clause-settled
returns-clause-settled c k clause e i =
    let row : c.as_slice-number-items.result.now ≡ get_or c.args.index.now.occurrences.items (place_of c.args.literal) [] =
    c.as_slice-number-items.ensures
    ∙ (get_or_read c.args.index.now.occurrences.items c.place.result c.index-numbers.result.now (subst (λ z. z < length c.args.index.now.occurrences.items) (sym c.place.ensures.value) c.requires.row) c.index-numbers.ensures []
    ∙ ap (λ z. get_or c.args.index.now.occurrences.items z []) c.place.ensures.value) in
    c.loop-number.invariant.settled k clause
    (ap (λ z. has_number z k) (take_all c.loop-number.number-index c.as_slice-number-items.result.now c.loop-number-test.false ∙ row)
    ∙ c.requires.indexed k clause e c.args.literal i)
    e
