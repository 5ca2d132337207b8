use Rattle.std.proofs.Common.{◌≡◌, ◌∙◌, refl, sym, ap, subst, Some, slice_get, length, arith, ◌+◌, ◌++◌, ◌∷◌, [], rules}
use Rattle.std.proofs.lemmas.Bool.{false≢true}
use Rattle.std.proofs.lemmas.List.{length_push}
use Rattle.std.proofs.lemmas.Option.{slice_get_read}
use Rattle.kb_chain.proofs.NeededLaws.{HasKept, LeavesEmpty, derived_front, kept_skip, kept_more, kept_whole, stops_nowhere, empty_more}
use Rattle.kb_chain.proofs.needed.derive_marked.Goals as goal

pub loop-i-init : goal.loop-i-init
loop-i-init c =
    let clauses : c.new-store.result.clauses ≡ c.args.formula.now.clauses = ap (λ z. z.clauses) c.new-store.ensures in
    record {
      vars = ap (λ z. z.vars) c.new-store.ensures;
      places = search (rules);
      empty = search (rules);
      count = omega (arith, ap length clauses);
      kept_same = λ all h k lt kept. ap (λ z. slice_get z k) clauses
          ∙ derived_front c.args.entries.now c.args.formula.now.clauses all k h (omega (arith, lt, ap length clauses));
      skipped = λ i lt. absurd (omega (arith, lt));
    }

pub loop-i-preserved-then-not-needed-i : goal.loop-i-preserved-then-not-needed-i
loop-i-preserved-then-not-needed-i c =
    let pushed : c.push.new.self.clauses ≡ c.loop-i.store.clauses ++ c.empty.result ∷ [] = search (rules) in
    let size = length_push c.loop-i.store.clauses c.empty.result in
    record {
      vars = c.in_ok-push.ensures.vars ∙ c.loop-i.invariant.vars;
      places = c.loop-i.invariant.places;
      empty = c.loop-i.invariant.empty;
      count = omega (arith, ap length pushed, size, c.loop-i.invariant.count);
      kept_same = λ all h. subst (λ z. HasKept (length c.args.formula.now.clauses) c.args.needed.now all z) (sym pushed)
          (kept_skip (length c.args.formula.now.clauses) c.args.needed.now all c.loop-i.store.clauses c.loop-i.i c.empty.result c.loop-i.invariant.count
          (c.loop-i.invariant.kept_same all h) c.if-not-needed-i.true);
      skipped = subst (λ z. LeavesEmpty (length c.args.formula.now.clauses) c.args.needed.now (c.loop-i.i + 1) z) (sym pushed)
          (empty_more (length c.args.formula.now.clauses) c.args.needed.now c.loop-i.i c.loop-i.store.clauses c.empty.result c.loop-i.invariant.count c.loop-i.invariant.skipped (λ u. c.empty.ensures));
    }

pub returns-in_default-clause-same : goal.returns-in_default-clause-same
returns-in_default-clause-same c all h =
    let entry = c.index-entries-i.result in
    let at : slice_get c.args.entries.now c.loop-i.i ≡ Some entry =
    slice_get_read c.args.entries.now (length c.args.entries.now) c.loop-i.i entry refl c.loop-i-test.true c.index-entries-i.is in
    stops_nowhere c.args.entries.now c.args.formula.now.clauses all c.loop-i.store.clauses c.args.needed.now c.loop-i.i entry h at c.requires.closed
    c.if-not-needed-i.false c.loop-i.invariant.count (c.loop-i.invariant.kept_same all h) (sym c.in_ok-clause.ensures.found ∙ c.in_default.is)

pub loop-i-preserved : goal.loop-i-preserved
loop-i-preserved c =
    let entry = c.index-entries-i.result in
    let pushed : c.push-in-loop-i.new.self.clauses ≡ c.loop-i.store.clauses ++ c.in-Some.clause ∷ [] = c.in_ok-push-2.ensures.ok in
    let size = length_push c.loop-i.store.clauses c.in-Some.clause in
    let at : slice_get c.args.entries.now c.loop-i.i ≡ Some entry =
    slice_get_read c.args.entries.now (length c.args.entries.now) c.loop-i.i entry refl c.loop-i-test.true c.index-entries-i.is in
    record {
      vars = c.in_ok-push-2.ensures.vars ∙ c.loop-i.invariant.vars;
      places = c.in_ok-clause.ensures.places ∙ c.loop-i.invariant.places;
      empty = c.in_ok-clause.ensures.empty (search rules);
      count = omega (arith, ap length pushed, size, c.loop-i.invariant.count);
      kept_same = λ all h. subst (λ z. HasKept (length c.args.formula.now.clauses) c.args.needed.now all z) (sym pushed)
          (kept_more c.args.entries.now c.args.formula.now.clauses all c.loop-i.store.clauses c.args.needed.now c.loop-i.i entry c.in-Some.clause h at c.requires.closed
          c.if-not-needed-i.false c.loop-i.invariant.count (c.loop-i.invariant.kept_same all h) (sym c.in_ok-clause.ensures.found ∙ c.in-Some.is));
      skipped = subst (λ z. LeavesEmpty (length c.args.formula.now.clauses) c.args.needed.now (c.loop-i.i + 1) z) (sym pushed)
          (empty_more (length c.args.formula.now.clauses) c.args.needed.now c.loop-i.i c.loop-i.store.clauses c.in-Some.clause c.loop-i.invariant.count c.loop-i.invariant.skipped
          (λ u. absurd (false≢true (sym u ∙ c.if-not-needed-i.false))));
    }

pub returns-clause-same : goal.returns-clause-same
returns-clause-same c all h k kept =
    kept_whole c.args.entries.now c.args.formula.now.clauses all c.loop-i.store.clauses c.args.needed.now k h
    (omega (arith, c.loop-i.invariant.count, c.loop-i-test.false, c.loop-i.auto.i-end)) (c.loop-i.invariant.kept_same all h) kept

pub returns-clause-skipped : goal.returns-clause-skipped
returns-clause-skipped c i lt unmarked =
    c.loop-i.invariant.skipped i (omega (arith, lt, c.loop-i-test.false)) unmarked
