use Rattle.std.proofs.Common.{◌≡◌, ◌+◌, ◌*◌, ◌<◌, ◌∙◌, ap, sym, subst, refl, inl, inr, length, map, take, true, [], ◌∷◌, ◌++◌, ℕ, arith, slice_get}
use Rattle.std.proofs.lemmas.List.{take_all, take_more, map-append}
use Rattle.kb_chain.specs.Cnf.{AllWithin}
use Rattle.kb_chain.specs.Literal.{place_of}
use Rattle.kb_propagate.specs.Base.{IsConflict}
use Rattle.kb_propagate.specs.Base.{IsBase}
use Rattle.kb_propagate.proofs.BaseLaws.{IsBase_same}
use Rattle.kb_propagate.proofs.WatchLaws.{if_none, if_some}
use Rattle.kb_propagate.specs.Trail.{Assigned}
use Rattle.kb_chain.specs.Clause.{IsOrdered}
use Rattle.kb_propagate.specs.Rows.{rows_of, awake_clause}
use Rattle.kb_propagate.specs.Watches.{pairs_of, AllAwake, IsBegun}
use Rattle.kb_propagate.proofs.Places.{at_pushed}
use Rattle.kb_propagate.proofs.BeginLaws.{IsBegun-none, IsBase-begin, clause_places, doomed, rows_awake, all_awake}
use Rattle.kb_propagate.proofs.base.Base.new.Goals as goal

pub loop-clause-preserved : goal.loop-clause-preserved
loop-clause-preserved c =
    let items = c.clauses-clause-items.result.now in
    let i = c.loop-clause.clause-index in
    let row = c.clause-item.result in
    let more : take (i + 1) items ≡ take i items ++ row ∷ [] = take_more items i row c.loop-clause-test.true ∙ ap (λ z. take i items ++ z ∷ []) (sym c.clause-item.is) in
    record {
      stored = c.in_ok-push.ensures
          ∙ (ap (λ z. c.loop-clause.clauses ++ awake_clause z ∷ []) c.literals.ensures.value
          ∙ (ap (λ z. z ++ awake_clause row ∷ []) c.loop-clause.invariant.stored
          ∙ sym (ap (map awake_clause) more ∙ map-append awake_clause (take i items) (row ∷ []))));
      ordered = λ k r e. elim (at_pushed (take i items) row k r (ap (λ z. slice_get z k) (sym more) ∙ e)) [
        | inl h ↦ c.loop-clause.invariant.ordered k r h
        | inr h ↦ subst (λ z. IsOrdered z) h.1 c.literals.ensures.ordered
      ];
    }

pub watch_all-requires-clause-begun : goal.watch_all-requires-clause-begun
watch_all-requires-clause-begun c =
    let places : length c.in_ok-watches.watches.lists.items ≡ 2 * c.in_ok-trail.trail.vars + 2 =
    c.in_ok-watches.ensures.places ∙ ap (λ (z : Assigned). 2 * z.vars + 2) (sym c.in_ok-trail.ensures) in
    IsBegun-none c.in_ok-watches.watches.lists.items c.in_ok-trail.trail c.in_ok-watches.ensures.lists places

pub watch_all-requires-clause-ordered : goal.watch_all-requires-clause-ordered
watch_all-requires-clause-ordered c k row e =
    let front = take c.loop-clause.clause-index c.clauses-clause-items.result.now in
    c.loop-clause.invariant.ordered k row (ap (λ z. slice_get z k) (sym (ap rows_of c.loop-clause.invariant.stored ∙ rows_awake front)) ∙ e)

pub watch_all-requires-clause-awake : goal.watch_all-requires-clause-awake
watch_all-requires-clause-awake c =
    subst (λ z. AllAwake (pairs_of z)) (sym c.loop-clause.invariant.stored) (all_awake (take c.loop-clause.clause-index c.clauses-clause-items.result.now))

begun_trail : ℕ → Assigned
begun_trail n = record { vars = n; literals = []; reasons = []; starts = [] }

pub watch_all-requires-clause-within : goal.watch_all-requires-clause-within
unfolding begun_trail
watch_all-requires-clause-within c k row e l i =
    let f = c.args.formula.now in
    let rows : rows_of c.loop-clause.clauses ≡ f.clauses =
    ap rows_of c.loop-clause.invariant.stored ∙ (rows_awake (take c.loop-clause.clause-index c.clauses-clause-items.result.now) ∙ (take_all c.loop-clause.clause-index c.clauses-clause-items.result.now c.loop-clause-test.false ∙ c.clauses-clause-items.ensures.value)) in
    let start : c.in_ok-trail.trail ≡ record { vars = f.vars; literals = []; reasons = []; starts = [] } =
    c.in_ok-trail.ensures ∙ ap begun_trail c.vars-vars.ensures in
    subst (λ (z : Assigned). place_of l < 2 * z.vars + 2) (sym start)
    (clause_places f (rows_of c.loop-clause.clauses) rows (subst (λ z. AllWithin f.vars z) c.clauses-clause-items.ensures.value
    (subst (λ z. AllWithin f.vars z) (sym c.clauses-clause-items.ensures.value) c.clauses-clause-items.ensures.within)) k row e l i)

pub returns-clause-stands : goal.returns-clause-stands
unfolding begun_trail
returns-clause-stands c =
    let f = c.args.formula.now in
    let rows : rows_of c.loop-clause.clauses ≡ f.clauses =
    ap rows_of c.loop-clause.invariant.stored ∙ (rows_awake (take c.loop-clause.clause-index c.clauses-clause-items.result.now) ∙ (take_all c.loop-clause.clause-index c.clauses-clause-items.result.now c.loop-clause-test.false ∙ c.clauses-clause-items.ensures.value)) in
    let start : c.in_ok-trail.trail ≡ record { vars = f.vars; literals = []; reasons = []; starts = [] } =
    c.in_ok-trail.ensures ∙ ap begun_trail c.vars-vars.ensures in
    let w = c.watch_all.new.watches in
    if_none c.in_ok-conflict.conflict
    (IsBegun (rows_of c.loop-clause.clauses) (pairs_of c.loop-clause.clauses) w.lists.items c.watch_all.new.trail)
    (IsBase f c.new-3.result (rows_of c.loop-clause.clauses) (pairs_of c.loop-clause.clauses) w.lists.items c.watch_all.new.trail true)
    (λ h. IsBase_same f f c.new-3.result [] (rows_of c.loop-clause.clauses) (rows_of c.loop-clause.clauses) (pairs_of c.loop-clause.clauses) (pairs_of c.loop-clause.clauses) w.lists.items w.lists.items
    c.watch_all.new.trail c.watch_all.new.trail true true refl c.new-3.ensures refl refl refl refl refl
    (IsBase-begin f [] (rows_of c.loop-clause.clauses) (pairs_of c.loop-clause.clauses) w.lists.items c.in_ok-trail.trail c.watch_all.new.trail refl rows start h c.in_ok-conflict.ensures.grows c.in_ok-conflict.ensures.justified))
    c.in_ok-conflict.ensures.begun

pub returns-clause-ready : goal.returns-clause-ready
returns-clause-ready c =
    let w = c.watch_all.new.watches in
    if_none c.in_ok-conflict.conflict
    (IsBegun (rows_of c.loop-clause.clauses) (pairs_of c.loop-clause.clauses) w.lists.items c.watch_all.new.trail) _
    (λ h. record {
      head = omega arith;
      quiet = h.quiet;
    })
    c.in_ok-conflict.ensures.begun

pub returns-clause-conflict : goal.returns-clause-conflict
unfolding begun_trail
returns-clause-conflict c =
    let f = c.args.formula.now in
    let rows : rows_of c.loop-clause.clauses ≡ f.clauses =
    ap rows_of c.loop-clause.invariant.stored ∙ (rows_awake (take c.loop-clause.clause-index c.clauses-clause-items.result.now) ∙ (take_all c.loop-clause.clause-index c.clauses-clause-items.result.now c.loop-clause-test.false ∙ c.clauses-clause-items.ensures.value)) in
    let start : c.in_ok-trail.trail ≡ record { vars = f.vars; literals = []; reasons = []; starts = [] } =
    c.in_ok-trail.ensures ∙ ap begun_trail c.vars-vars.ensures in
    if_some c.in_ok-conflict.conflict (IsConflict (rows_of c.loop-clause.clauses) c.watch_all.new.trail) _
    (λ n h. (let d = doomed f c.new-3.result (rows_of c.loop-clause.clauses) c.in_ok-trail.trail c.watch_all.new.trail n c.new-3.ensures rows start c.in_ok-conflict.ensures.grows c.in_ok-conflict.ensures.justified h in
    record {
      level = d.0;
      clauses = f.clauses;
      derives = d.1;
      reasons = d.2;
      conflict = d.3;
    }))
    c.in_ok-conflict.ensures.conflict
