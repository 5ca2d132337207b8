use Rattle.std.proofs.Common.{◌≡◌, ◌+◌, ◌<◌, ◌∙◌, ◌++◌, sym, ap, subst, false, replicate, length, take, drop, Some, arith, ℕ, List, [], Bool, not, ◌&&◌, ◌||◌, ◌==◌, inl, inr, rules}
use Rattle.std.proofs.lemmas.Bool.{false≢true, or_cases, eqb-true}
use Rattle.kb_chain.specs.Literal.{Literal}
use Rattle.kb_chain.specs.declared.log.Chain.{Chain}
use Rattle.kb_sat.specs.Analysis.{is_seen, is_pivot, IsReached, IsLastSeen, NoneSeen}
use Rattle.kb_sat.proofs.MarkedLaws.{once_of, read_at}
use Rattle.kb_sat.proofs.ReasonLaws.{front}
use Rattle.kb_sat.proofs.RefuteLaws.{has_variable, blank_table, conflict_inside, reason_row_inside, reason_number_inside, cites_step, cited_more, refuted_start, refuted_step, refuted_end}
use Rattle.kb_sat.proofs.analysis.resolve_all.Goals as goal

pub see_others-requires : goal.see_others-requires
see_others-requires c l i =
    let inside : l.variable < c.args.trail.now.vars + 1 =
    conflict_inside c.args.clauses.now.clauses c.args.trail.now c.args.number c.literals_of.result.now c.tell_trail.ensures c.requires.conflict c.literals_of.ensures l i in
    omega (arith, inside, c.as_mut_slice.ensures.len, c.in_ok-seen.ensures.len, c.vars.ensures)

pub loop-position-init : goal.loop-position-init
loop-position-init c =
    let whole : c.in_ok-seen.seen.len ≡ length c.see_others.new.seen = omega (arith, c.see_others.auto.seen, c.as_mut_slice.ensures.len) in
    let shown : take c.in_ok-seen.seen.len (c.see_others.new.seen ++ drop (length c.see_others.new.seen) c.in_ok-seen.seen.items) ≡ c.see_others.new.seen =
    front c.in_ok-seen.seen.len c.see_others.new.seen (drop (length c.see_others.new.seen) c.in_ok-seen.seen.items) whole in
    let size : length c.see_others.new.seen ≡ c.args.trail.now.vars + 1 = omega (arith, c.see_others.auto.seen, c.as_mut_slice.ensures.len, c.in_ok-seen.ensures.len, c.vars.ensures) in
    let items : c.in_ok-seen.seen.items ≡ replicate (c.vars.result + 1) false = c.in_ok-seen.ensures.items_if_clones_equal (search rules) in
    let blank : (v : ℕ) → is_seen c.as_mut_slice.result.now v ≡ false =
    λ v. ap (λ (z : List Bool). is_seen z v) (c.as_mut_slice.ensures.value ∙ items) ∙ blank_table (c.vars.result + 1) v in
    record {
      table = ap length shown ∙ size;
      inside = omega (arith, ap length c.literals-end.ensures.value);
      reached = subst (λ (z : List Bool). IsReached c.args.clauses.now.clauses c.args.number c.new-steps.result.items c.args.trail.now.literals 0 (length c.literals-end.result.now) z [])
          (sym shown)
          (subst (λ (z : List Literal). IsReached c.args.clauses.now.clauses c.args.number c.new-steps.result.items c.args.trail.now.literals 0 (length z) c.see_others.new.seen [])
          (sym c.literals-end.ensures.value)
          (subst (λ (z : List (ℕ × ℕ)). IsReached c.args.clauses.now.clauses c.args.number z c.args.trail.now.literals 0 (length c.args.trail.now.literals) c.see_others.new.seen [])
          (sym c.new-steps.ensures.items)
          (refuted_start c.args.clauses.now.clauses c.args.trail.now c.args.number c.literals_of.result.now c.as_mut_slice.result.now c.see_others.new.seen c.tell_trail.ensures
          (once_of c.args.trail.now c.tell_trail.ensures c.tell_once.ensures) c.requires.conflict c.literals_of.ensures blank c.see_others.ensures)));
      cited = λ k e. absurd (false≢true (ap (cites_step k) (sym c.new-steps.ensures.items) ∙ e));
    }

pub literals_of-row-requires : goal.literals_of-row-requires
literals_of-row-requires c =
    let last : IsLastSeen c.args.trail.now.literals c.loop-position.seen.items c.loop-position.end c.in-Some.position =
    subst (λ (z : List Bool). IsLastSeen c.args.trail.now.literals z c.loop-position.end c.in-Some.position) c.as_slice.ensures.value c.in-Some.ensures in
    let below : c.in-Some.position < length c.args.trail.now.literals = omega (arith, last.below, c.loop-position.invariant.inside) in
    let at = read_at c.literals.result.now c.args.trail.now.literals c.in-Some.position c.index-literals-position.result c.literals.ensures.value below c.index-literals-position.is in
    reason_number_inside c.args.clauses.now.clauses c.args.trail.now c.in-Some.position c.in-Some-reason.reason c.index-literals-position.result c.requires.reasons at
    c.in-Some-reason.ensures

pub see_others-requires-in-Some : goal.see_others-requires-in-Some
see_others-requires-in-Some c l i =
    let last : IsLastSeen c.args.trail.now.literals c.loop-position.seen.items c.loop-position.end c.in-Some.position =
    subst (λ (z : List Bool). IsLastSeen c.args.trail.now.literals z c.loop-position.end c.in-Some.position) c.as_slice.ensures.value c.in-Some.ensures in
    let below : c.in-Some.position < length c.args.trail.now.literals = omega (arith, last.below, c.loop-position.invariant.inside) in
    let at = read_at c.literals.result.now c.args.trail.now.literals c.in-Some.position c.index-literals-position.result c.literals.ensures.value below c.index-literals-position.is in
    let inside : l.variable < c.args.trail.now.vars + 1 =
    reason_row_inside c.args.clauses.now.clauses c.args.trail.now c.in-Some.position c.in-Some-reason.reason c.index-literals-position.result c.literals_of-row.result.now
    c.tell_trail.ensures c.requires.reasons at c.in-Some-reason.ensures c.literals_of-row.ensures l i in
    omega (arith, inside, ap length c.as_mut_slice-in-Some.ensures.value, c.loop-position.invariant.table)

pub loop-position-preserved : goal.loop-position-preserved
loop-position-preserved c =
    let last : IsLastSeen c.args.trail.now.literals c.loop-position.seen.items c.loop-position.end c.in-Some.position =
    subst (λ (z : List Bool). IsLastSeen c.args.trail.now.literals z c.loop-position.end c.in-Some.position) c.as_slice.ensures.value c.in-Some.ensures in
    let below : c.in-Some.position < length c.args.trail.now.literals = omega (arith, last.below, c.loop-position.invariant.inside) in
    let at = read_at c.literals.result.now c.args.trail.now.literals c.in-Some.position c.index-literals-position.result c.literals.ensures.value below c.index-literals-position.is in
    let whole : c.loop-position.seen.len ≡ length c.see_others-in-Some.new.seen = omega (arith, c.see_others-in-Some.auto.seen, c.as_mut_slice-in-Some.ensures.len) in
    let shown : take c.loop-position.seen.len (c.see_others-in-Some.new.seen ++ drop (length c.see_others-in-Some.new.seen) c.loop-position.seen.items) ≡ c.see_others-in-Some.new.seen =
    front c.loop-position.seen.len c.see_others-in-Some.new.seen (drop (length c.see_others-in-Some.new.seen) c.loop-position.seen.items) whole in
    record {
      table = ap length shown ∙ omega (arith, c.see_others-in-Some.auto.seen, ap length c.as_mut_slice-in-Some.ensures.value, c.loop-position.invariant.table);
      inside = omega (arith, below);
      reached = subst (λ (z : List Bool). IsReached c.args.clauses.now.clauses c.args.number c.push.new.self.items c.args.trail.now.literals 0 c.in-Some.position z []) (sym shown)
          (subst (λ (z : List (ℕ × ℕ)). IsReached c.args.clauses.now.clauses c.args.number z c.args.trail.now.literals 0 c.in-Some.position c.see_others-in-Some.new.seen [])
          (sym c.in_ok-push.ensures.items)
          (refuted_step c.args.clauses.now.clauses c.args.trail.now c.args.number c.loop-position.steps.items c.loop-position.end c.in-Some.position c.loop-position.seen.items
          c.see_others-in-Some.new.seen c.literals_of-row.result.now c.index-literals-position.result c.in-Some-reason.reason c.variable-variable.result c.tell_trail.ensures
          (once_of c.args.trail.now c.tell_trail.ensures c.tell_once.ensures) c.requires.reasons at c.in-Some-reason.ensures c.literals_of-row.ensures c.variable-variable.ensures.value last
          (λ w. c.see_others-in-Some.ensures w ∙ ap (λ (z : List Bool). is_seen z w || (has_variable c.literals_of-row.result.now w && not (is_pivot (Some c.variable-variable.result) w)))
          c.as_mut_slice-in-Some.ensures.value)
          c.loop-position.invariant.reached));
      cited = λ k e. cited_more c.args.trail.now.reasons c.loop-position.steps.items c.variable-variable.result c.in-Some-reason.reason c.in-Some.position
          c.loop-position.invariant.cited c.in-Some-reason.ensures k (ap (cites_step k) (sym c.in_ok-push.ensures.items) ∙ e);
    }

pub returns-clause-refuting : goal.returns-clause-refuting
returns-clause-refuting c =
    let chain : Chain = record { start = c.args.number; steps = c.from_vec.result } in
    refuted_end c.args.clauses.now.clauses c.args.trail.now chain c.loop-position.end c.loop-position.seen.items
    (subst (λ (z : List Bool). NoneSeen c.args.trail.now.literals z c.loop-position.end) c.as_slice.ensures.value c.in_default.ensures)
    (subst (λ (z : List (ℕ × ℕ)). IsReached c.args.clauses.now.clauses c.args.number z c.args.trail.now.literals 0 c.loop-position.end c.loop-position.seen.items [])
    (sym c.from_vec.ensures) c.loop-position.invariant.reached)

pub returns-clause-cited : goal.returns-clause-cited
returns-clause-cited c k e = elim (or_cases (c.args.number == k) (cites_step k c.from_vec.result) e) [
  | inl s ↦ inl (sym (eqb-true c.args.number k s))
  | inr s ↦ inr (c.loop-position.invariant.cited k (ap (cites_step k) (sym c.from_vec.ensures) ∙ s))
]
