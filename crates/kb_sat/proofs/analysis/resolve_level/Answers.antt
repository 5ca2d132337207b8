use Rattle.std.proofs.Common.{◌-◌, ◌<◌, ◌≤◌, ◌∙◌, sym, subst, refl, false, set, length, Some, arith, ℕ, List, [], Bool}
use Rattle.kb_sat.specs.Analysis.{AreMarked, IsLastSeen, NoneSeen, IsReached}
use Rattle.kb_sat.specs.declared.analysis.Marks.{Marks}
use Rattle.std.specs.Vec.{with_item}
use Rattle.kb_propagate.proofs.Places.{at_has}
use Rattle.kb_sat.proofs.MarkedLaws.{variable_inside, once_of, read_at}
use Rattle.kb_sat.proofs.ReasonLaws.{reason_inside, reason_before, decision_at, zero_below}
use Rattle.kb_sat.proofs.LevelLaws.{found_above, found_marked, none_found, AreMarked-start, reached_point, reached_step, pending_grows, decision_last}
use Rattle.kb_propagate.specs.Rows.{rows_of}
use Rattle.kb_sat.proofs.analysis.resolve_level.Goals as goal

-- without the mark of a variable of the last level
abbrev cleared : Marks → ℕ → Marks
cleared marks v = record marks { seen = with_item marks.seen v false; pending = marks.pending - 1 }

pub index_mut-requires : goal.index_mut-requires
index_mut-requires c =
    let last : IsLastSeen c.args.trail.now.literals c.loop-position.marks.seen.items c.loop-position.end c.in-Some.position =
    subst (λ (z : List Bool). IsLastSeen c.args.trail.now.literals z c.loop-position.end c.in-Some.position) c.as_slice.ensures.value c.in-Some.ensures in
    let below : c.in-Some.position < length c.args.trail.now.literals = omega (arith, last.below, c.loop-position.invariant.marked.inside) in
    let at = read_at c.literals.result.now c.args.trail.now.literals c.in-Some.position c.index-literals-position.result c.literals.ensures.value below c.index-literals-position.is in
    let inside = variable_inside c.args.trail.now c.index-literals-position.result c.literals.ensures.trail (at_has c.args.trail.now.literals c.in-Some.position c.index-literals-position.result at) in
    omega (arith, c.loop-position.invariant.marked.table)

pub returns-then-marks-eq0-clause-point : goal.returns-then-marks-eq0-clause-point
returns-then-marks-eq0-clause-point c =
    let last : IsLastSeen c.args.trail.now.literals c.loop-position.marks.seen.items c.loop-position.end c.in-Some.position =
    subst (λ (z : List Bool). IsLastSeen c.args.trail.now.literals z c.loop-position.end c.in-Some.position) c.as_slice.ensures.value c.in-Some.ensures in
    let below : c.in-Some.position < length c.args.trail.now.literals = omega (arith, last.below, c.loop-position.invariant.marked.inside) in
    let at = read_at c.literals.result.now c.args.trail.now.literals c.in-Some.position c.index-literals-position.result c.literals.ensures.value below c.index-literals-position.is in (
      c.in-Some.position,
      found_above c.args.trail.now.vars c.args.trail.now.literals c.args.levels c.loop-position.end c.in-Some.position c.loop-position.marks
          c.loop-position.invariant.marked c.loop-position.invariant.pending last,
      at,
    )

pub returns-then-marks-eq0-clause-reached : goal.returns-then-marks-eq0-clause-reached
returns-then-marks-eq0-clause-reached c all number justified r =
    let last : IsLastSeen c.args.trail.now.literals c.loop-position.marks.seen.items c.loop-position.end c.in-Some.position =
    subst (λ (z : List Bool). IsLastSeen c.args.trail.now.literals z c.loop-position.end c.in-Some.position) c.as_slice.ensures.value c.in-Some.ensures in
    let below : c.in-Some.position < length c.args.trail.now.literals = omega (arith, last.below, c.loop-position.invariant.marked.inside) in
    let at = read_at c.literals.result.now c.args.trail.now.literals c.in-Some.position c.index-literals-position.result c.literals.ensures.value below c.index-literals-position.is in
    let once = once_of c.args.trail.now c.literals.ensures.trail c.tell_once.ensures in
    let above = found_above c.args.trail.now.vars c.args.trail.now.literals c.args.levels c.loop-position.end c.in-Some.position c.loop-position.marks
    c.loop-position.invariant.marked c.loop-position.invariant.pending last in
    let marked : AreMarked c.args.trail.now.vars c.args.trail.now.literals c.args.levels c.in-Some.position (cleared c.loop-position.marks c.variable-variable.result) =
    found_marked c.args.trail.now c.args.levels c.loop-position.end c.in-Some.position c.loop-position.marks (cleared c.loop-position.marks c.variable-variable.result)
    c.index-literals-position.result c.variable-variable.result c.literals.ensures.trail once at c.variable-variable.ensures.value last c.loop-position.invariant.marked
    c.loop-position.invariant.pending refl refl (let some : 0 < c.loop-position.marks.pending = c.loop-position.invariant.pending in omega (arith, some)) in
    reached_point all number c.loop-position.steps.items c.args.trail.now.vars c.args.trail.now.literals c.args.levels c.loop-position.end c.in-Some.position c.loop-position.marks
    (cleared c.loop-position.marks c.variable-variable.result) c.index-literals-position.result c.variable-variable.result once
    (zero_below c.args.trail.now c.args.levels c.literals.ensures.trail c.requires.levels) above at c.variable-variable.ensures.value last refl marked c.if-marks-eq0.true
    (c.loop-position.invariant.reached all number justified r)

pub returns-then-marks-eq0-clause-marked : goal.returns-then-marks-eq0-clause-marked
returns-then-marks-eq0-clause-marked c =
    let last : IsLastSeen c.args.trail.now.literals c.loop-position.marks.seen.items c.loop-position.end c.in-Some.position =
    subst (λ (z : List Bool). IsLastSeen c.args.trail.now.literals z c.loop-position.end c.in-Some.position) c.as_slice.ensures.value c.in-Some.ensures in
    let below : c.in-Some.position < length c.args.trail.now.literals = omega (arith, last.below, c.loop-position.invariant.marked.inside) in
    let at = read_at c.literals.result.now c.args.trail.now.literals c.in-Some.position c.index-literals-position.result c.literals.ensures.value below c.index-literals-position.is in
    let once = once_of c.args.trail.now c.literals.ensures.trail c.tell_once.ensures in
    let above = found_above c.args.trail.now.vars c.args.trail.now.literals c.args.levels c.loop-position.end c.in-Some.position c.loop-position.marks
    c.loop-position.invariant.marked c.loop-position.invariant.pending last in
    let marked : AreMarked c.args.trail.now.vars c.args.trail.now.literals c.args.levels c.in-Some.position (cleared c.loop-position.marks c.variable-variable.result) =
    found_marked c.args.trail.now c.args.levels c.loop-position.end c.in-Some.position c.loop-position.marks (cleared c.loop-position.marks c.variable-variable.result)
    c.index-literals-position.result c.variable-variable.result c.literals.ensures.trail once at c.variable-variable.ensures.value last c.loop-position.invariant.marked
    c.loop-position.invariant.pending refl refl (let some : 0 < c.loop-position.marks.pending = c.loop-position.invariant.pending in omega (arith, some)) in
    AreMarked-start c.args.trail.now.vars c.args.trail.now.literals c.args.levels c.in-Some.position (cleared c.loop-position.marks c.variable-variable.result) marked
    c.if-marks-eq0.true above

pub unreachable-requires : goal.unreachable-requires
unreachable-requires c =
    let last : IsLastSeen c.args.trail.now.literals c.loop-position.marks.seen.items c.loop-position.end c.in-Some.position =
    subst (λ (z : List Bool). IsLastSeen c.args.trail.now.literals z c.loop-position.end c.in-Some.position) c.as_slice.ensures.value c.in-Some.ensures in
    let below : c.in-Some.position < length c.args.trail.now.literals = omega (arith, last.below, c.loop-position.invariant.marked.inside) in
    let at = read_at c.literals.result.now c.args.trail.now.literals c.in-Some.position c.index-literals-position.result c.literals.ensures.value below c.index-literals-position.is in
    let once = once_of c.args.trail.now c.literals.ensures.trail c.tell_once.ensures in
    let above = found_above c.args.trail.now.vars c.args.trail.now.literals c.args.levels c.loop-position.end c.in-Some.position c.loop-position.marks
    c.loop-position.invariant.marked c.loop-position.invariant.pending last in
    let marked : AreMarked c.args.trail.now.vars c.args.trail.now.literals c.args.levels c.in-Some.position (cleared c.loop-position.marks c.variable-variable.result) =
    found_marked c.args.trail.now c.args.levels c.loop-position.end c.in-Some.position c.loop-position.marks (cleared c.loop-position.marks c.variable-variable.result)
    c.index-literals-position.result c.variable-variable.result c.literals.ensures.trail once at c.variable-variable.ensures.value last c.loop-position.invariant.marked
    c.loop-position.invariant.pending refl refl (let some : 0 < c.loop-position.marks.pending = c.loop-position.invariant.pending in omega (arith, some)) in
    c.if-marks-eq0.false (decision_last c.args.trail.now.vars c.args.trail.now.literals c.args.levels c.in-Some.position (cleared c.loop-position.marks c.variable-variable.result) marked
    (decision_at c.args.trail.now c.args.levels c.literals.ensures.trail c.requires.levels c.in-Some.position above c.in_default-reason.ensures))

pub literals-row-requires : goal.literals-row-requires
literals-row-requires c =
    let last : IsLastSeen c.args.trail.now.literals c.loop-position.marks.seen.items c.loop-position.end c.in-Some.position =
    subst (λ (z : List Bool). IsLastSeen c.args.trail.now.literals z c.loop-position.end c.in-Some.position) c.as_slice.ensures.value c.in-Some.ensures in
    let below : c.in-Some.position < length c.args.trail.now.literals = omega (arith, last.below, c.loop-position.invariant.marked.inside) in
    let at = read_at c.literals.result.now c.args.trail.now.literals c.in-Some.position c.index-literals-position.result c.literals.ensures.value below c.index-literals-position.is in
    reason_inside c.requires.justified.0 (rows_of c.args.clauses.now) c.args.trail.now c.requires.justified.1 c.in-Some.position c.in-Some-reason.number c.index-literals-position.result at
    c.in-Some-reason.ensures

pub mark_others-requires-clause-marked : goal.mark_others-requires-clause-marked
mark_others-requires-clause-marked c =
    let last : IsLastSeen c.args.trail.now.literals c.loop-position.marks.seen.items c.loop-position.end c.in-Some.position =
    subst (λ (z : List Bool). IsLastSeen c.args.trail.now.literals z c.loop-position.end c.in-Some.position) c.as_slice.ensures.value c.in-Some.ensures in
    let below : c.in-Some.position < length c.args.trail.now.literals = omega (arith, last.below, c.loop-position.invariant.marked.inside) in
    let at = read_at c.literals.result.now c.args.trail.now.literals c.in-Some.position c.index-literals-position.result c.literals.ensures.value below c.index-literals-position.is in
    let once = once_of c.args.trail.now c.literals.ensures.trail c.tell_once.ensures in
    let above = found_above c.args.trail.now.vars c.args.trail.now.literals c.args.levels c.loop-position.end c.in-Some.position c.loop-position.marks
    c.loop-position.invariant.marked c.loop-position.invariant.pending last in
    let marked : AreMarked c.args.trail.now.vars c.args.trail.now.literals c.args.levels c.in-Some.position (cleared c.loop-position.marks c.variable-variable.result) =
    found_marked c.args.trail.now c.args.levels c.loop-position.end c.in-Some.position c.loop-position.marks (cleared c.loop-position.marks c.variable-variable.result)
    c.index-literals-position.result c.variable-variable.result c.literals.ensures.trail once at c.variable-variable.ensures.value last c.loop-position.invariant.marked
    c.loop-position.invariant.pending refl refl (let some : 0 < c.loop-position.marks.pending = c.loop-position.invariant.pending in omega (arith, some)) in (
      c.in-Some.position,
      marked,
      reason_before c.requires.justified.0 (rows_of c.args.clauses.now) c.args.trail.now c.requires.justified.1 c.in-Some.position c.in-Some-reason.number c.index-literals-position.result
          c.literals-row.result.now at c.in-Some-reason.ensures c.literals-row.ensures c.variable-variable.result c.variable-variable.ensures.value,
    )

pub loop-position-preserved : goal.loop-position-preserved
loop-position-preserved c =
    let last : IsLastSeen c.args.trail.now.literals c.loop-position.marks.seen.items c.loop-position.end c.in-Some.position =
    subst (λ (z : List Bool). IsLastSeen c.args.trail.now.literals z c.loop-position.end c.in-Some.position) c.as_slice.ensures.value c.in-Some.ensures in
    let below : c.in-Some.position < length c.args.trail.now.literals = omega (arith, last.below, c.loop-position.invariant.marked.inside) in
    let at = read_at c.literals.result.now c.args.trail.now.literals c.in-Some.position c.index-literals-position.result c.literals.ensures.value below c.index-literals-position.is in
    let once = once_of c.args.trail.now c.literals.ensures.trail c.tell_once.ensures in
    let above = found_above c.args.trail.now.vars c.args.trail.now.literals c.args.levels c.loop-position.end c.in-Some.position c.loop-position.marks
    c.loop-position.invariant.marked c.loop-position.invariant.pending last in
    let marked : AreMarked c.args.trail.now.vars c.args.trail.now.literals c.args.levels c.in-Some.position (cleared c.loop-position.marks c.variable-variable.result) =
    found_marked c.args.trail.now c.args.levels c.loop-position.end c.in-Some.position c.loop-position.marks (cleared c.loop-position.marks c.variable-variable.result)
    c.index-literals-position.result c.variable-variable.result c.literals.ensures.trail once at c.variable-variable.ensures.value last c.loop-position.invariant.marked
    c.loop-position.invariant.pending refl refl (let some : 0 < c.loop-position.marks.pending = c.loop-position.invariant.pending in omega (arith, some)) in
    let before = reason_before c.requires.justified.0 (rows_of c.args.clauses.now) c.args.trail.now c.requires.justified.1 c.in-Some.position c.in-Some-reason.number c.index-literals-position.result
    c.literals-row.result.now at c.in-Some-reason.ensures c.literals-row.ensures c.variable-variable.result c.variable-variable.ensures.value in
    let more = c.in_ok-mark_others.ensures.marked c.in-Some.position marked before in
    record {
      marked = more;
      pending = pending_grows c.args.trail.now.vars c.args.trail.now.literals c.args.levels c.in-Some.position (Some c.variable-variable.result) c.literals-row.result.now
          (cleared c.loop-position.marks c.variable-variable.result) c.mark_others.new.self marked more c.in_ok-mark_others.ensures.marks c.if-marks-eq0.false;
      reached = λ all number justified r. subst (λ (z : List (ℕ × ℕ)). IsReached all number z c.args.trail.now.literals c.args.levels.zero c.in-Some.position c.mark_others.new.self.seen.items [])
          (sym c.in_ok-push.ensures.items)
          (reached_step all (rows_of c.args.clauses.now) c.args.trail.now number c.loop-position.steps.items c.args.levels c.loop-position.end c.in-Some.position c.loop-position.marks.seen.items
          (set c.loop-position.marks.seen.items c.variable-variable.result false) c.mark_others.new.self.seen.items c.literals-row.result.now c.index-literals-position.result
          c.in-Some-reason.number c.variable-variable.result c.literals.ensures.trail once c.requires.levels justified
          (let ordered : c.args.levels.zero ≤ c.args.levels.start = zero_below c.args.trail.now c.args.levels c.literals.ensures.trail c.requires.levels in omega (arith, ordered, above))
          at c.in-Some-reason.ensures c.literals-row.ensures c.variable-variable.ensures.value last refl c.in_ok-mark_others.ensures.marks
          (c.loop-position.invariant.reached all number justified r));
      order = c.in_ok-mark_others.ensures.order ∙ c.loop-position.invariant.order;
    }

pub unreachable-requires-2 : goal.unreachable-requires-2
unreachable-requires-2 c =
    let none : NoneSeen c.args.trail.now.literals c.loop-position.marks.seen.items c.loop-position.end =
    subst (λ (z : List Bool). NoneSeen c.args.trail.now.literals z c.loop-position.end) c.as_slice.ensures.value c.in_default.ensures in
    none_found c.args.trail.now.vars c.args.trail.now.literals c.args.levels c.loop-position.end c.loop-position.marks c.loop-position.invariant.marked
    c.loop-position.invariant.pending none
