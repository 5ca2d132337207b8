use Rattle.std.proofs.Common.{◌+◌, ◌<◌, ◌≤◌, ap, ◌∙◌, true, refl, length, set, arith, Some}
use Rattle.kb_chain.specs.Literal.{negated, has}
use Rattle.kb_sat.proofs.MarkLaws.{pending_bound}
use Rattle.kb_sat.proofs.MarkedLaws.{variable_inside, once_of, seen_read, negation_on_trail, negation_before, marks_low, marks_known, marks_new, AreMarked-more, more_lower, more_pending}
use Rattle.kb_sat.proofs.analysis.Marks.mark.Goals as goal

pub position-position-requires : goal.position-position-requires
position-position-requires c =
    ap (has c.args.trail.now.literals) c.negated.ensures
    ∙ negation_on_trail c.args.trail.now.literals c.requires.marked.0 c.args.literal c.requires.marked.2

pub returns-then-position-levels-clause-marks : goal.returns-then-position-levels-clause-marks
returns-then-position-levels-clause-marks c =
    marks_low c.args.trail.now.literals c.args.levels c.args.self.now.seen.items c.args.literal c.position-position.result
    (once_of c.args.trail.now c.literals-literals.ensures.trail c.tell_once.ensures) (c.position-position.ensures.value ∙ ap Some c.negated.ensures)
    c.if-position-levels.true

pub index-requires : goal.index-requires
index-requires c =
    let inside = variable_inside c.args.trail.now (negated c.args.literal) c.literals-literals.ensures.trail
    (negation_on_trail c.args.trail.now.literals c.requires.marked.0 c.args.literal c.requires.marked.2) in
    omega (arith, c.requires.marked.1.table)

pub returns-then-index-clause-marks : goal.returns-then-index-clause-marks
returns-then-index-clause-marks c =
    let inside = variable_inside c.args.trail.now (negated c.args.literal) c.literals-literals.ensures.trail
    (negation_on_trail c.args.trail.now.literals c.requires.marked.0 c.args.literal c.requires.marked.2) in
    let lt : c.variable-variable.result < length c.args.self.now.seen.items = omega (arith, c.requires.marked.1.table) in
    marks_known c.args.trail.now.literals c.args.levels c.args.self.now.seen.items c.args.literal
    (seen_read c.args.self.now.seen.items c.variable-variable.result c.args.literal.variable c.index.result.now c.variable-variable.ensures.value lt c.index.ensures
    ∙ c.if-index.true)

pub index_mut-requires : goal.index_mut-requires
index_mut-requires c =
    let inside = variable_inside c.args.trail.now (negated c.args.literal) c.literals-literals.ensures.trail
    (negation_on_trail c.args.trail.now.literals c.requires.marked.0 c.args.literal c.requires.marked.2) in
    omega (arith, c.requires.marked.1.table)

pub bump-requires : goal.bump-requires
bump-requires c =
    let inside = variable_inside c.args.trail.now (negated c.args.literal) c.literals-literals.ensures.trail
    (negation_on_trail c.args.trail.now.literals c.requires.marked.0 c.args.literal c.requires.marked.2) in
    omega arith

pub overflow_add-self : goal.overflow_add-self
overflow_add-self c =
    let bound = pending_bound c.args.self.now.seen.items c.args.trail.now.literals c.args.levels.start c.requires.marked.0 in
    let inside : c.requires.marked.0 ≤ length c.args.trail.now.literals = c.requires.marked.1.inside in
    omega (arith, bound, c.requires.marked.1.pending, inside)

pub returns-in_ok-push-clause-marked : goal.returns-in_ok-push-clause-marked
returns-in_ok-push-clause-marked c end h below =
    let inside : c.args.literal.variable < c.args.trail.now.vars + 1 = variable_inside c.args.trail.now (negated c.args.literal) c.literals-literals.ensures.trail
    (negation_on_trail c.args.trail.now.literals end c.args.literal below) in
    let lt : c.variable-variable.result < length c.args.self.now.seen.items = omega (arith, h.table) in
    let at = c.position-position.ensures.value ∙ ap Some c.negated.ensures in
    let once = once_of c.args.trail.now c.literals-literals.ensures.trail c.tell_once.ensures in
    AreMarked-more c.args.trail.now.vars c.args.trail.now.literals c.args.levels end c.args.self.now _ (negated c.args.literal) c.position-position.result once at
    c.if-position-levels.false (negation_before c.args.trail.now.literals end c.position-position.result c.args.literal once at below) inside
    (seen_read c.args.self.now.seen.items c.variable-variable.result c.args.literal.variable c.index.result.now c.variable-variable.ensures.value lt c.index.ensures
    ∙ c.if-index.false)
    (more_lower c.args.levels c.args.self.now _ c.position-position.result c.args.literal.variable
    (ap (λ v. set c.args.self.now.seen.items v true) c.variable-variable.ensures.value) c.if-position-levels-2.true c.in_ok-push.ensures.items refl)
    h

pub returns-in_ok-push-clause-marks : goal.returns-in_ok-push-clause-marks
returns-in_ok-push-clause-marks c =
    let inside = variable_inside c.args.trail.now (negated c.args.literal) c.literals-literals.ensures.trail
    (negation_on_trail c.args.trail.now.literals c.requires.marked.0 c.args.literal c.requires.marked.2) in
    let lt : c.variable-variable.result < length c.args.self.now.seen.items = omega (arith, c.requires.marked.1.table) in
    rw c.variable-variable.ensures.value
    (marks_new c.args.trail.now.literals c.args.levels c.args.self.now.seen.items c.args.literal c.position-position.result
    (once_of c.args.trail.now c.literals-literals.ensures.trail c.tell_once.ensures) (c.position-position.ensures.value ∙ ap Some c.negated.ensures)
    c.if-position-levels.false (omega arith))

pub returns-else-position-levels-2-clause-marked : goal.returns-else-position-levels-2-clause-marked
returns-else-position-levels-2-clause-marked c end h below =
    let inside : c.args.literal.variable < c.args.trail.now.vars + 1 = variable_inside c.args.trail.now (negated c.args.literal) c.literals-literals.ensures.trail
    (negation_on_trail c.args.trail.now.literals end c.args.literal below) in
    let lt : c.variable-variable.result < length c.args.self.now.seen.items = omega (arith, h.table) in
    let at = c.position-position.ensures.value ∙ ap Some c.negated.ensures in
    let once = once_of c.args.trail.now c.literals-literals.ensures.trail c.tell_once.ensures in
    AreMarked-more c.args.trail.now.vars c.args.trail.now.literals c.args.levels end c.args.self.now _ (negated c.args.literal) c.position-position.result once at
    c.if-position-levels.false (negation_before c.args.trail.now.literals end c.position-position.result c.args.literal once at below) inside
    (seen_read c.args.self.now.seen.items c.variable-variable.result c.args.literal.variable c.index.result.now c.variable-variable.ensures.value lt c.index.ensures
    ∙ c.if-index.false)
    (more_pending c.args.levels c.args.self.now _ c.position-position.result c.args.literal.variable
    (ap (λ v. set c.args.self.now.seen.items v true) c.variable-variable.ensures.value) c.if-position-levels-2.false refl refl)
    h

pub returns-else-position-levels-2-clause-marks : goal.returns-else-position-levels-2-clause-marks
returns-else-position-levels-2-clause-marks c =
    let inside = variable_inside c.args.trail.now (negated c.args.literal) c.literals-literals.ensures.trail
    (negation_on_trail c.args.trail.now.literals c.requires.marked.0 c.args.literal c.requires.marked.2) in
    let lt : c.variable-variable.result < length c.args.self.now.seen.items = omega (arith, c.requires.marked.1.table) in
    rw c.variable-variable.ensures.value
    (marks_new c.args.trail.now.literals c.args.levels c.args.self.now.seen.items c.args.literal c.position-position.result
    (once_of c.args.trail.now c.literals-literals.ensures.trail c.tell_once.ensures) (c.position-position.ensures.value ∙ ap Some c.negated.ensures)
    c.if-position-levels.false (omega arith))
