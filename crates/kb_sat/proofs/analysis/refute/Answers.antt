use Rattle.kb_sat.proofs.RefuteLaws.{reasons_same, conflict_same, refuting_same, if_ok_both, store_same, none_found}
use Rattle.kb_sat.proofs.analysis.refute.Goals as goal

pub unreachable-requires : goal.unreachable-requires
unreachable-requires c = none_found c.in_ok-clauses.field-0 _ c.in_default.is (c.in_ok-clauses.ensures.same c.requires.conflict.0 c.requires.conflict.1)

pub resolve_all-requires-clause-reasons : goal.resolve_all-requires-clause-reasons
resolve_all-requires-clause-reasons c =
    reasons_same c.requires.conflict.0 c.in-Some.clauses.clauses c.args.trail.now c.args.number
    (store_same c.args.trail.now c.args.number c.in_ok-clauses.field-0 c.in-Some.clauses c.in_ok-numbers.numbers.items c.as_slice.result.now c.requires.conflict.0
    c.in-Some.is c.as_slice.ensures.value c.in_ok-numbers.ensures (c.in_ok-clauses.ensures.same c.requires.conflict.0 c.requires.conflict.1))
    c.requires.conflict.2

pub resolve_all-requires-clause-conflict : goal.resolve_all-requires-clause-conflict
resolve_all-requires-clause-conflict c =
    conflict_same c.requires.conflict.0 c.in-Some.clauses.clauses c.args.trail.now c.args.number
    (store_same c.args.trail.now c.args.number c.in_ok-clauses.field-0 c.in-Some.clauses c.in_ok-numbers.numbers.items c.as_slice.result.now c.requires.conflict.0
    c.in-Some.is c.as_slice.ensures.value c.in_ok-numbers.ensures (c.in_ok-clauses.ensures.same c.requires.conflict.0 c.requires.conflict.1))
    c.requires.conflict.3

pub returns : goal.returns
returns c =
    if_ok_both c.resolve_all.result _ _ _ (λ chain refuting cited all d. refuting_same all c.in-Some.clauses.clauses c.args.trail.now c.args.number chain
    (store_same c.args.trail.now c.args.number c.in_ok-clauses.field-0 c.in-Some.clauses c.in_ok-numbers.numbers.items c.as_slice.result.now all
    c.in-Some.is c.as_slice.ensures.value c.in_ok-numbers.ensures (c.in_ok-clauses.ensures.same all d))
    refuting cited) c.resolve_all.ensures.refuting c.resolve_all.ensures.cited
