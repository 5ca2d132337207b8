use Rattle.kb_propagate.specs.Rows.{rows_of}
use Rattle.kb_propagate.specs.Watches.{pairs_of}
use Rattle.kb_propagate.proofs.BaseLaws.{model_satisfies}
use Rattle.kb_sat.proofs.solver.model_of.Goals as goal

pub returns-clause-satisfies : goal.returns-clause-satisfies
returns-clause-satisfies c =
    let s = c.args.search.now.base in
    model_satisfies s.formula.now s.entries (rows_of s.clauses) (pairs_of s.clauses) s.watches.lists.items s.trail c.in_ok-bits.bits s.whole c.requires.stands c.tell_trail.ensures
    (c.requires.stands.fresh c.if-not-search.false).0 c.tell_named.ensures
    c.requires.complete.assigned c.requires.complete.quiet c.in_ok-bits.ensures.length c.in_ok-bits.ensures.values
