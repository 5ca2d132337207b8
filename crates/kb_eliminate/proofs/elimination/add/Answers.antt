use Rattle.std.proofs.Common.{sym, subst}
use Rattle.kb_chain.specs.Literal.{has}
use Rattle.kb_propagate.specs.Rows.{rows_of}
use Rattle.kb_eliminate.specs.Resolvents.{IsResolvent}
use Rattle.kb_eliminate.specs.Elimination.{IsResolventAt}
use Rattle.kb_propagate.proofs.WatchLaws.{at_some}
use Rattle.kb_eliminate.proofs.elimination.add.Goals as goal

pub add_resolvent-requires-clause-resolvent : goal.add_resolvent-requires-clause-resolvent
add_resolvent-requires-clause-resolvent c l r i j =
    let s = c.args.base.now in
    let at : IsResolventAt (has s.trail.literals) (rows_of s.clauses) c.args.left c.args.right c.args.pivot c.in-Some.row =
    at_some c.in_ok-row.field-0 c.in-Some.row (IsResolventAt (has s.trail.literals) (rows_of s.clauses) c.args.left c.args.right c.args.pivot) c.in-Some.is c.in_ok-row.ensures in
    subst (λ z. IsResolvent (has s.trail.literals) l r c.args.pivot z) (sym c.as_slice-2.ensures) (at.resolves l r i j)
