use Rattle.std.proofs.Common.{◌+◌, ◌-◌, ◌*◌, ◌≤◌, length, List, take}
use Rattle.kb_chain.specs.Literal.{Literal, has}
use Rattle.kb_propagate.specs.Trail.{TrailGrows}
use Rattle.kb_propagate.specs.Store.{IsJustified}
use Rattle.kb_propagate.specs.Rows.{rows_of, AreReordered}
use Rattle.kb_propagate.specs.Watches.{pairs_of, IsWatching, AllListed, Quiet, StaysQuiet}
use Rattle.kb_propagate.proofs.propagation.propagate.Given as goal

abbrev pub invariant-loop-next : goal.invariant-loop-next
invariant-loop-next l = record {
  watching : IsWatching (rows_of l.clauses) (pairs_of l.clauses) l.watches.lists.items l.trail.vars;
  listed : AllListed l.watches.lists.items (pairs_of l.clauses);
  inside : l.next ≤ length l.trail.literals;
  quiet : Quiet (rows_of l.clauses) (pairs_of l.clauses) (has (take l.next l.trail.literals)) (has l.trail.literals);
  reordered : AreReordered (rows_of l.fn.clauses) (rows_of l.clauses);
  stays : StaysQuiet l.fn.clauses l.clauses (has l.fn.trail.literals);
  grows : TrailGrows l.fn.trail l.trail;
  justified : (all : List (List Literal)) → IsJustified all (rows_of l.fn.clauses) l.fn.trail → IsJustified all (rows_of l.clauses) l.trail;
}

abbrev pub decreases-loop-next : goal.decreases-loop-next
decreases-loop-next l = 2 * l.trail.vars + 2 - l.next
