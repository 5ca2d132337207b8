use Rattle.std.proofs.Common.{◌≡◌, ◌+◌, ◌*◌, ◌<◌, ◌≤◌, length, take, drop, true, Bool, List, []}
use Rattle.kb_chain.specs.Literal.{Literal, has, negated, place_of}
use Rattle.kb_propagate.specs.Trail.{TrailGrows}
use Rattle.kb_propagate.specs.Store.{IsJustified}
use Rattle.kb_propagate.specs.Rows.{rows_of, AreReordered}
use Rattle.kb_propagate.specs.Watches.{pairs_of, IsWatching, Walks, StaysQuiet, all_blocked, with_list}
use Rattle.kb_propagate.proofs.propagation.take_up.Given as goal

abbrev pub invariant-loop-next : goal.invariant-loop-next
invariant-loop-next l = record {
  watching : IsWatching (rows_of l.clauses) (pairs_of l.clauses) l.lists.items l.trail.vars;
  size : length l.watches ≡ length l.fn.watches;
  behind : l.kept ≤ l.next;
  blocked : all_blocked (rows_of l.clauses) l.watches ≡ true;
  place : place_of l.falsified < 2 * l.trail.vars + 2;
  falsified : has l.trail.literals (negated l.falsified) ≡ true;
  part : (m : Literal) → has l.fn.trail.literals m ≡ true → has l.trail.literals m ≡ true;
  walks : (early : Literal → Bool) → ((m : Literal) → early m ≡ true → has l.fn.trail.literals m ≡ true)
      → Walks early (has l.fn.trail.literals) (rows_of l.fn.clauses) (pairs_of l.fn.clauses) (with_list l.fn.lists.items l.falsified []) l.fn.watches l.falsified
      → Walks early (has l.trail.literals) (rows_of l.clauses) (pairs_of l.clauses) (with_list l.lists.items l.falsified (take l.kept l.watches)) (drop l.next l.watches) l.falsified;
  reordered : AreReordered (rows_of l.fn.clauses) (rows_of l.clauses);
  stays : StaysQuiet l.fn.clauses l.clauses (has l.fn.trail.literals);
  grows : TrailGrows l.fn.trail l.trail;
  justified : (all : List (List Literal)) → IsJustified all (rows_of l.fn.clauses) l.fn.trail → IsJustified all (rows_of l.clauses) l.trail;
}
