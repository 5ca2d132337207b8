use Rattle.std.proofs.lemmas.List.Filters.{FiltersInPlace}
use Rattle.kb_propagate.specs.Forgetting.{has_awake_clause}
use Rattle.kb_propagate.proofs.watches.move_awake.Given as goal

abbrev pub invariant-loop-next : goal.invariant-loop-next
invariant-loop-next l = FiltersInPlace (has_awake_clause l.clauses) l.fn.watches l.watches l.kept l.next
