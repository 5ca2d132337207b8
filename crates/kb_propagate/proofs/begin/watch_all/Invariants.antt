use Rattle.std.proofs.Common.{take, List}
use Rattle.kb_chain.specs.Literal.{Literal}
use Rattle.kb_propagate.specs.Trail.{TrailGrows}
use Rattle.kb_propagate.specs.Store.{IsJustified}
use Rattle.kb_propagate.specs.Rows.{rows_of}
use Rattle.kb_propagate.specs.Watches.{pairs_of, IsBegun}
use Rattle.kb_propagate.proofs.begin.watch_all.Given as goal

abbrev pub invariant-loop-number : goal.invariant-loop-number
invariant-loop-number l = record {
  begun : IsBegun (take l.number (rows_of l.clauses)) (take l.number (pairs_of l.clauses)) l.watches.lists.items l.trail;
  grows : TrailGrows l.fn.trail l.trail;
  justified : (all : List (List Literal)) → IsJustified all (rows_of l.clauses) l.fn.trail → IsJustified all (rows_of l.clauses) l.trail;
}
