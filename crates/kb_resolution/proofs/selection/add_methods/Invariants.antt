use Rattle.std.proofs.Common.{◌≡◌, ◌+◌, length}
use Rattle.kb_resolution.specs.Tables.{selected_in}
use Rattle.kb_resolution.proofs.SelectionLaws.{IsOpenLeft}
use Rattle.kb_resolution.proofs.selection.add_methods.Given as goal

abbrev pub invariant-loop-rest : goal.invariant-loop-rest
invariant-loop-rest l =
    IsOpenLeft l.signatures l.first l.methods (selected_in l.fn.table) l.number l.rest (selected_in l.table) × (l.number + length l.rest ≡ l.first + length l.methods)

abbrev pub decreases-loop-rest : goal.decreases-loop-rest
decreases-loop-rest l = length l.rest
