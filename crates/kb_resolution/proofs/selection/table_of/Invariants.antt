use Rattle.std.proofs.Common.{length}
use Rattle.kb_classes.specs.World.{chain_of}
use Rattle.kb_resolution.specs.Tables.{selected_in}
use Rattle.kb_resolution.proofs.SelectionLaws.{IsLeft}
use Rattle.kb_resolution.proofs.selection.table_of.Given as goal

abbrev pub invariant-loop-rest : goal.invariant-loop-rest
invariant-loop-rest l = IsLeft l.linked (chain_of l.linked l.fn.class.0) (selected_in l.table) l.rest

abbrev pub decreases-loop-rest : goal.decreases-loop-rest
decreases-loop-rest l = length l.rest
