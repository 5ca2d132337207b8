use Rattle.std.proofs.Common.{◌≡◌, length}
use Rattle.kb_picture.specs.Tables.{marked}
use Rattle.kb_picture.proofs.marks.marked.Given as goal

abbrev pub invariant-loop-rest : goal.invariant-loop-rest
invariant-loop-rest l = marked l.table l.rest ≡ marked l.initial.table l.places

abbrev pub decreases-loop-rest : goal.decreases-loop-rest
decreases-loop-rest l = length l.rest
