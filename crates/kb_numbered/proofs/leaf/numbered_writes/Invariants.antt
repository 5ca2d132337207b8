use Rattle.std.proofs.Common.{◌≡◌}
use Rattle.kb_numbered.specs.Numbered.{numbered_write}
use Rattle.kb_numbered.proofs.SetLaws.{changed}
use Rattle.kb_numbered.proofs.leaf.numbered_writes.Given as goal

abbrev pub invariant-loop-i : goal.invariant-loop-i
invariant-loop-i l = l.writes ≡ changed (numbered_write l.nodes l.numbering) l.fn.writes l.i
