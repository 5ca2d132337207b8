use Rattle.std.proofs.Common.{◌≡◌}
use Rattle.kb_numbered.specs.Numbered.{numbered_out}
use Rattle.kb_numbered.proofs.SetLaws.{changed}
use Rattle.kb_numbered.proofs.leaf.number_outs.Given as goal

abbrev pub invariant-loop-i : goal.invariant-loop-i
invariant-loop-i l = l.values ≡ changed (numbered_out l.nodes l.numbering) l.fn.values l.i
