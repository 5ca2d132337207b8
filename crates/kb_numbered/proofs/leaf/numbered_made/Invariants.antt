use Rattle.std.proofs.Common.{◌≡◌}
use Rattle.kb_numbered.specs.Numbered.{numbered_made}
use Rattle.kb_numbered.proofs.SetLaws.{changed}
use Rattle.kb_numbered.proofs.leaf.numbered_made.Given as goal

abbrev pub invariant-loop-i : goal.invariant-loop-i
invariant-loop-i l = l.objects.items ≡ changed (numbered_made l.nodes l.numbering) l.fn.made l.i
