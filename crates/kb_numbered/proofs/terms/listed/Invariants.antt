use Rattle.std.proofs.Common.{◌≡◌, ◌++◌, length}
use Rattle.kb_blast.specs.Query.{listed}
use Rattle.kb_numbered.proofs.terms.listed.Given as goal

abbrev pub invariant-loop-rest : goal.invariant-loop-rest
invariant-loop-rest l = l.terms ++ listed l.nodes l.numbering l.rest ≡ listed l.nodes l.numbering l.numbering

abbrev pub decreases-loop-rest : goal.decreases-loop-rest
decreases-loop-rest l = length l.rest
