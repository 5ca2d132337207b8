use Rattle.std.proofs.Common.{◌≡◌, length}
use Rattle.kb_resolution.specs.Lookup.{declares, first_along}
use Rattle.kb_resolution.proofs.methods.found_along.Given as goal

abbrev pub invariant-loop-rest : goal.invariant-loop-rest
invariant-loop-rest l = first_along (declares l.linked l.wanted.name.now l.wanted.kind.now) l.rest ≡ first_along (declares l.linked l.wanted.name.now l.wanted.kind.now) l.chain

abbrev pub decreases-loop-rest : goal.decreases-loop-rest
decreases-loop-rest l = length l.rest
