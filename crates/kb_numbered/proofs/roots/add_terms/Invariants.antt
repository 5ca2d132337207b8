use Rattle.std.proofs.Common.{◌≡◌, ◌++◌, length}
use Rattle.kb_numbered.specs.Numbered.{terms_stated}
use Rattle.kb_numbered.proofs.roots.add_terms.Given as goal

abbrev pub invariant-loop-rest : goal.invariant-loop-rest
invariant-loop-rest l = l.roots.items ++ terms_stated l.rest ≡ l.fn.roots.items ++ terms_stated l.fn.values

abbrev pub decreases-loop-rest : goal.decreases-loop-rest
decreases-loop-rest l = length l.rest
