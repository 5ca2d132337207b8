use Rattle.std.proofs.Common.{◌≡◌, ◌++◌, length, map}
use Rattle.kb_picture.specs.declared.path.Write.{Write}
use Rattle.kb_numbered.proofs.roots.add_writes.Given as goal

abbrev pub invariant-loop-rest : goal.invariant-loop-rest
invariant-loop-rest l = l.values.items ++ map (λ (write : Write). write.value) l.rest ≡ l.fn.values.items ++ map (λ (write : Write). write.value) l.writes

abbrev pub decreases-loop-rest : goal.decreases-loop-rest
decreases-loop-rest l = length l.rest
