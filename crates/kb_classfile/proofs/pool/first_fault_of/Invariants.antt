use Rattle.std.proofs.Common.{◌≡◌, length}
use Rattle.kb_classfile.specs.Pool.{first_fault_of}
use Rattle.kb_classfile.proofs.pool.first_fault_of.Given as goal

abbrev pub decreases-loop-rest : goal.decreases-loop-rest
decreases-loop-rest l = length l.rest

abbrev pub invariant-loop-rest : goal.invariant-loop-rest
invariant-loop-rest l = first_fault_of l.pool l.rest ≡ first_fault_of l.pool l.references
