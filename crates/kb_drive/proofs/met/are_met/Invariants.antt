use Rattle.std.proofs.Common.{length}
use Rattle.kb_drive.specs.Met.{AreMetBy}
use Rattle.kb_drive.proofs.met.are_met.Given as goal

-- the conditions that are left decide, since those before them are met
abbrev pub invariant-loop-rest : goal.invariant-loop-rest
invariant-loop-rest l = (AreMetBy l.values l.rest → AreMetBy l.values l.when) × (AreMetBy l.values l.when → AreMetBy l.values l.rest)

abbrev pub decreases-loop-rest : goal.decreases-loop-rest
decreases-loop-rest l = length l.rest
