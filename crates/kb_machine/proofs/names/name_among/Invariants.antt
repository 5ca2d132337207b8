use Rattle.std.proofs.Common.{length}
use Rattle.kb_machine.proofs.names.name_among.Given as goal

abbrev pub decreases-loop-rest : goal.decreases-loop-rest
decreases-loop-rest l = length l.rest
