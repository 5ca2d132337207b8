use Rattle.std.proofs.Common.{◌≡◌, length, map}
use Rattle.kb_format.specs.Members.{type_of}
use Rattle.kb_format.specs.Verdicts.{first_unmet}
use Rattle.kb_format.proofs.unmet.unmet_member_type.Given as goal

abbrev pub invariant-loop-rest : goal.invariant-loop-rest
invariant-loop-rest l = first_unmet l.verdicts (map (type_of l.demand) l.rest) ≡ first_unmet l.verdicts (map (type_of l.demand) l.members)

abbrev pub decreases-loop-rest : goal.decreases-loop-rest
decreases-loop-rest l = length l.rest
