use Rattle.std.proofs.Common.{◌≡◌, length, map}
use Rattle.kb_format.specs.Members.{name_of}
use Rattle.kb_format.specs.Verdicts.{first_unmet}
use Rattle.kb_format.proofs.unmet.unmet_member_name.Given as goal

abbrev pub invariant-loop-rest : goal.invariant-loop-rest
invariant-loop-rest l = first_unmet l.verdicts (map name_of l.rest) ≡ first_unmet l.verdicts (map name_of l.members)

abbrev pub decreases-loop-rest : goal.decreases-loop-rest
decreases-loop-rest l = length l.rest
