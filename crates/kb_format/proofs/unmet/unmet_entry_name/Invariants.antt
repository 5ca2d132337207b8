use Rattle.std.proofs.Common.{◌≡◌, length}
use Rattle.std.specs.List.{filter_map}
use Rattle.kb_format.specs.Places.{name_in_entry}
use Rattle.kb_format.specs.Verdicts.{first_unmet}
use Rattle.kb_format.proofs.unmet.unmet_entry_name.Given as goal

abbrev pub invariant-loop-rest : goal.invariant-loop-rest
invariant-loop-rest l = first_unmet l.verdicts (filter_map name_in_entry l.rest) ≡ first_unmet l.verdicts (filter_map name_in_entry l.pool)

abbrev pub decreases-loop-rest : goal.decreases-loop-rest
decreases-loop-rest l = length l.rest
