use Rattle.kb_workers.proofs.MappedLaws.{mapped_values, values_mapped}
use Rattle.kb_workers.proofs.laws.mapped_is_map.Goals as goal

pub returns : goal.returns
returns g c work pieces answers = (mapped_values work pieces answers, values_mapped work pieces answers)
