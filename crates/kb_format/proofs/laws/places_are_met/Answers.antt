use Rattle.kb_format.proofs.RuleLaws.{names_met, names_allowed, types_met, types_right}
use Rattle.kb_format.proofs.laws.places_are_met.Goals as goal

pub returns-clause-names : goal.returns-clause-names
returns-clause-names c = λ file. ((λ has. names_met file has), (λ met. names_allowed file met))

pub returns-clause-descriptors : goal.returns-clause-descriptors
returns-clause-descriptors c = λ file. ((λ has. types_met file has), (λ met. types_right file met))
