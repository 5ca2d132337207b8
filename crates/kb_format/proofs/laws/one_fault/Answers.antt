use Rattle.kb_format.proofs.FaultLaws.{one_answer}
use Rattle.kb_format.proofs.laws.one_fault.Goals as goal

pub returns : goal.returns
returns c = λ file one other s t. one_answer file one other s t
