use Rattle.std.proofs.Common.{◌∙◌, ap, set}
use Rattle.kb_circuit.proofs.Loops.{set_last}
use Rattle.kb_circuit.proofs.words.sign_negated.Goals as goal

pub returns : goal.returns
returns c = ap (λ x. set c.args.bits.now 31 x) c.negated.ensures ∙ set_last c.args.bits.now 31 c.index-bits-31.result c.told-bits
