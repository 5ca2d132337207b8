use Rattle.kb_picture.proofs.ChainLaws.{chain_to, past_k, past_array}
use Rattle.kb_picture.proofs.laws.depths_are_chains.Goals as goal

pub returns : goal.returns
returns c = record { chain = chain_to; k = past_k; array = past_array }
