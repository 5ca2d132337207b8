use Rattle.kb_resolution.proofs.SignatureLaws.{have_signatures}
use Rattle.kb_resolution.proofs.signatures.signatures_of.Goals as goal

pub returns : goal.returns
returns c = have_signatures c.args.linked.now c.numbers.result.now c.in_ok-signatures.signatures.items c.numbers.ensures c.in_ok-signatures.ensures
