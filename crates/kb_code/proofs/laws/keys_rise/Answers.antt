use Rattle.kb_code.proofs.RisingKeys.{items_rise}
use Rattle.kb_code.proofs.laws.keys_rise.Goals as goal

pub returns : goal.returns
returns c = λ listing code handlers lists. items_rise listing.items 0 code lists.instructions
