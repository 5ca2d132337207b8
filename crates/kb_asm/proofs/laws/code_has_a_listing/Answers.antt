use Rattle.kb_asm_body.specs.Layout.{label_of}
use Rattle.kb_asm.proofs.ListingLaws.{items_of}
use Rattle.kb_asm.proofs.laws.code_has_a_listing.Goals as goal

pub returns : goal.returns
returns c = λ pool sizes body code is own. items_of pool (label_of body) body 0 code.bytes own is.instructions
