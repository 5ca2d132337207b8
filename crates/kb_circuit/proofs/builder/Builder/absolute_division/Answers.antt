use Rattle.kb_chain.proofs.CnfLaws.{IsWithin_more}
use Rattle.kb_circuit.proofs.builder.Builder.absolute_division.Goals as goal

pub absolute-requires-2 : goal.absolute-requires-2
absolute-requires-2 c = IsWithin_more _ _ _ c.absolute.ensures.grows c.requires.right

pub long_division-requires-clause-dividend : goal.long_division-requires-clause-dividend
long_division-requires-clause-dividend c = IsWithin_more _ _ _ c.absolute-2.ensures.grows c.in_ok-dividend.ensures.within
