use Rattle.kb_resolution.proofs.special.special_for.Goals as goal

pub special_start-start-requires : goal.special_start-start-requires
special_start-start-requires c = c.requires.linked

pub chain_at-requires : goal.chain_at-requires
chain_at-requires c = c.requires.linked
