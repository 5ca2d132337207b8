use Rattle.kb_resolution.proofs.resolving.row_of.Goals as goal

pub row_by-requires : goal.row_by-requires
row_by-requires c = (c.requires.0, c.requires.1, c.requires.2, c.requires.3, c.new-known.ensures c.args.linked.now c.args.class c.args.numbers.now.texts)
