use Rattle.kb_blast.proofs.Loops.{narrowed_is}
use Rattle.kb_blast.proofs.terms.narrowed.Goals as goal

pub returns : goal.returns
returns c = narrowed_is c.args.above c.args.width c.args.word.now c.copy_from_slice.new.self c.copy_from_slice.ensures.after
