use Rattle.kb_circuit.proofs.ShiftLoops.{moved_up_is}
use Rattle.kb_circuit.proofs.shift.moved_up.Goals as goal

pub returns : goal.returns
returns c = moved_up_is c.args.fill c.args.places c.args.bits.now c.copy_from_slice.new.self c.requires c.told-bits c.copy_from_slice.ensures.after
