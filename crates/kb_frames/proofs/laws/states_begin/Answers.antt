use Rattle.kb_frames.proofs.StateLaws.{start_is_state}
use Rattle.kb_frames.proofs.laws.states_begin.Goals as goal

pub returns : goal.returns
returns c = λ world init method info e. start_is_state world init method info e
