use Rattle.kb_frames_laws.proofs.EndingLaws.{endings_mean}
use Rattle.kb_frames_laws.proofs.laws.endings_mean_their_states.Goals as goal

pub returns : goal.returns
returns c = endings_mean
