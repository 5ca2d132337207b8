use Rattle.kb_frames_laws.proofs.MeaningLaws.{means}
use Rattle.kb_frames_laws.proofs.laws.paths_mean_their_states.Goals as goal

pub returns : goal.returns
returns c = λ world state decisions leaf s h. means world state decisions leaf s h
