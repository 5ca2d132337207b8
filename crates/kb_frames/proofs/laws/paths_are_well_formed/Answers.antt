use Rattle.kb_frames.proofs.FormedPaths.{roots_are_terms, well_formed}
use Rattle.kb_frames.proofs.laws.paths_are_well_formed.Goals as goal

pub returns-clause-terms : goal.returns-clause-terms
returns-clause-terms c = λ world state leaf s h. roots_are_terms world state leaf s h

pub returns-clause-formed : goal.returns-clause-formed
returns-clause-formed c = λ world state decisions leaf s h. well_formed world state decisions leaf s h
