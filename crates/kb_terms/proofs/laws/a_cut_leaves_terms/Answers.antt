use Rattle.kb_terms.proofs.Cuts.{leaves_terms}
use Rattle.kb_terms.proofs.laws.a_cut_leaves_terms.Goals as goal

pub returns : goal.returns
returns c = leaves_terms
