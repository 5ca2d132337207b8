use Rattle.kb_frames.proofs.ResolveLaws.{instance_same, resolved_there, resolved_unbound}
use Rattle.kb_frames.proofs.laws.values_resolve.Goals as goal

pub returns : goal.returns
returns c = record {
  there = λ world state value sound is. resolved_there world state sound value is;
  same = instance_same;
  unbound = resolved_unbound;
}
