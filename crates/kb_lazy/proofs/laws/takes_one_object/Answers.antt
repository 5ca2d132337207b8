use Rattle.kb_lazy.proofs.ObjectLaws.{one_object_taken}
use Rattle.kb_lazy.proofs.laws.takes_one_object.Goals as goal

pub returns : goal.returns
returns c = λ world id picture number origin type k array input linked access inside correct shape.
    one_object_taken world id picture number origin type k array input linked access inside correct shape
