use Rattle.std.proofs.Common.{subst}
use Rattle.kb_propagate.specs.Trail.{Assigned}
use Rattle.kb_propagate.specs.Tables.{IsDistinct}
use Rattle.kb_propagate.proofs.TrailLaws.{IsDistinct-from}
use Rattle.kb_propagate.proofs.trail.Trail.tell_once.Goals as goal

pub returns : goal.returns
returns c =
    subst (λ (z : Assigned). IsDistinct z.literals) c.self.view_is
    (IsDistinct-from c.self.inside.limit c.self.inside.marks.items c.self.inside.reached.items c.self.inside.forced_by.items c.self.inside.positions.items
    c.self.inside.count c.self.inside.begins.items c.self.invariant)
