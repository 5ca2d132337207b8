use Rattle.std.proofs.Common.{refl}
use Rattle.kiasan.proofs.reports.report_with.Goals as goal

pub returns-clause-head : goal.returns-clause-head
returns-clause-head c = rw c.in_ok-held.ensures (record { target = c.in_ok-target.ensures; init = refl; bounds = refl; paths = refl; budget = refl })

pub returns-clause-leaves : goal.returns-clause-leaves
returns-clause-leaves c = rw c.in_ok-held.ensures refl
