use Rattle.std.proofs.Common.{arith}
use Rattle.kiasan.proofs.ReplayLaws.{others_pass}
use Rattle.kiasan.proofs.replay.count_differs.Goals as goal

pub returns-clause-others : goal.returns-clause-others
returns-clause-others c = others_pass c.loop-rest.rest.now c.args.replayed.now c.loop-rest.count c.loop-rest.invariant (omega (arith, c.in_default.len_below))
