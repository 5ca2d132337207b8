use denote.Param.Send.{sendable}
use Rattle.std.proofs.Crossing.{crosses}
use Rattle.std.proofs.MapsCrossing.{crosses as maps}
use Rattle.kb_world.proofs.Threads.{world_sync}
use Rattle.kb_replay.proofs.Threads.{assigned_send, outcome_send}
use Rattle.kb_replay.proofs.workers.run_assigned.Goals as goal

-- tests and outcomes may be moved to another thread, and threads may share the runtime, the gate and the world
pub map_in_order-requires : goal.map_in_order-requires
map_in_order-requires g c κs =
    let test = assigned_send in
    let outcome = outcome_send in
    let runtime = c.type_bounds.sync-H in
    let gate = c.type_bounds.sync-G in
    let world = world_sync in
    (search (crosses, maps, sendable) depth 60, (search (crosses, maps, sendable) depth 60, (search (crosses, maps, sendable) depth 60, (search (crosses, maps, sendable) depth 60, (search (crosses, maps, sendable) depth 60, (c.requires.workers, c.requires.runnable))))))

pub returns : goal.returns
returns g c = c.map_in_order.ensures
