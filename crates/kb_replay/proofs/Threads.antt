-- Tests with their methods, and what comes of them, may be moved to another thread.
use denote.Param.Send.{IsSend, sendable}
use Rattle.std.proofs.Crossing.{crosses}
use Rattle.std.proofs.MapsCrossing.{crosses as maps}
use Rattle.kb_names.proofs.types.Component.TheLaws.TheKnot.{crosses as knot}
use Rattle.kb_test.proofs.Threads.{ending_send, heap_send, test_field_send}
use Rattle.kb_replay.specs.contracts.replays.Replayed as Replayed
use Rattle.kb_replay.specs.contracts.workers.Assigned as Assigned
use Rattle.kb_replay.specs.contracts.workers.Outcome as Outcome

replayed_field_send : IsSend Replayed.the_field.row
replayed_field_send = let a = ending_send in let b = heap_send in search (knot, crosses, maps, sendable) depth 60

pub replayed_send : IsSend Replayed.the_row
replayed_send = let a = replayed_field_send in search (knot, crosses, maps, sendable) depth 60

pub assigned_send : IsSend Assigned.the_row
assigned_send = let a = test_field_send in search (knot, crosses, maps, sendable) depth 60

pub outcome_send : IsSend Outcome.the_row
outcome_send = let a = test_field_send in let b = replayed_field_send in search (knot, crosses, maps, sendable) depth 60
