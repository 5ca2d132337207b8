use Rattle.kb_replay.proofs.Outcomes.{all_runnable}
use Rattle.kb_replay.proofs.workers.run_tests.Goals as goal

pub run_assigned-requires-clause-runnable : goal.run_assigned-requires-clause-runnable
run_assigned-requires-clause-runnable g c κs within =
    all_runnable c.args.world.now c.args.tests c.args.methods.now c.in_ok-assigned.assigned.items c.in_ok-assigned.ensures.tests c.in_ok-assigned.ensures.methods c.requires.runnable
