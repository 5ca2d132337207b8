use Rattle.std.proofs.Common.{rules}
use Rattle.kb_replay.proofs.Runnable.{first_stop, runnable_next}
use Rattle.kb_replay.proofs.checks.check_tests.Goals as goal

pub returns-in-Err-clause-stop : goal.returns-in-Err-clause-stop
returns-in-Err-clause-stop c =
    first_stop c.args.world.now c.args.tests.now c.loop-test.methods c.loop-test.test-index c.test-item.result _ c.in-Err.stop c.loop-test-test.true
    c.test-item.is c.loop-test.invariant.0 (search rules) c.in-Err.ensures.stop

pub returns-in_default-clause-stop : goal.returns-in_default-clause-stop
returns-in_default-clause-stop c =
    first_stop c.args.world.now c.args.tests.now c.loop-test.methods c.loop-test.test-index c.test-item.result _ _ c.loop-test-test.true
    c.test-item.is c.loop-test.invariant.0 (search rules) tt

pub loop-test-preserved : goal.loop-test-preserved
loop-test-preserved c = (
  rw c.in-Ok-push.ensures.ok
      (runnable_next c.args.world.now c.args.tests.now c.loop-test.methods c.loop-test.test-index c.test-item.result c.in-Ok.id c.loop-test-test.true
      c.test-item.is c.loop-test.invariant.0 c.in-Ok.ensures.method),
  c.in-Ok.ensures.reached,
)
