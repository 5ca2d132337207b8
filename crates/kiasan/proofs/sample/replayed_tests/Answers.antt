use Rattle.std.proofs.Common.{List, Err, subst}
use Rattle.std.proofs.lemmas.Result.{err_from_is_err_and}
use Rattle.kb_class.specs.declared.ids.MethodId.{MethodId}
use Rattle.kb_replay.specs.declared.workers.Ran.{Ran}
use Rattle.kb_replay.specs.Replays.{AreRunnable}
use Rattle.kb_test.specs.declared.test_case.Test.{Test}
use Rattle.kiasan.specs.Refusals.{Gives}
use Rattle.kiasan.specs.Samples.{ArePassed}
use Rattle.kiasan.specs.Tests.{RefusesTests}
use Rattle.kiasan.proofs.SampleLaws.{each_passes, none_refused}
use Rattle.kiasan.proofs.sample.replayed_tests.Goals as goal

pub returns-in_err-methods : goal.returns-in_err-methods
returns-in_err-methods g c =
    let p = err_from_is_err_and c.from_residual.result c.from_residual.ensures.1 in
    rw (p.1, p.2)
    (none_refused {A = List MethodId} {B = Ran} (AreRunnable c.args.world.now c.args.tests) (ArePassed c.args.world.now c.args.tests) c.args.world.now c.requires.linked
    c.requires.runs.0 c.args.tests c.requires.runs.1 c.in_err-methods.field-0.0
    (subst (λ (tests : List Test). Gives {A = List MethodId} ⊥ (RefusesTests c.args.world.now tests) (AreRunnable c.args.world.now tests) (Err c.in_err-methods.field-0.0)) c.as_slice.ensures
    c.in_err-methods.ensures))

pub returns : goal.returns
returns g c = record {
  tests_are = c.in_ok-ran.ensures.tests;
  verdicts_are = c.in_ok-ran.ensures.replayed;
  each_passes = each_passes c.args.world.now c.requires.linked c.requires.runs.0 c.args.tests c.requires.runs.1 c.in_ok-ran.ran.replayed c.in_ok-ran.ensures.replayed;
}
