use Rattle.std.proofs.Common.{◌≡◌, ◌-◌, suc}
use Rattle.kb_semantics.specs.Step.{run}
use Rattle.kb_machine.specs.Turns.{begun, reached}
use Rattle.kb_machine.proofs.machine.run_from.Given as goal

abbrev pub invariant-loop-carried : goal.invariant-loop-carried
invariant-loop-carried l =
    run (suc (l.bounds.steps - l.carried)) (record { world = l.world; bounds = l.bounds }) (reached l.inputs l.carried l.state)
    ≡ run (suc l.bounds.steps) (record { world = l.world; bounds = l.bounds }) (begun l.inputs l.fn.state)
