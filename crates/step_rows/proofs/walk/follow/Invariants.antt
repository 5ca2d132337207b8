use Rattle.kb_steps.specs.Stepping.{IsStepping}
use Rattle.step_rows.proofs.walk.follow.Given as goal

-- steps lead on from the state
abbrev pub invariant-loop : goal.invariant-loop
invariant-loop l = IsStepping l.world l.state
