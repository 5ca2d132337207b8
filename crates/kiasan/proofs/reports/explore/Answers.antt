use Rattle.std.proofs.Common.{ap}
use Rattle.kb_oracle.specs.States.{SolverState}
use Rattle.kiasan.proofs.JobLaws.{listed_of}
use Rattle.kiasan.proofs.reports.explore.Goals as goal

pub returns-in-Ok : goal.returns-in-Ok
returns-in-Ok c =
    listed_of c.args.world.now c.in_ok-state.state c.args.job.now.init c.args.id c.args.job.now.bounds c.args.job.now.paths c.args.job.now.budget _ c.in-Ok.leaves
    c.in_ok-state.ensures.state (ap (λ (s : SolverState). s.budget) c.new-oracle.ensures) c.in-Ok.ensures.covers c.in-Ok.ensures.compared c.in-Ok.ensures.seen c.in-Ok.ensures.found
