use Rattle.std.proofs.Common.{sym, subst}
use Rattle.kb_semantics.specs.Config.{Setting}
use Rattle.kb_semantics.specs.Step.{start_of}
use Rattle.kb_frames.specs.State.{State}
use Rattle.kb_frames.specs.StandsFor.{StandsFor}
use Rattle.kb_frames.proofs.StartLaws.{start_stands}
use Rattle.kb_frames.proofs.state.start.Goals as goal

pub returns-clause-stands : goal.returns-clause-stands
returns-clause-stands c =
    λ bounds input correct.
    let s : Setting = record { world = c.args._world.now; bounds = bounds } in
    subst (λ (state : State). StandsFor s state input (start_of s.world c.args.target input)) (sym c.first_state.ensures) (start_stands s c.args.init c.args.target input)
