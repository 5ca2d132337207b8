use Rattle.std.proofs.Common.{rules, ◌≡◌, ap, sym, subst}
use Rattle.kb_terms.specs.Terms.{IsPool}
use Rattle.kb_frames.specs.State.{State}
use Rattle.kb_ways.specs.Reached.{IsReached}
use Rattle.kb_stepint.specs.Takes.{taken}
use Rattle.kb_ways.specs.Ways.{Take}
use Rattle.kb_stepint.proofs.ReachedLaws.{is_reached}
use Rattle.kb_stepint.proofs.take.take_told.Goals as goal

pub returns-clause-reached : goal.returns-clause-reached
returns-clause-reached c =
    let take : Take = taken c.args.world.now c.args.bounds.now c.args.state.now c.args.choice.now in
    let same : c.read_or_take_up.new.state ≡ take.state = ap (λ (t : Take). t.state) c.in_ok-outcome.ensures in
    let pool : IsPool c.read_or_take_up.new.state.nodes = search rules in
    subst (IsReached c.args.world.now) (sym same)
    (is_reached c.args.world.now c.args.bounds.now c.args.choice.now c.args.state.now c.requires.at (subst (λ (s : State). IsPool s.nodes) same pool))
