use Rattle.std.proofs.Common.{rules, ◌≡◌, slice_get, Some, None, IfOk, sym, subst}
use Rattle.std.specs.Option.{option_map}
use Rattle.kb_frames.specs.Calls.{frame_told, frames_of}
use Rattle.kb_ways.specs.Turns.{thrown_now, told}
use Rattle.kb_ways.specs.Ways.{Take}
use Rattle.kb_ways.proofs.HandlerLaws.{lands_nowhere, lands_there}
use Rattle.kb_ways.proofs.throwing.land.Goals as goal

pub returns-in-Some : goal.returns-in-Some
returns-in-Some c =
    let there : option_map frame_told (slice_get (frames_of c.args.state.now.stage) c.args.count) ≡ Some c.in-Some.frame = search rules in
    subst (λ (take : Take). IfOk c.land_in.result (λ outcome. told c.land_in.new.state outcome ≡ take))
    (sym (lands_there c.args.turn.now.world.now c.args.turn.now.bounds c.args.state.now (thrown_now c.args.it) c.args.count c.args.target c.in-Some.frame there)) c.land_in.ensures

pub returns-in-None : goal.returns-in-None
returns-in-None c =
    let there : option_map frame_told (slice_get (frames_of c.args.state.now.stage) c.args.count) ≡ None = search rules in
    subst (λ (take : Take). IfOk c.ill_typed.result (λ outcome. told c.args.state.now outcome ≡ take))
    (sym (lands_nowhere c.args.turn.now.world.now c.args.turn.now.bounds c.args.state.now (thrown_now c.args.it) c.args.count c.args.target there)) c.ill_typed.ensures
