use Rattle.std.proofs.Common.{◌≡◌, ℕ, ◌-◌, List, length, ap, ◌∙◌, arith}
use Rattle.kb_classes.specs.World.{chain_of}
use Rattle.kb_resolution.specs.Tables.{stands_at}
use Rattle.kb_world.proofs.ChainPlaces.{stands}
use Rattle.kb_world.proofs.world.World.stands_above.Goals as goal

pub returns : goal.returns
returns c =
    let world = c.args.self.now in
    let first = c.saturating_sub.ensures in
    let low : length c.chain_at-chain.result.now ≡ length (chain_of world c.args.low) = ap length c.chain_at-chain.ensures.chain in
    let high : length c.chain_at.result.now ≡ length (chain_of world c.args.high) = ap length c.chain_at.ensures.chain in
    let place : c.saturating_sub.result ≡ length (chain_of world c.args.low) - length (chain_of world c.args.high) = omega (arith, first, low, high) in
    c.stands_at.ensures ∙ ap (λ (xs : List ℕ). stands_at xs c.saturating_sub.result c.args.high) c.chain_at-chain.ensures.chain
    ∙ ap (λ (p : ℕ). stands_at (chain_of world c.args.low) p c.args.high) place ∙ stands world c.chain_at-chain.ensures.linked.chains c.args.low c.args.high
