use Rattle.std.proofs.Common.{◌≡◌, ◌∙◌, ap, arith, length, ◌<◌, ◌+◌, take, length-take, w32, FitsSigned, rules}
use Rattle.std.proofs.lemmas.Int.{to_z-of_z}
use Rattle.kb_terms.specs.Terms.{values, int_at}
use Rattle.kb_terms.proofs.Computing.{value_of-computed, read_int}
use Rattle.kb_terms.proofs.Values.{length-values}
use Rattle.kb_terms.proofs.pool.Pool.eval.Goals as goal

pub index-requires : goal.index-requires
index-requires c =
    omega (arith, ap length c.in_ok-computed.ensures, ap length (c.nodes.ensures.nodes), length-values c.args.values.now (take (c.args.term.0 + 1) c.nodes.result.now), length-take (c.args.term.0 + 1) c.nodes.result.now)

pub returns : goal.returns
returns c =
    let fits : FitsSigned w32 c.index.result.now = search rules in
    let nodes : c.nodes.result.now ≡ c.args.self.now = c.nodes.ensures.nodes in
    let inside : c.args.term.0 < length c.in_ok-computed.computed.items =
    omega (arith, ap length c.in_ok-computed.ensures, ap length nodes, length-values c.args.values.now (take (c.args.term.0 + 1) c.nodes.result.now), length-take (c.args.term.0 + 1) c.nodes.result.now) in
    to_z-of_z w32 c.index.result.now fits
    ∙ read_int _ _ c.args.term.0 c.index.result.now c.in_ok-computed.ensures inside c.index.ensures
    ∙ ap (λ ns. int_at (values c.args.values.now (take (c.args.term.0 + 1) ns)) c.args.term.0) nodes
    ∙ value_of-computed c.args.self.now c.args.term c.args.values.now c.requires.term
