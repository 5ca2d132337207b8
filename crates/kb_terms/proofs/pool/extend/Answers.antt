use Rattle.std.proofs.Common.{◌≡◌, ◌≤◌, ◌∙◌, Some, ap, refl, sym, subst, arith, length, slice_get, w32, FitsSigned, rules}
use Rattle.std.proofs.lemmas.Int.{to_z-of_z}
use Rattle.std.proofs.lemmas.Option.{slice_get_read}
use Rattle.kb_terms.specs.Terms.{AreFirstValues, node_value}
use Rattle.kb_terms.proofs.Computing.{can_compute, first-all, first-more}
use Rattle.kb_terms.proofs.pool.extend.Goals as goal

pub node_value-value-requires : goal.node_value-value-requires
node_value-value-requires c =
    let many : length c.loop-node.computed.items ≡ c.len.result = search rules in
    can_compute c.args.nodes.now c.len.result c.in-Some.node.now c.deref.result.now c.requires.formed
    (slice_get_read c.args.nodes.now (length c.args.nodes.now) c.len.result c.in-Some.node.now refl c.in-Some.ensures.lookup.3.0 c.in-Some.ensures.lookup.1)
    (ap length c.deref.ensures.value ∙ many)

pub loop-node-preserved : goal.loop-node-preserved
loop-node-preserved c =
    let many : length c.loop-node.computed.items ≡ c.len.result = search rules in
    let there : slice_get c.args.nodes.now c.len.result ≡ Some c.in-Some.node.now =
    slice_get_read c.args.nodes.now (length c.args.nodes.now) c.len.result c.in-Some.node.now refl c.in-Some.ensures.lookup.3.0 c.in-Some.ensures.lookup.1 in
    let fits : FitsSigned w32 c.node_value-value.result = search rules in
    subst (AreFirstValues c.args.inputs.now c.args.nodes.now) (sym c.in_ok-push.ensures.items)
    (first-more c.args.inputs.now c.args.nodes.now c.in-Some.node.now c.loop-node.computed.items _ (ap (slice_get c.args.nodes.now) many ∙ there) c.loop-node.invariant
    (to_z-of_z w32 c.node_value-value.result fits ∙ c.node_value-value.ensures ∙ ap (λ vs. node_value c.args.inputs.now vs c.in-Some.node.now) c.deref.ensures.value))

pub returns-clause-all : goal.returns-clause-all
returns-clause-all c =
    let many : length c.loop-node.computed.items ≡ c.len.result = search rules in
    let past : length c.args.nodes.now ≤ c.len.result = omega (arith, c.in_default.ensures.lookup) in
    first-all c.args.inputs.now c.args.nodes.now c.loop-node.computed.items c.loop-node.invariant (omega (arith, many, past))
