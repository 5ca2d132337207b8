use Rattle.std.proofs.Common.{sym, subst, get_or}
use Rattle.std.proofs.lemmas.Option.{slice_get-get_or}
use Rattle.kb_terms.specs.Terms.{IsTerm, AreTerms}
use Rattle.kb_terms.specs.Numbering.{IsNumbering}
use Rattle.kb_terms.proofs.Order.{looped-is, term-at}
use Rattle.kb_terms.proofs.pool.Pool.numbering.Goals as goal

pub walk-requires-clause-root : goal.walk-requires-clause-root
walk-requires-clause-root c =
    let roots = c.args.roots.now in
    let i = c.loop-root.root-index in
    let root = get_or roots i (record { 0 = 0 }) in
    subst (λ ns. IsTerm ns root) (sym c.nodes-nodes.ensures.nodes) (term-at c.args.self.now roots i root c.requires (slice_get-get_or roots i (record { 0 = 0 }) c.loop-root-test.true))

pub returns-clause-numbered : goal.returns-clause-numbered
returns-clause-numbered c =
    let nodes = c.nodes-nodes.result.now in
    let roots = c.args.roots.now in
    subst (λ ns. IsNumbering ns roots c.loop-root.terms.keys) c.nodes-nodes.ensures.nodes
    (looped-is nodes c.nodes-nodes.ensures.formed roots c.loop-root.terms.keys c.loop-root.root-index
    (subst (λ ns. AreTerms ns roots) (sym c.nodes-nodes.ensures.nodes) c.requires) c.loop-root-test.false c.loop-root.invariant.1)
