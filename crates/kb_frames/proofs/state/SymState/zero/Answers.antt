use Rattle.std.proofs.Common.{rules, ◌≡◌, pos, List, ap, sym, ◌∙◌}
use Rattle.kb_terms.specs.declared.node.Node.{Node}
use Rattle.kb_terms.specs.declared.node.Node.TheVariants.{Const}
use Rattle.kb_terms.specs.Terms.{interned}
use Rattle.kb_terms.proofs.Finding.{pool_is, term_is}
use Rattle.kb_frames.proofs.state.SymState.zero.Goals as goal

pub returns-clause-term : goal.returns-clause-term
returns-clause-term c =
    let same : c.args.self.now.nodes ≡ c.self.inside.pool = search rules in
    term_is c.self.inside.pool c.constant.new.self c.in_ok-term.term (Const (pos 0)) c.in_ok-term.ensures.formed c.in_ok-term.ensures.node
    ∙ ap (λ (nodes : List Node). (interned nodes (Const (pos 0))).1) (sym same)

pub returns-clause-state : goal.returns-clause-state
returns-clause-state c =
    let same : c.args.self.now.nodes ≡ c.self.inside.pool = search rules in
    let nodes : c.constant.new.self ≡ (interned c.args.self.now.nodes (Const (pos 0))).0 =
    pool_is c.self.inside.pool c.constant.new.self c.in_ok-term.term (Const (pos 0)) c.in_ok-term.ensures.formed c.in_ok-term.ensures.node
    ∙ ap (λ (ns : List Node). (interned ns (Const (pos 0))).0) (sym same) in
    search rules
