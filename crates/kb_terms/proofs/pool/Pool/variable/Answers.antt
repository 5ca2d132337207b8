use Rattle.std.proofs.Common.{◌≡◌, ◌+◌, ◌∙◌, sym, ap, ◌∷◌, [], ◌++◌, length}
use Rattle.kb_terms.specs.declared.node.Node.TheVariants.{Var}
use Rattle.kb_terms.specs.Terms.{variables_of, int_at}
use Rattle.kb_terms.proofs.Interned.{new_variable, variables-more}
use Rattle.kb_terms.proofs.Values.{value_of-variable}
use Rattle.kb_terms.proofs.pool.Pool.variable.Goals as goal

pub invariant_of-self-2 : goal.invariant_of-self-2
invariant_of-self-2 c =
    let old = c.self.inside.nodes.keys in
    let added = new_variable old c.term_of.new.nodes.keys c.in_ok-term.term _ c.args.kind c.self.invariant.0 c.self.invariant.1 c.in_ok-term.ensures.node in
    let next : c.in_ok-next.next ≡ c.self.inside.variables + 1 = (rw c.in_ok-next.ensures.ok_part at c.checked_add.ensures).1 in
    (c.in_ok-term.ensures.formed, next ∙ ap (λ n. n + 1) c.self.invariant.1 ∙ sym (ap variables_of added.1 ∙ variables-more old _ c.args.kind))

pub returns-clause-number : goal.returns-clause-number
returns-clause-number c =
    let old = c.self.inside.nodes.keys in
    let added = new_variable old c.term_of.new.nodes.keys c.in_ok-term.term _ c.args.kind c.self.invariant.0 c.self.invariant.1 c.in_ok-term.ensures.node in
    added.0 ∙ ap length c.self.view_is

pub returns-clause-node : goal.returns-clause-node
returns-clause-node c =
    let old = c.self.inside.nodes.keys in
    let added = new_variable old c.term_of.new.nodes.keys c.in_ok-term.term _ c.args.kind c.self.invariant.0 c.self.invariant.1 c.in_ok-term.ensures.node in
    added.1 ∙ ap (λ ns. ns ++ Var (variables_of ns) c.args.kind ∷ []) c.self.view_is

pub returns-clause-variables : goal.returns-clause-variables
returns-clause-variables c =
    let old = c.self.inside.nodes.keys in
    let added = new_variable old c.term_of.new.nodes.keys c.in_ok-term.term _ c.args.kind c.self.invariant.0 c.self.invariant.1 c.in_ok-term.ensures.node in
    ap variables_of added.1 ∙ variables-more old _ c.args.kind ∙ ap (λ ns. variables_of ns + 1) c.self.view_is

pub returns-clause-value : goal.returns-clause-value
returns-clause-value c inputs =
    value_of-variable c.term_of.new.nodes.keys c.in_ok-term.term c.self.inside.variables c.args.kind inputs c.in_ok-term.ensures.node.node_is
    ∙ ap (λ v. int_at inputs v) (c.self.invariant.1 ∙ ap variables_of c.self.view_is)
