use Rattle.kb_terms.proofs.Interned.{result_is_term}
use Rattle.kb_terms.proofs.Values.{made_value}
use Rattle.kb_terms.proofs.pool.Pool.make.Goals as goal

pub returns-clause-term : goal.returns-clause-term
returns-clause-term c = result_is_term c.intern.result c.args.self.now c.intern.new.self _ c.intern.ensures.node

pub returns-clause-value : goal.returns-clause-value
returns-clause-value c =
    made_value c.intern.result c.args.self.now c.intern.new.self c.args.op c.args.left c.args.right c.made_node-node.result
    c.made_node-node.ensures.node c.intern.ensures.formed c.intern.ensures.extends c.requires c.intern.ensures.node
