use Rattle.std.proofs.Common.{w32}
use Rattle.std.proofs.lemmas.Int.{to_z-of_z}
use Rattle.kb_terms.proofs.Interned.{result_is_term}
use Rattle.kb_terms.proofs.Values.{constant_value}
use Rattle.kb_terms.proofs.pool.Pool.constant.Goals as goal

pub returns-clause-term : goal.returns-clause-term
returns-clause-term c = result_is_term c.intern.result c.args.self.now c.intern.new.self _ c.intern.ensures.node

pub returns-clause-value : goal.returns-clause-value
returns-clause-value c = constant_value c.intern.result c.args.self.now c.intern.new.self c.args.value _ (to_z-of_z w32 c.args.value c.ranges.value) c.intern.ensures.node
