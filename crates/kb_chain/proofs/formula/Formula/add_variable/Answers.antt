use Rattle.std.proofs.Common.{◌+◌, arith}
use Rattle.kb_chain.proofs.CnfLaws.{AllWithin_more}
use Rattle.kb_chain.proofs.formula.Formula.add_variable.Goals as goal

pub invariant_of-self : goal.invariant_of-self
invariant_of-self c =
    AllWithin_more c.self.inside.limit (c.self.inside.limit + 1) c.self.inside.kept.items (omega arith) c.self.invariant
