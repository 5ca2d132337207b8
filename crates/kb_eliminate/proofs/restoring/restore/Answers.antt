use Rattle.kb_chain.specs.Clause.{assignment_of}
use Rattle.kb_propagate.proofs.BaseLaws.{clause_true-from}
use Rattle.kb_eliminate.proofs.restoring.restore.Goals as goal

pub returns : goal.returns
returns c row e i le = clause_true-from (assignment_of c.make_true.new.bits) row c.args.literal i (c.make_true.ensures le)
