use Rattle.kb_stepint.proofs.IntMethodLaws.{ints_next, start_reached, unhandled}
use Rattle.kb_stepint.proofs.laws.int_methods_begin.Goals as goal

pub returns-clause-begins : goal.returns-clause-begins
returns-clause-begins c = λ world init method linked ints. start_reached world init method linked ints

pub returns-clause-steps : goal.returns-clause-steps
returns-clause-steps c = λ world state reached alone ints. ints_next world state alone ints

pub returns-clause-unhandled : goal.returns-clause-unhandled
returns-clause-unhandled c = λ world method ints. unhandled world method ints
