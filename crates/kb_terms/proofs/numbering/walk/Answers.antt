use Rattle.std.proofs.Common.{arith}
use Rattle.kb_terms.proofs.Walking.{starts, top_is_term, turn, turn-smaller, ends}
use Rattle.kb_terms.proofs.numbering.walk.Goals as goal

pub loop-task-init : goal.loop-task-init
loop-task-init c = starts c.args.nodes.now c.args.root c.args.terms.now.keys c.args.tasks.now.items c.push.new.self.items c.requires.root c.requires.idle c.in_ok-push.ensures.items

pub perform-requires : goal.perform-requires
perform-requires c = top_is_term c.args.nodes.now c.loop-task.tasks.items c.pop.new.self.items c.in-Some.task c.in-Some.ensures.items c.loop-task.invariant.0

pub loop-task-smaller : goal.loop-task-smaller
loop-task-smaller c =
    turn-smaller c.args.nodes.now c.loop-task.tasks.items c.pop.new.self.items c.perform.new.tasks.items c.in-Some.task c.loop-task.terms.keys c.requires.formed
    c.in-Some.ensures.items c.in_ok-perform.ensures.tasks

pub loop-task-preserved : goal.loop-task-preserved
loop-task-preserved c =
    turn c.args.nodes.now c.loop-task.tasks.items c.pop.new.self.items c.perform.new.tasks.items c.in-Some.task c.loop-task.terms.keys c.perform.new.terms.keys _ c.requires.formed
    c.in-Some.ensures.items c.in_ok-perform.ensures.tasks c.in_ok-perform.ensures.terms c.loop-task.invariant

pub returns-clause-terms : goal.returns-clause-terms
returns-clause-terms c =
    ends c.args.nodes.now c.loop-task.tasks.items c.pop.new.self.items c.loop-task.terms.keys _ c.in_default.ensures.items (omega (arith, c.in_default.ensures.cases)) c.loop-task.invariant.1
