use Rattle.std.proofs.Common.{sym, ◌∙◌, arith}
use Rattle.kb_report_known.proofs.Walking.{starts, smaller, turn, stops, ends}
use Rattle.kb_report_known.proofs.terms.met_from.Goals as goal

pub loop-task-init : goal.loop-task-init
loop-task-init c = starts c.args.terms.now c.args.before c.args.root c.new-tasks.result.items c.push.new.self.items c.new-tasks.ensures.items c.in_ok-push.ensures.items

pub loop-task-smaller : goal.loop-task-smaller
loop-task-smaller c =
    smaller c.args.terms.now c.loop-task.met c.loop-task.tasks.items c.pop.new.self.items c.perform.new.tasks.items c.in-Some.task c.in-Some.ensures.items c.in_ok-next.ensures.tasks

pub loop-task-preserved : goal.loop-task-preserved
loop-task-preserved c =
    turn c.args.terms.now c.args.before c.args.root c.loop-task.met c.in-Some-2.next c.loop-task.tasks.items c.pop.new.self.items c.perform.new.tasks.items c.in-Some.task
    c.in-Some.ensures.items c.in_ok-next.ensures.tasks (sym c.in-Some-2.is ∙ c.in_ok-next.ensures.met) c.loop-task.invariant

pub returns-in-None : goal.returns-in-None
returns-in-None c =
    stops c.args.terms.now c.args.before c.args.root c.loop-task.met c.loop-task.tasks.items c.pop.new.self.items c.in-Some.task
    c.in-Some.ensures.items (sym c.in-None.is ∙ c.in_ok-next.ensures.met) c.loop-task.invariant

pub returns : goal.returns
returns c =
    ends c.args.terms.now c.args.before c.args.root c.loop-task.met c.loop-task.tasks.items c.pop.new.self.items c.in_default.ensures.items
    (omega (arith, c.in_default.ensures.cases)) c.loop-task.invariant
