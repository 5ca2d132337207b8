use Rattle.std.proofs.Common.{length, refl, arith}
use Rattle.std.proofs.lemmas.Option.{slice_get_read, slice_get_past}
use Rattle.kb_report_known.proofs.Walking.{entered, entered_none}
use Rattle.kb_report_known.proofs.terms.enter.Goals as goal

pub returns-in-Some : goal.returns-in-Some
returns-in-Some c =
    entered c.args.number c.args.met c.args.terms.now c.in-Some.term.now c.args.tasks.now.items c.push.new.self.items c.enter_operands.new.tasks.items c.enter_operands.result
    (omega (arith, c.if-number-met.false)) (slice_get_read c.args.terms.now (length c.args.terms.now) c.args.number c.in-Some.term.now refl c.in-Some.ensures.lookup.3.0 c.in-Some.ensures.lookup.1)
    c.in_ok-push.ensures.items c.enter_operands.ensures

pub returns-in-None : goal.returns-in-None
returns-in-None c =
    entered_none c.args.number c.args.met c.args.terms.now c.args.tasks.now.items c.push.new.self.items (omega (arith, c.if-number-met.false))
    (slice_get_past c.args.terms.now c.args.number c.in-None.ensures.lookup.3) c.in_ok-push.ensures.items
