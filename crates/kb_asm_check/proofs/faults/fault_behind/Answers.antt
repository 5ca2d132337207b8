use Rattle.std.proofs.Common.{◌≤◌, List, length, sym, subst}
use Rattle.kb_asm_text.specs.declared.line.Line.{Line}
use Rattle.kb_asm_check.proofs.BodyLaws.{body_within, told_within}
use Rattle.kb_asm_check.proofs.faults.fault_behind.Goals as goal

pub returns-clause-within : goal.returns-clause-within
returns-clause-within c =
    told_within c.body_fault.result (length c.body_of-body.result.now) (length c.args.lines.now)
    (subst (λ (l : List Line). length l ≤ length c.args.lines.now) (sym c.body_of-body.ensures) (body_within c.args.lines.now))
    c.body_fault.ensures.within
