use Rattle.kb_asm_text.specs.Lines.{SpellsCase}
use Rattle.kb_asm_text.proofs.EachLaws.{each_next, each_none, each_ends}
use Rattle.kb_asm_text.proofs.switches.read_cases.Goals as goal

pub returns-in-None : goal.returns-in-None
returns-in-None c =
    each_none SpellsCase c.loop-first.cases c.args.words.now c.loop-first.rest.now c.in-Some.others.now c.in-Some.first.now c.loop-first.invariant c.in-Some.ensures
    (rw c.in-None.is at c.in_ok-case.ensures)

pub loop-first-preserved : goal.loop-first-preserved
loop-first-preserved c =
    each_next SpellsCase c.loop-first.cases c.push.new.self c.in-Some-2.case c.args.words.now c.loop-first.rest.now c.in-Some.others.now c.in-Some.first.now
    c.loop-first.invariant c.in-Some.ensures (rw c.in-Some-2.is at c.in_ok-case.ensures) c.in_ok-push-in-Some-2.ensures.ok

pub returns : goal.returns
returns c = each_ends SpellsCase c.loop-first.cases c.args.words.now c.loop-first.rest.now c.loop-first.invariant c.in_default.ensures
