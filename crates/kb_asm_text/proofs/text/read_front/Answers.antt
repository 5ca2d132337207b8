use Rattle.std.proofs.Common.{refl}
use Rattle.kb_asm_text.proofs.TextLaws.{next_read, stops, ends, empty_is}
use Rattle.kb_asm_text.proofs.text.read_front.Goals as goal

pub returns-in_default-2 : goal.returns-in_default-2
returns-in_default-2 c =
    stops _ c.args.text.now c.loop-line.rest.now c.in-Some.line.now c.in-Some.others.now c.loop-line.invariant c.in-Some.ensures.0 c.in-Some.ensures.1
    (rw c.in_default-2.is at c.in_ok-read.ensures) refl

pub loop-line-preserved : goal.loop-line-preserved
loop-line-preserved c =
    let read = rw c.in-Some-2.is at c.in_ok-read.ensures in
    next_read c.loop-line.lines c.push.new.self c.in-Some-2.read c.loop-line.place c.in-Some-2.next c.args.text.now c.loop-line.rest.now c.in-Some.line.now c.in-Some.others.now
    c.loop-line.invariant c.in-Some.ensures.0 c.in-Some.ensures.1 read.0 read.1 c.in_ok-push.ensures.ok

pub returns : goal.returns
returns c = ends _ c.args.text.now c.loop-line.rest.now c.loop-line.invariant c.in_default.ensures (empty_is c.loop-line.rest.now c.is_empty.result c.is_empty.ensures)
