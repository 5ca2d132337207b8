use Rattle.std.proofs.Common.{List, subst}
use Rattle.std.proofs.lemmas.List.{take_all}
use Rattle.kb_classfile.specs.declared.file.PoolEntry.{PoolEntry}
use Rattle.kb_format.specs.Members.{texts_of}
use Rattle.kb_format.proofs.TextNumbers.{AreNumbersOf, more_numbers, told_apart}
use Rattle.kb_format.proofs.numbers.text_numbers.Goals as goal

pub loop-entry-preserved : goal.loop-entry-preserved
loop-entry-preserved c =
    let more =
    more_numbers (texts_of c.loop-entry.texts.keys) (texts_of c.text_number.new.texts.keys) c.args.pool.now c.loop-entry.entry-index c.entry-item.result c.loop-entry.numbers.items c.in_ok-number.number
    c.loop-entry-test.true c.entry-item.is c.in_ok-number.ensures.extends c.loop-entry.invariant.1 c.in_ok-number.ensures.number in
    (c.in_ok-number.ensures.differ, rw (c.in_ok-push.ensures.items) more)

pub returns : goal.returns
returns c =
    told_apart (texts_of c.loop-entry.texts.keys) c.args.pool.now c.loop-entry.numbers.items c.loop-entry.invariant.0
    (subst (λ (es : List PoolEntry). AreNumbersOf (texts_of c.loop-entry.texts.keys) es c.loop-entry.numbers.items) (take_all c.loop-entry.entry-index c.args.pool.now c.loop-entry-test.false) c.loop-entry.invariant.1)
