use Rattle.std.proofs.Common.{take, get_or}
use Rattle.std.proofs.lemmas.Grind.{take_at_read}
use Rattle.kb_class.proofs.TableLaws.{one_more}
use Rattle.kb_class.proofs.tables.table_of.Goals as goal

pub loop-number-preserved : goal.loop-number-preserved
loop-number-preserved g c =
    let numbers = c.args.numbers.now in
    let i = c.loop-number.number-index in
    rw ((take_at_read numbers i 0 c.loop-number-test.true).1)
    (one_more g.T.Spelled.spells c.args.file.now.pool (take i numbers) (get_or numbers i 0) c.loop-number.table c.put_text.new.table c.loop-number.invariant c.in_ok-put_text.ensures)
