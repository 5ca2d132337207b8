use Rattle.std.proofs.Common.{◌<◌, get_or, arith}
use Rattle.std.proofs.lemmas.Bool.{false≢true}
use Rattle.kb_order.proofs.RowLaws.{item_stands}
use Rattle.kb_order.proofs.complete.are_below.Goals as goal

pub returns-then-number-size : goal.returns-then-number-size
returns-then-number-size c =
    let numbers = c.args.numbers.now in
    let i = c.loop-number.number-index in (
      λ t. absurd (false≢true t),
      λ h. let lt : get_or numbers i 0 < c.args.size = h (get_or numbers i 0) (item_stands numbers i c.loop-number-test.true) in
          let ge = c.if-number-size.true in
          absurd (omega (arith, lt, ge)),
    )
