use Rattle.std.proofs.Common.{◌≡◌, ◌≤◌, length, arith}
use Rattle.std.proofs.lemmas.Result.{err_from_is_err_and}
use Rattle.kb_grammar.specs.Reading.{values_of}
use Rattle.kb_code.specs.Reading.{item}
use Rattle.kb_code.proofs.Steps.{one_further}
use Rattle.kb_code.proofs.Walking.{item_shortens, walk_fails, walk_ends}
use Rattle.kb_code.proofs.ListingLaws.{walk_within}
use Rattle.kb_code.proofs.decoding.walk.Goals as goal

pub returns-in_err-item-clause-read : goal.returns-in_err-item-clause-read
returns-in_err-item-clause-read c =
    let p = err_from_is_err_and c.from_residual.result c.from_residual.ensures.1 in
    let some : 1 ≤ length c.loop-reader.reader.rest = omega (arith, c.left.ensures, c.loop-reader-test.true) in
    rw (p.1, p.2) (walk_fails c.in_err-item.field-0.0 c.loop-reader.items.items c.loop-reader.reader c.args.code.now c.loop-reader.invariant some c.in_err-item.ensures)

pub loop-reader-smaller : goal.loop-reader-smaller
loop-reader-smaller c = item_shortens c.loop-reader.reader c.item.new.self c.in_ok-item.field-0 c.in_ok-item.ensures

pub loop-reader-preserved : goal.loop-reader-preserved
loop-reader-preserved c =
    let some : 1 ≤ length c.loop-reader.reader.rest = omega (arith, c.left.ensures, c.loop-reader-test.true) in
    rw (c.in_ok-push.ensures.items)
    (one_further item c.loop-reader.items.items c.in_ok-item.field-0 c.loop-reader.reader c.item.new.self (values_of item c.args.code.now 0) c.loop-reader.invariant some c.in_ok-item.ensures
    (item_shortens c.loop-reader.reader c.item.new.self c.in_ok-item.field-0 c.in_ok-item.ensures))

pub returns-clause-read : goal.returns-clause-read
returns-clause-read c =
    let none : length c.loop-reader.reader.rest ≡ 0 = omega (arith, c.left.ensures, c.loop-reader-test.false) in
    walk_ends c.loop-reader.items.items c.loop-reader.reader c.args.code.now c.loop-reader.invariant none

pub returns-clause-within : goal.returns-clause-within
returns-clause-within c =
    let none : length c.loop-reader.reader.rest ≡ 0 = omega (arith, c.left.ensures, c.loop-reader-test.false) in
    walk_within c.args.code.now c.loop-reader.items.items (walk_ends c.loop-reader.items.items c.loop-reader.reader c.args.code.now c.loop-reader.invariant none)
