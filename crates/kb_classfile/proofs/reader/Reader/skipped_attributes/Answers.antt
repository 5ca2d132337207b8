use Rattle.std.proofs.lemmas.Result.{err_from_is_err_and}
use Rattle.kb_grammar.specs.Reading.{folded}
use Rattle.kb_grammar.proofs.Loops.{goes_on, is_over}
use Rattle.kb_classfile.specs.Reading.{skipped_attribute, skipped_attributes}
use Rattle.kb_classfile.proofs.Steps.{fails_in_loop}
use Rattle.kb_classfile.proofs.reader.Reader.skipped_attributes.Goals as goal

pub returns-in_err-skipped_attribute : goal.returns-in_err-skipped_attribute
unfolding skipped_attributes
returns-in_err-skipped_attribute c =
    let p = err_from_is_err_and c.from_residual-in_err-skipped_attribute.result c.from_residual-in_err-skipped_attribute.ensures.1 in
    rw (p.1, p.2, c.in_ok-count.ensures)
    (fails_in_loop c.in_err-skipped_attribute.field-0.0 (λ (none : Unit {0}). skipped_attribute c.args.pool.now) tt c.in_ok-count.count c.loop.counter c.loop.self (folded (λ (none : Unit {0}). skipped_attribute c.args.pool.now) c.in_ok-count.count tt c.u2.new.self) c.loop-test.true c.in_err-skipped_attribute.ensures c.loop.invariant)

pub loop-preserved : goal.loop-preserved
loop-preserved c =
    goes_on (λ (none : Unit {0}). skipped_attribute c.args.pool.now) tt tt c.in_ok-count.count c.loop.counter c.loop.self c.skipped_attribute.new.self (folded (λ (none : Unit {0}). skipped_attribute c.args.pool.now) c.in_ok-count.count tt c.u2.new.self) c.loop-test.true c.in_ok-skipped_attribute.ensures c.loop.invariant

pub returns : goal.returns
unfolding skipped_attributes
returns c =
    rw c.in_ok-count.ensures
    (is_over (λ (none : Unit {0}). skipped_attribute c.args.pool.now) tt c.in_ok-count.count c.loop.counter c.loop.self (folded (λ (none : Unit {0}). skipped_attribute c.args.pool.now) c.in_ok-count.count tt c.u2.new.self) c.loop-test.false c.loop.invariant)
