use Rattle.std.proofs.Common.{None}
use Rattle.std.proofs.lemmas.Result.{err_from_is_err_and}
use Rattle.kb_grammar.specs.Reading.{folded}
use Rattle.kb_grammar.proofs.Loops.{goes_on, is_over}
use Rattle.kb_classfile.specs.Reading.{method_attribute, method_attributes}
use Rattle.kb_classfile.proofs.Steps.{fails_in_loop}
use Rattle.kb_classfile.proofs.reader.Reader.method_attributes.Goals as goal

pub returns-in_err-code : goal.returns-in_err-code
unfolding method_attributes
returns-in_err-code c =
    let p = err_from_is_err_and c.from_residual-in_err-code.result c.from_residual-in_err-code.ensures.1 in
    rw (p.1, p.2, c.in_ok-count.ensures)
    (fails_in_loop c.in_err-code.field-0.0 (method_attribute c.args.pool.now c.args.number) c.loop.code c.in_ok-count.count c.loop.counter c.loop.self (folded (method_attribute c.args.pool.now c.args.number) c.in_ok-count.count None c.u2.new.self) c.loop-test.true c.in_err-code.ensures c.loop.invariant)

pub loop-preserved : goal.loop-preserved
loop-preserved c =
    goes_on (method_attribute c.args.pool.now c.args.number) c.loop.code c.in_ok-code.code c.in_ok-count.count c.loop.counter c.loop.self c.method_attribute.new.self (folded (method_attribute c.args.pool.now c.args.number) c.in_ok-count.count None c.u2.new.self) c.loop-test.true c.in_ok-code.ensures c.loop.invariant

pub returns : goal.returns
unfolding method_attributes
returns c =
    rw c.in_ok-count.ensures
    (is_over (method_attribute c.args.pool.now c.args.number) c.loop.code c.in_ok-count.count c.loop.counter c.loop.self (folded (method_attribute c.args.pool.now c.args.number) c.in_ok-count.count None c.u2.new.self) c.loop-test.false c.loop.invariant)
