use Rattle.std.proofs.Common.{ℕ, []}
use Rattle.std.proofs.lemmas.Result.{err_from_is_err_and}
use Rattle.kb_grammar.specs.Reading.{folded, one_more}
use Rattle.kb_grammar.proofs.Loops.{is_over}
use Rattle.kb_classfile.specs.Reading.{field, fields}
use Rattle.kb_classfile.proofs.Steps.{puts_behind, stops}
use Rattle.kb_classfile.proofs.reader.Reader.fields.Goals as goal

pub returns-in_err-field : goal.returns-in_err-field
unfolding fields
returns-in_err-field c =
    let p = err_from_is_err_and c.from_residual-in_err-field.result c.from_residual-in_err-field.ensures.1 in
    rw (p.1, p.2, c.in_ok-count.ensures)
    (stops c.in_err-field.field-0.0 (λ (number : ℕ). field c.args.pool.now) c.loop.fields.items c.in_ok-count.count c.loop.counter c.loop.self (folded (one_more (λ (number : ℕ). field c.args.pool.now)) c.in_ok-count.count [] c.u2.new.self) c.loop-test.true c.in_err-field.ensures c.loop.invariant)

pub loop-preserved : goal.loop-preserved
loop-preserved c =
    rw (c.in_ok-push.ensures.items)
    (puts_behind (λ (number : ℕ). field c.args.pool.now) c.loop.fields.items c.in_ok-field.field-0 c.in_ok-count.count c.loop.counter c.loop.self c.field.new.self (folded (one_more (λ (number : ℕ). field c.args.pool.now)) c.in_ok-count.count [] c.u2.new.self) c.loop-test.true c.in_ok-field.ensures c.loop.invariant)

pub returns : goal.returns
unfolding fields
returns c =
    rw (c.from_vec.ensures, c.in_ok-count.ensures)
    (is_over (one_more (λ (number : ℕ). field c.args.pool.now)) c.loop.fields.items c.in_ok-count.count c.loop.counter c.loop.self (folded (one_more (λ (number : ℕ). field c.args.pool.now)) c.in_ok-count.count [] c.u2.new.self) c.loop-test.false c.loop.invariant)
