use Rattle.std.proofs.Common.{ℕ, []}
use Rattle.std.proofs.lemmas.Result.{err_from_is_err_and}
use Rattle.kb_grammar.specs.Reading.{folded, one_more}
use Rattle.kb_grammar.proofs.Loops.{is_over}
use Rattle.kb_classfile.specs.Reading.{handler, handlers}
use Rattle.kb_classfile.proofs.Steps.{puts_behind, stops}
use Rattle.kb_classfile.proofs.reader.Reader.handlers.Goals as goal

pub returns-in_err-handler : goal.returns-in_err-handler
unfolding handlers
returns-in_err-handler c =
    let p = err_from_is_err_and c.from_residual-in_err-handler.result c.from_residual-in_err-handler.ensures.1 in
    rw (p.1, p.2, c.in_ok-count.ensures)
    (stops c.in_err-handler.field-0.0 (λ (number : ℕ). handler c.args.pool.now) c.loop.handlers.items c.in_ok-count.count c.loop.counter c.loop.self (folded (one_more (λ (number : ℕ). handler c.args.pool.now)) c.in_ok-count.count [] c.u2.new.self) c.loop-test.true c.in_err-handler.ensures c.loop.invariant)

pub loop-preserved : goal.loop-preserved
loop-preserved c =
    rw (c.in_ok-push.ensures.items)
    (puts_behind (λ (number : ℕ). handler c.args.pool.now) c.loop.handlers.items c.in_ok-handler.field-0 c.in_ok-count.count c.loop.counter c.loop.self c.handler.new.self (folded (one_more (λ (number : ℕ). handler c.args.pool.now)) c.in_ok-count.count [] c.u2.new.self) c.loop-test.true c.in_ok-handler.ensures c.loop.invariant)

pub returns : goal.returns
unfolding handlers
returns c =
    rw (c.from_vec.ensures, c.in_ok-count.ensures)
    (is_over (one_more (λ (number : ℕ). handler c.args.pool.now)) c.loop.handlers.items c.in_ok-count.count c.loop.counter c.loop.self (folded (one_more (λ (number : ℕ). handler c.args.pool.now)) c.in_ok-count.count [] c.u2.new.self) c.loop-test.false c.loop.invariant)
