use Rattle.std.proofs.Common.{ℕ, []}
use Rattle.std.proofs.lemmas.Result.{err_from_is_err_and}
use Rattle.kb_grammar.specs.Reading.{folded, one_more}
use Rattle.kb_grammar.proofs.Loops.{is_over}
use Rattle.kb_classfile.specs.declared.pool.EntryKind.TheVariants as kinds
use Rattle.kb_classfile.specs.Reading.{index_of, interfaces}
use Rattle.kb_classfile.proofs.Steps.{puts_behind, stops}
use Rattle.kb_classfile.proofs.reader.Reader.interfaces.Goals as goal

pub returns-in_err-index_of : goal.returns-in_err-index_of
unfolding interfaces
returns-in_err-index_of c =
    let p = err_from_is_err_and c.from_residual-in_err-index_of.result c.from_residual-in_err-index_of.ensures.1 in
    rw (p.1, p.2, c.in_ok-count.ensures)
    (stops c.in_err-index_of.field-0.0 (λ (number : ℕ). index_of kinds.Class c.args.pool.now) c.loop.interfaces.items c.in_ok-count.count c.loop.counter c.loop.self (folded (one_more (λ (number : ℕ). index_of kinds.Class c.args.pool.now)) c.in_ok-count.count [] c.u2.new.self) c.loop-test.true c.in_err-index_of.ensures c.loop.invariant)

pub loop-preserved : goal.loop-preserved
loop-preserved c =
    rw (c.in_ok-push.ensures.items)
    (puts_behind (λ (number : ℕ). index_of kinds.Class c.args.pool.now) c.loop.interfaces.items c.in_ok-index_of.field-0 c.in_ok-count.count c.loop.counter c.loop.self c.index_of.new.self (folded (one_more (λ (number : ℕ). index_of kinds.Class c.args.pool.now)) c.in_ok-count.count [] c.u2.new.self) c.loop-test.true c.in_ok-index_of.ensures c.loop.invariant)

pub returns : goal.returns
unfolding interfaces
returns c =
    rw (c.from_vec.ensures, c.in_ok-count.ensures)
    (is_over (one_more (λ (number : ℕ). index_of kinds.Class c.args.pool.now)) c.loop.interfaces.items c.in_ok-count.count c.loop.counter c.loop.self (folded (one_more (λ (number : ℕ). index_of kinds.Class c.args.pool.now)) c.in_ok-count.count [] c.u2.new.self) c.loop-test.false c.loop.invariant)
