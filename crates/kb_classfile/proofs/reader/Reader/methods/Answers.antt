use Rattle.std.proofs.Common.{◌≡◌, ℕ, [], Ok, sym, subst}
use Rattle.std.proofs.lemmas.Result.{err_from_is_err_and}
use Rattle.kb_grammar.specs.Reading.{folded, one_more}
use Rattle.kb_grammar.proofs.Loops.{is_over}
use Rattle.kb_classfile.specs.Reading.{Fails, method, methods}
use Rattle.kb_classfile.proofs.Steps.{one_longer, puts_behind, stops}
use Rattle.kb_classfile.proofs.reader.Reader.methods.Goals as goal

pub returns-in_err-method : goal.returns-in_err-method
unfolding methods
returns-in_err-method c =
    let p = err_from_is_err_and c.from_residual-in_err-method.result c.from_residual-in_err-method.ensures.1 in
    rw (p.1, p.2, c.in_ok-count.ensures)
    (stops c.in_err-method.field-0.0 (method c.args.pool.now) c.loop-number.methods.items c.in_ok-count.count c.loop-number.number c.loop-number.self (folded (one_more (method c.args.pool.now)) c.in_ok-count.count [] c.u2.new.self) c.loop-number-test.true
    (subst (λ (n : ℕ). Fails c.in_err-method.field-0.0 (method c.args.pool.now n c.loop-number.self)) (sym c.loop-number.invariant.0) c.in_err-method.ensures)
    c.loop-number.invariant.1)

pub loop-number-preserved : goal.loop-number-preserved
loop-number-preserved c =
    rw (c.in_ok-push.ensures.items) (
      one_longer c.loop-number.methods.items c.in_ok-method.field-0 c.loop-number.number c.loop-number.invariant.0,
      puts_behind (method c.args.pool.now) c.loop-number.methods.items c.in_ok-method.field-0 c.in_ok-count.count c.loop-number.number c.loop-number.self c.method.new.self (folded (one_more (method c.args.pool.now)) c.in_ok-count.count [] c.u2.new.self) c.loop-number-test.true
          (subst (λ (n : ℕ). method c.args.pool.now n c.loop-number.self ≡ Ok (c.in_ok-method.field-0, c.method.new.self)) (sym c.loop-number.invariant.0) c.in_ok-method.ensures)
          c.loop-number.invariant.1,
    )

pub returns : goal.returns
unfolding methods
returns c =
    rw (c.from_vec.ensures, c.in_ok-count.ensures)
    (is_over (one_more (method c.args.pool.now)) c.loop-number.methods.items c.in_ok-count.count c.loop-number.number c.loop-number.self (folded (one_more (method c.args.pool.now)) c.in_ok-count.count [] c.u2.new.self) c.loop-number-test.false c.loop-number.invariant.1)
