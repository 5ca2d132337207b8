use Rattle.std.proofs.Common.{◌≡◌, ℕ, ◌-◌, ◌+◌, length, ◌∙◌, ap}
use Rattle.std.proofs.lemmas.Result.{err_from_is_err_and}
use Rattle.kb_grammar.specs.Reading.{folded}
use Rattle.kb_grammar.proofs.Loops.{goes_on, is_over}
use Rattle.kb_classfile.specs.Reading.{next_number, no_entries, pool_read}
use Rattle.kb_classfile.proofs.Steps.{fails_in_loop}
use Rattle.kb_classfile.proofs.reader.Reader.pool_read.Goals as goal

pub returns-in_err-next_number : goal.returns-in_err-next_number
unfolding pool_read
returns-in_err-next_number c =
    let p = err_from_is_err_and c.from_residual-in_err-next_number.result c.from_residual-in_err-next_number.ensures.1 in
    rw (p.1, p.2, c.in_ok-count.ensures)
    (fails_in_loop c.in_err-next_number.field-0.0 next_number c.loop.pool c.in_ok-count.count c.loop.counter c.loop.self (folded next_number (c.in_ok-count.count - 1) no_entries c.u2.new.self) c.loop-test.true c.in_err-next_number.ensures.read c.loop.invariant.1)

pub loop-preserved : goal.loop-preserved
loop-preserved c =
    let longer : length c.next_number.new.self.entries ≡ c.loop.counter + 1 = c.in_ok-next_number.ensures.len ∙ ap (λ (n : ℕ). n + 1) c.loop.invariant.0 in
    (longer, goes_on next_number c.loop.pool c.next_number.new.self c.in_ok-count.count c.loop.counter c.loop.self c.next_number.new.reader (folded next_number (c.in_ok-count.count - 1) no_entries c.u2.new.self) c.loop-test.true c.in_ok-next_number.ensures.read c.loop.invariant.1)

pub returns : goal.returns
unfolding pool_read
returns c =
    rw c.in_ok-count.ensures
    (is_over next_number c.loop.pool c.in_ok-count.count c.loop.counter c.loop.self (folded next_number (c.in_ok-count.count - 1) no_entries c.u2.new.self) c.loop-test.false c.loop.invariant.1)
