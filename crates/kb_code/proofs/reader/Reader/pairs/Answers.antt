use Rattle.std.proofs.Common.{ℕ, [], ◌<◌, ◌*◌, length, arith}
use Rattle.std.proofs.lemmas.Result.{err_from_is_err_and}
use Rattle.kb_grammar.specs.Reading.{folded, one_more}
use Rattle.kb_grammar.proofs.Loops.{is_over}
use Rattle.kb_code.specs.Reading.{pair}
use Rattle.kb_code.proofs.Steps.{puts_behind, stops}
use Rattle.kb_code.proofs.Room.{no_pairs}
use Rattle.kb_code.proofs.reader.Reader.pairs.Goals as goal

pub returns-then-left-count : goal.returns-then-left-count
returns-then-left-count c =
    let short : length c.args.self.now.rest < 8 * c.args.count = omega (arith, c.left.ensures, c.if-left-count.true) in
    no_pairs c.args.from c.args.count c.args.self.now short

pub returns-in_err-pair : goal.returns-in_err-pair
returns-in_err-pair c =
    let p = err_from_is_err_and c.from_residual.result c.from_residual.ensures.1 in
    rw (p.1, p.2)
    (stops c.in_err-pair.field-0.0 (λ (number : ℕ). pair c.args.from) c.loop.pairs.items c.args.count c.loop.counter c.loop.self (folded (one_more (λ (number : ℕ). pair c.args.from)) c.args.count [] c.args.self.now) c.loop-test.true c.in_err-pair.ensures c.loop.invariant)

pub loop-preserved : goal.loop-preserved
loop-preserved c =
    rw (c.in_ok-push.ensures.items)
    (puts_behind (λ (number : ℕ). pair c.args.from) c.loop.pairs.items c.in_ok-pair.field-0 c.args.count c.loop.counter c.loop.self c.pair.new.self (folded (one_more (λ (number : ℕ). pair c.args.from)) c.args.count [] c.args.self.now) c.loop-test.true c.in_ok-pair.ensures c.loop.invariant)

pub returns : goal.returns
returns c =
    rw (c.from_vec.ensures)
    (is_over (one_more (λ (number : ℕ). pair c.args.from)) c.loop.pairs.items c.args.count c.loop.counter c.loop.self (folded (one_more (λ (number : ℕ). pair c.args.from)) c.args.count [] c.args.self.now) c.loop-test.false c.loop.invariant)
