use Rattle.std.proofs.Common.{◌≤◌, Bool, true, false, sym, ap, arith}
use Rattle.std.specs.Int.{from_bool}
use Rattle.std.proofs.lemmas.List.{drop_all}
use Rattle.kb_chain.specs.Clause.{assignment_of}
use Rattle.kb_circuit.specs.Meaning.{number, bits_under}
use Rattle.kb_blast.proofs.Loops.{number_small}
use Rattle.kb_blast.proofs.reading.int_of.Goals as goal

one_at_most : (b : Bool) → from_bool b ≤ 1
one_at_most true = omega arith
one_at_most false = omega arith

pub loop-i-init : goal.loop-i-init
loop-i-init c = sym (ap (λ ls. number (bits_under (assignment_of c.args.bits.now) ls)) (drop_all 32 c.args.word.now (omega arith)))

pub overflow_mul-number : goal.overflow_mul-number
overflow_mul-number c =
    let small = number_small (assignment_of c.args.bits.now) c.args.word.now c.loop-i.i c.loop-i-test.true c.told-word in
    record { fits = omega (arith, small, c.loop-i.invariant) }

pub overflow_add-number : goal.overflow_add-number
overflow_add-number c =
    let small = number_small (assignment_of c.args.bits.now) c.args.word.now c.loop-i.i c.loop-i-test.true c.told-word in
    record { fits = omega (arith, small, c.loop-i.invariant, c.from-bit.ensures, one_at_most c.is_true.result) }
