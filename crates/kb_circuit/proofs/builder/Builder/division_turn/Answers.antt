use Rattle.std.proofs.Common.{◌≡◌, subst, rules}
use Rattle.kb_chain.specs.Cnf.{IsWithin}
use Rattle.kb_chain.proofs.CnfLaws.{IsWithin_more}
use Rattle.kb_circuit.specs.Circuit.{truth}
use Rattle.kb_circuit.specs.Words.{negated_bits, plus}
use Rattle.kb_circuit.specs.Division.{brought_down, division_turn}
use Rattle.kb_circuit.proofs.Loops.{within-negated}
use Rattle.kb_circuit.proofs.Dividing.{turn_sums, turn_gives}
use Rattle.kb_circuit.proofs.DividingLoops.{within-brought_down}
use Rattle.kb_circuit.proofs.builder.Builder.division_turn.Goals as goal

pub plus-requires-clause-left : goal.plus-requires-clause-left
plus-requires-clause-left c =
    rw c.brought_down-longer.ensures (within-brought_down c.args.self.now.vars c.args.next c.args.remainder.now c.requires.next c.requires.remainder)

pub plus-requires-clause-right : goal.plus-requires-clause-right
plus-requires-clause-right c = rw c.negated_bits.ensures (within-negated c.args.self.now.vars c.args.divisor.now c.requires.divisor)

pub bitwise-requires-clause-left : goal.bitwise-requires-clause-left
bitwise-requires-clause-left c =
    let built : plus (brought_down c.args.next c.args.remainder.now) (negated_bits c.args.divisor.now) truth c.args.self.now ≡ ((c.in_ok-difference.difference, c.in_ok-difference.fits), c.plus.new.self) = search rules in
    subst (λ r. IsWithin r.1.vars r.0.0) built
    (turn_sums c.args.divisor.now c.args.next c.args.remainder.now c.args.self.now 31 c.truth-carry.ensures.circuit.variable c.told-divisor c.told-remainder
    c.requires.divisor c.requires.next c.requires.remainder).within

pub bitwise-requires-clause-right : goal.bitwise-requires-clause-right
bitwise-requires-clause-right c =
    IsWithin_more c.args.self.now.vars c.plus.new.self.vars c.brought_down-longer.result c.plus.ensures.grows
    (rw c.brought_down-longer.ensures (within-brought_down c.args.self.now.vars c.args.next c.args.remainder.now c.requires.next c.requires.remainder))

pub returns-clause-within : goal.returns-clause-within
unfolding division_turn
returns-clause-within c =
    let built : division_turn c.args.divisor.now c.args.next c.args.remainder.now c.args.self.now ≡ ((c.in_ok-difference.fits, c.in_ok-left.left), c.bitwise.new.self) = search rules in
    subst (λ r. IsWithin r.1.vars r.0.1) built
    (turn_gives c.args.divisor.now c.args.next c.args.remainder.now c.args.self.now 31 c.truth-carry.ensures.circuit.variable c.told-divisor c.told-remainder
    c.requires.divisor c.requires.next c.requires.remainder).within
