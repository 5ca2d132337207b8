use Rattle.std.proofs.Common.{◌≡◌, ◌-◌, ap, ◌∙◌, sym, subst, arith, drop, replicate}
use Rattle.std.proofs.lemmas.List.{length-set}
use Rattle.kb_chain.specs.Literal.{negated}
use Rattle.kb_chain.specs.Cnf.{IsWithin}
use Rattle.kb_chain.proofs.CnfLaws.{IsWithin_more}
use Rattle.kb_circuit.specs.Circuit.{falsity}
use Rattle.kb_circuit.specs.Division.{long_division}
use Rattle.kb_circuit.proofs.Computing.{within-false}
use Rattle.kb_circuit.proofs.Shifting.{within-drop}
use Rattle.kb_circuit.proofs.DividingLoops.{division_begins, turn_more, division_more}
use Rattle.kb_circuit.proofs.builder.Builder.long_division.Goals as goal

pub loop-place-init : goal.loop-place-init
loop-place-init c =
    let e : c.negated-remainder.result ≡ falsity = c.negated-remainder.ensures ∙ ap negated c.truth.ensures.value in
    record {
      long = c.told-dividend;
      grows = omega arith;
      quotient = within-drop c.args.self.now.vars 32 c.args.dividend.now c.requires.dividend;
      remainder = subst (λ x. IsWithin c.args.self.now.vars (replicate 32 x)) (sym e) (within-false 32 c.args.self.now.vars c.truth.ensures.circuit.variable);
      built = subst (λ x. long_division (drop 32 c.args.dividend.now) c.args.divisor.now c.args.self.now ≡ ((drop 32 c.args.dividend.now, replicate 32 x), c.args.self.now)) (sym e)
          (division_begins c.args.dividend.now c.args.divisor.now c.args.dividend.now c.args.self.now (omega (arith, c.told-dividend)) (omega (arith, c.told-dividend)) c.told-divisor);
    }

pub division_turn-requires-clause-divisor : goal.division_turn-requires-clause-divisor
division_turn-requires-clause-divisor c = IsWithin_more _ _ _ c.loop-place.invariant.grows c.requires.divisor

pub loop-place-preserved : goal.loop-place-preserved
loop-place-preserved c =
    let n = c.loop-place.place in
    let up = c.loop-place.invariant.grows in
    let more = c.division_turn.ensures.grows in
    record {
      long = length-set c.loop-place.quotient (31 - n) c.in_ok-turn.turn.bit ∙ c.loop-place.invariant.long;
      grows = omega arith;
      quotient = turn_more c.loop-place.self.vars c.division_turn.new.self.vars c.loop-place.quotient n c.in_ok-turn.turn.bit (omega arith) c.loop-place.invariant.long more
          c.in_ok-turn.ensures.bit c.loop-place.invariant.quotient;
      remainder = c.in_ok-turn.ensures.within;
      built = division_more c.args.dividend.now c.args.divisor.now c.loop-place.quotient c.loop-place.remainder n c.index-dividend-place.result
          (c.in_ok-turn.turn.bit, c.in_ok-turn.turn.remainder) c.args.self.now c.loop-place.self c.division_turn.new.self (omega arith) c.told-dividend c.loop-place.invariant.long
          c.loop-place.invariant.built c.in_ok-turn.ensures.built;
    }
