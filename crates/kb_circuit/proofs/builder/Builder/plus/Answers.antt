use Rattle.std.proofs.Common.{◌∙◌, sym, refl, arith}
use Rattle.std.proofs.lemmas.List.{length-set}
use Rattle.kb_circuit.proofs.Loops.{plus_next, plus_ends, within_at}
use Rattle.kb_chain.proofs.CnfLaws.{IsWithin_more}
use Rattle.kb_circuit.proofs.builder.Builder.plus.Goals as goal

pub loop-i-init : goal.loop-i-init
loop-i-init c = record { long = c.told-left; grows = omega arith; carry = c.requires.first; built = refl }

pub full_adder-requires-clause-left : goal.full_adder-requires-clause-left
full_adder-requires-clause-left c =
    within_at c.loop-i.self.vars c.args.left.now c.loop-i.i c.index-left-i.result (IsWithin_more _ _ _ c.loop-i.invariant.grows c.requires.left) (omega arith)

pub full_adder-requires-clause-right : goal.full_adder-requires-clause-right
full_adder-requires-clause-right c =
    within_at c.loop-i.self.vars c.args.right.now c.loop-i.i c.index-right-i.result (IsWithin_more _ _ _ c.loop-i.invariant.grows c.requires.right) (omega arith)

pub loop-i-preserved : goal.loop-i-preserved
loop-i-preserved c =
    record {
      long = length-set c.loop-i.sums c.loop-i.i c.in_ok-sum.sum ∙ c.loop-i.invariant.long;
      grows = let a = c.loop-i.invariant.grows in let b = c.full_adder.ensures.grows in omega arith;
      carry = c.in_ok-sum.ensures.within;
      built = plus_next c.args.left.now c.args.right.now c.loop-i.sums c.loop-i.i c.index-left-i.result c.index-right-i.result c.loop-i.carry
          (c.in_ok-sum.sum, c.in_ok-sum.next) c.loop-i.self c.full_adder.new.self (omega arith) (omega arith) (omega arith) c.in_ok-sum.ensures.built
          ∙ c.loop-i.invariant.built;
    }

pub returns-clause-built : goal.returns-clause-built
returns-clause-built c =
    sym c.loop-i.invariant.built ∙ plus_ends c.args.left.now c.args.right.now c.loop-i.sums c.loop-i.i c.loop-i.carry c.loop-i.self (omega arith) (omega arith)
