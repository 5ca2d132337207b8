use Rattle.std.proofs.Common.{◌∙◌, sym, refl, arith}
use Rattle.std.proofs.lemmas.List.{length-set}
use Rattle.kb_circuit.proofs.Loops.{bitwise_next, bitwise_ends, gate_fits-more, within_at}
use Rattle.kb_chain.proofs.CnfLaws.{IsWithin_more}
use Rattle.kb_circuit.proofs.builder.Builder.bitwise.Goals as goal

pub loop-i-init : goal.loop-i-init
loop-i-init c = record { long = c.told-left; grows = omega arith; built = refl }

pub gate-requires-clause-select : goal.gate-requires-clause-select
gate-requires-clause-select c = gate_fits-more c.args.gate _ _ c.loop-i.invariant.grows c.requires.gate

pub gate-requires-clause-left : goal.gate-requires-clause-left
gate-requires-clause-left c =
    within_at c.loop-i.self.vars c.args.left.now c.loop-i.i c.index-left-i.result (IsWithin_more _ _ _ c.loop-i.invariant.grows c.requires.left) (omega arith)

pub gate-requires-clause-right : goal.gate-requires-clause-right
gate-requires-clause-right c =
    within_at c.loop-i.self.vars c.args.right.now c.loop-i.i c.index-right-i.result (IsWithin_more _ _ _ c.loop-i.invariant.grows c.requires.right) (omega arith)

pub loop-i-preserved : goal.loop-i-preserved
loop-i-preserved c =
    record {
      long = length-set c.loop-i.out c.loop-i.i c.in_ok-out.field-0 ∙ c.loop-i.invariant.long;
      grows = let a = c.loop-i.invariant.grows in let b = c.gate.ensures.grows in omega arith;
      built = bitwise_next c.args.gate c.args.left.now c.args.right.now c.loop-i.out c.loop-i.i c.index-left-i.result c.index-right-i.result c.in_ok-out.field-0
          c.loop-i.self c.gate.new.self (omega arith) (omega arith) (omega arith) c.in_ok-out.ensures.built
          ∙ c.loop-i.invariant.built;
    }

pub returns-clause-built : goal.returns-clause-built
returns-clause-built c =
    sym c.loop-i.invariant.built ∙ bitwise_ends c.args.gate c.args.left.now c.args.right.now c.loop-i.out c.loop-i.i c.loop-i.self (omega arith) (omega arith)
