use Rattle.std.proofs.Common.{◌∙◌, sym, arith}
use Rattle.kb_chain.proofs.CnfLaws.{IsWithin_more}
use Rattle.kb_circuit.proofs.Loops.{within_at}
use Rattle.kb_circuit.proofs.DividingLoops.{any_begins, any_next, any_ends}
use Rattle.kb_circuit.proofs.builder.Builder.any_bit.Goals as goal

pub loop-i-init : goal.loop-i-init
loop-i-init c = record {
  low = omega arith;
  grows = omega arith;
  within = within_at c.args.self.now.vars c.args.bits.now 0 c.index-bits-0.result c.requires (omega arith);
  built = any_begins c.args.bits.now c.index-bits-0.result c.args.self.now (omega arith);
}

pub or_gate-requires-clause-right : goal.or_gate-requires-clause-right
or_gate-requires-clause-right c =
    within_at c.loop-i.self.vars c.args.bits.now c.loop-i.i c.index-bits-i.result (IsWithin_more _ _ _ c.loop-i.invariant.grows c.requires) (omega arith)

pub loop-i-preserved : goal.loop-i-preserved
loop-i-preserved c = record {
  low = omega arith;
  grows = let a = c.loop-i.invariant.grows in let b = c.or_gate.ensures.grows in omega arith;
  within = c.in_ok-found.ensures.within;
  built = any_next c.loop-i.found c.args.bits.now c.loop-i.i c.index-bits-i.result c.in_ok-found.found c.loop-i.self c.or_gate.new.self (omega arith) c.in_ok-found.ensures.built
      ∙ c.loop-i.invariant.built;
}

pub returns-clause-built : goal.returns-clause-built
returns-clause-built c =
    sym c.loop-i.invariant.built ∙ any_ends c.loop-i.found c.args.bits.now c.loop-i.i c.loop-i.self (omega arith)
