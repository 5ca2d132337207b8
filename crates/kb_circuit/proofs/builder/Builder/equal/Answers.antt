use Rattle.std.proofs.Common.{◌∙◌, sym, ap, arith, drop}
use Rattle.kb_circuit.specs.Gates.{and_gate}
use Rattle.kb_circuit.specs.Words.{equal_from}
use Rattle.kb_circuit.proofs.Loops.{equal_next, equal_begins, equal_ends, within_at}
use Rattle.kb_chain.proofs.CnfLaws.{IsWithin_more}
use Rattle.kb_circuit.proofs.builder.Builder.equal.Goals as goal

pub xor_gate-requires-in-loop-i-clause-left : goal.xor_gate-requires-in-loop-i-clause-left
xor_gate-requires-in-loop-i-clause-left c =
    within_at c.loop-i.self.vars c.args.left.now c.loop-i.i c.index-left-i.result (IsWithin_more _ _ _ c.loop-i.invariant.grows c.requires.left) (omega arith)

pub xor_gate-requires-in-loop-i-clause-right : goal.xor_gate-requires-in-loop-i-clause-right
xor_gate-requires-in-loop-i-clause-right c =
    within_at c.loop-i.self.vars c.args.right.now c.loop-i.i c.index-right-i.result (IsWithin_more _ _ _ c.loop-i.invariant.grows c.requires.right) (omega arith)

pub loop-i-init : goal.loop-i-init
loop-i-init c =
    let up = c.xor_gate.ensures.grows in
    let low = c.in_ok-xor_gate.ensures.within in
    record {
      low = omega arith;
      grows = up;
      within = omega (arith, ap (λ l. l.variable) c.negated-equal.ensures);
      built = ap (λ l. equal_from l (drop 1 c.args.left.now) (drop 1 c.args.right.now) c.xor_gate.new.self) c.negated-equal.ensures
          ∙ equal_begins c.args.left.now c.args.right.now c.index-left-0.result c.index-right-0.result c.in_ok-xor_gate.field-0 c.args.self.now c.xor_gate.new.self
          (omega arith) (omega arith) c.in_ok-xor_gate.ensures.built;
    }

pub loop-i-preserved : goal.loop-i-preserved
loop-i-preserved c =
    let one = c.xor_gate-in-loop-i.ensures.grows in
    let two = c.and_gate.ensures.grows in
    let before = c.loop-i.invariant.grows in
    record {
      low = omega arith;
      grows = omega arith;
      within = c.in_ok-equal.ensures.within;
      built = equal_next c.loop-i.equal c.args.left.now c.args.right.now c.loop-i.i c.index-left-i.result c.index-right-i.result c.in_ok-differ.differ c.in_ok-equal.equal
          c.loop-i.self c.xor_gate-in-loop-i.new.self c.and_gate.new.self (omega arith) (omega arith) c.in_ok-differ.ensures.built
          (sym (ap (λ l. and_gate c.loop-i.equal l c.xor_gate-in-loop-i.new.self) c.negated.ensures) ∙ c.in_ok-equal.ensures.built)
          ∙ c.loop-i.invariant.built;
    }

pub returns-clause-built : goal.returns-clause-built
returns-clause-built c =
    sym c.loop-i.invariant.built ∙ equal_ends c.loop-i.equal c.args.left.now c.args.right.now c.loop-i.i c.loop-i.self (omega arith)
