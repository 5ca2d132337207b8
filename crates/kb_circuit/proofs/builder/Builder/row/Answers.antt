use Rattle.std.proofs.Common.{◌≡◌, ◌≤◌, ◌∙◌, sym, subst, arith, length}
use Rattle.std.proofs.lemmas.List.{length-set}
use Rattle.kb_chain.specs.Cnf.{IsWithin}
use Rattle.kb_chain.proofs.CnfLaws.{IsWithin_more}
use Rattle.kb_circuit.specs.Multiplication.{row_word}
use Rattle.kb_circuit.specs.declared.shift.Shift.TheVariants.{Shl}
use Rattle.kb_circuit.proofs.Loops.{within-set}
use Rattle.kb_circuit.proofs.Shifting.{within-moved, length-moved}
use Rattle.kb_circuit.proofs.MultiplyingLoops.{row_from, row_begins, row_next, row_ends}
use Rattle.kb_circuit.proofs.builder.Builder.row.Goals as goal

pub loop-i-init : goal.loop-i-init
loop-i-init c =
    let vars = c.args.self.now.vars in
    let left = c.args.left.now in
    let place = c.args.place in
    let wide : length c.moved-moved.result ≡ 32 = rw c.moved-moved.ensures (length-moved Shl place left (omega arith) ∙ c.told-left) in
    let inside : IsWithin vars c.moved-moved.result = rw c.moved-moved.ensures (within-moved Shl vars place left c.truth-truth.ensures.circuit.variable c.requires.left) in
    record {
      wide = wide;
      inside = inside;
      long = wide;
      grows = omega arith;
      within = inside;
      built = subst (λ m. row_from place m m c.args.bit c.args.self.now ≡ row_word place left c.args.bit c.args.self.now) (sym c.moved-moved.ensures)
          (row_begins place left c.args.bit c.args.self.now c.told-left);
    }

pub loop-i-preserved : goal.loop-i-preserved
loop-i-preserved c =
    let up : c.loop-i.self.vars ≤ c.and_gate.new.self.vars = c.and_gate.ensures.grows in
    let before = c.loop-i.invariant.grows in
    record {
      wide = c.loop-i.invariant.wide;
      inside = c.loop-i.invariant.inside;
      long = length-set c.loop-i.out c.loop-i.i c.in_ok-out.field-0 ∙ c.loop-i.invariant.long;
      grows = omega arith;
      within = within-set c.and_gate.new.self.vars c.loop-i.out c.loop-i.i c.in_ok-out.field-0 c.in_ok-out.ensures.within
          (IsWithin_more c.loop-i.self.vars c.and_gate.new.self.vars c.loop-i.out up c.loop-i.invariant.within);
      built = row_next c.loop-i.i c.moved-moved.result c.loop-i.out c.index-moved-i.result c.args.bit c.in_ok-out.field-0 c.loop-i.self c.and_gate.new.self
          (omega arith) c.loop-i.invariant.wide c.loop-i.invariant.long c.in_ok-out.ensures.built
          ∙ c.loop-i.invariant.built;
    }

pub returns-clause-built : goal.returns-clause-built
returns-clause-built c =
    sym c.loop-i.invariant.built
    ∙ row_ends c.loop-i.i c.moved-moved.result c.loop-i.out c.args.bit c.loop-i.self (omega arith) c.loop-i.invariant.wide c.loop-i.invariant.long
